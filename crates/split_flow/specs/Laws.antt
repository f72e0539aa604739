-- What holds of all units that are moved through a split graph.
use Rattle.std.specs.Prelude.{ℕ, Bool, true, false, ◌≡◌, ◌≤◌, ◌+◌}
use Rattle.trust_types.specs.declared.levels.Level.{Level}
use Rattle.trust_types.specs.declared.accounts.Node.{Node}
use Rattle.trust_types.specs.declared.accounts.Node.TheVariants.{Account}
use Rattle.trust_types.specs.Tables.{Table, IsTable}
use Rattle.trust_types.specs.Graph.{Certificates, HasEdge}
use Rattle.trust_types.specs.Capacity.{AreCapacities}
use Rattle.trust_types.specs.Flow.{IsFeasible}
use Rattle.split_flow.specs.Split.{SplitNode, Supersink, source, Rests, IsSplitGraph}
use Rattle.split_flow.specs.Moved.{IsMoved, PassesServed, IsSaturated, out_of, leaving, units_moved, sides_of_reached}
use Rattle.split_flow.specs.Solved.{IsSolved}

-- No account certifies itself.
abbrev pub NoneToItself : Certificates → Level → Type 0
NoneToItself g level = (a : ℕ) → HasEdge g level (Account a) a → ⊥

-- Units that were moved through the split graph of a level are a feasible flow
abbrev pub MovedIsFeasible : Type 0
MovedIsFeasible = (g : Certificates) (level : Level) (table : Table) (cap : Node → ℕ) (c r : Rests) →
    IsTable table → AreCapacities g level table cap → NoneToItself g level → IsSplitGraph g level cap c → IsMoved g.accounts c r →
    IsFeasible g level cap (units_moved r)

-- Once nothing can be moved out of a set that has the source and not the supersink, the flow is greatest, and the set gives a
-- cut of equal value
abbrev pub SaturatedIsSolved : Type 0
SaturatedIsSolved = (g : Certificates) (level : Level) (table : Table) (cap : Node → ℕ) (c r : Rests) (reached : SplitNode → Bool) →
    IsTable table → AreCapacities g level table cap → NoneToItself g level → IsSplitGraph g level cap c → IsMoved g.accounts c r →
    PassesServed r → IsSaturated r reached → IsSolved g level table (units_moved r) (sides_of_reached reached)

-- What another flow sends more is at most what may still leave a set that has the source and not the supersink
abbrev pub MissingAtMostLeaving : Type 0
MissingAtMostLeaving = (n : ℕ) (c r more : Rests) (members : SplitNode → Bool) (sent sent_more : ℕ) →
    IsMoved n c r → IsMoved n c more → members source ≡ true → members Supersink ≡ false →
    out_of n r source + sent ≡ out_of n c source → out_of n more source + sent_more ≡ out_of n c source →
    sent_more ≤ sent + leaving n members r
