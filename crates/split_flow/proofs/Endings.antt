-- What the rests of a split graph say of the flow: while units are moved, and once no more can be.
use Rattle.std.proofs.Common.{ℕ, Bool, ◌+◌, ◌==◌, ◌≡◌, ◌≤◌, ◌<◌, refl, arith, subst}
use Rattle.std.proofs.lemmas.Bool.Decides.{nat_tests}
use Rattle.trust_types.specs.declared.levels.Level.{Level}
use Rattle.trust_types.specs.declared.accounts.Node.{Node}
use Rattle.trust_types.specs.declared.accounts.Node.TheVariants.{Account}
use Rattle.trust_types.specs.Tables.{Table, IsTable}
use Rattle.trust_types.specs.Graph.{Certificates, HasEdge}
use Rattle.trust_types.specs.Capacity.{AreCapacities}
use Rattle.trust_types.specs.Flow.{is_served, total}
use Rattle.trust_types.proofs.CutBound.{total_at_most_cut}
use Rattle.split_flow.specs.Split.{SplitNode, InHalf, OutHalf, Supersink, Rests, IsSplitGraph}
use Rattle.split_flow.specs.Moved.{IsMoved, PassesServed, IsSaturated, units_moved, sides_of_reached}
use Rattle.split_flow.specs.Solved.{IsSolved}
use Rattle.split_flow.specs.Laws.{NoneToItself, MovedIsFeasible, SaturatedIsSolved}
use Rattle.split_flow.proofs.Halves.{Moves, own_edge, taken_in, room_to_sink}
use Rattle.split_flow.proofs.Feasible.{feasible, conduits}
use Rattle.split_flow.proofs.Saturated.{Saturation, is_cut, value_is_total, still_passable}
use Rattle.split_flow.proofs.Capacities.{capacity_passes, capacity_few}

-- nothing was moved yet
pub unmoved : (n : ℕ) (c : Rests) → IsMoved n c c
unmoved n c = record { both = λ u v. refl; kept = λ u is. refl }

pub served_at_first : (m : Moves) → PassesServed m.c
served_at_first m x some = absurd (omega (arith, own_edge m (Account x)))

-- a split graph through which units were moved until none could
pub record Sent : Type 0 where
  pub g : Certificates
  pub level : Level
  pub table : Table
  pub cap : Node → ℕ
  pub c : Rests
  pub r : Rests
  pub reached : SplitNode → Bool
  pub is_table : IsTable table
  pub capacities : AreCapacities g level table cap
  pub no_self : NoneToItself g level
  pub split : IsSplitGraph g level cap c
  pub moved : IsMoved g.accounts c r
  pub served : PassesServed r
  pub saturated : IsSaturated r reached

abbrev moves : Sent → Moves
moves s = record { g = s.g; level = s.level; cap = s.cap; c = s.c; r = s.r; split = s.split; moved = s.moved; no_self = s.no_self }

abbrev saturation : Sent → Saturation
saturation s = record {
  m = moves s;
  passes = capacity_passes s.g s.level s.table s.cap s.is_table s.capacities;
  small = λ x is. omega (arith, capacity_few s.g s.level s.table s.cap s.is_table s.capacities x);
  reached = s.reached;
  saturated = s.saturated;
}

pub solved : (s : Sent) → IsSolved s.g s.level s.table (units_moved s.r) (sides_of_reached s.reached)
solved s =
    let cut = is_cut (saturation s) in
    let equal = value_is_total (saturation s) in
    record {
      cap = s.cap;
      capacities = s.capacities;
      greatest = record {
        feasible = feasible (moves s) (capacity_passes s.g s.level s.table s.cap s.is_table s.capacities);
        most = λ other is. subst (λ (n : ℕ). total s.g.accounts other ≤ n) equal (total_at_most_cut s.g s.level s.cap other (sides_of_reached s.reached) is cut);
      };
      conduits = conduits (moves s) s.served;
      cut = cut;
      equal = equal;
    }

pub passable : (s : Sent) (x : Node) (b : ℕ) → HasEdge s.g s.level x b → 0 < s.r (OutHalf x) (InHalf (Account b))
passable s x b edge = still_passable (saturation s) x b edge

served_by : (rest taken into out : ℕ) → rest + taken ≡ 1 → into ≡ out + taken → (rest == 0) ≡ (into == out + 1)
served_by rest taken into out all is = grind (arith, nat_tests)

-- an account is served where nothing rests on its arc to the supersink
pub served_read : (m : Moves) (x : ℕ) → x < m.g.accounts → (m.r (InHalf (Account x)) Supersink == 0) ≡ is_served m.g.accounts (units_moved m.r) x
served_read m x below = served_by _ _ _ _ (room_to_sink m x below) (taken_in m x below)

-- the laws
pub moved_is_feasible : MovedIsFeasible
moved_is_feasible g level table cap c r is are no_self split moved =
    feasible (record { g = g; level = level; cap = cap; c = c; r = r; split = split; moved = moved; no_self = no_self }) (capacity_passes g level table cap is are)

pub saturated_is_solved : SaturatedIsSolved
saturated_is_solved g level table cap c r reached is are no_self split moved served saturated =
    solved (record {
      g = g;
      level = level;
      table = table;
      cap = cap;
      c = c;
      r = r;
      reached = reached;
      is_table = is;
      capacities = are;
      no_self = no_self;
      split = split;
      moved = moved;
      served = served;
      saturated = saturated;
    })
