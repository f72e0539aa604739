-- Verdicts on a flow and a cut: the first rule that fails, at the first place where it fails.
use Rattle.std.specs.Prelude.{ℕ, ◌≡◌, ◌≢◌}
use Rattle.trust_types.specs.declared.levels.Level.{Level}
use Rattle.trust_types.specs.declared.accounts.Node.{Node}
use Rattle.trust_types.specs.declared.accounts.Node.TheVariants.{Root}
use Rattle.trust_types.specs.Graph.{Certificates}
use Rattle.trust_types.specs.Flow.{Flow, units_out}
use Rattle.trust_types.specs.Cut.{Sides, value}
use Rattle.cut_check.specs.declared.verdicts.Verdict.{Verdict}
use Rattle.cut_check.specs.declared.verdicts.Verdict.TheVariants.{NoEdge, NoBalance, NoRoom, NoService, NoClosure, NoMatch, Greatest}
use Rattle.cut_check.specs.Rules.{KeepsToEdge, IsBalanced, HasRoom, HasService, EndsInside}
use Rattle.cut_check.specs.Firsts.{FailsFirstAtAccount, FailsFirstAtNode, FailsFirstAtPair, HoldsAtAccounts, HoldsAtNodes, HoldsAtPairs}

-- The rules, each at all places.
abbrev pub KeepsToEdges : Certificates → Level → Flow → Type 0
KeepsToEdges g level f = HoldsAtPairs (KeepsToEdge g level f)

abbrev pub AreBalanced : ℕ → Flow → Type 0
AreBalanced n f = HoldsAtAccounts n (IsBalanced n f)

abbrev pub HaveRoom : ℕ → (Node → ℕ) → Flow → Type 0
HaveRoom n cap f = HoldsAtNodes n (HasRoom n cap f)

abbrev pub HaveService : ℕ → Flow → Type 0
HaveService n f = HoldsAtAccounts n (HasService n f)

abbrev pub EndInside : Certificates → Level → Sides → Type 0
EndInside g level side = HoldsAtPairs (EndsInside g level side)

-- All of them at all places.
pub record KeepsRules (g : Certificates) (level : Level) (cap : Node → ℕ) (f : Flow) (side : Sides) : Type 0 where
  pub edges : KeepsToEdges g level f
  pub balance : AreBalanced g.accounts f
  pub room : HaveRoom g.accounts cap f
  pub service : HaveService g.accounts f
  pub closure : EndInside g level side

-- The rules are judged one after the other. Where all hold, the units out of the root are compared with the cut's value.
abbrev pub IsVerdict : Certificates → Level → (Node → ℕ) → Flow → Sides → Verdict → Type 0
IsVerdict g level cap f side (NoEdge x b) = FailsFirstAtPair (KeepsToEdge g level f) x b
IsVerdict g level cap f side (NoBalance a) = KeepsToEdges g level f × FailsFirstAtAccount (IsBalanced g.accounts f) a
IsVerdict g level cap f side (NoRoom x) =
    KeepsToEdges g level f × AreBalanced g.accounts f × FailsFirstAtNode (HasRoom g.accounts cap f) x
IsVerdict g level cap f side (NoService a) =
    KeepsToEdges g level f × AreBalanced g.accounts f × HaveRoom g.accounts cap f
    × FailsFirstAtAccount (HasService g.accounts f) a
IsVerdict g level cap f side (NoClosure x b) =
    KeepsToEdges g level f × AreBalanced g.accounts f × HaveRoom g.accounts cap f × HaveService g.accounts f
    × FailsFirstAtPair (EndsInside g level side) x b
IsVerdict g level cap f side (NoMatch sent worth) =
    KeepsRules g level cap f side × (sent ≡ units_out g.accounts f Root) × (worth ≡ value g cap side) × (sent ≢ worth)
IsVerdict g level cap f side (Greatest sent) =
    KeepsRules g level cap f side × (sent ≡ units_out g.accounts f Root) × (sent ≡ value g cap side)
