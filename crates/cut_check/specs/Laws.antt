-- What holds of all verdicts.
use Rattle.std.specs.Prelude.{ℕ, List, ◌≡◌}
use Rattle.trust_types.specs.declared.levels.Level.{Level}
use Rattle.trust_types.specs.declared.accounts.Node.{Node}
use Rattle.trust_types.specs.Graph.{Certificates}
use Rattle.trust_types.specs.Flow.{Flow, total}
use Rattle.trust_types.specs.Cut.{Sides}
use Rattle.trust_types.specs.Proven.{Proves}
use Rattle.cut_check.specs.declared.verdicts.Verdict.{Verdict}
use Rattle.cut_check.specs.declared.verdicts.Verdict.TheVariants.{Greatest}
use Rattle.cut_check.specs.Verdict.{IsVerdict}

-- A flow and a cut that prove whom they serve get no verdict but the best, with as many as are served
abbrev pub ProvenIsPassed : Type 0
ProvenIsPassed = (g : Certificates) (level : Level) (cap : Node → ℕ) (served : List ℕ) (f : Flow) (side : Sides) (verdict : Verdict) →
    Proves g level cap served f side → IsVerdict g level cap f side verdict → verdict ≡ Greatest (total g.accounts f)
