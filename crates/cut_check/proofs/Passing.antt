-- Where a flow and a cut prove whom they serve, every rule holds everywhere and the two numbers are the same.
use Rattle.std.proofs.Common.{ℕ, ◌≡◌, ◌<◌, ◌≤◌, inl, inr, List, ap, sym, ◌∙◌, arith}
use Rattle.std.proofs.lemmas.Bool.{cases_lt}
use Rattle.trust_types.specs.declared.levels.Level.{Level}
use Rattle.trust_types.specs.declared.accounts.Node.{Node}
use Rattle.trust_types.specs.declared.accounts.Node.TheVariants.{Root, Account}
use Rattle.trust_types.specs.Graph.{Certificates, HasEdge}
use Rattle.trust_types.specs.Flow.{Flow, IsFeasible, units_in, units_out, total}
use Rattle.trust_types.specs.Cut.{Sides}
use Rattle.trust_types.specs.Proven.{Proves}
use Rattle.trust_types.specs.Sum.{sum_below}
use Rattle.trust_types.proofs.Sums.{sum_below-eq, sum_below-zero}
use Rattle.trust_types.proofs.Conservation.{total_is_root_units}
use Rattle.cut_check.specs.declared.verdicts.Verdict.{Verdict}
use Rattle.cut_check.specs.declared.verdicts.Verdict.TheVariants.{NoEdge, NoBalance, NoRoom, NoService, NoClosure, NoMatch, Greatest}
use Rattle.cut_check.specs.Rules.{IsBalanced, HasRoom, HasService}
use Rattle.cut_check.specs.Verdict.{IsVerdict}

-- A number that isn't above 0 is 0, by what would follow.
none : (n : ℕ) → (0 < n → ⊥) → n ≡ 0
none n never = elim (cases_lt 0 n) [ inl some ↦ absurd (never some) | inr all ↦ omega (arith, all) ]

giver_is : (g : Certificates) (level : Level) (a b : ℕ) → HasEdge g level (Account a) b → a < g.accounts
giver_is g level a b edge = edge.0

taker_is : (g : Certificates) (level : Level) (x : Node) (b : ℕ) → HasEdge g level x b → b < g.accounts
taker_is g level Root b edge = edge.0
taker_is g level (Account a) b edge = edge.1

-- No units leave or enter what is no account.
out-none : {g : Certificates} {level : Level} {cap : Node → ℕ} {f : Flow} → IsFeasible g level cap f → (a : ℕ) → g.accounts ≤ a →
    units_out g.accounts f (Account a) ≡ 0
out-none {g} {level} {cap} {f} fits a past =
    sum_below-eq g.accounts (f (Account a)) (λ _. 0) (λ b _. none (f (Account a) b) (λ some.
    let here : a < g.accounts = giver_is g level a b (fits.edges (Account a) b some) in omega (arith, here, past)))
    ∙ sum_below-zero g.accounts

unit-none : {g : Certificates} {level : Level} {cap : Node → ℕ} {f : Flow} → IsFeasible g level cap f → (x : Node) (b : ℕ) → g.accounts ≤ b →
    f x b ≡ 0
unit-none {g} {level} {cap} {f} fits x b past = none (f x b) (λ some.
    let here : b < g.accounts = taker_is g level x b (fits.edges x b some) in omega (arith, here, past))

in-none : {g : Certificates} {level : Level} {cap : Node → ℕ} {f : Flow} → IsFeasible g level cap f → (b : ℕ) → g.accounts ≤ b →
    units_in g.accounts f b ≡ 0
in-none {g} {level} {cap} {f} fits b past =
    let rest : sum_below g.accounts (λ a. f (Account a) b) ≡ 0 =
    sum_below-eq g.accounts (λ a. f (Account a) b) (λ _. 0) (λ a _. unit-none fits (Account a) b past) ∙ sum_below-zero g.accounts in
    omega (arith, unit-none fits Root b past, rest)

balanced : {g : Certificates} {level : Level} {cap : Node → ℕ} {f : Flow} → IsFeasible g level cap f → (a : ℕ) → IsBalanced g.accounts f a
balanced {g} fits a = elim (cases_lt a g.accounts) [
  | inl below ↦ fits.served a below
  | inr past ↦ inr (in-none fits a past ∙ sym (out-none fits a past))
]

has_room : {g : Certificates} {level : Level} {cap : Node → ℕ} {f : Flow} → IsFeasible g level cap f → (x : Node) → HasRoom g.accounts cap f x
has_room fits Root = fits.root
has_room {g} {level} {cap} {f} fits (Account a) = elim (cases_lt a g.accounts) [
  | inl below ↦ (fits.room a below, fits.unreached a below)
  | inr past ↦ (omega (arith, out-none fits a past), λ _. in-none fits a past)
]

served : {g : Certificates} {level : Level} {cap : Node → ℕ} {f : Flow} {accepted : List ℕ} {side : Sides} →
    Proves g level cap accepted f side → (a : ℕ) → HasService g.accounts f a
served {g} proves a some = elim (cases_lt a g.accounts) [
  | inl below ↦ proves.conduits a below some
  | inr past ↦ absurd (omega (arith, some, out-none proves.feasible a past))
]

pub proven_is_passed : (g : Certificates) (level : Level) (cap : Node → ℕ) (accepted : List ℕ) (f : Flow) (side : Sides) (verdict : Verdict) →
    Proves g level cap accepted f side → IsVerdict g level cap f side verdict → verdict ≡ Greatest (total g.accounts f)
proven_is_passed g level cap accepted f side (NoEdge x b) proves is = absurd (is.0 (proves.feasible.edges x b))
proven_is_passed g level cap accepted f side (NoBalance a) proves is = absurd (is.1.0 (balanced proves.feasible a))
proven_is_passed g level cap accepted f side (NoRoom x) proves is = absurd (is.2.0 (has_room proves.feasible x))
proven_is_passed g level cap accepted f side (NoService a) proves is = absurd (is.3.0 (served proves a))
proven_is_passed g level cap accepted f side (NoClosure x b) proves is = absurd (is.4.0 (proves.cut.closed x b))
proven_is_passed g level cap accepted f side (NoMatch sent worth) proves is =
    absurd (is.3 (is.1 ∙ sym (total_is_root_units g level cap f proves.feasible) ∙ sym proves.equal ∙ sym is.2))
proven_is_passed g level cap accepted f side (Greatest sent) proves is =
    ap Greatest (is.1 ∙ sym (total_is_root_units g level cap f proves.feasible))
