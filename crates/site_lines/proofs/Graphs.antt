-- A graph that is made of the parts of a site is that of the site's records.
use Rattle.std.proofs.Common.{◌≡◌, ℕ, Bool, true, false, List, length, refl, sym, ◌∙◌, ap}
use Rattle.std.specs.Prelude.{IsTrue}
use Rattle.std.proofs.Math.Path.{fun_ext}
use Rattle.std.proofs.lemmas.Bool.{false≢true}
use Rattle.trust_types.specs.declared.levels.Level.{Level}
use Rattle.trust_types.specs.declared.levels.Level.TheVariants.{Observer, Apprentice, Journeyer, Master, Fellow, Warden, Elder}
use Rattle.trust_types.specs.declared.records.Record.{Record}
use Rattle.trust_types.specs.Levels.{IsGrade, is_grade}
use Rattle.trust_types.specs.Graph.{Certificates}
use Rattle.trust_types.specs.Certs.{IsMadeOf}
use Rattle.trust_types.specs.Kept.{accounts, is_seed, standing, kept_certificates}
use Rattle.site_lines.specs.Drafts.{ArePartsOf}
use Rattle.site_lines.specs.declared.parts.SiteParts.{SiteParts}

-- tests that hold for the same
same_test : (a b : Bool) → (IsTrue a → IsTrue b) → (IsTrue b → IsTrue a) → a ≡ b
same_test true true f g = refl
same_test true false f g = sym (f refl)
same_test false true f g = g refl
same_test false false f g = refl

is_grade-from : (level : Level) → is_grade level ≡ true → IsGrade level
is_grade-from level g = λ e. false≢true (sym (ap is_grade e) ∙ g)

observer-from : (level : Level) → is_grade level ≡ false → level ≡ Observer
observer-from Observer g = refl
observer-from Apprentice g = absurd (false≢true (sym g))
observer-from Journeyer g = absurd (false≢true (sym g))
observer-from Master g = absurd (false≢true (sym g))
observer-from Fellow g = absurd (false≢true (sym g))
observer-from Warden g = absurd (false≢true (sym g))
observer-from Elder g = absurd (false≢true (sym g))

-- levels that are the same as far as they are grades
same_level_by : (x y : Level) (b c : Bool) → is_grade x ≡ b → is_grade y ≡ c → ((level : Level) → IsGrade level → x ≡ level → y ≡ level) → ((level : Level) → IsGrade level → y ≡ level → x ≡ level) → x ≡ y
same_level_by x y true c gx gy f g = sym (f x (is_grade-from x gx) refl)
same_level_by x y false true gx gy f g = g y (is_grade-from y gy) refl
same_level_by x y false false gx gy f g = observer-from x gx ∙ sym (observer-from y gy)

pub parts_standing : (k : List Record) (parts : SiteParts) (g : Certificates) → ArePartsOf k parts → IsMadeOf g (length (accounts k)) parts.seeds.items parts.certs.items → (a b : ℕ) → g.standing a b ≡ standing k a b
parts_standing k parts g are made a b = same_level_by (g.standing a b) (standing k a b) _ _ refl refl
    (λ level grade is. ((are.standing (record { from = a; to = b; level = level })).0 ((made.standing (record { from = a; to = b; level = level })).1 (grade, is))).1)
    (λ level grade is. ((made.standing (record { from = a; to = b; level = level })).0 ((are.standing (record { from = a; to = b; level = level })).1 (grade, is))).1)

pub parts_seeds : (k : List Record) (parts : SiteParts) (g : Certificates) → ArePartsOf k parts → IsMadeOf g (length (accounts k)) parts.seeds.items parts.certs.items → (a : ℕ) → g.is_seed a ≡ is_seed k a
parts_seeds k parts g are made a = same_test (g.is_seed a) (is_seed k a) (λ is. (are.seeded a).0 ((made.seeded a).0 is)) (λ is. (made.seeded a).1 ((are.seeded a).1 is))

pub parts_graph : (k : List Record) (parts : SiteParts) (g : Certificates) → ArePartsOf k parts → IsMadeOf g (length (accounts k)) parts.seeds.items parts.certs.items → g ≡ kept_certificates k
parts_graph k parts g are made =
    ap (λ n. record { accounts = n; is_seed = g.is_seed; standing = g.standing }) made.size
    ∙ ap (λ seeds. record { accounts = length (accounts k); is_seed = seeds; standing = g.standing }) (fun_ext (parts_seeds k parts g are made))
    ∙ ap (λ levels. record { accounts = length (accounts k); is_seed = is_seed k; standing = levels }) (fun_ext (λ a. fun_ext (parts_standing k parts g are made a)))
