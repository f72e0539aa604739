-- The graph that is made of the drill's parts.
use Rattle.std.proofs.Common.{◌≡◌, ℕ, zero, suc, ◌<◌, Bool, true, false, nat_lt, List, get_or, refl, sym, ap, ◌∙◌, arith}
use Rattle.std.specs.Prelude.{Contains, IsTrue}
use Rattle.std.proofs.Math.Path.{fun_ext}
use Rattle.std.proofs.lemmas.Bool.{false≢true}
use Rattle.std.proofs.lemmas.Bool.Decides.{nat_tests}
use Rattle.trust_types.specs.declared.levels.Level.{Level}
use Rattle.trust_types.specs.declared.levels.Level.TheVariants.{Observer, Apprentice, Journeyer, Master, Fellow, Warden, Elder}
use Rattle.trust_types.specs.declared.graphs.Cert.{Cert}
use Rattle.trust_types.specs.Levels.{IsGrade, is_grade}
use Rattle.trust_types.specs.Certs.{IsMadeOf}
use Rattle.trust_types.specs.Changes.{standing_among}
use Rattle.trust_types.specs.Graph.{Certificates}
use Rattle.trust_types.specs.Tables.{standard_table}
use Rattle.frozen.specs.Revision.{Revision, Freezes, certificates}
use Rattle.cert_log.specs.Standing.{AreStanding}
use Rattle.drill.specs.Draws.{certs_from}
use Rattle.drill.specs.Drill.{IsDrill, drill_graph, names, seeds}
use Rattle.drill.proofs.Naming.{length-names}

-- ---- the seeds

at_place : (a k : ℕ) → k < 4 → get_or seeds k a ≡ a → nat_lt a 4 ≡ true
at_place a zero lt e = rw (sym e) refl
at_place a (suc zero) lt e = rw (sym e) refl
at_place a (suc (suc zero)) lt e = rw (sym e) refl
at_place a (suc (suc (suc zero))) lt e = rw (sym e) refl
at_place a (suc (suc (suc (suc k)))) lt e = absurd (omega arith)

place_of : (a : ℕ) → a < 4 → Contains seeds a
place_of zero lt = (0, omega arith, refl)
place_of (suc zero) lt = (1, omega arith, refl)
place_of (suc (suc zero)) lt = (2, omega arith, refl)
place_of (suc (suc (suc zero))) lt = (3, omega arith, refl)
place_of (suc (suc (suc (suc a)))) lt = absurd (omega arith)

same_test : (a b : Bool) → (IsTrue a → IsTrue b) → (IsTrue b → IsTrue a) → a ≡ b
same_test true true f g = refl
same_test true false f g = sym (f refl)
same_test false true f g = g refl
same_test false false f g = refl

-- ---- the levels

is_grade-from : (level : Level) → is_grade level ≡ true → IsGrade level
is_grade-from level g = λ e. false≢true (sym (ap is_grade e) ∙ g)

observer-from : (level : Level) → is_grade level ≡ false → level ≡ Observer
observer-from Observer g = refl
observer-from Apprentice g = absurd (false≢true (sym g))
observer-from Journeyer g = absurd (false≢true (sym g))
observer-from Master g = absurd (false≢true (sym g))
observer-from Fellow g = absurd (false≢true (sym g))
observer-from Warden g = absurd (false≢true (sym g))
observer-from Elder g = absurd (false≢true (sym g))

-- levels that are the same as far as they are grades
same_level_by : (x y : Level) (b c : Bool) → is_grade x ≡ b → is_grade y ≡ c → ((level : Level) → IsGrade level → x ≡ level → y ≡ level) → ((level : Level) → IsGrade level → y ≡ level → x ≡ level) → x ≡ y
same_level_by x y true c gx gy f g = sym (f x (is_grade-from x gx) refl)
same_level_by x y false true gx gy f g = g y (is_grade-from y gy) refl
same_level_by x y false false gx gy f g = observer-from x gx ∙ sym (observer-from y gy)

standing_is : (number : ℕ) (g : Certificates) (certs : List Cert) → IsMadeOf g 2000 seeds certs → AreStanding (certs_from 20000 number) certs → (a b : ℕ) → g.standing a b ≡ standing_among (certs_from 20000 number) a b
standing_is number g certs made are a b = same_level_by (g.standing a b) (standing_among (certs_from 20000 number) a b) _ _ refl refl
    (λ level grade is. ((are.just (record { from = a; to = b; level = level })).0 ((made.standing (record { from = a; to = b; level = level })).1 (grade, is))).1)
    (λ level grade is. ((made.standing (record { from = a; to = b; level = level })).0 ((are.just (record { from = a; to = b; level = level })).1 (grade, is))).1)

seed_is : (g : Certificates) (certs : List Cert) → IsMadeOf g 2000 seeds certs → (a : ℕ) → g.is_seed a ≡ nat_lt a 4
seed_is g certs made a = same_test (g.is_seed a) (nat_lt a 4)
    (λ is. let has = (made.seeded a).0 is in at_place a has.0 has.1 has.2)
    (λ is. let lt : a < 4 = grind (arith, nat_tests) in (made.seeded a).1 (place_of a lt))

graph_is : (number : ℕ) (g : Certificates) (certs : List Cert) → IsMadeOf g 2000 seeds certs → AreStanding (certs_from 20000 number) certs → g ≡ drill_graph number
graph_is number g certs made are =
    ap (λ n. record { accounts = n; is_seed = g.is_seed; standing = g.standing }) made.size
    ∙ ap (λ s. record { accounts = 2000; is_seed = s; standing = g.standing }) (fun_ext (seed_is g certs made))
    ∙ ap (λ l. record { accounts = 2000; is_seed = λ a. nat_lt a 4; standing = l }) (fun_ext (λ a. fun_ext (standing_is number g certs made are a)))

pub drilled : (number : ℕ) (r : Revision) (all : List (List ℕ)) (some : List ℕ) (certs : List Cert) → Freezes r 22004 standard_table all some certs → all ≡ names 2000 → some ≡ seeds → AreStanding (certs_from 20000 number) certs → IsDrill number r
drilled number r all some certs f named seeded are = record {
  revision = f.revision;
  table = f.table;
  named = f.named ∙ named;
  graph = graph_is number (certificates r) certs (rw (← seeded, ← length-names 2000, ← named) f.graph) are;
}
