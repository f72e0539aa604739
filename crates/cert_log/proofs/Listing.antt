-- The certificates of a list that stand before the later ones.
use Rattle.std.proofs.Common.{◌≡◌, ℕ, zero, suc, ◌+◌, ◌≤◌, Bool, true, false, cond, List, [], ◌∷◌, length, refl, sym, subst, ◌∙◌, ap, arith, nat_eq, not, ◌&&◌, Contains, IsTrue, ◌↔◌}
use Rattle.std.specs.List.{list_any}
use Rattle.std.proofs.lemmas.Bool.{false≢true}
use Rattle.trust_types.specs.declared.levels.Level.{Level}
use Rattle.trust_types.specs.declared.levels.Level.TheVariants.{Observer, Apprentice, Journeyer, Master, Fellow, Warden, Elder}
use Rattle.trust_types.specs.declared.graphs.Cert.{Cert}
use Rattle.trust_types.specs.Levels.{is_grade, IsGrade}
use Rattle.trust_types.specs.Changes.{is_of_pair, stands, standing_among}
use Rattle.cert_log.specs.inner.Order.{standing_list}
use Rattle.cert_log.proofs.Leaving.{level_behind, none_behind, some_behind}
use Rattle.cert_log.proofs.Counting.{same_pair}

pub graded : (level : Level) → is_grade level ≡ true → IsGrade level
graded Observer is = absurd (false≢true is)
graded Apprentice is = λ same. cc
graded Journeyer is = λ same. cc
graded Master is = λ same. cc
graded Fellow is = λ same. cc
graded Warden is = λ same. cc
graded Elder is = λ same. cc

pub grade_is : (level : Level) → IsGrade level → is_grade level ≡ true
grade_is Observer is = absurd (is refl)
grade_is Apprentice is = refl
grade_is Journeyer is = refl
grade_is Master is = refl
grade_is Fellow is = refl
grade_is Warden is = refl
grade_is Elder is = refl

-- what the test of a level answers
pub tested : (level : Level) (r : Bool) → IsTrue r ↔ IsGrade level → is_grade level ≡ r
tested level true is = grade_is level (is.0 refl)
tested Observer false is = refl
tested Apprentice false is = absurd (false≢true (is.1 (λ same. cc)))
tested Journeyer false is = absurd (false≢true (is.1 (λ same. cc)))
tested Master false is = absurd (false≢true (is.1 (λ same. cc)))
tested Fellow false is = absurd (false≢true (is.1 (λ same. cc)))
tested Warden false is = absurd (false≢true (is.1 (λ same. cc)))
tested Elder false is = absurd (false≢true (is.1 (λ same. cc)))

-- where a pair stands at a grade, some certificate is of the pair
pub some_of_pair : (a b : ℕ) (cs : List Cert) (any : Bool) → list_any (is_of_pair a b) cs ≡ any → IsGrade (standing_among cs a b) → any ≡ true
some_of_pair a b cs true e grade = refl
some_of_pair a b cs false e grade = absurd (grade (none_behind a b Observer cs e))

abbrev Stands : List Cert → Cert → Type 0
Stands cs c = IsGrade c.level × (standing_among cs c.from c.to ≡ c.level)

-- what stands after later certificates stands with one more before them
stands_behind : (d c : Cert) (cs : List Cert) → Stands cs c → Stands (d ∷ cs) c
stands_behind d c cs (grade, is) =
    let some : list_any (is_of_pair c.from c.to) cs ≡ true = some_of_pair c.from c.to cs (list_any (is_of_pair c.from c.to) cs) refl (λ none. grade (sym is ∙ none)) in
    (grade, some_behind c.from c.to (cond (is_of_pair c.from c.to d) d.level Observer) Observer cs some ∙ is)

own_pair : (a b : ℕ) → (nat_eq a a && nat_eq b b) ≡ true
own_pair a b = grind arith

and_left : (a b : Bool) → (a && b) ≡ true → a ≡ true
and_left true b e = refl
and_left false b e = e

pub and_right : (a b : Bool) → (a && not b) ≡ true → b ≡ false
and_right true true e = sym e
and_right true false e = refl
and_right false b e = absurd (false≢true e)

stands_first : (d : Cert) (cs : List Cert) → stands d cs ≡ true → Stands (d ∷ cs) d
stands_first d cs e =
    let none : list_any (is_of_pair d.from d.to) cs ≡ false = and_right (is_grade d.level) _ e in (
      graded d.level (and_left (is_grade d.level) _ e),
      ap (λ own. level_behind d.from d.to (cond own d.level Observer) cs) (own_pair d.from d.to) ∙ none_behind d.from d.to d.level cs none,
    )

listed_by : (d c : Cert) (cs : List Cert) (s : Bool) → stands d cs ≡ s → (Contains (standing_list cs) c → Stands cs c)
    → Contains (cond s (d ∷ standing_list cs) (standing_list cs)) c → Stands (d ∷ cs) c
listed_by d c cs false e ih found = stands_behind d c cs (ih found)
listed_by d c cs true e ih (zero, inside, is) = subst (Stands (d ∷ cs)) is (stands_first d cs e)
listed_by d c cs true e ih (suc k, inside, is) = stands_behind d c cs (ih (k, omega arith, is))

-- What is listed stands.
pub listed_stands : (cs : List Cert) (c : Cert) → Contains (standing_list cs) c → Stands cs c
listed_stands [] c (k, inside, is) = absurd (omega arith)
listed_stands (d ∷ cs) c found = listed_by d c cs (stands d cs) refl (listed_stands cs c) found

listed_behind : (d c : Cert) (cs : List Cert) (s : Bool) → Contains (standing_list cs) c → Contains (cond s (d ∷ standing_list cs) (standing_list cs)) c
listed_behind d c cs true (k, inside, is) = (suc k, omega arith, is)
listed_behind d c cs false found = found

cert_is : (d c : Cert) → d.from ≡ c.from → d.to ≡ c.to → d.level ≡ c.level → d ≡ c
cert_is d c from to level =
    let by_from : ℕ → Cert = λ a. record { from = a; to = d.to; level = d.level } in
    let by_to : ℕ → Cert = λ b. record { from = c.from; to = b; level = d.level } in
    let by_level : Level → Cert = λ l. record { from = c.from; to = c.to; level = l } in
    ap by_from from ∙ ap by_to to ∙ ap by_level level

-- the last one of a pair is the first of the list
listed_first : (d c : Cert) (cs : List Cert) (is : Bool) → is_of_pair c.from c.to d ≡ is → list_any (is_of_pair c.from c.to) cs ≡ false → IsGrade c.level
    → level_behind c.from c.to (cond is d.level Observer) cs ≡ c.level → Contains (standing_list (d ∷ cs)) c
listed_first d c cs false is none grade level = absurd (grade (sym level ∙ none_behind c.from c.to Observer cs none))
listed_first d c cs true is none grade level =
    let own = same_pair c.from c.to d.from d.to is in
    let same : d ≡ c = cert_is d c own.0 own.1 (sym (none_behind c.from c.to d.level cs none) ∙ level) in
    let alone : list_any (is_of_pair d.from d.to) cs ≡ false = ap (λ (x : Cert). list_any (is_of_pair x.from x.to) cs) same ∙ none in
    let stays : stands d cs ≡ true = rw (alone, ap (λ (x : Cert). is_grade x.level) same, grade_is c.level grade) refl in
    rw stays (zero, omega arith, same)

stands_by : (d c : Cert) (cs : List Cert) (later : Bool) → list_any (is_of_pair c.from c.to) cs ≡ later → (Stands cs c → Contains (standing_list cs) c)
    → Stands (d ∷ cs) c → Contains (standing_list (d ∷ cs)) c
stands_by d c cs true e ih (grade, is) =
    listed_behind d c cs (stands d cs) (ih (grade, some_behind c.from c.to Observer (cond (is_of_pair c.from c.to d) d.level Observer) cs e ∙ is))
stands_by d c cs false e ih (grade, is) = listed_first d c cs (is_of_pair c.from c.to d) refl e grade is

-- What stands is listed.
pub stands_listed : (cs : List Cert) (c : Cert) → Stands cs c → Contains (standing_list cs) c
stands_listed [] c (grade, is) = absurd (grade (sym is))
stands_listed (d ∷ cs) c st = stands_by d c cs (list_any (is_of_pair c.from c.to) cs) refl (stands_listed cs c) st

shorter_by : (s : Bool) (d : Cert) (xs : List Cert) (n : ℕ) → length xs ≤ n → length (cond s (d ∷ xs) xs) ≤ n + 1
shorter_by true d xs n le = omega arith
shorter_by false d xs n le = omega arith

pub length-standing_list : (cs : List Cert) → length (standing_list cs) ≤ length cs
length-standing_list [] = omega arith
length-standing_list (d ∷ cs) = omega (arith, shorter_by (stands d cs) d (standing_list cs) (length cs) (length-standing_list cs))
