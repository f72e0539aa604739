-- One more certificate in a map of levels.
use Rattle.std.proofs.Common.{◌≡◌, ℕ, ◌+◌, ◌<◌, ◌≤◌, Bool, true, false, cond, List, [], ◌∷◌, ◌++◌, length, refl, sym, ◌∙◌, ap, arith, nat_eq, nat_le, ◌&&◌, Option, Some, None, is_some, inl, inr, ◌⊎◌}
use Rattle.trust_types.specs.declared.levels.Level.{Level}
use Rattle.trust_types.specs.declared.levels.Level.TheVariants.{Observer, Apprentice, Journeyer, Master, Fellow, Warden, Elder}
use Rattle.trust_types.specs.declared.graphs.Cert.{Cert}
use Rattle.trust_types.specs.Levels.{is_grade}
use Rattle.trust_types.specs.Changes.{is_of_pair, standing_among, standing_count}
use Rattle.pair_map.specs.Pairs.{Pairs, value_at, IsSet}
use Rattle.cert_log.specs.inner.Levels.{AreLevels, grade_of}
use Rattle.cert_log.proofs.Leaving.{behind_push}
use Rattle.cert_log.proofs.Counting.{graded, count_push}

is_some-grade_of : (l : Level) → is_some (grade_of l) ≡ is_grade l
is_some-grade_of Observer = refl
is_some-grade_of Apprentice = refl
is_some-grade_of Journeyer = refl
is_some-grade_of Master = refl
is_some-grade_of Fellow = refl
is_some-grade_of Warden = refl
is_some-grade_of Elder = refl

grade_by : (is : Bool) (l m : Level) → cond is (grade_of l) (grade_of m) ≡ grade_of (cond is l m)
grade_by true l m = refl
grade_by false l m = refl

flip : (a b x y : ℕ) → (nat_eq a x && nat_eq b y) ≡ (nat_eq x a && nat_eq y b)
flip a b x y = grind arith

-- what the map has of a pair after a write at the certificate's pair
level_at : (m new : Pairs Level) (cs : List Cert) (c : Cert) (value : Option Level) → AreLevels m cs → IsSet m new c.from c.to value → value ≡ grade_of c.level
    → (a b : ℕ) → value_at new a b ≡ grade_of (standing_among (cs ++ c ∷ []) a b)
level_at m new cs c value are set is a b =
    set a b ∙ ap (λ (own : Bool). cond own value (value_at m a b)) (flip c.from c.to a b) ∙ ap (λ (v : Option Level). cond (is_of_pair a b c) v (value_at m a b)) is
    ∙ ap (λ (o : Option Level). cond (is_of_pair a b c) (grade_of c.level) o) (are.at a b) ∙ grade_by (is_of_pair a b c) c.level (standing_among cs a b)
    ∙ ap grade_of (sym (behind_push a b Observer cs c))

-- whether the map has the pair is whether it stands
has_pair : (m : Pairs Level) (cs : List Cert) (c : Cert) → AreLevels m cs → is_some (value_at m c.from c.to) ≡ is_grade (standing_among cs c.from c.to)
has_pair m cs c are = ap is_some (are.at c.from c.to) ∙ is_some-grade_of (standing_among cs c.from c.to)

-- with one more of a grade, and of none
one_more : (cs : List Cert) (c : Cert) → is_grade c.level ≡ true → standing_count (cs ++ c ∷ []) + graded (standing_among cs c.from c.to) ≡ standing_count cs + 1
one_more cs c grade = count_push cs c ∙ ap (λ (g : Bool). standing_count cs + cond g 1 0) grade

one_less : (cs : List Cert) (c : Cert) → is_grade c.level ≡ false → standing_count (cs ++ c ∷ []) + graded (standing_among cs c.from c.to) ≡ standing_count cs + 0
one_less cs c grade = count_push cs c ∙ ap (λ (g : Bool). standing_count cs + cond g 1 0) grade

removed_by : (had : Bool) (n n' x x' : ℕ) → n' + cond had 1 0 ≡ n → n ≡ x → x' + cond had 1 0 ≡ x + 0 → (n' ≡ x') × (x' ≤ x)
removed_by true n n' x x' e f g = (omega arith, omega arith)
removed_by false n n' x x' e f g = (omega arith, omega arith)

-- After one at Observer, whose pair was taken away.
pub removed : (m new : Pairs Level) (cs : List Cert) (c : Cert) (before : Option Level) → AreLevels m cs → is_grade c.level ≡ false → before ≡ value_at m c.from c.to
    → IsSet m new c.from c.to None → length new + cond (is_some before) 1 0 ≡ length m → AreLevels new (cs ++ c ∷ [])
removed m new cs c before are grade was set count =
    let had : is_some before ≡ is_grade (standing_among cs c.from c.to) = ap is_some was ∙ has_pair m cs c are in
    let count' : length new + graded (standing_among cs c.from c.to) ≡ length m = ap (λ (h : Bool). length new + cond h 1 0) (sym had) ∙ count in
    let counts = removed_by (is_grade (standing_among cs c.from c.to)) (length m) (length new) (standing_count cs) (standing_count (cs ++ c ∷ [])) count' are.count (one_less cs c grade) in
    let none : None ≡ grade_of c.level = rw grade refl in
    record { at = level_at m new cs c None are set none; count = counts.0; few = omega (arith, counts.1, are.few) }

inserted_by : (had : Bool) (n n' x x' : ℕ) → n' ≡ n + cond had 0 1 → n ≡ x → x' + cond had 1 0 ≡ x + 1 → x ≤ 2000000 → (had ≡ true) ⊎ (n < 2000000) → (n' ≡ x') × (x' ≤ 2000000)
inserted_by true n n' x x' e f g few room = (omega arith, omega arith)
inserted_by false n n' x x' e f g few (inl had) = cc
inserted_by false n n' x x' e f g few (inr less) = (omega arith, omega arith)

-- After one of a grade, which was put in.
pub inserted : (m new : Pairs Level) (cs : List Cert) (c : Cert) (before : Option Level) → AreLevels m cs → is_grade c.level ≡ true → before ≡ value_at m c.from c.to
    → IsSet m new c.from c.to (Some c.level) → length new ≡ length m + cond (is_some before) 0 1 → (is_some (value_at m c.from c.to) ≡ true) ⊎ (length m < 2000000)
    → AreLevels new (cs ++ c ∷ [])
inserted m new cs c before are grade was set count room =
    let s : Bool = is_grade (standing_among cs c.from c.to) in
    let has : is_some (value_at m c.from c.to) ≡ s = has_pair m cs c are in
    let count' : length new ≡ length m + cond s 0 1 = count ∙ ap (λ (h : Bool). length m + cond h 0 1) (ap is_some was ∙ has) in
    let room' : (s ≡ true) ⊎ (length m < 2000000) = elim room [ inl yes' ↦ inl (sym has ∙ yes') | inr less ↦ inr less ] in
    let counts = inserted_by s (length m) (length new) (standing_count cs) (standing_count (cs ++ c ∷ [])) count' are.count (one_more cs c grade) are.few room' in
    let some : Some c.level ≡ grade_of c.level = rw grade refl in
    record { at = level_at m new cs c (Some c.level) are set some; count = counts.0; few = counts.1 }

full_by : (had : Bool) (n x x' : ℕ) → had ≡ false → 2000000 ≤ n → n ≡ x → x' + cond had 1 0 ≡ x + 1 → false ≡ nat_le x' 2000000
full_by true n x x' had l is e = cc
full_by false n x x' had l is e = let more : 2000000 < x' = omega arith in grind arith

-- A pair more than 2,000,000 is one too many.
pub full : (m : Pairs Level) (cs : List Cert) (c : Cert) → AreLevels m cs → is_grade c.level ≡ true → is_some (value_at m c.from c.to) ≡ false → 2000000 ≤ length m
    → false ≡ nat_le (standing_count (cs ++ c ∷ [])) 2000000
full m cs c are grade none long =
    full_by (is_grade (standing_among cs c.from c.to)) (length m) (standing_count cs) (standing_count (cs ++ c ∷ [])) (sym (has_pair m cs c are) ∙ none) long are.count (one_more cs c grade)
