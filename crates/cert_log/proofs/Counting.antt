-- How many certificates stand.
use Rattle.std.proofs.Common.{◌≡◌, ℕ, ◌+◌, ◌≤◌, Bool, true, false, cond, List, [], ◌∷◌, ◌++◌, length, refl, ◌∙◌, ap, arith, nat_eq, nat_le, not, ◌&&◌}
use Rattle.std.specs.List.{list_any}
use Rattle.std.proofs.lemmas.List.Folds.{list_any-append}
use Rattle.std.proofs.Math.Bool.{or-true, or-false, and-false}
use Rattle.trust_types.specs.declared.levels.Level.{Level}
use Rattle.trust_types.specs.declared.levels.Level.TheVariants.{Observer}
use Rattle.trust_types.specs.declared.graphs.Cert.{Cert}
use Rattle.trust_types.specs.Levels.{is_grade}
use Rattle.trust_types.specs.Changes.{is_of_pair, stands, standing_among, standing_count}
use Rattle.cert_log.proofs.Leaving.{level_behind, none_behind, some_behind}

-- 1 for a grade
abbrev pub graded : Level → ℕ
graded level = cond (is_grade level) 1 0

lone : (grade : Bool) (x y z : ℕ) → x + 0 ≡ y + z → x + cond grade 1 0 ≡ cond (grade && true) 1 0 + y + z
lone true x y z h = omega arith
lone false x y z h = omega arith

own_by : (d c : Cert) (ds : List Cert) (later : Bool) → list_any (is_of_pair c.from c.to) ds ≡ later
    → standing_count (ds ++ c ∷ []) + graded (standing_among ds c.from c.to) ≡ standing_count ds + graded c.level
    → standing_count (ds ++ c ∷ []) + graded (level_behind c.from c.to d.level ds) ≡ cond (is_grade d.level && not later) 1 0 + standing_count ds + graded c.level
own_by d c ds true e ih =
    let same : level_behind c.from c.to d.level ds ≡ standing_among ds c.from c.to = some_behind c.from c.to d.level Observer ds e in
    let none : (is_grade d.level && not true) ≡ false = and-false (is_grade d.level) in
    rw (same, none) (omega (arith, ih))
own_by d c ds false e ih =
    let now : level_behind c.from c.to d.level ds ≡ d.level = none_behind c.from c.to d.level ds e in
    let was : standing_among ds c.from c.to ≡ Observer = none_behind c.from c.to Observer ds e in
    let ih' : standing_count (ds ++ c ∷ []) + 0 ≡ standing_count ds + graded c.level = rw was at ih in
    rw now (lone (is_grade d.level) (standing_count (ds ++ c ∷ [])) (standing_count ds) (graded c.level) ih')

pub same_pair : (a b x y : ℕ) → (nat_eq a x && nat_eq b y) ≡ true → (x ≡ a) × (y ≡ b)
same_pair a b x y same = (grind arith, grind arith)

count_by : (d c : Cert) (ds : List Cert) (is : Bool) → is_of_pair c.from c.to d ≡ is
    → standing_count (ds ++ c ∷ []) + graded (standing_among ds c.from c.to) ≡ standing_count ds + graded c.level
    → cond (stands d (ds ++ c ∷ [])) 1 0 + standing_count (ds ++ c ∷ []) + graded (level_behind c.from c.to (cond is d.level Observer) ds) ≡ cond (stands d ds) 1 0 + standing_count ds + graded c.level
count_by d c ds true is ih =
    let f : d.from ≡ c.from = (same_pair c.from c.to d.from d.to is).0 in
    let t : d.to ≡ c.to = (same_pair c.from c.to d.from d.to is).1 in
    let here : is_of_pair d.from d.to c ≡ true = grind (arith, f, t) in
    let any : list_any (is_of_pair d.from d.to) (ds ++ c ∷ []) ≡ true = list_any-append (is_of_pair d.from d.to) ds (c ∷ []) ∙ rw here (or-true (list_any (is_of_pair d.from d.to) ds)) in
    let gone : stands d (ds ++ c ∷ []) ≡ false = ap (λ x. is_grade d.level && not x) any ∙ and-false (is_grade d.level) in
    let pairs : list_any (is_of_pair d.from d.to) ds ≡ list_any (is_of_pair c.from c.to) ds = ap (λ x. list_any (is_of_pair x d.to) ds) f ∙ ap (λ y. list_any (is_of_pair c.from y) ds) t in
    let st : stands d ds ≡ (is_grade d.level && not (list_any (is_of_pair c.from c.to) ds)) = ap (λ x. is_grade d.level && not x) pairs in
    let fact = own_by d c ds (list_any (is_of_pair c.from c.to) ds) refl ih in
    rw (gone, st) (omega (arith, fact))
count_by d c ds false is ih =
    let apart : is_of_pair d.from d.to c ≡ false = grind (arith, is) in
    let any : list_any (is_of_pair d.from d.to) (ds ++ c ∷ []) ≡ list_any (is_of_pair d.from d.to) ds = list_any-append (is_of_pair d.from d.to) ds (c ∷ []) ∙ rw apart (or-false (list_any (is_of_pair d.from d.to) ds)) in
    let same : stands d (ds ++ c ∷ []) ≡ stands d ds = ap (λ x. is_grade d.level && not x) any in
    rw same (omega (arith, ih))

first : (grade : Bool) → cond (grade && not false) 1 0 + 0 + 0 ≡ 0 + cond grade 1 0
first true = refl
first false = refl

-- One more certificate takes away the pair's one that stood, and stands itself where it is of a grade.
pub count_push : (cs : List Cert) (c : Cert) → standing_count (cs ++ c ∷ []) + graded (standing_among cs c.from c.to) ≡ standing_count cs + graded c.level
count_push [] c = first (is_grade c.level)
count_push (d ∷ ds) c = count_by d c ds (is_of_pair c.from c.to d) refl (count_push ds c)

at_most_one : (b : Bool) (m n : ℕ) → m ≤ n → cond b 1 0 + m ≤ n + 1
at_most_one true m n h = omega arith
at_most_one false m n h = omega arith

-- No more stand than were given.
pub standing_count-le : (cs : List Cert) → standing_count cs ≤ length cs
standing_count-le [] = omega arith
standing_count-le (c ∷ cs) = omega (arith, at_most_one (stands c cs) (standing_count cs) (length cs) (standing_count-le cs))

fits_by : (n : ℕ) → n ≤ 2000000 → true ≡ nat_le n 2000000
fits_by n few = grind arith

pub few_fit : (cs : List Cert) (n : ℕ) → n ≡ standing_count cs → n ≤ 2000000 → true ≡ nat_le (standing_count cs) 2000000
few_fit cs n is few = fits_by (standing_count cs) (omega arith)

pub short_fits : (cs : List Cert) → length cs ≤ 2000000 → true ≡ nat_le (standing_count cs) 2000000
short_fits cs short = fits_by (standing_count cs) (omega (arith, standing_count-le cs))
