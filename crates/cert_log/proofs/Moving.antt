-- The certificates that stand, moved to the front of a list in order of giver and taker.
use Rattle.std.proofs.Common.{◌≡◌, ℕ, ◌+◌, ◌<◌, ◌≤◌, Bool, true, false, cond, List, [], ◌∷◌, ◌++◌, length, get_or, take, drop, refl, sym, ◌∙◌, ap, arith, not, inl, inr, append_assoc}
use Rattle.std.specs.List.{swap}
use Rattle.std.proofs.Math.ListN.{set}
use Rattle.std.proofs.lemmas.Bool.{cases_lt}
use Rattle.std.proofs.lemmas.List.{take-set, take-set-le, take_more_set, drop-set-lt, drop_more, get_or_default, length-set}
use Rattle.trust_types.specs.declared.levels.Level.TheVariants.{Observer}
use Rattle.trust_types.specs.declared.graphs.Cert.{Cert}
use Rattle.trust_types.specs.Levels.{is_grade}
use Rattle.cert_log.specs.inner.Order.{standing_list, first_stands, RisesByPair, begins_with_pair}
use Rattle.cert_log.proofs.Ordered.{next_any}

-- The first one stands where the next is of another pair.
pub first_by : (cs later : List Cert) (d : Cert) (begins : Bool) → RisesByPair cs → 0 < length cs → d ≡ get_or cs 0 d → later ≡ drop 1 cs
    → begins ≡ begins_with_pair d.from d.to later → is_grade d.level ≡ true → not begins ≡ first_stands cs
first_by [] later d begins rises some is rest next grade = absurd (omega arith)
first_by (x ∷ xs) later d begins rises some is rest next grade =
    let at : begins ≡ begins_with_pair x.from x.to xs = next ∙ ap (λ (c : Cert). begins_with_pair c.from c.to later) is ∙ ap (begins_with_pair x.from x.to) rest in
    let graded : is_grade x.level ≡ true = ap (λ (c : Cert). is_grade c.level) (sym is) ∙ grade in
    rw (graded, next_any x xs rises, at) refl

take_swap : (xs : List Cert) (i j : ℕ) (d : Cert) → i ≤ j → j < length xs → take (i + 1) (swap xs i j) ≡ take i xs ++ get_or xs j d ∷ []
take_swap [] i j d le inside = absurd (omega arith)
take_swap (x ∷ ys) i j d le inside =
    let xs : List Cert = x ∷ ys in
    let once : List Cert = set xs i (get_or xs j x) in
    let long : length once ≡ length xs = length-set xs i (get_or xs j x) in
    let same : get_or xs j x ≡ get_or xs j d = get_or_default xs j x d inside in
    elim (cases_lt i j) [
      | inl less ↦ take-set-le (i + 1) once j (get_or xs i x) (omega arith) ∙ take_more_set xs i (get_or xs j x) (omega arith) ∙ ap (λ (c : Cert). take i xs ++ c ∷ []) same
      | inr not_less ↦
          let here : i ≡ j = omega arith in
          ap (λ (k : ℕ). take (i + 1) (set once k (get_or xs i x))) (sym here) ∙ take_more_set once i (get_or xs i x) (omega (arith, long))
          ∙ ap (λ (front : List Cert). front ++ get_or xs i x ∷ []) (take-set xs i (get_or xs j x)) ∙ ap (λ (k : ℕ). take i xs ++ get_or xs k x ∷ []) here ∙ ap (λ (c : Cert). take i xs ++ c ∷ []) same
    ]

drop_swap : (xs : List Cert) (i j : ℕ) → i ≤ j → drop (j + 1) (swap xs i j) ≡ drop (j + 1) xs
drop_swap [] i j le = refl
drop_swap (x ∷ ys) i j le =
    drop-set-lt (j + 1) (set (x ∷ ys) i (get_or (x ∷ ys) j x)) j (get_or (x ∷ ys) i x) (omega arith) ∙ drop-set-lt (j + 1) (x ∷ ys) i (get_or (x ∷ ys) j x) (omega arith)

first_of : (c : Cert) (later : List Cert) (s : Bool) → first_stands (c ∷ later) ≡ s → standing_list (c ∷ later) ≡ cond s (c ∷ standing_list later) (standing_list later)
first_of c later s e = ap (λ (b : Bool). cond b (c ∷ standing_list later) (standing_list later)) e

none : Cert
none = record { from = 0; to = 0; level = Observer }

-- what two lists have in common from a place on
same_rest : (xs cs : List Cert) (place : ℕ) → length xs ≡ length cs → place < length cs → drop place xs ≡ drop place cs
    → (get_or xs place none ≡ get_or cs place none) × (drop (place + 1) xs ≡ drop (place + 1) cs)
same_rest xs cs place long inside left =
    let both : get_or xs place none ∷ drop (place + 1) xs ≡ get_or cs place none ∷ drop (place + 1) cs =
    sym (drop_more xs place none (omega arith)) ∙ left ∙ drop_more cs place none inside in
    (cc, cc)

-- What is left to look at, and the certificates kept so far, after one that stands.
pub moved : (xs cs : List Cert) (count place : ℕ) (stays : Bool) → length xs ≡ length cs → place < length cs → count ≤ place → drop place xs ≡ drop place cs
    → take count xs ++ standing_list (drop place cs) ≡ standing_list cs → stays ≡ first_stands (drop place xs) → stays ≡ true
    → (drop (place + 1) (swap xs count place) ≡ drop (place + 1) cs) × (take (count + 1) (swap xs count place) ++ standing_list (drop (place + 1) cs) ≡ standing_list cs)
moved xs cs count place stays long inside le left front first so =
    let c : Cert = get_or cs place none in
    let rest : List Cert = drop (place + 1) cs in
    let at : drop place cs ≡ c ∷ rest = drop_more cs place none inside in
    let listed : standing_list (drop place cs) ≡ c ∷ standing_list rest = ap standing_list at ∙ first_of c rest true (ap first_stands (sym at ∙ sym left) ∙ sym first ∙ so) in
    let both = same_rest xs cs place long inside left in (
      drop_swap xs count place le ∙ both.1,
      ap (λ (kept : List Cert). kept ++ standing_list rest) (take_swap xs count place none le (omega arith)) ∙ append_assoc (take count xs) (get_or xs place none ∷ []) (standing_list rest)
          ∙ ap (λ (x : Cert). take count xs ++ x ∷ standing_list rest) both.0 ∙ ap (λ (l : List Cert). take count xs ++ l) (sym listed) ∙ front,
    )

-- The same after one that doesn't.
pub passed : (xs cs : List Cert) (count place : ℕ) (stays : Bool) → length xs ≡ length cs → place < length cs → drop place xs ≡ drop place cs
    → take count xs ++ standing_list (drop place cs) ≡ standing_list cs → stays ≡ first_stands (drop place xs) → stays ≡ false
    → (drop (place + 1) xs ≡ drop (place + 1) cs) × (take count xs ++ standing_list (drop (place + 1) cs) ≡ standing_list cs)
passed xs cs count place stays long inside left front first so =
    let c : Cert = get_or cs place none in
    let rest : List Cert = drop (place + 1) cs in
    let at : drop place cs ≡ c ∷ rest = drop_more cs place none inside in
    let listed : standing_list (drop place cs) ≡ standing_list rest = ap standing_list at ∙ first_of c rest false (ap first_stands (sym at ∙ sym left) ∙ sym first ∙ so) in
    ((same_rest xs cs place long inside left).1, ap (λ (l : List Cert). take count xs ++ l) (sym listed) ∙ front)
