-- The names of seeds, listed one account after another.
use Rattle.std.proofs.Common.{◌≡◌, ℕ, zero, suc, ◌+◌, ◌<◌, ◌≤◌, Bool, true, false, cond, ◌&&◌, Some, List, [], ◌∷◌, ◌++◌, length, map, take, filter, sym, ap, ◌∙◌, arith, append-nil, length-append, inl, inr, lt-ltb, le-ltb}
use Rattle.std.specs.Prelude.{nat_lt, slice_get}
use Rattle.std.specs.List.{range_with_len}
use Rattle.std.proofs.lemmas.Bool.{cases_lt}
use Rattle.std.proofs.lemmas.List.{take_all, length-take-le, take-append-le, map_push, length-map}
use Rattle.std.proofs.lemmas.List.Elements.{filter-append}
use Rattle.site_history.specs.Sites.{Site}
use Rattle.site_history.specs.Views.{name_of}
use Rattle.site_state.specs.inner.Seeds.{with_seed}
use Rattle.site_state.proofs.Listing.{is_name}

range_last : (a n : ℕ) → range_with_len a (suc n) ≡ range_with_len a n ++ (a + n) ∷ []
range_last a zero = let same : a ≡ a + 0 = omega arith in ap (λ (x : ℕ). x ∷ []) same
range_last a (suc n) =
    let same : a + 1 + n ≡ a + suc n = omega arith in
    ap (λ (l : List ℕ). a ∷ l) (range_last (a + 1) n ∙ ap (λ (x : ℕ). range_with_len (a + 1) n ++ x ∷ []) same)

range_more : (n : ℕ) → range_with_len 0 (n + 1) ≡ range_with_len 0 n ++ n ∷ []
range_more n =
    let next : n + 1 ≡ suc n = omega arith in
    let same : 0 + n ≡ n = omega arith in
    ap (range_with_len 0) next ∙ (range_last 0 n ∙ ap (λ (x : ℕ). range_with_len 0 n ++ x ∷ []) same)

abbrev listed : Bool → Bool → List (List ℕ) → List ℕ → List (List ℕ)
listed few passes names name = cond (few && passes) (names ++ name ∷ []) names

-- a name that doesn't pass, one that does while there is place, and one that does later
few_step : (f : ℕ → List ℕ) (xs : List ℕ) (y : ℕ) (names : List (List ℕ)) (passes : Bool) → length xs < 200 → names ≡ map f (take 200 xs)
    → listed true passes names (f y) ≡ map f (take 200 (xs ++ cond passes (y ∷ []) []))
few_step f xs y names false few are = are ∙ ap (λ l. map f (take 200 l)) (sym (append-nil xs))
few_step f xs y names true few are =
    ap (λ l. l ++ f y ∷ []) (are ∙ ap (map f) (take_all 200 xs (omega arith)))
    ∙ (sym (map_push f xs y) ∙ ap (map f) (sym (take_all 200 (xs ++ y ∷ []) (omega (arith, length-append xs (y ∷ []))))))

many_step : (f : ℕ → List ℕ) (xs : List ℕ) (y : ℕ) (names : List (List ℕ)) (passes : Bool) → 200 ≤ length xs → names ≡ map f (take 200 xs)
    → names ≡ map f (take 200 (xs ++ cond passes (y ∷ []) []))
many_step f xs y names passes many are = are ∙ ap (map f) (sym (take-append-le 200 xs (cond passes (y ∷ []) []) many))

step : (f : ℕ → List ℕ) (xs : List ℕ) (y : ℕ) (names : List (List ℕ)) (passes : Bool) → names ≡ map f (take 200 xs)
    → listed (nat_lt (length names) 200) passes names (f y) ≡ map f (take 200 (xs ++ cond passes (y ∷ []) []))
step f xs y names passes are = elim (cases_lt (length xs) 200) [
  | inl few ↦
      let short : length names < 200 = omega (arith, ap length are, length-map (take 200 xs) f, ap length (take_all 200 xs (omega arith))) in
      ap (λ b. listed b passes names (f y)) (lt-ltb (length names) 200 short) ∙ few_step f xs y names passes few are
  | inr many ↦
      let long : 200 ≤ length names = omega (arith, ap length are, length-map (take 200 xs) f, length-take-le 200 xs many) in
      ap (λ b. listed b passes names (f y)) (le-ltb (length names) 200 long) ∙ many_step f xs y names passes many are
]

pub seed_listed : (s : Site) (account : ℕ) (old new : List (List ℕ)) → old ≡ map (name_of s) (take 200 (filter s.certs.is_seed (range_with_len 0 account))) → new ≡ with_seed s account old
    → new ≡ map (name_of s) (take 200 (filter s.certs.is_seed (range_with_len 0 (account + 1))))
seed_listed s account old new are is =
    let later : filter s.certs.is_seed (range_with_len 0 (account + 1)) ≡ filter s.certs.is_seed (range_with_len 0 account) ++ cond (s.certs.is_seed account) (account ∷ []) [] =
    ap (filter s.certs.is_seed) (range_more account) ∙ filter-append s.certs.is_seed (range_with_len 0 account) (account ∷ []) in
    is ∙ (step (name_of s) (filter s.certs.is_seed (range_with_len 0 account)) account old (s.certs.is_seed account) are ∙ ap (λ l. map (name_of s) (take 200 l)) (sym later))

pub seed_added : (s : Site) (account : ℕ) (old new : List (List ℕ)) (name : List ℕ) → length old < 200 → s.certs.is_seed account ≡ true
    → slice_get s.certs.names account ≡ Some name → new ≡ old ++ name ∷ [] → new ≡ with_seed s account old
seed_added s account old new name few seed is more =
    more ∙ (ap (λ (n : List ℕ). old ++ n ∷ []) (is_name s.certs.names account name is)
    ∙ sym (ap (λ (b : Bool). listed b (s.certs.is_seed account) old (name_of s account)) (lt-ltb (length old) 200 few) ∙ ap (λ (b : Bool). listed true b old (name_of s account)) seed))
