-- Lists that are shown in part: their first items and their last, one after another.
use Rattle.std.proofs.Common.{◌≡◌, ℕ, zero, suc, ◌+◌, ◌-◌, ◌<◌, ◌≤◌, Bool, true, false, cond, List, [], ◌∷◌, ◌++◌, length, map, take, reverse, filter, Some, IfSome, All, min, slice_get, get_or, refl, sym, ap, ◌∙◌, subst, arith, inl, inr, ◌⊎◌}
use Rattle.std.specs.Prelude.{slice_index_or}
use Rattle.std.specs.List.{enumerate_from, find}
use Rattle.std.proofs.lemmas.Bool.{cases_lt}
use Rattle.std.proofs.lemmas.List.{take_all, map_more, get_or-reverse, length-reverse}
use Rattle.std.proofs.lemmas.List.Elements.{All-filter, All-map, All-head, All-tail}
use Rattle.std.proofs.lemmas.List.FromFn.{length-enumerate_from, get_or-enumerate_from, length-range_with_len, get_or-range_with_len}
use Rattle.std.proofs.lemmas.Option.{slice_get_within, slice_get-get_or, get_or_from_slice_get}
use Rattle.trust_types.specs.declared.graphs.Cert.{Cert}
use Rattle.trust_types.specs.declared.records.Record.{Record}
use Rattle.site_history.specs.declared.views.ArticleHead.{ArticleHead}
use Rattle.site_history.specs.Sites.{Site}
use Rattle.site_history.specs.Views.{head_of}
use Rattle.cert_book.specs.Books.{Book, IsAccount, accounts, given, taken, is_standing}

-- what holds of each item holds of one that was found among those that pass a test
pub among : {X : Type 0} (P : X → Type 0) (p : X → Bool) (xs : List X) (i : ℕ) (x : X) → All P xs → Some x ≡ slice_get (filter p xs) i → P x
among P p xs i x all is =
    subst P (get_or_from_slice_get (filter p xs) i x x (sym is)) (All-filter p P xs all i x (slice_get_within (filter p xs) i x (sym is)))

pub first_found : {X : Type 0} (P : X → Type 0) (p : X → Bool) (xs : List X) (x : X) → All P xs → find p xs ≡ Some x → P x
first_found P p [] x all is = absurd (cc)
first_found P p (y ∷ xs) x all is = by_test (p y) is (first_found P p xs x (All-tail P y xs all))
  where
    by_test : (passes : Bool) → cond passes (Some y) (find p xs) ≡ Some x → (find p xs ≡ Some x → P x) → P x
    by_test true is later = let same : y ≡ x = cc in subst P same (All-head P y xs all)
    by_test false is later = later is

-- one more of the items that are listed
pub one_more : {X Y : Type 0} (f : X → Y) (xs : List X) (i : ℕ) (x : X) (y : Y) (old new : List Y) → old ≡ map f (take i xs) → slice_get xs i ≡ Some x
    → y ≡ f x → new ≡ old ++ y ∷ [] → new ≡ map f (take (i + 1) xs)
one_more f xs i x y old new are is same more =
    let item : get_or xs i x ≡ x = get_or_from_slice_get xs i x x is in
    more ∙ (ap (λ l. l ++ y ∷ []) are ∙ (ap (λ z. map f (take i xs) ++ z ∷ []) (same ∙ ap f (sym item)) ∙ sym (map_more f xs i x (slice_get_within xs i x is))))

-- counted from the last
pub from_last : {X : Type 0} (xs : List X) (i : ℕ) (x : X) → i < length xs → slice_get xs (length xs - 1 - i) ≡ Some x → slice_get (reverse xs) i ≡ Some x
from_last xs i x within is =
    slice_get-get_or (reverse xs) i x (omega (arith, length-reverse xs))
    ∙ ap Some (get_or-reverse xs i x within ∙ get_or_from_slice_get xs (length xs - 1 - i) x x is)

-- as many as there are, or as are shown
pub all_shown : {X Y : Type 0} (f : X → Y) (xs : List X) (most i : ℕ) (items : List Y) → ((length xs ≤ most) × (i ≡ length xs)) ⊎ ((most < length xs) × (i ≡ most))
    → items ≡ map f (take i xs) → items ≡ map f (take most xs)
all_shown f xs most i items (inl all) are = are ∙ ap (map f) (take_all i xs (omega arith) ∙ sym (take_all most xs all.0))
all_shown f xs most i items (inr some) are = are ∙ ap (λ n. map f (take n xs)) some.1

pub enough : (n count most r i : ℕ) → i ≡ r → r ≡ min count most → count ≡ n → ((n ≤ most) × (i ≡ n)) ⊎ ((most < n) × (i ≡ most))
enough n count most r i at is same = elim (cases_lt most n) [
  | inl some ↦
      let least : min count most ≡ most = omega (arith, some, same) in
      inr (some, at ∙ (is ∙ least))
  | inr all ↦
      let least : min count most ≡ count = omega (arith, all, same) in
      inl (all, at ∙ (is ∙ (least ∙ same)))
]

pub below_least : (n most i r : ℕ) → r ≡ min n most → i < r → i < n
below_least n most i r is below = elim (enough n n most r r refl is refl) [
  | inl all ↦ omega (arith, below, all.1)
  | inr some ↦ omega (arith, below, some.0, some.1)
]

-- the accounts of certificates are accounts
all_accounts : (b : Book) → All (IsAccount b) (accounts b)
all_accounts b k d within = omega (arith, within, length-range_with_len 0 (length b.names), get_or-range_with_len 0 (length b.names) k d (omega (arith, within, length-range_with_len 0 (length b.names))))

pub taker_there : (b : Book) (a i : ℕ) (c : Cert) → slice_get (given b a) i ≡ Some c → IsAccount b c.to
taker_there b a i c is =
    among (λ (c : Cert). IsAccount b c.to) is_standing _ i c (All-map (λ (c : Cert). IsAccount b c.to) _ (accounts b) (all_accounts b)) (sym is)

pub giver_there : (b : Book) (a i : ℕ) (c : Cert) → slice_get (taken b a) i ≡ Some c → IsAccount b c.from
giver_there b a i c is =
    among (λ (c : Cert). IsAccount b c.from) is_standing _ i c (All-map (λ (c : Cert). IsAccount b c.from) _ (accounts b) (all_accounts b)) (sym is)

-- an article with its number
pub numbered : (xs : List Record) (i : ℕ) (x : Record) → slice_get xs i ≡ Some x → slice_get (enumerate_from 0 xs) i ≡ Some (i, x)
numbered xs i x is =
    let within : i < length xs = slice_get_within xs i x is in
    let place : 0 + i ≡ i = omega arith in
    let item : ◌≡◌ {A = ℕ × Record} (0 + i, get_or xs i x) (i, x) = λ j. (place j, get_or_from_slice_get xs i x x is j) in
    slice_get-get_or (enumerate_from 0 xs) i (i, x) (omega (arith, length-enumerate_from 0 xs))
    ∙ ap Some (get_or-enumerate_from 0 xs i (i, x) within ∙ item)

-- one more of the newest
pub one_newer : {X Y : Type 0} (f : X → Y) (xs : List X) (count i at_no : ℕ) (x : X) (y : Y) (old new : List Y) → count ≡ length xs → i < count → at_no ≡ count - 1 - i
    → slice_get xs at_no ≡ Some x → y ≡ f x → old ≡ map f (take i (reverse xs)) → new ≡ old ++ y ∷ [] → new ≡ map f (take (i + 1) (reverse xs))
one_newer f xs count i at_no x y old new long within place is same are more =
    let last : at_no ≡ length xs - 1 - i = omega (arith, long, within, place) in
    one_more f (reverse xs) i x y old new are (from_last xs i x (omega (arith, long, within)) (subst (λ n. slice_get xs n ≡ Some x) last is)) same more

read_item : {X : Type 0} (P : X → Type 0) (xs : List X) (n : ℕ) → n < length xs → IfSome (slice_get xs n) P → (x : X) × (slice_get xs n ≡ Some x) × P x
read_item P [] n within is = absurd (omega arith)
read_item P (x ∷ xs) zero within is = (x, refl, is)
read_item P (x ∷ xs) (suc n) within is = read_item P xs n (omega arith) is

pub newer_head : (s : Site) (xs : List Record) (count i at_no : ℕ) (head : ArticleHead) (old new : List ArticleHead) → count ≡ length xs → i < count → at_no ≡ count - 1 - i
    → IfSome (slice_get xs at_no) (λ x. head ≡ head_of s (at_no, x)) → old ≡ map (head_of s) (take i (reverse (enumerate_from 0 xs))) → new ≡ old ++ head ∷ []
    → new ≡ map (head_of s) (take (i + 1) (reverse (enumerate_from 0 xs)))
newer_head s xs count i at_no head old new long within place is are more =
    let found = read_item (λ x. head ≡ head_of s (at_no, x)) xs at_no (omega (arith, long, within, place)) is in
    one_newer (head_of s) (enumerate_from 0 xs) count i at_no (at_no, found.0) head old new (long ∙ sym (length-enumerate_from 0 xs)) within place (numbered xs at_no found.0 found.1) found.2 are more

-- the name of an account
pub is_name : (names : List (List ℕ)) (account : ℕ) (name : List ℕ) → slice_get names account ≡ Some name → name ≡ slice_index_or names account []
is_name names account name is = sym (get_or_from_slice_get names account name [] is)
