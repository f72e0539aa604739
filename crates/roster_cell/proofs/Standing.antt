-- What is held of a site stands for the same publication later.
use Rattle.std.proofs.Common.{◌≡◌, ℕ, zero, suc, ◌+◌, ◌-◌, ◌<◌, ◌≤◌, List, [], ◌∷◌, ◌++◌, length, Option, Some, None, MatchOption, Bor, slice_get, refl, sym, ap, ◌∙◌, subst, arith, filter_map}
use Rattle.std.proofs.lemmas.List.Elements.{filter_map-append}
use Rattle.std.specs.List.{last_or}
use Rattle.std.specs.declared.sync.Arc.{Arc}
use Rattle.trust_types.specs.declared.records.Record.{Record}
use Rattle.trust_types.specs.Kept.{revision, upto}
use Rattle.trust_types.specs.Tables.{Table}
use Rattle.roster_form.specs.declared.publications.Publication.{Publication}
use Rattle.site_history.specs.Histories.{Published, History, publications, published_by, records, last_published}
use Rattle.site_history.specs.Legal.{IsLegal, IsFrozenOf, StandsFor}
use Rattle.site_history.proofs.Revisions.{frozen_later}
use Rattle.turn_book.specs.Seats.{StartsWith}
use Rattle.turn_book.proofs.Suits.{records_later}
use Rattle.roster_cell.specs.Caches.{IsCached, IsLatest, IsOneOf, held_in, number_of}
use Rattle.roster_cell.proofs.Numbering.{last_is, past_is}

publications-start : (h g : History) → (s : StartsWith h g) → publications h ≡ publications g ++ filter_map published_by s.0
unfolding publications
publications-start h g s = ap publications s.1 ∙ filter_map-append published_by g.entries s.0

slice_get-front : {A : Type 0} (xs ys : List A) (k : ℕ) (x : A) → slice_get xs k ≡ Some x → slice_get (xs ++ ys) k ≡ Some x
slice_get-front [] ys k x at = absurd cc
slice_get-front (y ∷ xs) ys zero x at = at
slice_get-front (y ∷ xs) ys (suc k) x at = slice_get-front xs ys k x at

stands_more : (opening : Table) (k l : List Record) (q : Publication) (p : Published) → p.revision ≤ revision k → StandsFor opening k q p → StandsFor opening (k ++ l) q p
stands_more opening k l q p past is = record { same = is.same; graph = frozen_later opening k l p.revision q.candidate.graph past is.graph; sound = is.sound }

one_later : (h g : History) (q : Publication) → StartsWith h g → IsLegal g → IsOneOf g q → IsOneOf h q
one_later h g q s legal is =
    let more = records_later h g s in
    let past = past_is g (q.number - 1) is.published legal is.is_there in
    record {
      counted = is.counted;
      published = is.published;
      is_there = ap (λ (l : List Published). slice_get l (q.number - 1)) (publications-start h g s) ∙ slice_get-front (publications g) (filter_map published_by s.0) (q.number - 1) is.published is.is_there;
      stands = subst (λ (z : Table × List Record). StandsFor z.0 z.1 q is.published) (λ i. (sym (ap (λ (h : History). h.opening) s.1) i, sym more.1 i))
          (stands_more g.opening (records g) more.0 q is.published past is.stands);
    }

pub cached_later : (h g : History) (o : Option Publication) → StartsWith h g → IsLegal g → IsCached g o → IsCached h o
cached_later h g None s legal is = tt
cached_later h g (Some q) s legal is = one_later h g q s legal is

none-of : {A : Type 0} (l : List A) → 0 ≡ length l → l ≡ []
none-of [] is = refl
none-of (x ∷ l) is = absurd (omega arith)

-- what a cache lends, where its number is that of all publications
pub lent_is_latest : (h : History) (o : Option Publication) (r : Option (Bor Publication)) → MatchOption r (o ≡ None) (λ q. o ≡ Some q.now) → IsCached h o → number_of o ≡ length (publications h)
    → MatchOption r (publications h ≡ []) (λ q. IsLatest h q.now)
lent_is_latest h o None lent is number = none-of (publications h) (sym (ap number_of lent) ∙ number)
lent_is_latest h o (Some q) lent is number = (sym (ap number_of lent) ∙ number, subst (IsCached h) lent is)

last-one : (h : History) (q : Publication) (p : Published) → IsLegal h → last_published h ≡ Some p → StandsFor h.opening (records h) q p → IsLatest h q
last-one h q p legal last stands =
    let found = last_is h p legal last in
    let same : p.number ≡ q.number = ap (λ (z : Published). z.number) stands.same in (
      sym same ∙ found.0,
      record {
        counted = subst (λ (n : ℕ). 0 < n) same found.2;
        published = p;
        is_there = ap (λ (n : ℕ). slice_get (publications h) (n - 1)) (sym same) ∙ found.3;
        stands = stands;
      },
    )

last-some : {A : Type 0} (x : A) (l : List A) → last_or (Some x) l ≡ None → ⊥
last-some x [] none = cc
last-some x (y ∷ l) none = last-some y l none

no-last-of : {A : Type 0} (l : List A) → last_or None l ≡ None → length l ≡ 0
no-last-of [] none = refl
no-last-of (x ∷ l) none = absurd (last-some x l none)

no-last : (h : History) → last_published h ≡ None → length (publications h) ≡ 0
no-last h none = no-last-of (publications h) none

-- what was fetched
module _ {Z : Type 0} where
  abbrev IsFetched : History → Option (Arc Publication Z) → Type 0
  IsFetched h found = MatchOption found (last_published h ≡ None) (λ q. (p : Published) × (last_published h ≡ Some p) × StandsFor h.opening (records h) q.value p)

  pub fetched_is : (h : History) (found : Option (Arc Publication Z)) → IsLegal h → IsFetched h found → (number_of (held_in found) ≡ length (publications h)) × IsCached h (held_in found)
  fetched_is h None legal is = (sym (no-last h is), tt)
  fetched_is h (Some shared) legal (p, last, stands) = last-one h shared.value p legal last stands
