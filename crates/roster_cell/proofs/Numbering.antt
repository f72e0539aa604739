-- The publications of a legal history are numbered from 1, and each is of a revision that there was.
use Rattle.std.proofs.Common.{◌≡◌, ℕ, zero, suc, ◌+◌, ◌-◌, ◌<◌, ◌≤◌, List, [], ◌∷◌, ◌++◌, length, Option, Some, None, slice_get, refl, sym, ap, ◌∙◌, subst, arith, length-append, option_to_list}
use Rattle.std.specs.List.{last_or}
use Rattle.std.proofs.lemmas.Option.{same_Some}
use Rattle.std.proofs.lemmas.List.Elements.{filter_map-append}
use Rattle.trust_types.specs.declared.records.Record.{Record}
use Rattle.trust_types.specs.Kept.{change_of, changes, revision}
use Rattle.site_history.specs.Histories.{Entry, Done, Freeze, Publish, KeeperFault, Published, History, publications, records, record_added, with_entry, just_opened, last_published}
use Rattle.site_history.specs.Legal.{IsLegal, Meets}
use Rattle.site_history.proofs.Growing.{publications-same, publications-more, records-add}
use Rattle.turn_book.proofs.Entries.{by_entries}

-- The publications have the numbers that follow one another, and revisions up to this one.
abbrev AreNumbered : ℕ → ℕ → List Published → Type 0
AreNumbered n r [] = Unit {0}
AreNumbered n r (p ∷ ps) = (p.number ≡ n + 1) × (p.revision ≤ r) × AreNumbered (n + 1) r ps

numbered-later : (n r s : ℕ) (ps : List Published) → r ≤ s → AreNumbered n r ps → AreNumbered n s ps
numbered-later n r s [] le is = tt
numbered-later n r s (p ∷ ps) le (number, past, rest) = (number, omega arith, numbered-later (n + 1) r s ps le rest)

numbered-snoc : (n r : ℕ) (ps : List Published) (p : Published) → AreNumbered n r ps → p.number ≡ n + length ps + 1 → p.revision ≤ r → AreNumbered n r (ps ++ p ∷ [])
numbered-snoc n r [] p is number past = (omega arith, past, tt)
numbered-snoc n r (q ∷ ps) p (first, early, rest) number past = (first, early, numbered-snoc (n + 1) r ps p rest (omega arith) past)

revision-grows : (k l : List Record) → revision k ≤ revision (k ++ l)
revision-grows k l = omega (arith, ap length (filter_map-append change_of k l), length-append (changes k) (changes l))

grows : (h : History) (e : Entry) → revision (records h) ≤ revision (records (with_entry h e))
grows h e = subst (λ (k : List Record). revision (records h) ≤ revision k) (sym (records-add h e)) (revision-grows (records h) (option_to_list (record_added (records h) e)))

abbrev IsNumbered : History → Type 0
IsNumbered h = AreNumbered 0 (revision (records h)) (publications h)

stays : (h : History) (e : Entry) → publications (with_entry h e) ≡ publications h → IsNumbered h → IsNumbered (with_entry h e)
stays h e same is = subst (AreNumbered 0 (revision (records (with_entry h e)))) (sym same) (numbered-later 0 (revision (records h)) (revision (records (with_entry h e))) (publications h) (grows h e) is)

more : (h : History) (e : Entry) → IsNumbered h → Meets h e → IsNumbered (with_entry h e)
more h (Done caller act reply moment) is meets = stays h (Done caller act reply moment) (publications-same h (Done caller act reply moment) refl) is
more h (Freeze caller r) is meets = stays h (Freeze caller r) (publications-same h (Freeze caller r) refl) is
more h (Publish caller p) is meets =
    let e : Entry = Publish caller p in
    let past = meets.of_records.past in
    let number = meets.number in
    let later : revision (records h) ≤ revision (records (with_entry h e)) = grows h e in
    let r : ℕ = revision (records (with_entry h e)) in
    subst (AreNumbered 0 r) (sym (publications-more h e p refl))
    (numbered-snoc 0 r (publications h) p (numbered-later 0 (revision (records h)) r (publications h) later is) (omega arith) (omega arith))
more h (KeeperFault caller) is meets = stays h (KeeperFault caller) (publications-same h (KeeperFault caller) refl) is

opened : (h : History) → IsNumbered (just_opened h.opening h.opened)
unfolding publications
opened h = tt

numbered : (h : History) → IsLegal h → IsNumbered h
numbered h is = by_entries IsNumbered more h is (opened h)

last-at : (n r : ℕ) (q : Published) (ps : List Published) (p : Published) → AreNumbered n r (q ∷ ps) → last_or (Some q) ps ≡ Some p
    → (p.number ≡ n + 1 + length ps) × (p.revision ≤ r) × (slice_get (q ∷ ps) (length ps) ≡ Some p)
last-at n r q [] p (number, past, rest) last = let same : q ≡ p = same_Some q p last in (sym (ap (λ (z : Published). z.number) same) ∙ omega arith, subst (λ (z : Published). z.revision ≤ r) same past, last)
last-at n r q (x ∷ ps) p (number, past, rest) last = let found = last-at (n + 1) r x ps p rest last in (omega (arith, found.0), found.1, found.2)

last-of : (r : ℕ) (l : List Published) (p : Published) → AreNumbered 0 r l → last_or None l ≡ Some p
    → (p.number ≡ length l) × (p.revision ≤ r) × (0 < p.number) × (slice_get l (p.number - 1) ≡ Some p)
last-of r [] p is last = absurd cc
last-of r (q ∷ ps) p is last =
    let found = last-at 0 r q ps p is last in
    let place : p.number - 1 ≡ length ps = omega (arith, found.0) in
    (omega (arith, found.0), found.1, omega (arith, found.0), ap (slice_get (q ∷ ps)) place ∙ found.2)

-- the last publication has the number of all
pub last_is : (h : History) (p : Published) → IsLegal h → last_published h ≡ Some p
    → (p.number ≡ length (publications h)) × (p.revision ≤ revision (records h)) × (0 < p.number) × (slice_get (publications h) (p.number - 1) ≡ Some p)
last_is h p is last = last-of (revision (records h)) (publications h) p (numbered h is) last

past-at : (n r : ℕ) (l : List Published) (k : ℕ) (p : Published) → AreNumbered n r l → slice_get l k ≡ Some p → p.revision ≤ r
past-at n r [] k p is at = absurd cc
past-at n r (q ∷ l) zero p (number, past, rest) at = subst (λ (z : Published). z.revision ≤ r) (same_Some q p at) past
past-at n r (q ∷ l) (suc k) p (number, past, rest) at = past-at (n + 1) r l k p rest at

-- each publication is of a revision that there was
pub past_is : (h : History) (k : ℕ) (p : Published) → IsLegal h → slice_get (publications h) k ≡ Some p → p.revision ≤ revision (records h)
past_is h k p is at = past-at 0 (revision (records h)) (publications h) k p (numbered h is) at
