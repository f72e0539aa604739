-- A history with one entry more, and what is read of it then.
use Rattle.std.proofs.Common.{◌≡◌, ◌+◌, ◌≤◌, List, [], ◌∷◌, ◌++◌, length, Option, Some, None, option_to_list, refl, ap, ◌∙◌, arith, length-append, fold, filter_map}
use Rattle.std.proofs.lemmas.List.{append-nil}
use Rattle.std.specs.List.{cons_option, last_or}
use Rattle.std.proofs.lemmas.List.Elements.{filter_map-append}
use Rattle.std.proofs.lemmas.List.Sums.{sum_by-append}
use Rattle.trust_types.specs.declared.records.Record.{Record}
use Rattle.trust_types.specs.Kept.{change_of, changes}
use Rattle.site_history.specs.Histories.{Published, Entry, History, with_entry, places, records, records_after, record_added, publications, published_by, last_published}
use Rattle.site_history.specs.Live.{live, live_after}
use Rattle.site_history.specs.Texts.{texts, texts_in_entry}

fold-append : {A B : Type 0} (f : B → A → B) (b : B) (xs ys : List A) → fold f b (xs ++ ys) ≡ fold f (fold f b xs) ys
fold-append f b [] ys = refl
fold-append f b (x ∷ xs) ys = fold-append f (f b x) xs ys

pub records-add : (h : History) (e : Entry) → records (with_entry h e) ≡ records h ++ option_to_list (record_added (records h) e)
unfolding records
records-add h e = fold-append records_after h.opened h.entries (e ∷ [])

pub publications-add : (h : History) (e : Entry) → publications (with_entry h e) ≡ publications h ++ filter_map published_by (e ∷ [])
unfolding publications
publications-add h e = filter_map-append published_by h.entries (e ∷ [])

pub live-add : (h : History) (e : Entry) → live (with_entry h e) ≡ live_after (live h) e
unfolding live
live-add h e = fold-append live_after [] h.entries (e ∷ [])

pub texts-add : (h : History) (e : Entry) → texts (with_entry h e) ≡ texts h + texts_in_entry e
unfolding texts
texts-add h e = omega (arith, sum_by-append texts_in_entry h.entries (e ∷ []))

pub places-add : (h : History) (e : Entry) → places (with_entry h e) ≡ places h + 1
places-add h e = omega (arith, length-append h.entries (e ∷ []))

-- the records stay, where the entry adds none
pub records-same : (h : History) (e : Entry) → record_added (records h) e ≡ None → records (with_entry h e) ≡ records h
records-same h e none = records-add h e ∙ (ap (λ (o : Option Record). records h ++ option_to_list o) none ∙ append-nil (records h))

-- and there is one more, where it adds one
pub records-more : (h : History) (e : Entry) (x : Record) → record_added (records h) e ≡ Some x → records (with_entry h e) ≡ records h ++ x ∷ []
records-more h e x some = records-add h e ∙ ap (λ (o : Option Record). records h ++ option_to_list o) some

pub publications-same : (h : History) (e : Entry) → published_by e ≡ None → publications (with_entry h e) ≡ publications h
publications-same h e none =
    publications-add h e ∙ (ap (λ (o : Option Published). publications h ++ cons_option o []) none ∙ append-nil (publications h))

pub publications-more : (h : History) (e : Entry) (p : Published) → published_by e ≡ Some p → publications (with_entry h e) ≡ publications h ++ p ∷ []
publications-more h e p some = publications-add h e ∙ ap (λ (o : Option Published). publications h ++ cons_option o []) some

last_or-snoc : {A : Type 0} (o : Option A) (xs : List A) (x : A) → last_or o (xs ++ x ∷ []) ≡ Some x
last_or-snoc o [] x = refl
last_or-snoc o (y ∷ xs) x = last_or-snoc (Some y) xs x

pub last-more : (h : History) (e : Entry) (p : Published) → published_by e ≡ Some p → last_published (with_entry h e) ≡ Some p
last-more h e p some = ap (last_or None) (publications-more h e p some) ∙ last_or-snoc None (publications h) p

length-option : {A : Type 0} (o : Option A) → length (option_to_list o) ≤ 1
length-option None = omega arith
length-option (Some x) = omega arith

grows : (k : List Record) (entries : List Entry) → length (fold records_after k entries) ≤ length k + length entries
grows k [] = omega arith
grows k (e ∷ entries) =
    omega (arith, grows (records_after k e) entries, length-append k (option_to_list (record_added k e)), length-option (record_added k e))

-- there are no more records than places
pub few-records : (h : History) → length (records h) ≤ places h
unfolding records
few-records h = grows h.opened h.entries

length-cons : {A : Type 0} (o : Option A) (l : List A) → length (cons_option o l) ≤ length l + 1
length-cons None l = omega arith
length-cons (Some x) l = omega arith

pub few-mapped : {A B : Type 0} (f : A → Option B) (xs : List A) → length (filter_map f xs) ≤ length xs
few-mapped f [] = omega arith
few-mapped f (x ∷ xs) = omega (arith, length-cons (f x) (filter_map f xs), few-mapped f xs)

-- there are no more changes than places, so a revision's number is small
pub few-changes : (h : History) → length (changes (records h)) ≤ places h
few-changes h = omega (arith, few-mapped change_of (records h), few-records h)
