-- A legal history has few publications, so its front is read off one word.
use Rattle.std.proofs.Common.{◌≡◌, ℕ, ◌+◌, ◌*◌, ◌/◌, ◌%◌, ◌≤◌, List, [], ◌∷◌, ◌++◌, length, refl, ap, arith}
use Rattle.site_history.specs.Histories.{Entry, Done, Freeze, Publish, KeeperFault, History, places, publications, with_entry, just_opened}
use Rattle.site_history.specs.Legal.{IsLegal, Meets}
use Rattle.site_history.proofs.Growing.{publications-same, publications-more}
use Rattle.turn_book.specs.inner.Known.{front}
use Rattle.turn_book.proofs.Entries.{by_entries}

length-snoc : {A : Type 0} (l : List A) (x : A) → length (l ++ x ∷ []) ≡ length l + 1
length-snoc [] x = refl
length-snoc (y ∷ l) x = omega (arith, length-snoc l x)

few_more : (h : History) (e : Entry) → length (publications h) ≤ 100000 → Meets h e → length (publications (with_entry h e)) ≤ 100000
few_more h (Done caller act reply moment) few meets = omega (arith, ap length (publications-same h (Done caller act reply moment) refl))
few_more h (Freeze caller revision) few meets = omega (arith, ap length (publications-same h (Freeze caller revision) refl))
few_more h (Publish caller p) few meets =
    let next = meets.number in
    let small = meets.few in
    omega (arith, ap length (publications-more h (Publish caller p) p refl), length-snoc (publications h) p)
few_more h (KeeperFault caller) few meets = omega (arith, ap length (publications-same h (KeeperFault caller) refl))

none : (h : History) → length (publications (just_opened h.opening h.opened)) ≤ 100000
unfolding publications
none h = omega arith

pub few_publications : (h : History) → IsLegal h → length (publications h) ≤ 100000
few_publications h is = by_entries (λ (h : History). length (publications h) ≤ 100000) few_more h is (none h)

-- the parts of a front
pub parts_of_front : (word : ℕ) (h seen : History) → IsLegal h → word ≡ front h → seen ≡ h → (word / 1048576 ≡ places seen) × (word % 1048576 ≡ length (publications seen))
parts_of_front word h seen legal is same =
    let few = few_publications h legal in
    let long = ap places same in
    let many = ap (λ (h : History). length (publications h)) same in
    (omega arith, omega arith)
