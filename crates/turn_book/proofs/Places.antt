-- The places of what a caller made, and views in a list.
use Rattle.std.proofs.Common.{◌≡◌, ◌≢◌, ◌⊎◌, ℕ, zero, suc, ◌+◌, ◌<◌, ◌≤◌, List, [], ◌∷◌, ◌++◌, length, set, refl, sym, ap, ◌∙◌, subst, arith, append_assoc, add-zero, inl, inr, ⊎_elim}
use Rattle.std.proofs.lemmas.List.{append-nil}
use Rattle.std.proofs.lemmas.Bool.Decides.{nat_tests}
use mathlib.Core.Option.{some, some-ne-none, some-injective}
use lib.ListN.{get_elem?}
use Rattle.site_history.specs.Histories.{Entry, History, places, with_entry}
use Rattle.turn_book.specs.Seats.{caller_of, place_if, made_from, made_by}

pub place_if_here : (base n at : ℕ) (e : Entry) → base ≤ at → caller_of e ≡ n → place_if base n at e ≡ at ∷ []
place_if_here base n at e le is = grind (arith, nat_tests)

pub place_if_other : (base n at : ℕ) (e : Entry) → caller_of e ≢ n → place_if base n at e ≡ []
place_if_other base n at e ne = grind (arith, nat_tests)

pub place_if_before : (base n at : ℕ) (e : Entry) → at < base → place_if base n at e ≡ []
place_if_before base n at e lt = grind (arith, nat_tests)

pub made_from-snoc : (base n at : ℕ) (h : List Entry) (e : Entry) → made_from base n at (h ++ e ∷ []) ≡ made_from base n at h ++ place_if base n (at + length h) e
made_from-snoc base n at [] e = append-nil (place_if base n at e) ∙ ap (λ (k : ℕ). place_if base n k e) (sym (add-zero at))
made_from-snoc base n at (x ∷ h) e =
    let k : suc at + length h ≡ at + suc (length h) = omega arith in
    ap (λ (l : List ℕ). place_if base n at x ++ l) (made_from-snoc base n (suc at) h e ∙ ap (λ (z : ℕ). made_from base n (suc at) h ++ place_if base n z e) k)
    ∙ sym (append_assoc (place_if base n at x) (made_from base n (suc at) h) (place_if base n (at + suc (length h)) e))

pub made-before : (base n at : ℕ) (h : List Entry) → at + length h ≤ base → made_from base n at h ≡ []
made-before base n at [] le = refl
made-before base n at (x ∷ h) le = let lt : at < base = omega arith in let more : suc at + length h ≤ base = omega arith in
    ap (λ (l : List ℕ). l ++ made_from base n (suc at) h) (place_if_before base n at x lt) ∙ made-before base n (suc at) h more

-- an entry of the caller's own
pub made-own : (base n : ℕ) (h : History) (e : Entry) → base ≤ places h → caller_of e ≡ n → made_by base n (with_entry h e) ≡ made_by base n h ++ places h ∷ []
made-own base n h e le is = made_from-snoc base n (length h.opened) h.entries e ∙ ap (λ (l : List ℕ). made_by base n h ++ l) (place_if_here base n (places h) e le is)

-- an entry of another's
pub made-other : (base n : ℕ) (h : History) (e : Entry) → caller_of e ≢ n → made_by base n (with_entry h e) ≡ made_by base n h
made-other base n h e ne = made_from-snoc base n (length h.opened) h.entries e ∙ (ap (λ (l : List ℕ). made_by base n h ++ l) (place_if_other base n (places h) e ne) ∙ append-nil (made_by base n h))

-- the history with which the site was opened
pub made-opened : (n : ℕ) (h : History) → made_by (places h) n h ≡ []
made-opened n h = made-before (places h) n (length h.opened) h.entries (omega arith)

pub set_at : {A : Type 0} (l : List A) (i : ℕ) (a b : A) → get_elem? l i ≡ some a → get_elem? (set l i b) i ≡ some b
set_at [] i a b e = absurd (some-ne-none a (sym e))
set_at (x ∷ xs) zero a b e = refl
set_at (x ∷ xs) (suc i) a b e = set_at xs i a b e

pub snoc_at : {A : Type 0} (l : List A) (a b : A) (j : ℕ) → get_elem? (l ++ a ∷ []) j ≡ some b → (get_elem? l j ≡ some b) ⊎ ((j ≡ length l) × (a ≡ b))
snoc_at [] a b zero e = inr (refl, some-injective a b e)
snoc_at [] a b (suc j) e = absurd (some-ne-none b (sym e))
snoc_at (x ∷ xs) a b zero e = inl e
snoc_at (x ∷ xs) a b (suc j) e = ⊎_elim inl (λ (t : (j ≡ length xs) × (a ≡ b)). inr (ap suc t.0, t.1)) (snoc_at xs a b j e)
