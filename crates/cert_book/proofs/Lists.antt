-- One item of a list is written.
use Rattle.std.proofs.Common.{ℕ, zero, suc, ◌≡◌, ◌≤◌, ◌<◌, ◌+◌, inl, inr, refl, arith, sym, ap, subst, ◌∙◌, List, [], ◌∷◌, ◌++◌, length, map, get_or, set, take, All}
use Rattle.std.proofs.lemmas.Bool.{cases_eq}
use Rattle.std.proofs.lemmas.List.{get_or-set_same, get_or-set_other, length-set, get_or-map, length-map, map-append, take_more, take_all}
use Rattle.std.specs.declared.sync.Arc.{Arc}
use Rattle.frozen.specs.Parts.{Part, PartWithRoom, no_part}
use Rattle.frozen.specs.Sites.{shared_part, shared_parts}
use Rattle.cert_book.specs.declared.slots.Slot.{Slot}
use Rattle.cert_book.specs.inner.Slots.{slot_part, slot_parts}

-- an item is written that looks like the one before
pub map-set_same : {X Y : Type 0} (f : X → Y) (xs : List X) (i : ℕ) (x y : X) → i < length xs → x ≡ get_or xs i x → f y ≡ f x → map f (set xs i y) ≡ map f xs
map-set_same f [] i x y lt is same = absurd (omega arith)
map-set_same f (z ∷ zs) zero x y lt is same = ap (λ b. b ∷ map f zs) (same ∙ ap f is)
map-set_same f (z ∷ zs) (suc i) x y lt is same = ap (λ bs. f z ∷ bs) (map-set_same f zs i x y (omega arith) is same)

pub map-set : {X Y : Type 0} (f : X → Y) (xs : List X) (i : ℕ) (y : X) → map f (set xs i y) ≡ set (map f xs) i (f y)
map-set f [] i y = refl
map-set f (z ∷ zs) zero y = refl
map-set f (z ∷ zs) (suc i) y = ap (λ bs. f z ∷ bs) (map-set f zs i y)

pub all_set : {X : Type 0} (P : X → Type 0) (xs : List X) (i : ℕ) (y : X) → All P xs → P y → All P (set xs i y)
all_set P xs i y all here = λ k d lt.
    elim (cases_eq k i) [
      | inl same ↦
          let inside : i < length xs = omega (arith, same, length-set xs i y) in
          subst P (sym (ap (λ (n : ℕ). get_or (set xs i y) n d) same ∙ get_or-set_same xs i y d inside)) here
      | inr apart ↦ subst P (sym (get_or-set_other xs i k y d apart)) (all k d (omega (arith, length-set xs i y)))
    ]

-- one block more was shared
pub shared_more : {Z : Type 0} (ps : List Part) (xs : List Slot) (blocks : List (Arc PartWithRoom Z)) (b : Arc PartWithRoom Z) (i : ℕ) (x : Slot)
    → slot_parts xs ≡ ps → shared_parts blocks ≡ take i ps → i < length xs → x ≡ get_or xs i x → b.value.part ≡ slot_part x → shared_parts (blocks ++ b ∷ []) ≡ take (i + 1) ps
shared_more ps xs blocks b i x same so_far lt is b_is =
    let here : get_or ps i no_part ≡ slot_part x = ap (λ (qs : List Part). get_or qs i no_part) (sym same) ∙ get_or-map slot_part xs i x no_part lt ∙ ap slot_part (sym is) in
    let inside : i < length ps = omega (arith, ap length same, length-map xs slot_part) in
    map-append shared_part blocks (b ∷ [])
    ∙ ap (λ (qs : List Part). qs ++ shared_part b ∷ []) so_far
    ∙ ap (λ (p : Part). take i ps ++ p ∷ []) (b_is ∙ sym here)
    ∙ sym (take_more ps i no_part inside)

pub whole : {Z : Type 0} (ps : List Part) (blocks : List (Arc PartWithRoom Z)) (n : ℕ) → shared_parts blocks ≡ take n ps → length ps ≤ n → shared_parts blocks ≡ ps
whole ps blocks n so_far all = so_far ∙ take_all n ps all
