-- What a map of pairs has at each pair, and its entries.
use Rattle.std.proofs.Common.{◌≡◌, ℕ, ◌<◌, Bool, true, false, cond, [], ◌∷◌, Option, Some, refl, sym, ap, subst, ◌∙◌, arith, nat_eq, ◌&&◌, ◌⊎◌, get_or, zero, suc, Contains}
use Rattle.std.specs.Ordering.{nat_cmp, is_eq, ordering_then}
use Rattle.std.specs.declared.cmp.Ordering.{Ordering}
use Rattle.std.specs.declared.cmp.Ordering.TheVariants.{Less}
use Rattle.std.specs.Map.{lookup, keys_of}
use Rattle.std.specs.List.Sorted.{IsStrictlySortedBy}
use Rattle.std.proofs.lemmas.Map.Keys.{Less-from_sorted}
use Rattle.std.proofs.lemmas.Map.Entries.{length-keys_of, place_from_lookup, lookup_head, lookup_tail}
use Rattle.std.proofs.lemmas.Option.{slice_get_within, get_or_from_slice_get}
use Rattle.std.proofs.Math.ListN.{get_or-map}
use Rattle.pair_map.specs.Pairs.{Pairs, value_at, IsSet, Rises}

-- The order by which the tree keeps pairs.
abbrev pub pair_cmp : ℕ × ℕ → ℕ × ℕ → Ordering
pair_cmp p q = ordering_then (nat_cmp p.0 q.0) (nat_cmp p.1 q.1)

finds_pair : (a b x y : ℕ) → is_eq (ordering_then (nat_cmp a x) (nat_cmp b y)) ≡ (nat_eq a x && nat_eq b y)
finds_pair a b x y = grind arith

same_found : {V : Type 0} (p q : ℕ × ℕ → Bool) → ((k : ℕ × ℕ) → p k ≡ q k) → (es : Pairs V) → lookup p es ≡ lookup q es
same_found p q same [] = refl
same_found p q same (e ∷ es) = rw (same e.0, same_found p q same es) refl

-- What the tree finds at a pair.
pub value_found : {V : Type 0} (es : Pairs V) (a b : ℕ) → lookup (λ k. is_eq (pair_cmp (a, b) k)) es ≡ value_at es a b
value_found es a b = same_found _ _ (λ k. finds_pair a b k.0 k.1) es

-- One write at a pair.
pub pair_set : {V : Type 0} (old new : Pairs V) (a b : ℕ) (value : Option V)
    → ((k : ℕ × ℕ) → lookup (λ q. is_eq (pair_cmp k q)) new ≡ cond (is_eq (pair_cmp (a, b) k)) value (lookup (λ q. is_eq (pair_cmp k q)) old)) → IsSet old new a b value
pair_set old new a b value updates = λ x y.
    sym (value_found new x y) ∙ updates (x, y) ∙ ap (λ (is : Bool). cond is value (lookup (λ q. is_eq (pair_cmp (x, y) q)) old)) (finds_pair a b x y)
    ∙ ap (λ (was : Option _). cond (nat_eq a x && nat_eq b y) value was) (value_found old x y)

less_pair : (a b x y : ℕ) → ordering_then (nat_cmp a x) (nat_cmp b y) ≡ Less → (a < x) ⊎ ((a ≡ x) × (b < y))
less_pair a b x y less = grind arith

-- Keys in the tree's order.
pub rises : {V : Type 0} (es : Pairs V) → IsStrictlySortedBy pair_cmp (keys_of es) → Rises es
rises {V} es sorted = λ i j d less inside.
    let key : (ℕ × ℕ) × V → ℕ × ℕ = λ e. e.0 in
    let before : pair_cmp (get_or (keys_of es) i (key d)) (get_or (keys_of es) j (key d)) ≡ Less = Less-from_sorted pair_cmp (keys_of es) i j (key d) sorted less (omega (arith, length-keys_of es)) in
    less_pair _ _ _ _ (rw (get_or-map key es i d, get_or-map key es j d) at before)

same_pair : (a b x y : ℕ) → (nat_eq a x && nat_eq b y) ≡ true → (a ≡ x) × (b ≡ y)
same_pair a b x y same = (grind arith, grind arith)

entry_is : {V : Type 0} (p : ℕ × ℕ) (a b : ℕ) (value : V) (e : (ℕ × ℕ) × V) → a ≡ p.0 → b ≡ p.1 → e ≡ ((a, b), value) → (p, value) ≡ e
entry_is {V} p a b value e first second is =
    let from : ℕ → (ℕ × ℕ) × V = λ x. ((x, b), value) in
    let to : ℕ → (ℕ × ℕ) × V = λ y. ((p.0, y), value) in
    sym (is ∙ ap from first ∙ ap to second)

-- The value that a pair has came with it in an entry.
pub Contains-value_at : {V : Type 0} (es : Pairs V) (a b : ℕ) (value : V) → value_at es a b ≡ Some value → Contains es ((a, b), value)
Contains-value_at {V} es a b value found =
    let place = place_from_lookup (λ (k : ℕ × ℕ). nat_eq a k.0 && nat_eq b k.1) es value found in
    let same = same_pair a b place.1.0 place.1.1 place.3 in
    let e : (ℕ × ℕ) × V = ((a, b), value) in
    let entry : (place.1, value) ≡ e = entry_is place.1 a b value e same.0 same.1 refl in
    (place.0, slice_get_within es place.0 (place.1, value) place.2, get_or_from_slice_get es place.0 (place.1, value) e place.2 ∙ entry)

tail_rises : {V : Type 0} (e : (ℕ × ℕ) × V) (es : Pairs V) → Rises (e ∷ es) → Rises es
tail_rises e es rise = λ i j d less inside. rise (suc i) (suc j) d (omega arith) (omega arith)

own_pair : (a b : ℕ) → (nat_eq a a && nat_eq b b) ≡ true
own_pair a b = grind arith

other_pair : (a b x y : ℕ) → (x < a) ⊎ ((x ≡ a) × (y < b)) → (nat_eq a x && nat_eq b y) ≡ false
other_pair a b x y before = grind arith

-- An entry's value is what the map has at its pair.
pub value_at-Contains : {V : Type 0} (es : Pairs V) (e : (ℕ × ℕ) × V) → Rises es → Contains es e → value_at es e.0.0 e.0.1 ≡ Some e.1
value_at-Contains [] e rise (k, inside, is) = absurd (omega arith)
value_at-Contains {V} (f ∷ es) e rise (zero, inside, is) =
    let Found : (ℕ × ℕ) × V → Type 0 = λ x. value_at (f ∷ es) x.0.0 x.0.1 ≡ Some x.1 in
    subst Found is (lookup_head (λ (k : ℕ × ℕ). nat_eq f.0.0 k.0 && nat_eq f.0.1 k.1) f es (own_pair f.0.0 f.0.1))
value_at-Contains {V} (f ∷ es) e rise (suc k, inside, is) =
    let before : (f.0.0 < e.0.0) ⊎ ((f.0.0 ≡ e.0.0) × (f.0.1 < e.0.1)) = rw is at (rise 0 (suc k) e (omega arith) inside) in
    lookup_tail (λ (k : ℕ × ℕ). nat_eq e.0.0 k.0 && nat_eq e.0.1 k.1) f es (other_pair e.0.0 e.0.1 f.0.0 f.0.1 before) ∙ value_at-Contains es e (tail_rises f es rise) (k, omega arith, is)
