-- The first part of bytes, by the place where it ends.
use Rattle.std.proofs.Common.{◌≡◌, ℕ, ◌+◌, ◌-◌, ◌<◌, ◌≤◌, Bool, true, false, List, [], ◌∷◌, Some, None, length, take, drop, refl, ap, sym, ◌∙◌, arith, nat_lt, cond}
use Rattle.std.specs.List.{position, position_or_len, before_first, after_first, slice_split}
use Rattle.std.proofs.lemmas.List.{take_rest, drop-drop}
use Rattle.std.proofs.lemmas.List.Sums.{fails_before_first, prefix_len-le-length}
use Rattle.std.proofs.lemmas.List.Splits.{slice_split_none, slice_split_first}

none_place : (n l : ℕ) (b : Bool) → nat_lt n l ≡ b → n ≤ l → cond b (Some n) None ≡ None → n ≡ l
none_place n l true e le h = grind arith
none_place n l false e le h = grind arith

some_place : (n l i : ℕ) (b : Bool) → nat_lt n l ≡ b → cond b (Some n) None ≡ Some i → (i ≡ n) × (n < l)
some_place n l i true e h = grind arith
some_place n l i false e h = grind arith

at_none : (p : ℕ → Bool) (xs : List ℕ) → position p xs ≡ None → position_or_len p xs ≡ length xs
at_none p xs h = none_place (position_or_len p xs) (length xs) (nat_lt (position_or_len p xs) (length xs)) refl (prefix_len-le-length _ xs) h

at_some : (p : ℕ → Bool) (xs : List ℕ) (i : ℕ) → position p xs ≡ Some i → (i ≡ position_or_len p xs) × (position_or_len p xs < length xs)
at_some p xs i h = some_place (position_or_len p xs) (length xs) i (nat_lt (position_or_len p xs) (length xs)) refl h

-- Where nothing parts them, they are one part.
pub cut-last : (p : ℕ → Bool) (xs : List ℕ) → None ≡ position p xs → slice_split p xs ≡ xs ∷ []
cut-last p xs h =
    let end : position_or_len p xs ≡ length xs = at_none p xs (sym h) in
    slice_split_none p xs (λ k d l. fails_before_first p xs k d (omega arith))

-- The first part and what is behind the separator, as two cuts give them.
pub cut-at : (p : ℕ → Bool) (xs ys zs : List ℕ) (n : ℕ) → Some n ≡ position p xs → ys ≡ take n xs → zs ≡ drop n xs
    → slice_split p xs ≡ ys ∷ slice_split p (take (length zs - 1) (drop 1 zs))
cut-at p xs ys zs n found y z =
    let e : n ≡ position_or_len p xs = (at_some p xs n (sym found)).0 in
    let less : position_or_len p xs < length xs = (at_some p xs n (sym found)).1 in
    let rest : take (length zs - 1) (drop 1 zs) ≡ after_first p xs = take_rest zs 1 ∙ ap (drop 1) z ∙ drop-drop 1 n xs ∙ ap (λ k. drop (k + 1) xs) e in
    let front : ys ≡ before_first p xs = y ∙ ap (λ k. take k xs) e in
    rw (rest, front) (slice_split_first p xs 0 less)

-- The place of a byte lies within.
pub place-within : (p : ℕ → Bool) (xs : List ℕ) (n : ℕ) → Some n ≡ position p xs → n < length xs
place-within p xs n h = let both = at_some p xs n (sym h) in let same = both.0 in let less = both.1 in omega arith
