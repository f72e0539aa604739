-- Fields found one after another.
use Rattle.std.proofs.Common.{◌≡◌, ℕ, zero, suc, ◌+◌, ◌<◌, Bool, true, false, cond, List, [], ◌∷◌, ◌++◌, length, map, drop, get_or, Option, Some, None, refl, ap, ◌∙◌, arith}
use Rattle.std.specs.List.{filter, flat_map}
use Rattle.httparse.specs.declared.spans.HeaderSpan.{HeaderSpan}
use Rattle.http_heads.specs.Heads.{Field}
use Rattle.http_heads.specs.Fields.{is_named, values_of}
use Rattle.http_heads.specs.Cookies.{first_given, or_next}

-- How much is left to look at.
abbrev pub left_over : Option (List ℕ) → ℕ
left_over None = 0
left_over (Some bytes) = suc (length bytes)

-- The values of the fields from a place on, by the one there and those behind it.
pub values-from : (read : HeaderSpan → Field) (name : List ℕ) (headers : List HeaderSpan) (i : ℕ) (d : HeaderSpan) → i < length headers
    → values_of name (map read (drop i headers)) ≡ cond (is_named name (read (get_or headers i d)))
    ((read (get_or headers i d)).1 ∷ values_of name (map read (drop (i + 1) headers))) (values_of name (map read (drop (i + 1) headers)))
values-from read name [] i d inside = absurd (omega arith)
values-from read name (h ∷ headers) zero d inside = by (is_named name (read h)) (filter (is_named name) (map read headers))
  where
    by : (v : Bool) (others : List Field) → map (λ (f : Field). f.1) (cond v (read h ∷ others) others) ≡ cond v ((read h).1 ∷ map (λ (f : Field). f.1) others) (map (λ (f : Field). f.1) others)
    by true others = refl
    by false others = refl
values-from read name (h ∷ headers) (suc i) d inside =
    let next : suc i + 1 ≡ suc (i + 1) = omega arith in
    rw next (values-from read name headers i d (omega arith))

-- ---- the first answer of items

pub first_given-append : {X Y : Type 0} (f : X → Option Y) (xs ys : List X) → first_given f (xs ++ ys) ≡ or_next (first_given f xs) (first_given f ys)
first_given-append f [] ys = refl
first_given-append {X} {Y} f (x ∷ xs) ys = by (f x) (first_given-append f xs ys)
  where
    by : (o : Option Y) → first_given f (xs ++ ys) ≡ or_next (first_given f xs) (first_given f ys) → or_next o (first_given f (xs ++ ys)) ≡ or_next (or_next o (first_given f xs)) (first_given f ys)
    by (Some y) ih = refl
    by None ih = ih

-- What the fields from a place on give, where the one there gives that much.
module _ (read : HeaderSpan → Field) (name : List ℕ) (parts : List ℕ → List (List ℕ)) (f : List ℕ → Option (List ℕ)) where
  abbrev given_from : List HeaderSpan → Option (List ℕ)
  given_from headers = first_given f (flat_map parts (values_of name (map read headers)))

  pub given-passed : (headers : List HeaderSpan) (i : ℕ) (d : HeaderSpan) → i < length headers → is_named name (read (get_or headers i d)) ≡ false
      → given_from (drop i headers) ≡ given_from (drop (i + 1) headers)
  given-passed headers i d inside other =
      let rest = values_of name (map read (drop (i + 1) headers)) in
      let values : values_of name (map read (drop i headers)) ≡ rest = values-from read name headers i d inside ∙ ap (λ v. cond v ((read (get_or headers i d)).1 ∷ rest) rest) other in
      ap (λ (vs : List (List ℕ)). first_given f (flat_map parts vs)) values

  pub given-here : (headers : List HeaderSpan) (i : ℕ) (d : HeaderSpan) (o : Option (List ℕ)) → i < length headers → is_named name (read (get_or headers i d)) ≡ true
      → first_given f (parts (read (get_or headers i d)).1) ≡ o → given_from (drop i headers) ≡ or_next o (given_from (drop (i + 1) headers))
  given-here headers i d o inside named gives =
      let here = read (get_or headers i d) in
      let rest = values_of name (map read (drop (i + 1) headers)) in
      let values : values_of name (map read (drop i headers)) ≡ here.1 ∷ rest = values-from read name headers i d inside ∙ ap (λ v. cond v (here.1 ∷ rest) rest) named in
      ap (λ (vs : List (List ℕ)). first_given f (flat_map parts vs)) values
      ∙ first_given-append f (parts (read (get_or headers i d)).1) (flat_map parts (values_of name (map read (drop (i + 1) headers))))
      ∙ ap (λ (x : Option (List ℕ)). or_next x (given_from (drop (i + 1) headers))) gives
