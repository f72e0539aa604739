-- What is made of a list, one item after another, comes to the same lines.
use Rattle.std.proofs.Common.{◌≡◌, ◌<◌, ◌+◌, ℕ, List, [], ◌∷◌, ◌++◌, length, take, get_or, ap, sym, ◌∙◌}
use Rattle.std.specs.List.{flat_map}
use Rattle.std.proofs.lemmas.List.{flat_map_more, take_more}
use Rattle.std.proofs.Math.Seq.{take-length}

-- One item more.
pub made_more : {X Y : Type 0} (f : Y → List ℕ) (g : X → List ℕ) (before after : List Y) (xs : List X) (i : ℕ) (x : X) (y : Y) → i < length xs → get_or xs i x ≡ x →
    flat_map f before ≡ flat_map g (take i xs) → after ≡ before ++ y ∷ [] → f y ≡ g x → flat_map f after ≡ flat_map g (take (i + 1) xs)
made_more f g before after xs i x y inside is so more same =
    ap (flat_map f) more ∙ sym (flat_map_more f [] before y)
    ∙ ap (λ front. front ++ f y) so ∙ ap (λ line. flat_map g (take i xs) ++ line) same
    ∙ flat_map_more g [] (take i xs) x ∙ ap (flat_map g) (ap (λ rest. take i xs ++ rest ∷ []) (sym is) ∙ sym (take_more xs i x inside))

-- All of them.
pub made_all : {X Y : Type 0} (f : Y → List ℕ) (g : X → List ℕ) (made : List Y) (xs : List X) (n : ℕ) → n ≡ length xs →
    flat_map f made ≡ flat_map g (take n xs) → flat_map f made ≡ flat_map g xs
made_all f g made xs n all so = so ∙ ap (flat_map g) (ap (λ k. take k xs) all ∙ take-length xs)
