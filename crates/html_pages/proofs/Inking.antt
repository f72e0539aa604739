-- What a pen puts down one after another it puts down at once.
use Rattle.std.proofs.Common.{◌≡◌, ◌<◌, ◌+◌, ℕ, List, [], ◌∷◌, ◌++◌, length, take, get_or, ap, sym, ◌∙◌, append_assoc, add_assoc, zero-add, length-append, arith}
use Rattle.std.specs.List.{flat_map}
use Rattle.std.proofs.lemmas.List.{append-nil, flat_map_more, take_more}
use Rattle.std.proofs.Math.Seq.{take-length}
use Rattle.html_pages.specs.Inks.{Ink, Counted, Written, inked, amount, text_of}

pub inked_twice : (ink : Ink) (a b : List ℕ) → inked (inked ink a) b ≡ inked ink (a ++ b)
unfolding inked
inked_twice (Counted n) a b = ap Counted (add_assoc n (length a) (length b) ∙ ap (λ k. n + k) (sym (length-append a b)))
inked_twice (Written text) a b = ap Written (append_assoc text a b)

pub inked_nothing : (ink : Ink) → ink ≡ inked ink []
unfolding inked
inked_nothing (Counted n) = let same : n ≡ n + 0 = omega arith in ap Counted same
inked_nothing (Written text) = ap Written (sym (append-nil text))

-- One line more of a list.
pub line_more : {X : Type 0} (line : X → List ℕ) (begun before after : Ink) (xs : List X) (i : ℕ) (x : X) → i < length xs → get_or xs i x ≡ x →
    before ≡ inked begun (flat_map line (take i xs)) → after ≡ inked before (line x) → after ≡ inked begun (flat_map line (take (i + 1) xs))
line_more line begun before after xs i x inside is so more =
    more ∙ ap (λ ink. inked ink (line x)) so ∙ inked_twice begun (flat_map line (take i xs)) (line x)
    ∙ ap (inked begun) (flat_map_more line [] (take i xs) x ∙ ap (flat_map line) (ap (λ y. take i xs ++ y ∷ []) (sym is) ∙ sym (take_more xs i x inside)))

-- All of them.
pub lines_done : {X : Type 0} (line : X → List ℕ) (begun after : Ink) (xs : List X) (n : ℕ) → n ≡ length xs →
    after ≡ inked begun (flat_map line (take n xs)) → after ≡ inked begun (flat_map line xs)
lines_done line begun after xs n all so = so ∙ ap (λ ys. inked begun (flat_map line ys)) (ap (λ k. take k xs) all ∙ take-length xs)

-- A text whose body was counted first, so that the head could tell its length.
pub responded : (head : ℕ → List ℕ) (body shown text : List ℕ) (n : ℕ) (c₀ c₁ p₀ p₁ p₂ : Ink) → c₀ ≡ Counted 0 → c₁ ≡ inked c₀ body → n ≡ amount c₁ →
    p₀ ≡ Written [] → p₁ ≡ inked p₀ (head n) → p₂ ≡ inked p₁ shown → text ≡ text_of p₂ → text ≡ head (length body) ++ shown
unfolding inked
responded head body shown text n c₀ c₁ p₀ p₁ p₂ none counted is begun headed written taken =
    let all : n ≡ length body = is ∙ ap amount counted ∙ ap (λ c. amount (inked c body)) none ∙ zero-add (length body) in
    taken ∙ ap text_of written ∙ ap (λ p. text_of (inked p shown)) headed ∙ ap (λ p. text_of (inked (inked p (head n)) shown)) begun
    ∙ ap (λ k. head k ++ shown) all
