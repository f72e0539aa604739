-- The front of a text whose bytes pass a test, and plain text.
use Rattle.std.proofs.Common.{ℕ, suc, Bool, true, false, ◌≡◌, ◌≤◌, ◌<◌, ◌+◌, ◌-◌, List, [], ◌∷◌, ◌++◌, length, take, drop, get_or, refl, sym, ap, subst, ◌∙◌, arith, cond, append_assoc}
use Rattle.std.specs.Prelude.{◌&&◌, ◌==◌, not, codes}
use Rattle.std.specs.List.{list_all, prefix_len, take_while}
use Rattle.std.proofs.lemmas.Bool.Decides.{nat_tests}
use Rattle.std.proofs.lemmas.List.{take_all}
use Rattle.std.proofs.lemmas.List.Folds.{length-prefix_len}
use Rattle.std.proofs.lemmas.List.Sums.{prefix_len-le-length, take_while-cons}
use Rattle.markup.specs.Escapes.{is_plain, escape_of, escaped}
use Rattle.markup.specs.inner.Plain.{behind_plain}

-- For the functions that split a text behind such a front.
pub ruleset fronts = (prefix_len-le-length)

pub length-front : (p : ℕ → Bool) (xs : List ℕ) → length (take_while p xs) ≤ length xs
length-front p xs = subst (λ n. n ≤ length xs) (sym (length-prefix_len p xs)) (prefix_len-le-length p xs)

passes-by : (p : ℕ → Bool) (x : ℕ) (front : List ℕ) (b : Bool) → p x ≡ b → list_all p front ≡ true → list_all p (cond b (x ∷ front) []) ≡ true
passes-by p x front true e all = ap (λ b. b && list_all p front) e ∙ all
passes-by p x front false e all = refl

pub front-passes : (p : ℕ → Bool) (xs : List ℕ) → list_all p (take_while p xs) ≡ true
front-passes p [] = refl
front-passes p (x ∷ xs) = ap (list_all p) (take_while-cons p x xs) ∙ passes-by p x (take_while p xs) (p x) refl (front-passes p xs)

-- Bytes of longer characters are plain.
pub high-plain : (c : ℕ) → 128 ≤ c → is_plain c ≡ true
high-plain c high = grind (arith, nat_tests)

-- What is done with plain text byte by byte is done with its front at once.
module _ (f : List ℕ → List ℕ) (one : (x : ℕ) (xs : List ℕ) → is_plain x ≡ true → f (x ∷ xs) ≡ x ∷ f xs) where
  then-by : (x : ℕ) (xs : List ℕ) (b : Bool) → is_plain x ≡ b → take_while is_plain xs ++ f (behind_plain xs) ≡ f xs →
      take (cond b (1 + prefix_len is_plain xs) 0) (x ∷ xs) ++ f (drop (cond b (1 + prefix_len is_plain xs) 0) (x ∷ xs)) ≡ f (x ∷ xs)
  then-by x xs true e others =
      let next : 1 + prefix_len is_plain xs ≡ suc (prefix_len is_plain xs) = omega arith in
      ap (λ n. take n (x ∷ xs) ++ f (drop n (x ∷ xs))) next ∙ ap (λ out. x ∷ out) others ∙ sym (one x xs e)
  then-by x xs false e others = refl

  pub front-then : (text : List ℕ) → take_while is_plain text ++ f (behind_plain text) ≡ f text
  front-then [] = refl
  front-then (x ∷ xs) = then-by x xs (is_plain x) refl (front-then xs)

  pub after-front : (old new text rest whole : List ℕ) → new ≡ old ++ take_while is_plain text → rest ≡ behind_plain text → old ++ f text ≡ whole → new ++ f rest ≡ whole
  after-front old new text rest whole written is so_far =
      ap (λ rest. new ++ f rest) is ∙ ap (λ new. new ++ f (behind_plain text)) written
      ∙ append_assoc old (take_while is_plain text) (f (behind_plain text)) ∙ ap (λ out. old ++ out) (front-then text) ∙ so_far

  pub high-then : (bytes rest : List ℕ) → ((k : ℕ) → k < length bytes → 128 ≤ get_or bytes k 0) → f (bytes ++ rest) ≡ bytes ++ f rest
  high-then [] rest high = refl
  high-then (b ∷ bytes) rest high =
      one b (bytes ++ rest) (high-plain b (high 0 (omega arith))) ∙ ap (λ out. b ∷ out) (high-then bytes rest (λ k below. high (suc k) (omega arith)))

-- A plain byte stands for itself.
escape-by : (c : ℕ) (a b d e : Bool) → not a && not b && not d && not e ≡ true → cond a (codes "&amp;") (cond b (codes "&lt;") (cond d (codes "&gt;") (cond e (codes "&quot;") (c ∷ [])))) ≡ c ∷ []
escape-by c true b d e h = absurd (cc)
escape-by c false true d e h = absurd (cc)
escape-by c false false true e h = absurd (cc)
escape-by c false false false true h = absurd (cc)
escape-by c false false false false h = refl

pub escape_of-plain : (c : ℕ) → is_plain c ≡ true → escape_of c ≡ c ∷ []
unfolding escape_of
escape_of-plain c e = escape-by c (c == 38) (c == 60) (c == 62) (c == 34) e

pub escaped-cons : (x : ℕ) (xs : List ℕ) → is_plain x ≡ true → escaped (x ∷ xs) ≡ x ∷ escaped xs
escaped-cons x xs e = ap (λ front. front ++ escaped xs) (escape_of-plain x e)

-- After one byte, and then `&text[1..]`.
abbrev pub behind_byte : List ℕ → List ℕ
behind_byte text = take (length text - 1) (drop 1 text)

pub after-byte : (old new text whole : List ℕ) → 0 < length text → new ≡ old ++ escape_of (get_or text 0 0) → old ++ escaped text ≡ whole → new ++ escaped (behind_byte text) ≡ whole
after-byte old new [] whole more written so_far = absurd (omega arith)
after-byte old new (b ∷ text) whole more written so_far =
    ap (λ rest. new ++ escaped rest) (take_all (length (b ∷ text) - 1) text (omega arith))
    ∙ ap (λ new. new ++ escaped text) written ∙ append_assoc old (escape_of b) (escaped text) ∙ so_far
