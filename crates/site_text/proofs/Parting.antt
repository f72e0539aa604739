-- The lines of a text up to the first that passes a test, and from it on.
use Rattle.std.proofs.Common.{ℕ, suc, ◌≡◌, ◌+◌, Bool, List, [], ◌∷◌, true, false, Option, Some, None, length, take, drop, refl, ap, sym, ◌∙◌, arith}
use Rattle.std.specs.List.{before_first, position_or_len}
use native.Mathlib.Numerals.{unary_clauses}
use Rattle.site_text.specs.inner.Parts.{claim_from, claim_number}

-- The lines from that one on.
abbrev pub from_first : (List ℕ → Bool) → List (List ℕ) → List (List ℕ)
from_first p ls = drop (position_or_len p ls) ls

take-next : {X : Type 0} (m n : ℕ) (x : X) (xs : List X) → m ≡ suc n → take m (x ∷ xs) ≡ x ∷ take n xs
take-next m n x xs e = rw e refl

drop-next : {X : Type 0} (m n : ℕ) (x : X) (xs : List X) → m ≡ suc n → drop m (x ∷ xs) ≡ drop n xs
drop-next m n x xs e = rw e refl

pub before-more : (p : List ℕ → Bool) (line : List ℕ) (others : List (List ℕ)) → p line ≡ false → before_first p (line ∷ others) ≡ line ∷ before_first p others
before-more p line others e = rw e (take-next (1 + position_or_len p others) (position_or_len p others) line others (omega arith))

pub before-found : (p : List ℕ → Bool) (line : List ℕ) (others : List (List ℕ)) → p line ≡ true → before_first p (line ∷ others) ≡ []
before-found p line others e = rw e refl

pub from-more : (p : List ℕ → Bool) (line : List ℕ) (others : List (List ℕ)) → p line ≡ false → from_first p (line ∷ others) ≡ from_first p others
from-more p line others e = rw e (drop-next (1 + position_or_len p others) (position_or_len p others) line others (omega arith))

pub from-found : (p : List ℕ → Bool) (line : List ℕ) (others : List (List ℕ)) → p line ≡ true → from_first p (line ∷ others) ≡ line ∷ others
from-found p line others e = rw e refl

-- Where none passes, all lines come before.
abbrev pub never : List ℕ → Bool
never line = false

pub before-never : (ls : List (List ℕ)) → before_first never ls ≡ ls
before-never [] = refl
before-never (line ∷ others) = before-more never line others refl ∙ ap (λ ls. line ∷ ls) (before-never others)

pub from-never : (ls : List (List ℕ)) → from_first never ls ≡ []
from-never [] = refl
from-never (line ∷ others) = from-more never line others refl ∙ from-never others

-- So then all of them were read, behind so many.
pub all-read : (first : Option (List ℕ)) (ls rest : List (List ℕ)) (before read : ℕ) → from_first never ls ≡ claim_from first rest → claim_number first read ≡ before + 1 + length (before_first never ls) → read ≡ before + length ls
all-read None ls rest before read e number = omega (arith, number, ap length (before-never ls))
all-read (Some line) ls rest before read e number = let clash : [] ≡ line ∷ rest = sym (from-never ls) ∙ e in cc

pub length-first : {X : Type 0} (xs : List X) (y : X) (ys : List X) → xs ≡ y ∷ ys → length xs ≡ length ys + 1
length-first xs y ys e = rw e (simp unary_clauses refl)
