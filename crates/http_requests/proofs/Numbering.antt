-- Numbers read one after another.
use Rattle.std.proofs.Common.{◌≡◌, ℕ, List, [], ◌∷◌, ◌++◌, Option, Some, None, refl, sym, ap, ◌∙◌, append_assoc}
use Rattle.std.proofs.lemmas.List.{append-nil}
use Rattle.text_lines.specs.Numbers.{number}
use Rattle.http_requests.specs.Actions.{numbers, or_none}

-- Numbers that were read before those that are read yet.
abbrev pub onto_all : List ℕ → Option (List ℕ) → Option (List ℕ)
onto_all front None = None
onto_all front (Some others) = Some (front ++ others)

pub onto_none : (o : Option (List ℕ)) → onto_all [] o ≡ o
onto_none None = refl
onto_none (Some others) = refl

pub number-more : (front : List ℕ) (word : List ℕ) (others : List (List ℕ)) (n : ℕ) → Some n ≡ number word
    → onto_all front (numbers (word ∷ others)) ≡ onto_all (front ++ n ∷ []) (numbers others)
number-more front word others n h = by (numbers others)
    ((ap (λ (o : Option ℕ). onto_all front (or_none o (numbers others))) (sym h)))
  where
    by : (o : Option (List ℕ)) → onto_all front (or_none (number word) (numbers others)) ≡ onto_all front (or_none (Some n) (numbers others)) → onto_all front (numbers (word ∷ others)) ≡ onto_all (front ++ n ∷ []) (numbers others)
    by o e = e ∙ put (numbers others)
      where
        put : (o : Option (List ℕ)) → onto_all front (or_none (Some n) o) ≡ onto_all (front ++ n ∷ []) o
        put None = refl
        put (Some others) = ap (λ (l : List ℕ). Some l) (sym (append_assoc front (n ∷ []) others))

pub number-none : (front : List ℕ) (word : List ℕ) (others : List (List ℕ)) → None ≡ number word → onto_all front (numbers (word ∷ others)) ≡ None
number-none front word others h = ap (λ (o : Option ℕ). onto_all front (or_none o (numbers others))) (sym h)

pub number-end : (front : List ℕ) → onto_all front (numbers []) ≡ Some front
number-end front = ap (λ (l : List ℕ). Some l) (append-nil front)
