-- A router whose parameters stand at the end of their routes, and hold a whole path part.
use Rattle.std.specs.Prelude.{◌≡◌, ℕ, List, [], ◌∷◌, Option, None, Bool, true, false, cond, ◌==◌, ◌&&◌, ◌⊎◌, not, nat_lt, length}
use Rattle.matchit.specs.Rows.{RowsOf}
use Rattle.matchit.specs.Seek.{own, step, or_else, has_slash}

-- literal bytes, and at most one parameter, at the end
abbrev pub is_flat : List ℕ → Bool
is_flat [] = true
is_flat (x ∷ t) = cond (x == 256) (length t == 0) (nat_lt x 256 && is_flat t)

module _ {K : Type 0} where
  abbrev pub all_flat : RowsOf K → Bool
  all_flat [] = true
  all_flat ((t, k) ∷ rest) = is_flat t && all_flat rest

  -- rows with nothing left to read
  abbrev pub all_done : RowsOf K → Bool
  all_done [] = true
  all_done (([], k) ∷ rest) = all_done rest
  all_done ((x ∷ t, k) ∷ rest) = false

  -- a literal byte goes first, and a parameter takes the last path part
  abbrev pub walk : RowsOf K → List ℕ → Option K
  walk rs [] = own rs
  walk rs (b ∷ path) = or_else (walk (step b rs) path) (cond (has_slash (b ∷ path)) None (own (step 256 rs)))

-- the path is the pattern, or its literal part and then one path part that is not empty
abbrev pub takes : List ℕ → List ℕ → Bool
takes [] [] = true
takes [] (b ∷ p) = false
takes (x ∷ t) [] = false
takes (x ∷ t) (b ∷ p) = cond (x == 256) (length t == 0 && not (has_slash (b ∷ p))) (x == b && takes t p)

module _ {K : Type 0} where
  -- one of the rows
  abbrev pub Has : List ℕ → K → RowsOf K → Type 0
  Has t k [] = ⊥
  Has t k ((s, j) ∷ rest) = ((t ≡ s) × (k ≡ j)) ⊎ Has t k rest

  -- some row takes the path and gives this answer
  abbrev pub IsTaken : RowsOf K → List ℕ → K → Type 0
  IsTaken rs path k = (t : List ℕ) × Has t k rs × (takes t path ≡ true)
