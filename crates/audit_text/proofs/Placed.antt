-- An item of a list, and those before it.
use Rattle.std.proofs.Common.{◌≡◌, ℕ, ◌<◌, List, ◌∷◌, ◌++◌, length, get_or, All, AllPairs, subst, arith}
use Rattle.std.proofs.lemmas.List.{get_or_append_left, length-append}
use Rattle.std.proofs.Math.Seq.{get_or-append_seam}

pub record IsPlaced {X : Type 0} (before : List X) (x : X) (all : List X) : Type 0 where
  pub within : length before < length all
  pub at : (d : X) → get_or all (length before) d ≡ x
  pub front : (k : ℕ) (d : X) → k < length before → get_or all k d ≡ get_or before k d

pub placed : {X : Type 0} (before : List X) (x : X) (rest all : List X) → before ++ x ∷ rest ≡ all → IsPlaced before x all
placed {X} before x rest all e =
    let P : List X → Type 0 = λ xs. IsPlaced before x xs in
    subst P e (record {
      within = omega (arith, length-append before (x ∷ rest));
      at = λ d. get_or-append_seam before x rest d;
      front = λ k d below. get_or_append_left before (x ∷ rest) d k below;
    })

-- What holds of all holds of it.
pub of_all : {X : Type 0} (P : X → Type 0) (before : List X) (x : X) (all : List X) → IsPlaced before x all → All P all → P x
of_all P before x all is each = subst P (is.at x) (each (length before) x is.within)

-- What holds of pairs holds of each before it.
pub of_pairs : {X : Type 0} (R : X → X → Type 0) (before : List X) (x : X) (all : List X) → IsPlaced before x all → AllPairs R all → All (λ y. R y x) before
of_pairs {X} R before x all is each k d below =
    let first : R (get_or all k d) (get_or all (length before) d) = each k (length before) d below is.within in
    let P : X → Type 0 = λ y. R y x in
    let Q : X → Type 0 = λ y. R (get_or all k d) y in
    subst P (is.front k d below) (subst Q (is.at d) first)
