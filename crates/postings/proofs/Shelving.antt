-- Shelves that are added.
use Rattle.std.proofs.Common.{◌≡◌, ℕ, zero, suc, List, [], ◌∷◌, ◌++◌, refl}
use Rattle.postings.specs.inner.Shelves.{Shelf, places_at}

-- One more empty shelf changes none.
pub one_more : (shelves : List Shelf) (shelf : Shelf) (m : ℕ) → shelf.places ≡ [] → places_at (shelves ++ shelf ∷ []) m ≡ places_at shelves m
one_more [] shelf zero none = none
one_more [] shelf (suc m) none = refl
one_more (first ∷ shelves) shelf zero none = refl
one_more (first ∷ shelves) shelf (suc m) none = one_more shelves shelf m none
