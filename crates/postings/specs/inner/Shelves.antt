-- Lists of places, by number.
use Rattle.std.specs.Prelude.{ℕ, List, [], slice_index_or}

-- Places among a site's posts, and how many more fit before memory is taken.
pub record Shelf : Type 0 where
  pub places : List ℕ
  pub room : ℕ

abbrev pub empty : Shelf
empty = record { places = []; room = 0 }

-- The places on the shelf of a number. A shelf past the last is empty.
abbrev pub places_at : List Shelf → ℕ → List ℕ
places_at shelves n = (slice_index_or shelves n empty).places

-- How many more fit there.
abbrev pub room_at : List Shelf → ℕ → ℕ
room_at shelves n = (slice_index_or shelves n empty).room
