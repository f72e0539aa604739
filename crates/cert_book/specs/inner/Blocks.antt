-- The blocks of the book, and what one change leaves of them. The crate's own functions alone speak of it.
use Rattle.std.specs.Prelude.{ℕ, true, ◌≡◌, ◌<◌, ◌+◌, ◌/◌, List, [], ◌∷◌, ◌++◌, Option, Some, None, All, fold, length}
use Rattle.trust_types.specs.declared.levels.Level.{Level}
use Rattle.trust_types.specs.Changes.{Change, Certified, seed_after, level_after, names as names_of, certs_among}
use Rattle.frozen.specs.Parts.{Part, PartWithRoom, no_part, count}
use Rattle.frozen.specs.Sites.{AreParts, part_at, names, accounts, is_seed, standing, certs}
use Rattle.frozen.specs.Writes.{graded}
use Rattle.cert_book.specs.declared.slots.Slot.{Slot}
use Rattle.cert_book.specs.inner.Slots.{slot_parts, slot_at, HasBlock, IsReady}

-- The parts of the site, and the account whose block can be written; or that is to join.
pub record Blocks : Type 0 where
  pub parts : List Part
  pub ready : Option ℕ

-- A block without accounts that has room for one.
abbrev pub IsSpare : Option PartWithRoom → Type 0
IsSpare None = ⊥
IsSpare (Some block) = (block.part ≡ no_part) × (block.has_room ≡ true)

-- The account's block can be written, or one is spare where the account would begin it.
abbrev pub IsReadyFor : List Slot → Option PartWithRoom → Type 0 → Option ℕ → Type 0
IsReadyFor slots spare place None = Unit {0}
IsReadyFor slots spare place (Some account) =
    (account / 64 < length slots → IsReady (slot_at slots (account / 64))) × (account / 64 ≡ length slots → IsSpare spare × place)

-- The slots hold the blocks of a site, none without accounts, and these counts are theirs.
pub record AreSlots (slots : List Slot) (account_count cert_count : ℕ) : Type 0 where
  pub parts : AreParts (slot_parts slots)
  pub held : All HasBlock slots
  pub used : (k : ℕ) → k < length slots → 0 < count (part_at (slot_parts slots) k)
  pub counts_accounts : account_count ≡ accounts (slot_parts slots)
  pub counts_certs : cert_count ≡ certs (slot_parts slots)

-- The level of a pair after one more change.
abbrev pub standing_after : ℕ → ℕ → Level → Change → Level
standing_after a b level change = fold (level_after a b) level (certs_among (change ∷ []))

-- How many certificates a change takes away, and how many it gives.
abbrev pub replaced : List Part → Change → ℕ
replaced ps (Certified c) = graded (standing ps c.from c.to)
replaced ps _ = 0

abbrev pub placed : Change → ℕ
placed (Certified c) = graded c.level
placed _ = 0

-- The parts took one change, and nothing else.
pub record IsAfter (change : Change) (old new : List Part) : Type 0 where
  pub names : names new ≡ names old ++ names_of (change ∷ [])
  pub seeds : (a : ℕ) → is_seed new a ≡ seed_after a (is_seed old a) change
  pub standing : (a b : ℕ) → standing new a b ≡ standing_after a b (standing old a b) change
  pub certs : certs new + replaced old change ≡ certs old + placed change
