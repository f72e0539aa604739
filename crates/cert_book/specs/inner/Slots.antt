-- A block of the book: its own, or one that frozen graphs share. The crate's own functions alone speak of it.
use Rattle.std.specs.Prelude.{ℕ, ◌≡◌, true, List, map, slice_index_or}
use Rattle.frozen.specs.Parts.{Part, no_part}
use Rattle.cert_book.specs.declared.slots.Slot.{Slot}
use Rattle.cert_book.specs.declared.slots.Slot.TheVariants.{Own, Shared, Moved}

abbrev pub slot_part : Slot → Part
slot_part (Own block) = block.part
slot_part (Shared block) = block.value.part
slot_part Moved = no_part

abbrev pub slot_parts : List Slot → List Part
slot_parts slots = map slot_part slots

abbrev pub slot_at : List Slot → ℕ → Slot
slot_at slots k = slice_index_or slots k Moved

-- It has a block.
abbrev pub HasBlock : Slot → Type 0
HasBlock (Own block) = Unit {0}
HasBlock (Shared block) = Unit {0}
HasBlock Moved = ⊥

-- It is the book's own.
abbrev pub IsOwn : Slot → Type 0
IsOwn (Own block) = Unit {0}
IsOwn (Shared block) = ⊥
IsOwn Moved = ⊥

-- Its block can be written, and has room for one account and one certificate.
abbrev pub IsReady : Slot → Type 0
IsReady (Own block) = block.has_room ≡ true
IsReady (Shared block) = ⊥
IsReady Moved = ⊥
