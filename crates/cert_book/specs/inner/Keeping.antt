-- What the book keeps beside its blocks, and for which addition there is room. The crate's own functions alone speak of it.
use Rattle.std.specs.Prelude.{ℕ, Bool, ◌≡◌, ◌<◌, List, Option, Some, None, All, length, if◌then◌else◌}
use Rattle.trust_types.specs.Levels.{is_grade}
use Rattle.trust_types.specs.Names.{IsName}
use Rattle.trust_types.specs.Sum.{sum_below}
use Rattle.name_index.specs.Numbers.{Numbers, AreNumbersOf}
use Rattle.frozen.specs.Parts.{Part}
use Rattle.frozen.specs.Sites.{names, accounts, is_seed, standing}
use Rattle.cert_book.specs.declared.rooms.Room.{Room}
use Rattle.cert_book.specs.inner.Blocks.{Blocks}
use Rattle.cert_book.specs.inner.Takings.{Takings, givers_of, room_at, has}

-- How many of the accounts before a number are seeds.
abbrev pub seeds_before : (ℕ → Bool) → ℕ → ℕ
seeds_before seed n = sum_below n (λ a. if seed a then 1 else 0)

-- What is kept beside the parts tells of them: the numbers of the names, who certifies each account, and how many seeds there are.
pub record AreKept (ps : List Part) (index : Numbers) (takings : Takings) (seed_count : ℕ) : Type 0 where
  pub named : All IsName (names ps)
  pub numbers : AreNumbersOf (names ps) index.entries
  pub lists : length takings.lists ≡ accounts ps
  pub givers : (a b : ℕ) → has (givers_of takings b) a ≡ is_grade (standing ps a b)
  pub seeds : seed_count ≡ seeds_before (is_seed ps) (accounts ps)

-- The account whose block an addition writes, of so many accounts: the author, else the subject, else the one that joins.
abbrev pub written : ℕ → Option ℕ → Option ℕ → ℕ
written accounts (Some author) subject = author
written accounts None (Some subject) = subject
written accounts None None = accounts

-- Room beside the blocks: for a name and a list where an account joins, for a giver where one certifies another.
abbrev pub HasRoomBeside : Option ℕ → Option ℕ → Numbers → Takings → Type 0
HasRoomBeside None None numbers takings = (0 < numbers.room) × (0 < takings.room)
HasRoomBeside (Some author) (Some subject) numbers takings = 0 < room_at takings subject
HasRoomBeside (Some author) None numbers takings = Unit {0}
HasRoomBeside None (Some subject) numbers takings = Unit {0}

abbrev pub HasRoom : Room → Blocks → Numbers → Takings → Type 0
HasRoom room blocks numbers takings =
    (blocks.ready ≡ Some (written (accounts blocks.parts) room.author room.subject)) × HasRoomBeside room.author room.subject numbers takings
