-- What the rule of the table says of one seat.
use Rattle.std.specs.Prelude.{ℕ, ◌≡◌, ◌+◌, ◌-◌, ◌*◌, ◌/◌, ◌<◌, ◌≤◌, Bool, true, false, List, [], length}
use Rattle.trust_types.specs.Tables.{Table}
use Rattle.site_history.specs.Histories.{History, places, publications, just_opened}
use Rattle.site_history.specs.Legal.{IsLegal}
use Rattle.turn_book.specs.Seats.{StartsWith, made_by}

-- A seat's history and numbers, and whether it has the turn.
pub record Known : Type 0 where
  pub seen : History
  pub base : ℕ
  pub low : ℕ
  pub high : ℕ
  pub turn : Bool

abbrev pub knows : History → ℕ → ℕ → ℕ → Bool → Known
knows seen base low high turn = record { seen = seen; base = base; low = low; high = high; turn = turn }

abbrev pub no_history : History
no_history = just_opened (record { levels = 0; entries = [] }) []

abbrev pub nothing : Known
nothing = knows no_history 0 0 0 false

abbrev pub seeing : Known → History → Known
seeing v h = knows h v.base v.low v.high v.turn

abbrev pub turning : Known → Bool → Known
turning v turn = knows v.seen v.base v.low v.high turn

abbrev pub middle : Known → ℕ
middle v = v.low + (v.high - v.low) / 2

abbrev pub lower : Known → Known
lower v = knows v.seen v.base v.low (middle v) v.turn

abbrev pub upper : Known → Known
upper v = knows v.seen v.base (middle v) v.high false

-- The front word of a history.
abbrev pub front : History → ℕ
front h = places h * 1048576 + length (publications h)

-- No entry from base on has a number between these two.
abbrev pub Unborne : ℕ → ℕ → ℕ → History → Type 0
Unborne base low high h = (n : ℕ) → low < n → n < high → made_by base n h ≡ []

-- The history is legal and begins with what the seat has seen, and no new entry has one of its numbers.
pub record Later (v : Known) (h : History) : Type 0 where
  pub legal : IsLegal h
  pub begins : StartsWith h v.seen
  pub grown : v.base ≤ places h
  pub mine : made_by v.base v.low h ≡ made_by v.base v.low v.seen
  pub unborne : Unborne v.base v.low v.high h

-- A seat between its calls.
pub record IsIdle (v : Known) : Type 0 where
  pub some_number : v.low < v.high
  pub small : v.high ≤ 9223372036854775808
  pub off : v.turn ≡ false
  pub legal : IsLegal v.seen
  pub grown : v.base ≤ places v.seen
  pub unborne : Unborne v.base v.low v.high v.seen
