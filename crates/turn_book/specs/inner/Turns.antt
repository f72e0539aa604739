-- The rule of the table, and what its steps tell. Word 0 is the front of the book's history, word 1 the turn, 0 or the holder's number plus 1, and slot 0
-- has the book while nobody has the turn.
use Rattle.std.specs.Prelude.{ℕ, ◌≡◌, ◌≢◌, ◌⊎◌, ◌+◌, ◌*◌, ◌<◌, ◌≤◌, Bool, true, false, List, [], ◌∷◌, ◌++◌, length, Option, Some}
use mathlib.Core.Option.{some, none}
use mathlib.Core.Option as maybe
use lib.ListN.{get_elem?}
use Rattle.atomic_table.specs.Table.{State, Me, Step}
use Rattle.outside.specs.KeptRows.{ToldRows}
use Rattle.site_core.specs.Books.{Kept, IsSound}
use Rattle.site_history.specs.Histories.{History, places}
use Rattle.site_history.specs.Legal.{IsLegal}
use Rattle.turn_book.specs.Seats.{StartsWith, made_by}
use Rattle.turn_book.specs.inner.Known.{Known, knows, seeing, turning, front, Later}

-- What one seat knows is so: its history is a beginning of the present one, all of it where the seat has the turn, and has all entries that it made.
pub record Fits (base : ℕ) (present : History) (turn : ℕ) (v : Known) : Type 0 where
  pub base_is : v.base ≡ base
  pub begins : StartsWith present v.seen
  pub grown : base ≤ places v.seen
  pub some_number : v.low < v.high
  pub small : v.high ≤ 9223372036854775808
  pub holder : v.turn ≡ true → (turn ≡ v.low + 1) × (v.seen ≡ present)
  pub own : made_by base v.low present ≡ made_by base v.low v.seen

module _ {K : Type 0} (rows : K → ToldRows) (faults : K → ℕ) where
  -- There is one present history, which is legal. The book has it while nobody has the turn. Seats have no number in common, and each entry since the
  -- opening has the least number of one.
  pub record Keeps (key : Kept K) (s : State (Option (Kept K)) Known) : Type 0 where
    pub present : History
    pub turn : ℕ
    pub home : maybe.Option (Option (Kept K))
    pub words : s.words ≡ front present ∷ turn ∷ []
    pub homes : s.homes ≡ home ∷ []
    pub at_home : turn ≡ 0 → (b : Kept K) × (home ≡ some (Some b)) × (b.history ≡ present) × IsSound rows faults b
    pub away : turn ≢ 0 → home ≡ none
    pub named : turn ≢ 0 → (id : ℕ) × (v : Known) × (get_elem? s.views id ≡ some v) × (v.turn ≡ true)
    pub legal : IsLegal present
    pub each : (id : ℕ) (v : Known) → get_elem? s.views id ≡ some v → Fits (places key.history) present turn v
    pub apart : (i j : ℕ) (v w : Known) → get_elem? s.views i ≡ some v → get_elem? s.views j ≡ some w → i ≢ j → (v.high ≤ w.low) ⊎ (w.high ≤ v.low)
    pub strangers : (n : ℕ) → ((id : ℕ) (v : Known) → get_elem? s.views id ≡ some v → v.low ≢ n) → made_by (places key.history) n present ≡ []

  abbrev pub Sat : Type 0
  Sat = Me (Option (Kept K)) Known

  abbrev At : Type 0
  At = Step (Option (Kept K))

  -- The turn was free, and the seat has it, with the book.
  abbrev pub took : At → Sat → ℕ → Sat → Type 0
  took at m found m' = (found ≡ 0 → (b : Kept K) × Later m.0 b.history × IsSound rows faults b × (m' ≡ (turning (seeing m.0 b.history) true, (0, Some b) ∷ m.1))) × (found ≢ 0 → m' ≡ m)

  -- The seat has seen the history of the book that it put back.
  abbrev pub stored : At → Sat → ℕ → Sat → Type 0
  stored at m found m' = (b : Kept K) → m.1 ≡ (0, Some b) ∷ [] → m' ≡ (seeing m.0 b.history, m.1)

  abbrev pub released : At → Sat → ℕ → Sat → Type 0
  released at m found m' = m' ≡ (turning m.0 false, [])

  -- The seat has seen the present history, of which it found the front.
  abbrev pub looked : At → Sat → ℕ → Sat → Type 0
  looked at m found m' = (now : History) × Later m.0 now × (found ≡ front now) × (m' ≡ (seeing m.0 now, m.1))

-- What the first seat knows.
abbrev pub newcomer : History → Known
newcomer h = knows h (places h) 0 9223372036854775808 false
