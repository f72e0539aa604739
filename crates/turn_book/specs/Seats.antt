-- What contracts see of a seat at a site, and what a call does to it.
use Rattle.std.specs.Prelude.{ℕ, ◌≡◌, ◌+◌, ◌-◌, ◌/◌, ◌<◌, ◌==◌, suc, List, [], ◌∷◌, ◌++◌, nat_lt, if◌then◌else◌, length}
use Rattle.atomic_table.specs.Seated.{TableId}
use Rattle.site_history.specs.Histories.{Entry, Done, Freeze, Publish, KeeperFault, History, places, with_entry}
use Rattle.site_history.specs.Legal.{IsLegal}

-- A history that goes on where another ended.
abbrev pub StartsWith : History → History → Type 0
StartsWith h g = (rest : List Entry) × (h ≡ record g { entries = g.entries ++ rest })

-- Who made an entry.
abbrev pub caller_of : Entry → ℕ
caller_of (Done caller act reply moment) = caller
caller_of (Freeze caller revision) = caller
caller_of (Publish caller p) = caller
caller_of (KeeperFault caller) = caller

-- The place, where it isn't before base and the caller is this one.
abbrev pub place_if : ℕ → ℕ → ℕ → Entry → List ℕ
place_if base n place e = if nat_lt place base then [] else (if caller_of e == n then place ∷ [] else [])

abbrev pub made_from : ℕ → ℕ → ℕ → List Entry → List ℕ
made_from base n place [] = []
made_from base n place (e ∷ entries) = place_if base n place e ++ made_from base n (suc place) entries

-- The places in a history, from base on, of the entries that a caller made.
abbrev pub made_by : ℕ → ℕ → History → List ℕ
made_by base n h = made_from base n (length h.opened) h.entries

-- A seat: the site that it is of; the history that it has seen; how many places the history had when the site was opened; and its numbers,
-- those from low and below high. Its history's opening table is that of the site's book.
pub record Seated : Type 0 where
  pub site : TableId
  pub id : ℕ
  pub seen : History
  pub base : ℕ
  pub low : ℕ
  pub high : ℕ

-- The places of the entries that a seat made.
abbrev pub mine : Seated → List ℕ
mine s = made_by s.base s.low s.seen

-- The same seat, whatever it has seen.
pub record IsSame (s t : Seated) : Type 0 where
  pub site : t.site ≡ s.site
  pub id : t.id ≡ s.id
  pub base : t.base ≡ s.base
  pub low : t.low ≡ s.low
  pub high : t.high ≡ s.high

-- The seat has seen a legal history that begins with what it had seen, and made none of the new entries.
pub record Looks (s t : Seated) : Type 0 where
  pub same : IsSame s t
  pub legal : IsLegal t.seen
  pub begins : StartsWith t.seen s.seen
  pub none_made : mine t ≡ mine s

-- The seat has seen a legal history that is one before it, which begins with what it had seen, and this entry, the only new one that it made.
pub record Adds (s : Seated) (before : History) (e : Entry) (t : Seated) : Type 0 where
  pub same : IsSame s t
  pub legal : IsLegal t.seen
  pub begins : StartsWith before s.seen
  pub ends : t.seen ≡ with_entry before e
  pub one_made : mine t ≡ mine s ++ places before ∷ []

-- The seat s, as t, keeps the lower half of its numbers, and the new seat u, which has seen the same and made nothing, has the upper half.
pub record Halves (s t u : Seated) : Type 0 where
  pub kept : (t.site ≡ s.site) × (t.id ≡ s.id) × (t.seen ≡ s.seen) × (t.base ≡ s.base) × (t.low ≡ s.low) × (t.high ≡ u.low)
  pub given : (u.site ≡ s.site) × (u.seen ≡ s.seen) × (u.base ≡ s.base) × (u.low ≡ s.low + (s.high - s.low) / 2) × (u.high ≡ s.high)
  pub between : (s.low < u.low) × (u.low < s.high)
  pub unused : mine u ≡ []
