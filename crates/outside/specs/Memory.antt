-- What the sources, sinks and keepers in memory are, and what their calls make of them.
use Rattle.std.specs.Prelude.{ℕ, ◌-◌, ◌==◌, if◌then◌else◌, min, List, [], ◌∷◌, ◌++◌, length, drop}
use Rattle.outside.specs.Calls.{Calls, no_calls, with_served, with_failed}
use Rattle.outside.specs.Causes.{one_more}

-- a source: the bytes left, the most that one read gives, its calls, and the reads that met the end
pub record Feed : Type 0 where
  pub left : List ℕ
  pub piece : ℕ
  pub calls : Calls
  pub ends : ℕ

-- a source of which nothing was read yet
abbrev pub new_feed : List ℕ → ℕ → List ℕ → Feed
new_feed bytes piece fails = record { left = bytes; piece = piece; calls = no_calls fails; ends = 0 }

-- how many bytes the next read gives to so many places
abbrev pub given_count : Feed → ℕ → ℕ
given_count feed places = min feed.piece (min places (length feed.left))

-- a source after a read that gave its first n bytes
abbrev pub after_read : Feed → ℕ → Feed
after_read feed n = record feed {
  left = drop n feed.left;
  calls = with_served feed.calls;
  ends = if n == 0 then one_more feed.ends else feed.ends;
}

-- a source after a read that failed
abbrev pub after_failed_read : Feed → Feed
after_failed_read feed = record feed { calls = with_failed feed.calls }

-- a sink: the bytes held, the room for more, the most that one write takes, and its calls
pub record Store : Type 0 where
  pub held : List ℕ
  pub room : ℕ
  pub piece : ℕ
  pub calls : Calls

-- a sink to which nothing was written yet
abbrev pub new_store : ℕ → ℕ → List ℕ → Store
new_store room piece fails = record { held = []; room = room; piece = piece; calls = no_calls fails }

-- how many of so many bytes the next write takes
abbrev pub taken_count : Store → ℕ → ℕ
taken_count store offered = min store.piece (min offered store.room)

-- a sink after a write that took these bytes
abbrev pub after_write : Store → List ℕ → Store
after_write store bytes = record store {
  held = store.held ++ bytes;
  room = store.room - length bytes;
  calls = with_served store.calls;
}

-- a sink after a write that failed
abbrev pub after_failed_write : Store → Store
after_failed_write store = record store { calls = with_failed store.calls }

-- a keeper: the rows kept, and its calls
pub record Archive : Type 0 where
  pub rows : List (List ℕ)
  pub calls : Calls

-- a keeper on which no call was made yet
abbrev pub new_archive : List (List ℕ) → List ℕ → Archive
new_archive rows fails = record { rows = rows; calls = no_calls fails }

-- a keeper after an append that added this row
abbrev pub after_append : Archive → List ℕ → Archive
after_append archive row = record { rows = archive.rows ++ row ∷ []; calls = with_served archive.calls }

-- a keeper after a call that left its rows as they were, and didn't fail
abbrev pub after_fetch : Archive → Archive
after_fetch archive = record archive { calls = with_served archive.calls }

-- a keeper after a call that failed
abbrev pub after_failed_keeping : Archive → Archive
after_failed_keeping archive = record archive { calls = with_failed archive.calls }
