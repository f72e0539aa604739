-- What links, ports, clocks and sources of words in memory are, and what their calls make of them.
use Rattle.std.specs.Prelude.{ℕ, ◌-◌, ◌==◌, if◌then◌else◌, min, List, [], ◌++◌, length, drop, Some}
use Rattle.outside.specs.Calls.{Calls, no_calls, with_served, with_failed}
use Rattle.outside.specs.Causes.{one_more}
use Rattle.outside_serving.specs.Links.{Line}

-- a link: the bytes left to read, those written, the room for more, the most that one call gives or takes, its calls, and the reads that met the end
pub record Peer : Type 0 where
  pub left : List ℕ
  pub written : List ℕ
  pub room : ℕ
  pub piece : ℕ
  pub calls : Calls
  pub ends : ℕ

-- a link of which nothing was read yet, and to which nothing was written
abbrev pub new_peer : List ℕ → ℕ → ℕ → List ℕ → Peer
new_peer bytes room piece fails = record { left = bytes; written = []; room = room; piece = piece; calls = no_calls fails; ends = 0 }

-- what such a link tells: all of it
abbrev pub told : Peer → Line
told peer = record { left = Some peer.left; written = Some peer.written; faults = peer.calls.faults; ends = peer.ends }

-- how many bytes the next read gives to so many places
abbrev pub given_count : Peer → ℕ → ℕ
given_count peer places = min peer.piece (min places (length peer.left))

-- how many of so many bytes the next write takes
abbrev pub taken_count : Peer → ℕ → ℕ
taken_count peer offered = min peer.piece (min offered peer.room)

-- a link after a read that gave its first n bytes
abbrev pub after_read : Peer → ℕ → Peer
after_read peer n = record peer {
  left = drop n peer.left;
  calls = with_served peer.calls;
  ends = if n == 0 then one_more peer.ends else peer.ends;
}

-- a link after a write that took these bytes
abbrev pub after_write : Peer → List ℕ → Peer
after_write peer bytes = record peer {
  written = peer.written ++ bytes;
  room = peer.room - length bytes;
  calls = with_served peer.calls;
}

-- a link after a call that failed
abbrev pub after_failure : Peer → Peer
after_failure peer = record peer { calls = with_failed peer.calls }

-- a port: the links that are left to give, how many accepts failed, and how many links were given
pub record Arrivals : Type 0 where
  pub left : List Peer
  pub faults : ℕ
  pub given : ℕ

-- a port that gave no link yet
abbrev pub new_arrivals : List Peer → Arrivals
new_arrivals links = record { left = links; faults = 0; given = 0 }

-- a clock: the moment that it shows, and its calls
pub record Still : Type 0 where
  pub moment : ℕ
  pub calls : Calls

-- a clock after a look at it
abbrev pub after_look : Still → Still
after_look clock = record clock { calls = with_served clock.calls }

-- a clock after a look that failed
abbrev pub after_failed_look : Still → Still
after_failed_look clock = record clock { calls = with_failed clock.calls }

-- a source of words: those left, and its calls
pub record Deck : Type 0 where
  pub left : List (List ℕ)
  pub calls : Calls

-- a source of words after a draw
abbrev pub after_draw : Deck → Deck
after_draw deck = record { left = drop 1 deck.left; calls = with_served deck.calls }

-- a source of words after a draw that failed
abbrev pub after_failed_draw : Deck → Deck
after_failed_draw deck = record deck { calls = with_failed deck.calls }
