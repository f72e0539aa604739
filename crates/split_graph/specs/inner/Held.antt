-- How a residual graph is held. The crate's own functions alone speak of it.
use Rattle.std.specs.Prelude.{ℕ, ◌≡◌, ◌+◌, ◌*◌, Option}
use Rattle.trust_types.specs.declared.levels.Level.{Level}
use Rattle.frozen.specs.Revision.{Revision}
use Rattle.split_graph.specs.Numbers.{node_count}
use Rattle.split_graph.specs.inner.Layout.{Table, HasPlaces}
use Rattle.split_graph.specs.Arcs.{Arcs}
use Rattle.split_graph.specs.Network.{Room, Network}

-- The arcs of the arrays, where there are so many accounts.
abbrev pub arcs_in : ℕ → Table → Arcs
arcs_in accounts t = record { accounts = accounts; first = t.first; head = t.head; twin = t.twin; rest = t.rest }

-- What contracts see, by the arrays.
abbrev pub network : Room → Option Revision → Option Level → ℕ → Table → Network
network room graph level accounts t = record { room = room; graph = graph; level = level; arcs = arcs_in accounts t }

-- How many arcs the split graph of so many accounts and certificates has at most.
abbrev pub split_count : ℕ → ℕ → ℕ
split_count accounts certs = 3 * accounts + certs + 1

-- There are places for the split graph of so many accounts and certificates, and for the list of its arcs.
pub record IsReserved (accounts certs : ℕ) (t : Table) (capacity : ℕ) : Type 0 where
  pub table : HasPlaces (node_count accounts) (split_count accounts certs) t
  pub list : capacity ≡ split_count accounts certs
