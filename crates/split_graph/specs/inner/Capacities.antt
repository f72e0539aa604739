-- How the capacities of a split graph's arcs are written at their places. The crate's own functions alone speak of it.
use Rattle.std.specs.Prelude.{ℕ, zero, suc, ◌<◌, ◌+◌, ◌-◌, nat_le, if◌then◌else◌, List, slice_index, slice_set, replicate, IsTrue}
use Rattle.trust_types.specs.declared.levels.Level.{Level}
use Rattle.trust_types.specs.declared.accounts.Node.TheVariants.{Root, Account}
use Rattle.trust_types.specs.Levels.{rank}
use Rattle.frozen.specs.Sites.{Parts, accounts, degree, level_given, certificates_of}
use Rattle.split_flow.specs.Split.{InHalf, OutHalf, source, unbounded}
use Rattle.split_graph.specs.Numbers.{node_number}
use Rattle.split_graph.specs.Network.{seeds_before}

-- At a level nothing goes along a certificate of a lower one.
abbrev pub cert_capacity : Level → Level → ℕ
cert_capacity level given = if nat_le (rank level) (rank given) then unbounded else 0

-- What f 0, f 1, .., f (n - 1) write, one after another.
abbrev pub written_below : ℕ → (ℕ → List ℕ → List ℕ) → List ℕ → List ℕ
written_below zero f rests = rests
written_below (suc n) f rests = f n (written_below n f rests)

-- An account's own arcs, of which the first goes through it and the other to the supersink.
abbrev pub write_own : List ℕ → ℕ → ℕ → List ℕ → List ℕ
write_own first a capacity rests =
    slice_set (slice_set rests (slice_index first (node_number (InHalf (Account a)))) (capacity - 1)) (slice_index first (node_number (InHalf (Account a))) + 1) 1

abbrev pub write_cert : Parts → Level → List ℕ → ℕ → ℕ → List ℕ → List ℕ
write_cert r level first a i rests = slice_set rests (slice_index first (node_number (OutHalf (Account a))) + (i + 1)) (cert_capacity level (level_given r a i))

-- An account's own arcs, and those of the certificates that it gives.
abbrev pub write_account : Parts → Level → List ℕ → List ℕ → ℕ → List ℕ → List ℕ
write_account r level caps first a rests = written_below (degree r a) (write_cert r level first a) (write_own first a (slice_index caps a) rests)

abbrev pub write_seed : Parts → List ℕ → ℕ → List ℕ → List ℕ
write_seed r first b rests =
    if (certificates_of r).is_seed b then slice_set rests (slice_index first (node_number (OutHalf Root)) + (seeds_before r b + 1)) unbounded else rests

-- The arc through the root, those to the seeds, and those of the accounts, among so many places.
abbrev pub write_capacities : Parts → Level → ℕ → List ℕ → List ℕ → ℕ → List ℕ
write_capacities r level root caps first count =
    written_below (accounts r) (write_account r level caps first)
    (written_below (accounts r) (write_seed r first) (slice_set (replicate count 0) (slice_index first (node_number source)) (root - 1)))

-- The arcs' places are among so many.
pub record AreWithin (r : Parts) (first : List ℕ) (count : ℕ) : Type 0 where
  pub root : slice_index first (node_number source) < count
  pub own : (a : ℕ) → a < accounts r → slice_index first (node_number (InHalf (Account a))) + 1 < count
  pub seeds : (b : ℕ) → b < accounts r → IsTrue ((certificates_of r).is_seed b) → slice_index first (node_number (OutHalf Root)) + (seeds_before r b + 1) < count
  pub certs : (a i : ℕ) → a < accounts r → i < degree r a → slice_index first (node_number (OutHalf (Account a))) + (i + 1) < count
