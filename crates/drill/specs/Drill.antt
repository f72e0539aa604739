-- The drill: a site that is made from a number, to try the engine on. It is this project's own.
use Rattle.std.specs.Prelude.{ℕ, ◌≡◌, ◌++◌, List, [], ◌∷◌, codes, decimal, map, nat_lt}
use Rattle.std.specs.List.{range_with_len}
use Rattle.trust_types.specs.Changes.{standing_among}
use Rattle.trust_types.specs.Graph.{Certificates}
use Rattle.trust_types.specs.Tables.{standard_table}
use Rattle.frozen.specs.Revision.{Revision, certificates}
use Rattle.drill.specs.Draws.{certs_from}

-- The name of an account: `u0`, `u1` and so on.
abbrev pub name_at : ℕ → List ℕ
name_at a = codes "u" ++ decimal a

-- The names of so many accounts.
unfoldable pub names : ℕ → List (List ℕ)
names count = map name_at (range_with_len 0 count)

-- The first four accounts.
abbrev pub seeds : List ℕ
seeds = 0 ∷ 1 ∷ 2 ∷ 3 ∷ []

-- 2,000 accounts, of which the first four are seeds. 20,000 certificates are drawn, and a later one of a pair replaces the earlier.
abbrev pub drill_graph : ℕ → Certificates
drill_graph number = record {
  accounts = 2000;
  is_seed = λ a. nat_lt a 4;
  standing = standing_among (certs_from 20000 number);
}

-- A revision of just that site, with the table that a site has unless it is told another. Its number is that of the accounts, the seeds
-- and the drawn certificates together.
pub record IsDrill (number : ℕ) (r : Revision) : Type 0 where
  pub revision : r.number ≡ 22004
  pub table : r.caps ≡ standard_table
  pub named : r.names ≡ names 2000
  pub graph : certificates r ≡ drill_graph number
