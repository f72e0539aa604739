-- What one account adds to the bound. The crate's own functions alone speak of it.
use Rattle.std.specs.Prelude.{ℕ, ◌-◌, if◌then◌else◌, nat_lt}
use Rattle.trust_types.specs.declared.levels.Level.{Level}
use Rattle.trust_types.specs.declared.accounts.Node.{Node}
use Rattle.trust_types.specs.declared.accounts.Node.TheVariants.{Account}
use Rattle.trust_types.specs.Graph.{Certificates}
use Rattle.trust_types.specs.Boundary.{Members, edges_into}

-- An outsider that certifies a member adds its capacity less one, and any other account nothing.
abbrev pub added : Certificates → Level → (Node → ℕ) → Members → ℕ → ℕ
added g level cap members a = if members a then 0 else (if nat_lt 0 (edges_into g level members a) then cap (Account a) - 1 else 0)
