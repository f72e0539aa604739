-- Lists of accounts that are accepted, and the bound on an attack.
use Rattle.std.specs.Prelude.{ℕ, Bool, ◌==◌, ◌≡◌, ◌≤◌, true, false, List, count_by}
use Rattle.std.specs.List.{list_any}
use Rattle.trust_types.specs.declared.levels.Level.{Level}
use Rattle.trust_types.specs.declared.accounts.Node.{Node}
use Rattle.trust_types.specs.Tables.{Table}
use Rattle.trust_types.specs.Graph.{Certificates}
use Rattle.trust_types.specs.Capacity.{AreCapacities}
use Rattle.trust_types.specs.Boundary.{Members, bound}

-- Whether an account is among them.
abbrev pub is_accepted : List ℕ → ℕ → Bool
is_accepted accepted account = list_any (λ a. a == account) accepted

-- How many of the accounts accepted are members of a set.
abbrev pub accepted_in : List ℕ → Members → ℕ
accepted_in accepted members = count_by members accepted

-- Of each set of accounts without a seed, however many they are, at most its bound is accepted: the sum of capacity minus one
-- over the outsiders that certify a member at the level.
abbrev pub IsBounded : Certificates → Level → Table → List ℕ → Type 0
IsBounded g level table accepted =
    (cap : Node → ℕ) (members : Members) → AreCapacities g level table cap → ((x : ℕ) → members x ≡ true → g.is_seed x ≡ false) →
    accepted_in accepted members ≤ bound g level cap members
