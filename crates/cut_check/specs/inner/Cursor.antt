-- A place among the certificates of one giver, which rise by taker. The crate's own functions alone speak of it.
use Rattle.std.specs.Prelude.{ℕ, ◌<◌, ◌≤◌}
use Rattle.trust_types.specs.declared.accounts.Node.{Node}
use Rattle.trust_types.specs.declared.accounts.Node.TheVariants.{Root, Account}
use Rattle.trust_types.specs.declared.graphs.Cert.{Cert}

-- The first k of an account's certificates are for accounts before the taker.
pub record AreLesser (degree : ℕ) (given : ℕ → Cert) (taker k : ℕ) : Type 0 where
  pub within : k ≤ degree
  pub lesser : (i : ℕ) → i < k → (given i).to < taker

-- The same of any giver; the root has no certificates.
abbrev pub HasPassed : (ℕ → ℕ) → (ℕ → ℕ → Cert) → Node → ℕ → ℕ → Type 0
HasPassed degree given Root taker k = Unit {0}
HasPassed degree given (Account a) taker k = AreLesser (degree a) (given a) taker k
