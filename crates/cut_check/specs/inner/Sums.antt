-- The sums of a flow as arrays have them. The crate's own functions alone speak of it.
use Rattle.std.specs.Prelude.{ℕ, ◌≡◌, ◌<◌, List, length, slice_index}
use Rattle.trust_types.specs.declared.accounts.Node.TheVariants.{Account}
use Rattle.trust_types.specs.Flow.{Flow, units_in, units_out}

-- Two lists of the units into each of n accounts and out of each.
pub record AreSums (n : ℕ) (f : Flow) (ins outs : List ℕ) : Type 0 where
  pub accounts : length ins ≡ n
  pub into : (a : ℕ) → a < n → slice_index ins a ≡ units_in n f a
  pub out : (a : ℕ) → a < n → slice_index outs a ≡ units_out n f (Account a)
