-- A cut's value, summed from account to account.
use Rattle.std.proofs.Common.{ℕ, ◌≡◌, ◌<◌, ◌+◌, ◌*◌, ◌^◌, sym, subst, refl, add-one, arith}
use Rattle.trust_types.specs.declared.accounts.Node.{Node}
use Rattle.trust_types.specs.declared.accounts.Node.TheVariants.{Root, Account}
use Rattle.trust_types.specs.Sum.{sum_below}
use Rattle.trust_types.specs.Graph.{Certificates}
use Rattle.trust_types.specs.Cut.{Sides, value, account_share, root_share}

pub sum_below_more : (n : ℕ) (f : ℕ → ℕ) → sum_below (n + 1) f ≡ sum_below n f + f n
sum_below_more n f = rw add-one refl

-- What the first accounts add to the value.
abbrev pub share_of : (Node → ℕ) → Sides → ℕ → ℕ
share_of cap side a = account_share (side (Account a)) (cap (Account a))

-- The value of the root and the first accounts, each of which adds less than 2^32.
pub record IsValueSoFar (cap : Node → ℕ) (side : Sides) (at sum : ℕ) : Type 0 where
  pub sums : sum ≡ sum_below at (share_of cap side) + root_share (side Root) (cap Root)
  pub small : sum < (at + 1) * 2 ^ 32

pub one_more_share : {cap : Node → ℕ} {side : Sides} {at sum : ℕ} → IsValueSoFar cap side at sum → (share : ℕ) →
    share ≡ share_of cap side at → share < 2 ^ 32 → IsValueSoFar cap side (at + 1) (sum + share)
one_more_share {cap = cap} {side = side} {at = at} so_far share is small = record {
  sums = omega (arith, sum_below_more at (share_of cap side), so_far.sums, is);
  small = omega (arith, so_far.small);
}

pub value_of_all : {cap : Node → ℕ} {side : Sides} {at sum : ℕ} → IsValueSoFar cap side at sum → (g : Certificates) → g.accounts ≡ at → sum ≡ value g cap side
value_of_all {cap = cap} {side = side} {sum = sum} so_far g all =
    subst (λ n. sum ≡ sum_below n (share_of cap side) + root_share (side Root) (cap Root)) (sym all) so_far.sums
