-- Numbers that are counted only where a test says so.
use Rattle.std.proofs.Common.{ℕ, Bool, true, false, ◌+◌, ◌≡◌, refl, arith, if◌then◌else◌}
use Rattle.trust_types.specs.Sum.{sum_below}
use Rattle.trust_types.proofs.Sums.{sum_below-zero}
use Rattle.split_flow.specs.Split.{SplitNode, sum_nodes}
use Rattle.split_flow.proofs.NodeSums.{sum_nodes-zero}

-- a number, counted only where the test says so, or only where it does not
abbrev pub counted : Bool → ℕ → ℕ
counted p k = if p then k else 0

abbrev pub uncounted : Bool → ℕ → ℕ
uncounted p k = if p then 0 else k

pub counted_parts : (p : Bool) (k : ℕ) → k ≡ counted p k + uncounted p k
counted_parts true k = omega arith
counted_parts false k = omega arith

pub counted_sum : (n : ℕ) (f : ℕ → ℕ) (p : Bool) → sum_below n (λ b. counted p (f b)) ≡ counted p (sum_below n f)
counted_sum n f true = refl
counted_sum n f false = sum_below-zero n

pub counted_nodes : (n : ℕ) (f : SplitNode → ℕ) (p : Bool) → sum_nodes n (λ u. counted p (f u)) ≡ counted p (sum_nodes n f)
counted_nodes n f true = refl
counted_nodes n f false = sum_nodes-zero n

pub counted_add : (p : Bool) (j k : ℕ) → counted p (j + k) ≡ counted p j + counted p k
counted_add true j k = refl
counted_add false j k = omega arith

pub not_both : {P : Type 0} (b : Bool) → b ≡ true → b ≡ false → P
not_both true inside out = absurd (cc)
not_both false inside out = absurd (cc)
