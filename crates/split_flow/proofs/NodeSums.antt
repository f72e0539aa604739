-- Sums over the split nodes.
use Rattle.std.proofs.Common.{ℕ, zero, suc, ◌+◌, ◌≡◌, ◌≢◌, ◌≤◌, arith, ap, ◌∙◌}
use Rattle.trust_types.specs.declared.accounts.Node.TheVariants.{Root, Account}
use Rattle.trust_types.specs.Sum.{sum_below}
use Rattle.trust_types.proofs.Sums.{sum_below-add, sum_below-eq, sum_below-le, sum_below-zero}
use Rattle.split_flow.specs.Split.{SplitNode, InHalf, OutHalf, Supersink, IsSplitNode, sum_nodes}
use Rattle.split_flow.proofs.Sums.{sum_below-point}
use Rattle.split_flow.proofs.Nodes.{in_apart, out_apart}

-- what the two halves of an account add
abbrev pub halves : (SplitNode → ℕ) → ℕ → ℕ
halves f a = f (InHalf (Account a)) + f (OutHalf (Account a))

pub sum_nodes-zero : (n : ℕ) → sum_nodes n (λ _. 0) ≡ 0
sum_nodes-zero n = omega (arith, sum_below-zero n)

pub sum_nodes-eq : (n : ℕ) (f h : SplitNode → ℕ) → ((u : SplitNode) → IsSplitNode n u → f u ≡ h u) → sum_nodes n f ≡ sum_nodes n h
sum_nodes-eq n f h same =
    omega (
      arith,
      same (InHalf Root) tt,
      same (OutHalf Root) tt,
      same Supersink tt,
      sum_below-eq n (halves f) (halves h) (λ a lt. omega (arith, same (InHalf (Account a)) lt, same (OutHalf (Account a)) lt)),
    )

pub sum_nodes-le : (n : ℕ) (f h : SplitNode → ℕ) → ((u : SplitNode) → IsSplitNode n u → f u ≤ h u) → sum_nodes n f ≤ sum_nodes n h
sum_nodes-le n f h le =
    omega (
      arith,
      le (InHalf Root) tt,
      le (OutHalf Root) tt,
      le Supersink tt,
      sum_below-le n (halves f) (halves h) (λ a lt. omega (arith, le (InHalf (Account a)) lt, le (OutHalf (Account a)) lt)),
    )

pub sum_nodes-add : (n : ℕ) (f h : SplitNode → ℕ) → sum_nodes n (λ u. f u + h u) ≡ sum_nodes n f + sum_nodes n h
sum_nodes-add n f h =
    let apart : sum_below n (halves (λ u. f u + h u)) ≡ sum_below n (λ a. halves f a + halves h a) =
    sum_below-eq n (halves (λ u. f u + h u)) (λ a. halves f a + halves h a) (λ a lt. omega arith) in
    omega (arith, apart, sum_below-add n (halves f) (halves h))

-- sums over split nodes and over numbers may change places
pub sum_nodes-below : (n m : ℕ) (f : ℕ → SplitNode → ℕ) → sum_nodes n (λ v. sum_below m (λ a. f a v)) ≡ sum_below m (λ a. sum_nodes n (f a))
sum_nodes-below n zero f = sum_nodes-zero n
sum_nodes-below n (suc m) f =
    sum_nodes-add n (λ v. sum_below m (λ a. f a v)) (f m) ∙ ap (λ (k : ℕ). k + sum_nodes n (f m)) (sum_nodes-below n m f)

four : (a b c d abcd abc ab : ℕ) → abcd ≡ abc + d → abc ≡ ab + c → ab ≡ a + b → abcd ≡ a + b + c + d
four a b c d abcd abc ab e f g = omega arith

pub sum_nodes-swap : (n : ℕ) (f : SplitNode → SplitNode → ℕ) → sum_nodes n (λ v. sum_nodes n (λ u. f u v)) ≡ sum_nodes n (λ u. sum_nodes n (f u))
sum_nodes-swap n f =
    let first : SplitNode → ℕ = f (InHalf Root) in
    let second : SplitNode → ℕ = f (OutHalf Root) in
    let accounts : SplitNode → ℕ = λ v. sum_below n (λ a. f (InHalf (Account a)) v + f (OutHalf (Account a)) v) in
    let last : SplitNode → ℕ = f Supersink in
    let among : sum_nodes n accounts ≡ sum_below n (λ a. sum_nodes n (f (InHalf (Account a))) + sum_nodes n (f (OutHalf (Account a)))) =
    sum_nodes-below n n (λ a v. f (InHalf (Account a)) v + f (OutHalf (Account a)) v)
    ∙ sum_below-eq n (λ a. sum_nodes n (λ v. f (InHalf (Account a)) v + f (OutHalf (Account a)) v)) (λ a. sum_nodes n (f (InHalf (Account a))) + sum_nodes n (f (OutHalf (Account a))))
    (λ a lt. sum_nodes-add n (f (InHalf (Account a))) (f (OutHalf (Account a)))) in
    four (sum_nodes n first) (sum_nodes n second) (sum_nodes n accounts) (sum_nodes n last) _ _ _
    (sum_nodes-add n (λ v. first v + second v + accounts v) last) (sum_nodes-add n (λ v. first v + second v) accounts) (sum_nodes-add n first second)
    ∙ ap (λ (k : ℕ). sum_nodes n first + sum_nodes n second + k + sum_nodes n last) among

-- two functions that agree but at one split node, where the first is greater by d
pub sum_nodes-point : (n : ℕ) (f h : SplitNode → ℕ) (p : SplitNode) (d : ℕ) → IsSplitNode n p → ((u : SplitNode) → IsSplitNode n u → u ≢ p → f u ≡ h u) → f p ≡ h p + d →
    sum_nodes n f ≡ sum_nodes n h + d
sum_nodes-point n f h (InHalf Root) d is same at =
    omega (
      arith,
      at,
      same (OutHalf Root) tt (λ e. cc),
      same Supersink tt (λ e. cc),
      sum_below-eq n (halves f) (halves h) (λ a lt. omega (arith, same (InHalf (Account a)) lt (λ e. cc), same (OutHalf (Account a)) lt (λ e. cc))),
    )
sum_nodes-point n f h (OutHalf Root) d is same at =
    omega (
      arith,
      at,
      same (InHalf Root) tt (λ e. cc),
      same Supersink tt (λ e. cc),
      sum_below-eq n (halves f) (halves h) (λ a lt. omega (arith, same (InHalf (Account a)) lt (λ e. cc), same (OutHalf (Account a)) lt (λ e. cc))),
    )
sum_nodes-point n f h Supersink d is same at =
    omega (
      arith,
      at,
      same (InHalf Root) tt (λ e. cc),
      same (OutHalf Root) tt (λ e. cc),
      sum_below-eq n (halves f) (halves h) (λ a lt. omega (arith, same (InHalf (Account a)) lt (λ e. cc), same (OutHalf (Account a)) lt (λ e. cc))),
    )
sum_nodes-point n f h (InHalf (Account b)) d is same at =
    omega (
      arith,
      same (InHalf Root) tt (λ e. cc),
      same (OutHalf Root) tt (λ e. cc),
      same Supersink tt (λ e. cc),
      sum_below-point n (halves f) (halves h) b d is
          (λ a lt other. omega (arith, same (InHalf (Account a)) lt (in_apart a b other), same (OutHalf (Account a)) lt (λ e. cc)))
          (omega (arith, at, same (OutHalf (Account b)) is (λ e. cc))),
    )
sum_nodes-point n f h (OutHalf (Account b)) d is same at =
    omega (
      arith,
      same (InHalf Root) tt (λ e. cc),
      same (OutHalf Root) tt (λ e. cc),
      same Supersink tt (λ e. cc),
      sum_below-point n (halves f) (halves h) b d is
          (λ a lt other. omega (arith, same (InHalf (Account a)) lt (λ e. cc), same (OutHalf (Account a)) lt (out_apart a b other)))
          (omega (arith, at, same (InHalf (Account b)) is (λ e. cc))),
    )
