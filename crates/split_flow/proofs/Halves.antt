-- What may be moved out of each half, by the units of the flow.
use Rattle.std.proofs.Common.{ℕ, ◌+◌, ◌-◌, ◌≡◌, ◌≢◌, ◌<◌, inl, inr, arith, ap, sym}
use Rattle.std.proofs.lemmas.Bool.{cases_lt}
use Rattle.std.proofs.lemmas.Bool.Decides.{nat_tests}
use Rattle.trust_types.specs.declared.levels.Level.{Level}
use Rattle.trust_types.specs.declared.accounts.Node.{Node}
use Rattle.trust_types.specs.declared.accounts.Node.TheVariants.{Root, Account}
use Rattle.trust_types.specs.Sum.{sum_below}
use Rattle.trust_types.specs.Graph.{Certificates}
use Rattle.trust_types.specs.Flow.{Flow, units_in, units_out}
use Rattle.trust_types.proofs.Sums.{sum_below-zero, sum_below-add, sum_below-eq}
use Rattle.split_flow.specs.Split.{SplitNode, InHalf, OutHalf, Supersink, source, Rests, IsNode, IsArc, IsSplitGraph}
use Rattle.split_flow.specs.Moved.{IsMoved, out_of, units_moved}
use Rattle.split_flow.specs.Laws.{NoneToItself}
use Rattle.split_flow.proofs.Sums.{sum_below-point}
use Rattle.split_flow.proofs.Nodes.{number}
use Rattle.split_flow.proofs.NodeSums.{halves}

-- where the split graph has no arc, it has no capacity
pub no_capacity : (g : Certificates) (level : Level) (cap : Node → ℕ) (c : Rests) → IsSplitGraph g level cap c → (u v : SplitNode) → (IsArc g level u v → ⊥) → c u v ≡ 0
no_capacity g level cap c split u v none =
    elim (cases_lt 0 (c u v)) [ inl some ↦ absurd (none (split.only u v some)) | inr zero ↦ omega arith ]

-- the capacities and the rests that these lemmas speak of
pub record Moves : Type 0 where
  pub g : Certificates
  pub level : Level
  pub cap : Node → ℕ
  pub c : Rests
  pub r : Rests
  pub split : IsSplitGraph g level cap c
  pub moved : IsMoved g.accounts c r
  pub no_self : NoneToItself g level

pub zero_cap : (m : Moves) (u v : SplitNode) → (IsArc m.g m.level u v → ⊥) → m.c u v ≡ 0
zero_cap m = no_capacity m.g m.level m.cap m.c m.split

-- and nothing can be moved, where it has none either way
pub zero_rest : (m : Moves) (u v : SplitNode) → (IsArc m.g m.level u v → ⊥) → (IsArc m.g m.level v u → ⊥) → m.r u v ≡ 0
zero_rest m u v none back = omega (arith, m.moved.both u v, zero_cap m u v none, zero_cap m v u back)

-- no arc leads from a first half to the second half of another node
pub to_other_half : (g : Certificates) (level : Level) (x y : Node) → y ≢ x → IsArc g level (InHalf x) (OutHalf y) → ⊥
to_other_half g level x y other arc = other arc.1

pub accounts_apart : (a b : ℕ) → a ≢ b → Account a ≢ Account b
accounts_apart a b other same = other (ap number same)

-- what was moved along an edge may be moved back
pub back_to_account : (m : Moves) (x a : ℕ) → a ≢ x → m.r (InHalf (Account x)) (OutHalf (Account a)) ≡ units_moved m.r (Account a) x
back_to_account m x a other = grind (arith, nat_tests, other)

pub none_to_itself : (m : Moves) (x : ℕ) → units_moved m.r (Account x) x ≡ 0
none_to_itself m x = grind (arith, nat_tests)

-- nothing goes from a node to itself
pub own_edge : (m : Moves) (x : Node) → m.c (OutHalf x) (InHalf x) ≡ 0
own_edge m Root = zero_cap m (OutHalf Root) source (λ no. no)
own_edge m (Account a) = zero_cap m (OutHalf (Account a)) (InHalf (Account a)) (m.no_self a)

-- what goes through a node
abbrev pub through : Rests → Node → ℕ
through r x = r (OutHalf x) (InHalf x)

-- what may be moved out of an account's first half
pub out_of_first : (m : Moves) (x : ℕ) → x < m.g.accounts →
    out_of m.g.accounts m.r (InHalf (Account x)) ≡ units_in m.g.accounts (units_moved m.r) x + m.r (InHalf (Account x)) (OutHalf (Account x)) + m.r (InHalf (Account x)) Supersink
out_of_first m x below =
    let n : ℕ = m.g.accounts in
    let u : SplitNode = InHalf (Account x) in
    let f : Flow = units_moved m.r in
    let to_root : m.r u source ≡ 0 = zero_rest m u source (λ no. no) (λ no. no) in
    let firsts : (a : ℕ) → m.r u (InHalf (Account a)) ≡ 0 = λ a. zero_rest m u (InHalf (Account a)) (λ no. no) (λ no. no) in
    let middle : sum_below n (halves (m.r u)) ≡ sum_below n (λ a. f (Account a) x) + m.r u (OutHalf (Account x)) =
    sum_below-point n (halves (m.r u)) (λ a. f (Account a) x) x (m.r u (OutHalf (Account x))) below
    (λ a lt other. omega (arith, firsts a, back_to_account m x a other))
    (omega (arith, firsts x, none_to_itself m x)) in
    omega (arith, to_root, middle)

-- what may be moved out of a second half, and the units out of the node
pub out_of_second : (m : Moves) (x : ℕ) → x < m.g.accounts →
    out_of m.g.accounts m.r (OutHalf (Account x)) + units_out m.g.accounts (units_moved m.r) (Account x) ≡ out_of m.g.accounts m.c (OutHalf (Account x)) + through m.r (Account x)
out_of_second m x below =
    let n : ℕ = m.g.accounts in
    let u : SplitNode = OutHalf (Account x) in
    let f : Flow = units_moved m.r in
    let none : (v : SplitNode) → (IsArc m.g m.level u v → ⊥) → (IsArc m.g m.level v u → ⊥) → m.r u v ≡ m.c u v =
    λ v no back. omega (arith, zero_rest m u v no back, zero_cap m u v no) in
    let others : (a : ℕ) → a ≢ x → m.r u (InHalf (Account a)) + f (Account x) a ≡ m.c u (InHalf (Account a)) =
    λ a other. omega (
      arith,
      back_to_account m a x (λ same. other (sym same)),
      m.moved.both u (InHalf (Account a)),
      zero_cap m (InHalf (Account a)) u (to_other_half m.g m.level (Account a) (Account x) (accounts_apart x a (λ same. other (sym same)))),
    ) in
    let point : sum_below n (λ a. halves (m.r u) a + f (Account x) a) ≡ sum_below n (halves (m.c u)) + m.r u (InHalf (Account x)) =
    sum_below-point n (λ a. halves (m.r u) a + f (Account x) a) (halves (m.c u)) x (m.r u (InHalf (Account x))) below
    (λ a lt other. omega (arith, none (OutHalf (Account a)) (λ no. no) (λ no. no), others a other))
    (omega (arith, none (OutHalf (Account x)) (λ no. no) (λ no. no), none_to_itself m x, own_edge m (Account x))) in
    omega (
      arith,
      point,
      sum_below-add n (halves (m.r u)) (f (Account x)),
      none source (λ no. no) (to_other_half m.g m.level Root (Account x) (λ e. cc)),
      none (OutHalf Root) (λ no. no) (λ no. no),
      none Supersink (λ no. no) (λ no. no),
    )

pub out_of_root_second : (m : Moves) →
    out_of m.g.accounts m.r (OutHalf Root) + units_out m.g.accounts (units_moved m.r) Root ≡ out_of m.g.accounts m.c (OutHalf Root) + through m.r Root
out_of_root_second m =
    let n : ℕ = m.g.accounts in
    let u : SplitNode = OutHalf Root in
    let f : Flow = units_moved m.r in
    let none : (v : SplitNode) → (IsArc m.g m.level u v → ⊥) → (IsArc m.g m.level v u → ⊥) → m.r u v ≡ m.c u v =
    λ v no back. omega (arith, zero_rest m u v no back, zero_cap m u v no) in
    let all : (a : ℕ) → m.r u (InHalf (Account a)) + f Root a ≡ m.c u (InHalf (Account a)) =
    λ a. omega (arith, m.moved.both u (InHalf (Account a)), zero_cap m (InHalf (Account a)) u (to_other_half m.g m.level (Account a) Root (λ e. cc))) in
    let same : sum_below n (λ a. halves (m.r u) a + f Root a) ≡ sum_below n (halves (m.c u)) =
    sum_below-eq n (λ a. halves (m.r u) a + f Root a) (halves (m.c u))
    (λ a lt. omega (arith, none (OutHalf (Account a)) (λ no. no) (λ no. no), all a)) in
    omega (
      arith,
      same,
      sum_below-add n (halves (m.r u)) (f Root),
      zero_cap m u source (λ no. no),
      none (OutHalf Root) (λ no. no) (λ no. no),
      none Supersink (λ no. no) (λ no. no),
    )

-- the units that the supersink took from an account
abbrev pub taken_from : Rests → ℕ → ℕ
taken_from r x = r Supersink (InHalf (Account x))

pub passed_on : (m : Moves) (x : Node) → IsNode m.g.accounts x → units_out m.g.accounts (units_moved m.r) x ≡ through m.r x
passed_on m Root is = omega (arith, out_of_root_second m, m.moved.kept (OutHalf Root) tt)
passed_on m (Account a) is = omega (arith, out_of_second m a is, m.moved.kept (OutHalf (Account a)) is)

-- a node's room and its units, one way and back
pub room_through : (m : Moves) (x : Node) → IsNode m.g.accounts x → m.r (InHalf x) (OutHalf x) + through m.r x ≡ m.cap x - 1
room_through m x is = omega (arith, m.moved.both (InHalf x) (OutHalf x), m.split.through x is, own_edge m x)

pub room_to_sink : (m : Moves) (x : ℕ) → x < m.g.accounts → m.r (InHalf (Account x)) Supersink + taken_from m.r x ≡ 1
room_to_sink m x below = omega (arith, m.moved.both (InHalf (Account x)) Supersink, m.split.ends x below, zero_cap m Supersink (InHalf (Account x)) (λ no. no))

-- all that may be moved out of an account's first half, at first
pub first_capacity : (m : Moves) (x : ℕ) → x < m.g.accounts → out_of m.g.accounts m.c (InHalf (Account x)) ≡ (m.cap (Account x) - 1) + 1
first_capacity m x below =
    let n : ℕ = m.g.accounts in
    let u : SplitNode = InHalf (Account x) in
    let firsts : (a : ℕ) → m.c u (InHalf (Account a)) ≡ 0 = λ a. zero_cap m u (InHalf (Account a)) (λ no. no) in
    let middle : sum_below n (halves (m.c u)) ≡ sum_below n (λ _. 0) + (m.cap (Account x) - 1) =
    sum_below-point n (halves (m.c u)) (λ _. 0) x (m.cap (Account x) - 1) below
    (λ a lt other. omega (arith, firsts a, zero_cap m u (OutHalf (Account a)) (to_other_half m.g m.level (Account x) (Account a) (accounts_apart a x other))))
    (omega (arith, firsts x, m.split.through (Account x) below)) in
    omega (
      arith,
      middle,
      sum_below-zero n,
      zero_cap m u source (λ no. no),
      zero_cap m u (OutHalf Root) (to_other_half m.g m.level (Account x) Root (λ e. cc)),
      m.split.ends x below,
    )

-- what comes in is passed on or taken by the supersink
pub taken_in : (m : Moves) (x : ℕ) → x < m.g.accounts →
    units_in m.g.accounts (units_moved m.r) x ≡ units_out m.g.accounts (units_moved m.r) (Account x) + taken_from m.r x
taken_in m x below =
    omega (arith, out_of_first m x below, first_capacity m x below, m.moved.kept (InHalf (Account x)) below, passed_on m (Account x) below, room_through m (Account x) below, room_to_sink m x below)
