-- What is still missing at the supersink, against what can still leave a set of split nodes.
use Rattle.std.proofs.Common.{ℕ, Bool, true, false, ◌+◌, ◌≡◌, ◌≢◌, ◌≤◌, refl, arith, ap, sym, subst, ◌∙◌}
use Rattle.trust_types.specs.declared.accounts.Node.TheVariants.{Root, Account}
use Rattle.split_flow.specs.Split.{SplitNode, InHalf, OutHalf, Supersink, source, IsSplitNode, sum_nodes, Rests}
use Rattle.split_flow.specs.Moved.{IsMoved, out_of, leaving}
use Rattle.split_flow.specs.Laws.{MissingAtMostLeaving}
use Rattle.split_flow.proofs.NodeSums.{sum_nodes-add, sum_nodes-eq, sum_nodes-swap, sum_nodes-point}
use Rattle.split_flow.proofs.Counted.{counted, uncounted, counted_parts, counted_nodes, counted_add}

-- what can be moved from the nodes of a set to nodes of the set
abbrev within : ℕ → (SplitNode → Bool) → Rests → ℕ
within n s r = sum_nodes n (λ u. sum_nodes n (λ v. counted (s u) (counted (s v) (r u v))))

pair : (p q : Bool) (a b c d : ℕ) → a + b ≡ c + d → counted p (counted q a) + counted q (counted p b) ≡ counted p (counted q c) + counted q (counted p d)
pair true true a b c d same = same
pair true false a b c d same = refl
pair false true a b c d same = refl
pair false false a b c d same = refl

-- within a set as much can be moved as before
twice : (n : ℕ) (s : SplitNode → Bool) (c r : Rests) → ((u v : SplitNode) → r u v + r v u ≡ c u v + c v u) → within n s r + within n s r ≡ within n s c + within n s c
twice n s c r both =
    let there : Rests → SplitNode → SplitNode → ℕ = λ t u v. counted (s u) (counted (s v) (t u v)) in
    let back : Rests → SplitNode → SplitNode → ℕ = λ t u v. there t v u in
    let joined : (t : Rests) → sum_nodes n (λ u. sum_nodes n (λ v. there t u v + back t u v)) ≡ within n s t + within n s t =
    λ t.
    sum_nodes-eq n (λ u. sum_nodes n (λ v. there t u v + back t u v)) (λ u. sum_nodes n (there t u) + sum_nodes n (back t u)) (λ u is. sum_nodes-add n (there t u) (back t u))
    ∙ sum_nodes-add n (λ u. sum_nodes n (there t u)) (λ u. sum_nodes n (back t u))
    ∙ ap (λ (k : ℕ). within n s t + k) (sum_nodes-swap n (there t)) in
    sym (joined r)
    ∙ sum_nodes-eq n (λ u. sum_nodes n (λ v. there r u v + back r u v)) (λ u. sum_nodes n (λ v. there c u v + back c u v))
    (λ u is. sum_nodes-eq n (λ v. there r u v + back r u v) (λ v. there c u v + back c u v) (λ v is_v. pair (s u) (s v) (r u v) (r v u) (c u v) (c v u) (both u v)))
    ∙ joined c

-- what can be moved out of the nodes of a set goes to nodes of the set or leaves it
split_rows : (n : ℕ) (s : SplitNode → Bool) (r : Rests) → sum_nodes n (λ u. counted (s u) (out_of n r u)) ≡ within n s r + leaving n s r
split_rows n s r =
    let inside : SplitNode → ℕ = λ u. sum_nodes n (λ v. counted (s v) (r u v)) in
    let outside : SplitNode → ℕ = λ u. sum_nodes n (λ v. uncounted (s v) (r u v)) in
    let row : (u : SplitNode) → out_of n r u ≡ inside u + outside u =
    λ u. sum_nodes-eq n (r u) (λ v. counted (s v) (r u v) + uncounted (s v) (r u v)) (λ v is. counted_parts (s v) (r u v)) ∙ sum_nodes-add n (λ v. counted (s v) (r u v)) (λ v. uncounted (s v) (r u v)) in
    sum_nodes-eq n (λ u. counted (s u) (out_of n r u)) (λ u. sum_nodes n (λ v. counted (s u) (counted (s v) (r u v))) + counted (s u) (outside u))
    (λ u is.
    ap (counted (s u)) (row u)
    ∙ counted_add (s u) (inside u) (outside u)
    ∙ ap (λ (k : ℕ). k + counted (s u) (outside u)) (sym (counted_nodes n (λ v. counted (s v) (r u v)) (s u))))
    ∙ sum_nodes-add n (λ u. sum_nodes n (λ v. counted (s u) (counted (s v) (r u v)))) (λ u. counted (s u) (outside u))

-- a set's nodes between the source and the supersink let as much out as at first
row_same : (n : ℕ) (c r : Rests) (s : SplitNode → Bool) → IsMoved n c r → s Supersink ≡ false → (u : SplitNode) → IsSplitNode n u → u ≢ source → counted (s u) (out_of n c u) ≡ counted (s u) (out_of n r u)
row_same n c r s moved stops (InHalf Root) is other = absurd (other refl)
row_same n c r s moved stops (InHalf (Account a)) is other = ap (counted (s (InHalf (Account a)))) (sym (moved.kept (InHalf (Account a)) is))
row_same n c r s moved stops (OutHalf x) is other = ap (counted (s (OutHalf x))) (sym (moved.kept (OutHalf x) is))
row_same n c r s moved stops Supersink is other =
    let P : Bool → Type 0 = λ b. counted b (out_of n c Supersink) ≡ counted b (out_of n r Supersink) in
    subst P (sym stops) refl

sent_from : (rows_c rows_r d wc wr lc lr : ℕ) → rows_c ≡ rows_r + d → rows_c ≡ wc + lc → rows_r ≡ wr + lr → wr + wr ≡ wc + wc → lr + d ≡ lc
sent_from rows_c rows_r d wc wr lc lr e f g h = omega arith

-- d units have left the source: so many fewer can leave the set
pub balance : (n : ℕ) (c r : Rests) (s : SplitNode → Bool) (d : ℕ) → IsMoved n c r → s source ≡ true → s Supersink ≡ false → out_of n r source + d ≡ out_of n c source → leaving n s r + d ≡ leaving n s c
balance n c r s d moved starts stops sent =
    let rows : Rests → SplitNode → ℕ = λ t u. counted (s u) (out_of n t u) in
    let from : (t : Rests) → rows t source ≡ out_of n t source = λ t. ap (λ b. counted b (out_of n t source)) starts in
    let more : sum_nodes n (rows c) ≡ sum_nodes n (rows r) + d =
    sum_nodes-point n (rows c) (rows r) source d tt (row_same n c r s moved stops) (from c ∙ sym sent ∙ ap (λ (k : ℕ). k + d) (sym (from r))) in
    sent_from _ _ d _ _ _ _ more (split_rows n s c) (split_rows n s r) (twice n s c r moved.both)

lesser : (d e more less all : ℕ) → less + d ≡ all → more + e ≡ all → e ≤ d + less
lesser d e more less all f g = omega arith

-- so a flow that sends d more than this one sends no more than can still leave the set
pub missing_at_most_leaving : MissingAtMostLeaving
missing_at_most_leaving n c r more s d e moved others starts stops sent sent_more =
    lesser d e _ _ _ (balance n c r s d moved starts stops sent) (balance n c more s e others starts stops sent_more)
