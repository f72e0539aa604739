use Rattle.std.proofs.Common.{ℕ, ◌≡◌, ◌+◌, ◌≤◌, inl, inr, subst, arith}
use Rattle.std.proofs.lemmas.Bool.{cases_lt}
use Rattle.trust_types.specs.declared.accounts.Node.{Node}
use Rattle.trust_types.specs.declared.accounts.Node.TheVariants.{Root, Account}
use Rattle.trust_types.specs.Lines.{place}
use Rattle.cut_check.specs.Rules.{EndsInside}
use Rattle.cut_check.specs.Sides.{side_by}
use Rattle.cut_check.proofs.edges.first_open_edge.Goals as goal

-- What holds up to a place and at the account behind it holds up to there.
up_to_next : (Rule : Node → ℕ → Type 0) (number : ℕ) → ((x : Node) (b : ℕ) → place x ≤ number → Rule x b) → ((b : ℕ) → Rule (Account number) b) →
    (x : Node) (b : ℕ) → place x ≤ number + 1 → Rule x b
up_to_next Rule number before here Root b at = before Root b (omega arith)
up_to_next Rule number before here (Account a) b at = elim (cases_lt a number) [
  | inl less ↦ before (Account a) b (omega (arith, less))
  | inr last ↦ let same : number ≡ a = omega (arith, last, at) in subst (λ m. Rule (Account m) b) same (here b)
]

pub loop-number-preserved : goal.loop-number-preserved
loop-number-preserved g c =
    up_to_next (EndsInside (g.G.CertGraph.certificates c.args.graph.now) c.args.level (side_by c.args.root c.args.sides.now)) c.loop-number.number c.loop-number.invariant
    (λ b edge. c.in_default-first_open_taker.ensures b edge.1 edge)
