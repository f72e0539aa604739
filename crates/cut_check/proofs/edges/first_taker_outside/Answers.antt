use Rattle.std.proofs.Common.{ℕ, ◌≡◌, ◌<◌, ◌≤◌, slice_index_or, arith, rules}
use Rattle.trust_types.specs.declared.flows.Side.TheVariants.{Outside}
use Rattle.trust_types.specs.Levels.{rank}
use Rattle.trust_types.proofs.Walks.{cert_of_edge, edge_of_cert}
use Rattle.cut_check.proofs.CertEdges.{lesser_before}
use Rattle.cut_check.proofs.edges.first_taker_outside.Goals as goal

pub returns-then-is_outside : goal.returns-then-is_outside
returns-then-is_outside g c =
    let degree : ℕ → ℕ = g.G.CertGraph.degree_of c.args.graph.now in
    let given = g.G.CertGraph.cert_of c.args.graph.now in
    let rows = c.requires.readers in
    let i : ℕ = c.loop-i.i in
    let giver = c.requires.giver in
    let within : i < degree c.args.giver = omega (arith, c.degree-i-end.ensures) in
    let above : rank c.args.level ≤ rank c.given-cert.result.level = search rules in
    let outside : slice_index_or c.args.sides.now c.given-cert.result.to Outside ≡ Outside = search rules in
    let edge = edge_of_cert _ degree given c.args.level c.args.giver i rows giver within (rw c.given-cert.ensures at above) in
    let earlier = λ (y : ℕ). cert_of_edge _ degree given c.args.level c.args.giver y rows c.requires.grade in
    rw c.given-cert.ensures (
      rows.taker c.args.giver i giver within,
      (
        (λ holds. holds edge (rw c.given-cert.ensures at outside)),
        λ y lesser other out.
            let found = earlier y other in
            c.loop-i.invariant found.0 (lesser_before rows c.args.giver i found.0 giver found.1 (rw found.2 lesser)) found.3 (rw found.2 out),
      ),
    )
