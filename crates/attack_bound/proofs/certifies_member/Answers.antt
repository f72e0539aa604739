use Rattle.std.proofs.Common.{ℕ, ◌≡◌, ◌<◌, ◌≤◌, ap, ◌∙◌, sym, true, arith, rules}
use Rattle.trust_types.specs.Levels.{rank}
use Rattle.trust_types.proofs.Walks.{edge_of_cert, cert_of_edge}
use Rattle.attack_bound.specs.Attack.{members_by}
use Rattle.attack_bound.proofs.Certifying.{certifies_one, certifies_none}
use Rattle.attack_bound.proofs.certifies_member.Goals as goal

pub returns-then-members-index : goal.returns-then-members-index
returns-then-members-index g c =
    let graph = g.G.CertGraph in
    let degree : ℕ → ℕ = graph.degree_of c.args.graph.now in
    let given = graph.cert_of c.args.graph.now in
    let within : c.loop-i.i < degree c.args.account = omega arith in
    let above : rank c.args.level ≤ rank c.given-cert.result.level = search rules in
    let member : members_by c.args.members.now c.given-cert.result.to ≡ true = search rules in
    let edge = edge_of_cert (graph.certificates c.args.graph.now) degree given c.args.level c.args.account c.loop-i.i c.requires.readers c.requires.account within (rw c.given-cert.ensures at above) in
    certifies_one (graph.certificates c.args.graph.now) c.args.level (members_by c.args.members.now) c.args.account _ edge (rw c.given-cert.ensures at member)

pub returns : goal.returns
returns g c =
    let graph = g.G.CertGraph in
    let degree : ℕ → ℕ = graph.degree_of c.args.graph.now in
    let given = graph.cert_of c.args.graph.now in
    certifies_none (graph.certificates c.args.graph.now) c.args.level (members_by c.args.members.now) c.args.account c.requires.account
    (λ b edge.
    let found = cert_of_edge (graph.certificates c.args.graph.now) degree given c.args.level c.args.account b c.requires.readers c.requires.grade edge in
    ap (members_by c.args.members.now) (sym found.2) ∙ c.loop-i.invariant found.0 (omega (arith, found.1)) found.3)
