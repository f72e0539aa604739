use Rattle.std.proofs.Common.{◌≡◌, arith, ap, ◌∙◌}
use Rattle.std.proofs.lemmas.Grind.{common_steps}
use Rattle.cut_check.proofs.CertEdges.{cert_at_place}
use Rattle.cut_check.proofs.edges.certifies_at.Goals as goal

pub returns-else-eq : goal.returns-else-eq
returns-else-eq g c = (
  grind (arith, common_steps),
  λ edge.
      let at = cert_at_place c.requires.readers c.args.level c.requires.grade c.args.giver c.args.taker c.args.passed c.requires.lesser c.requires.all edge in
      let takes : c.given-cert.result.to ≡ c.args.taker = ap (λ cert. cert.to) c.given-cert.ensures ∙ at.1 in
      grind (arith, common_steps, takes),
)
