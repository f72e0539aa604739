use Rattle.std.proofs.Common.{◌≡◌, ◌<◌, ◌++◌, ◌∷◌, [], List, true, nat_le, subst, sym, ◌∙◌, arith}
use Rattle.std.proofs.lemmas.List.{length_push}
use Rattle.trust_types.specs.Changes.{standing_count}
use Rattle.trust_types.specs.declared.graphs.Cert.{Cert}
use Rattle.cert_log.proofs.Counting.{short_fits}
use Rattle.cert_log.proofs.Standing.{can_stand}
use Rattle.cert_log.specs.Standing.{AreStanding}
use Rattle.drill.specs.Draws.{certs_from}
use Rattle.drill.proofs.Drawing.{Drawn, drawn-none, drawn-more, drawn-all, certs-between}
use Rattle.drill.proofs.sites.certs.Goals as goal

pub loop-init : goal.loop-init
loop-init c = ([], c.new-log.ensures, subst (λ s. Drawn c.args.number 0 s []) (sym c.of-draws.ensures) (drawn-none c.args.number))

pub loop-preserved : goal.loop-preserved
loop-preserved c =
    let inv = c.loop.invariant in
    let made : List Cert = inv.0 in
    let cert : Cert = c.cert.result in
    let taken = c.in_ok-_fits.ensures made inv.1 in
    let fits : true ≡ nat_le (standing_count (made ++ cert ∷ [])) 2000000 = short_fits (made ++ cert ∷ []) (omega (arith, length_push made cert, inv.2.count)) in
    let lt : c.loop.counter < 20000 = omega arith in (
      made ++ cert ∷ [],
      taken.1 (taken.0 ∙ sym fits),
      drawn-more c.args.number c.loop.counter c.loop.draws.state _ made cert lt c.cert.ensures.cert c.cert.ensures.next inv.2,
    )

pub returns-clause-stand : goal.returns-clause-stand
returns-clause-stand c =
    let inv = c.loop.invariant in
    let end : c.loop.counter ≡ 20000 = omega arith in
    subst (λ cs. AreStanding cs c.in_ok-into_standing.field-0.items) (drawn-all c.args.number c.loop.counter c.loop.draws.state inv.0 end inv.2) (c.in_ok-into_standing.ensures inv.0 inv.1)

pub returns-clause-beside : goal.returns-clause-beside
returns-clause-beside c =
    let inv = c.loop.invariant in
    let end : c.loop.counter ≡ 20000 = omega arith in
    can_stand 2000 (certs_from 20000 c.args.number) c.in_ok-into_standing.field-0.items (certs-between 20000 c.args.number)
    (subst (λ cs. AreStanding cs c.in_ok-into_standing.field-0.items) (drawn-all c.args.number c.loop.counter c.loop.draws.state inv.0 end inv.2) (c.in_ok-into_standing.ensures inv.0 inv.1))
