use Rattle.drill.proofs.Making.{drilled}
use Rattle.drill.proofs.sites.drill_site.Goals as goal

pub returns : goal.returns
returns c = drilled c.args.number _ c.in_ok-names.names.items c.in_ok-seeds.seeds.items c.in_ok-certs.certs.items c.in_ok-freeze.ensures c.in_ok-names.ensures.all c.in_ok-seeds.ensures c.in_ok-certs.ensures.stand
