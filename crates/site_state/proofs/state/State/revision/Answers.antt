use Rattle.std.proofs.Common.{arith, ap}
use Rattle.site_history.specs.Sites.{Site}
use Rattle.site_history.proofs.Growing.{few-changes}
use Rattle.site_state.proofs.state.State.revision.Goals as goal

pub returns-clause-few : goal.returns-clause-few
returns-clause-few c =
    omega (arith, c.revision.ensures, ap (λ (s : Site). s.certs.revision) c.self.invariant.state.parts_are.site, few-changes c.self.inside.past.value, c.self.invariant.state.legal.short)
