use Rattle.site_state.specs.inner.Parts.{site_in}
use Rattle.site_state.proofs.Seeding.{seed_listed}
use Rattle.site_state.proofs.parts.Parts.seeds.Goals as goal

pub loop-account-preserved : goal.loop-account-preserved
loop-account-preserved c = seed_listed (site_in c.args.self.now) c.loop-account.account c.loop-account.seeds.items c.add_seed.new.seeds.items c.loop-account.invariant c.in_ok-add_seed.ensures
