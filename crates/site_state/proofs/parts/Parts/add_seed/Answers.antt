use Rattle.std.proofs.Common.{◌<◌, length, arith, sym, ◌∙◌}
use Rattle.site_state.specs.inner.Parts.{site_in}
use Rattle.site_state.proofs.Seeding.{seed_added}
use Rattle.site_state.proofs.parts.Parts.add_seed.Goals as goal

pub returns-in_ok-push : goal.returns-in_ok-push
returns-in_ok-push c =
    let few : length c.args.seeds.now.items < 200 = omega (arith, c.len.ensures, c.if-len.true) in
    seed_added (site_in c.args.self.now) c.args.account c.args.seeds.now.items c.push.new.self.items c.name.result few (sym c.is_seed.ensures ∙ c.if-is_seed.true) c.name.ensures c.in_ok-push.ensures.items
