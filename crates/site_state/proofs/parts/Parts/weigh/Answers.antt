use Rattle.std.proofs.Common.{ℕ, Option, sym, subst}
use Rattle.site_history.specs.declared.commands.Command.{Command}
use Rattle.site_state.specs.inner.Parts.{site_in}
use Rattle.site_state.specs.Weighed.{IsWeighed}
use Rattle.site_state.proofs.parts.Parts.weigh.Goals as goal

pub returns-in-Join : goal.returns-in-Join
returns-in-Join c =
    subst (λ (command : Command). IsWeighed (site_in c.args.self.now) c.args.held c.args.author c.args.moment command c.weigh_join.result) (sym c.in-Join.is) (c.weigh_join.ensures c.args.held c.args.author)

pub returns-in-Seed : goal.returns-in-Seed
returns-in-Seed c =
    subst (λ (command : Command). IsWeighed (site_in c.args.self.now) c.args.held c.args.author c.args.moment command c.weigh_seed.result) (sym c.in-Seed.is) (c.weigh_seed.ensures c.args.held)

pub returns-in-Unseed : goal.returns-in-Unseed
returns-in-Unseed c =
    subst (λ (command : Command). IsWeighed (site_in c.args.self.now) c.args.held c.args.author c.args.moment command c.weigh_unseed.result) (sym c.in-Unseed.is) (c.weigh_unseed.ensures c.args.held)

pub returns-in-Some : goal.returns-in-Some
returns-in-Some c =
    subst (λ (z : Option ℕ × Command). IsWeighed (site_in c.args.self.now) c.args.held z.0 c.args.moment z.1 c.weigh_cert.result) (λ i. (sym c.in-Some.is i, sym c.in-Cert.is i)) (c.weigh_cert.ensures c.args.held)

pub returns-in-Table : goal.returns-in-Table
returns-in-Table c =
    subst (λ (command : Command). IsWeighed (site_in c.args.self.now) c.args.held c.args.author c.args.moment command c.weigh_table.result) (sym c.in-Table.is) (c.weigh_table.ensures c.args.held)

pub returns-in-Login : goal.returns-in-Login
returns-in-Login c =
    subst (λ (command : Command). IsWeighed (site_in c.args.self.now) c.args.held c.args.author c.args.moment command c.weigh_login.result) (sym c.in-Login.is) (c.weigh_login.ensures c.args.held c.args.author c.args.moment)

pub returns-in-Some-author : goal.returns-in-Some-author
returns-in-Some-author c =
    subst (λ (z : Option ℕ × Command). IsWeighed (site_in c.args.self.now) c.args.held z.0 c.args.moment z.1 c.weigh_diary.result) (λ i. (sym c.in-Some-author.is i, sym c.in-Diary.is i)) c.weigh_diary.ensures
