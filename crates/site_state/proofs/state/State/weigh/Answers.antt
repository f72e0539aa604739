use Rattle.std.proofs.Common.{ap, ◌∙◌}
use Rattle.site_history.specs.Sites.{Site, site_of}
use Rattle.site_history.specs.Replies.{judged_author}
use Rattle.site_state.specs.States.{Known}
use Rattle.site_state.proofs.ActsJudged.{judge-refused, act_judged}
use Rattle.site_state.proofs.state.State.weigh.Goals as goal

pub returns-in-Err : goal.returns-in-Err
returns-in-Err c =
    let is = c.in-Err.ensures.judged
    ∙ (ap (λ (s : Site). judged_author s c.args.act.author) c.self.invariant.state.parts_are.site ∙ ap (λ (s : Known). judged_author (site_of s.history) c.args.act.author) c.self.view_is) in
    (judge-refused c.args.self.now.history c.args.act c.in-Err.reply is, c.in-Err.ensures.refusal)

pub returns : goal.returns
returns c =
    let is = c.in-Ok.ensures.judged
    ∙ (ap (λ (s : Site). judged_author s c.args.act.author) c.self.invariant.state.parts_are.site ∙ ap (λ (s : Known). judged_author (site_of s.history) c.args.act.author) c.self.view_is) in
    act_judged c.args.self.now.history c.args.act c.in-Ok.found c.args.moment c.weigh_command.result is c.weigh_command.ensures
