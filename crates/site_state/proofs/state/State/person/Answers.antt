use Rattle.std.proofs.Common.{◌∙◌, ap, sym}
use Rattle.site_history.specs.Sites.{site_of}
use Rattle.site_state.specs.States.{Known}
use Rattle.site_state.specs.inner.Parts.{site_in}
use Rattle.site_state.proofs.Showing.{missing_shown, person_is}
use Rattle.site_state.proofs.state.State.person.Goals as goal

pub returns-in_default : goal.returns-in_default
returns-in_default c =
    let same = c.self.invariant.state.parts_are.site ∙ ap (λ (k : Known). site_of k.history) c.self.view_is in
    missing_shown c.args.self.now.history (site_in c.self.inside.parts) c.args.word.now same (sym c.in_default.is ∙ c.number_of.ensures.number)

pub returns : goal.returns
returns c =
    let same = c.self.invariant.state.parts_are.site ∙ ap (λ (k : Known). site_of k.history) c.self.view_is in
    person_is c.args.self.now.history (site_in c.self.inside.parts) c.args.word.now c.in-Some.account c.level_of-level.result c.in_ok-person.field-0 same c.in-Some.ensures.number
    c.level_of-level.ensures c.in_ok-person.ensures.name c.in_ok-person.ensures.level c.in_ok-person.ensures.given c.in_ok-person.ensures.taken
