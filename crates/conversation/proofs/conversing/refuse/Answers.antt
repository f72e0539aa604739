use Rattle.std.proofs.Common.{◌∙◌, subst, List, ℕ, inr}
use Rattle.outside_serving.specs.Links.{Put}
use Rattle.conversation.specs.inner.Hearing.{Stuck}
use Rattle.conversation.proofs.Ending.{clock_failed, is_among, said_bad, stuck_bad, wanted_here}
use Rattle.conversation.proofs.conversing.refuse.Goals as goal

pub fixed_page-requires-clause-status : goal.fixed_page-requires-clause-status
fixed_page-requires-clause-status g c = is_among _ c.requires

pub returns-in_default : goal.returns-in_default
returns-in_default g c = λ before seat pool log rest k is l. clock_failed before seat _ _ pool log rest k _ (inr (c.args.status, is)) l c.now.ensures.same c.in_default.ensures.cause

pub returns-in_default-fixed_page : goal.returns-in_default-fixed_page
returns-in_default-fixed_page g c = λ before seat pool log rest k is l. wanted_here before seat _ _ pool log rest k _ c.now.ensures.same c.in-Ok.ensures.cause

pub returns-in-Ok-say : goal.returns-in-Ok-say
returns-in-Ok-say g c = λ before seat pool log rest k is l.
    let e = c.deref.ensures.value ∙ c.in-Ok-fixed_page.ensures in
    said_bad before seat _ _ pool log rest k _ _ c.args.status c.in-Ok.moment l c.now.ensures.same c.in-Ok.ensures.cause c.in-Ok.ensures.within c.in-Ok.ensures.shown is
    (subst (λ (z : List ℕ). Put (g.L.Link.line c.args.link.now) (g.L.Link.line c.say.new.link) z) e c.in-Ok-say.ensures)

pub returns : goal.returns
returns g c = λ before seat pool log rest k is l.
    let e = c.deref.ensures.value ∙ c.in-Ok-fixed_page.ensures in
    stuck_bad before seat _ _ pool log rest k _ _ c.args.status c.in-Ok.moment c.now.ensures.same c.in-Ok.ensures.cause c.in-Ok.ensures.within c.in-Ok.ensures.shown is
    (subst (λ (z : List ℕ). Stuck (g.L.Link.line c.args.link.now) (g.L.Link.line c.say.new.link) z) e c.in-Err.ensures)
