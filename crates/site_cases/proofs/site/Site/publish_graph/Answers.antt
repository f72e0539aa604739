use Rattle.std.proofs.Common.{sym, subst, IfSome}
use Rattle.site_history.specs.Histories.{Publish, History, published_of}
use Rattle.site_cases.specs.Graphs.{IsPastGraph}
use Rattle.site_cases.proofs.Later.{kept_later}
use Rattle.site_cases.proofs.site.Site.publish_graph.Goals as goal

pub invariant_of-self-2 : goal.invariant_of-self-2
invariant_of-self-2 c =
    let s = c.self.inside in
    let h : History = s.book.history in
    subst (λ (z : History). IfSome s.frozen (λ graph. IsPastGraph z graph.value)) (sym c.in_ok-publish.ensures.entry)
    (kept_later h (Publish 1 (published_of c.in_ok-publish.field-0 c.in_ok-candidate.candidate)) s.frozen c.self.invariant)
