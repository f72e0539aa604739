use Rattle.std.proofs.Common.{sym, subst, IfSome}
use Rattle.trust_types.specs.Kept.{revision}
use Rattle.site_history.specs.Histories.{Freeze, History, records}
use Rattle.site_cases.specs.Graphs.{IsPastGraph}
use Rattle.site_cases.proofs.Later.{kept_later, at_once}
use Rattle.site_cases.proofs.site.Site.graph.Goals as goal

pub invariant_of-self-2 : goal.invariant_of-self-2
invariant_of-self-2 g c =
    let s = c.self.inside in
    let h : History = s.book.history in
    subst (λ (z : History). IfSome s.frozen (λ graph. IsPastGraph z graph.value)) (sym c.in_ok-freeze.ensures.entry) (kept_later h (Freeze 1 (revision (records h))) s.frozen c.self.invariant)

pub returns : goal.returns
returns g c =
    subst (λ (z : History). IsPastGraph z c.in_ok-freeze.field-0.value) (sym c.in_ok-freeze.ensures.entry) (at_once c.self.inside.book.history 1 c.in_ok-freeze.field-0.value c.in_ok-freeze.ensures.graph)
