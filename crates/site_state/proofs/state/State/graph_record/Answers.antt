use Rattle.std.proofs.Common.{◌<◌, List, length, ap, ◌∙◌, arith, slice_get}
use Rattle.trust_types.specs.declared.records.Record.{Record}
use Rattle.trust_types.specs.Kept.{revision}
use Rattle.site_history.specs.Histories.{records, graph_records}
use Rattle.site_state.specs.States.{Known}
use Rattle.site_state.proofs.Stating.{as_many_records}
use Rattle.site_state.proofs.state.State.graph_record.Goals as goal

pub record_at-requires : goal.record_at-requires
record_at-requires c =
    let h = c.self.inside.past.value in
    let below : c.args.n < revision (records h) = rw (← c.self.view_is) at c.requires in
    omega (arith, ap length c.deref.ensures.value, ap length c.self.invariant.state.parts_are.graph, as_many_records (records h))

pub returns : goal.returns
returns c =
    c.record_at.ensures
    ∙ (ap (λ (l : List Record). slice_get l c.args.n) (c.deref.ensures.value ∙ c.self.invariant.state.parts_are.graph)
    ∙ ap (λ (s : Known). slice_get (graph_records (records s.history)) c.args.n) c.self.view_is)
