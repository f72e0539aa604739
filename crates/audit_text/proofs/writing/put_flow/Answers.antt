use Rattle.std.proofs.Common.{◌<◌, ◌^◌, ◌∙◌, ◌++◌, ap, sym, subst}
use Rattle.std.proofs.lemmas.List.Elements.{All-more}
use Rattle.trust_types.specs.declared.flows.FlowLine.{FlowLine}
use Rattle.audit_text.specs.Canonical.{line, flow_words}
use Rattle.audit_text.proofs.Written.{more_taken}
use Rattle.audit_text.proofs.writing.put_flow.Goals as goal

pub loop-edge-preserved : goal.loop-edge-preserved
loop-edge-preserved c = record {
  written =
      c.in_ok-put_edge.ensures.written
      ∙ ap (λ text. text ++ line (flow_words c.args.frozen.now.names c.edge-item.result)) c.loop-edge.invariant.written
      ∙ more_taken (flow_words c.args.frozen.now.names) c.args.text.now.items c.args.flow.now c.loop-edge.edge-index c.edge-item.result c.loop-edge-test.true (sym c.edge-item.is);
  small = All-more (λ (edge : FlowLine). edge.units < 2 ^ 32) c.args.flow.now c.loop-edge.edge-index c.edge-item.result c.loop-edge-test.true c.loop-edge.invariant.small
      (subst (λ (edge : FlowLine). edge.units < 2 ^ 32) c.edge-item.is c.in_ok-put_edge.ensures.small);
}
