use Rattle.std.proofs.Common.{◌≡◌, ◌<◌, ◌^◌, ◌++◌, take, All}
use Rattle.audit_text.specs.Canonical.{flow_words}
use Rattle.audit_text.specs.inner.Writing.{lines_for}
use Rattle.audit_text.proofs.writing.put_flow.Given as goal

abbrev pub invariant-loop-edge : goal.invariant-loop-edge
invariant-loop-edge l = record {
  written : l.text.items ≡ l.initial.text.items ++ lines_for (flow_words l.frozen.names) (take l.edge-index l.flow);
  small : All (λ edge. edge.units < 2 ^ 32) (take l.edge-index l.flow);
}
