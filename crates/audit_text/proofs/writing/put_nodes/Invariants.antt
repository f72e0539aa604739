use Rattle.std.proofs.Common.{◌≡◌, [], ◌∷◌, ◌++◌, take}
use Rattle.trust_types.specs.NodeWords.{node_name}
use Rattle.audit_text.specs.inner.Writing.{lines_for}
use Rattle.audit_text.proofs.writing.put_nodes.Given as goal

abbrev pub invariant-loop-node : goal.invariant-loop-node
invariant-loop-node l = l.text.items ≡ l.initial.text.items ++ lines_for (λ x. l.keyword ∷ node_name l.frozen.names x ∷ []) (take l.node-index l.nodes)
