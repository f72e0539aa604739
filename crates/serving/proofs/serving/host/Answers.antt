use Rattle.std.proofs.Common.{ℕ, sym, subst}
use Rattle.serving.specs.Serving.{around, Hosts}
use Rattle.serving.proofs.Told.{hosted}
use Rattle.serving.proofs.serving.host.Goals as goal

pub returns-clause-hosts : goal.returns-clause-hosts
returns-clause-hosts g c =
    let accepted = c.attend-accepted in
    let accept = c.args.plan.now.accept in
    let before = around (g.P.Port.faults c.args.port.now) (g.W.Sink.held c.args.sink.now) (g.W.Sink.faults c.args.sink.now) in
    let mid = around (g.P.Port.faults accepted.new.port) (g.W.Sink.held accepted.new.sink) (g.W.Sink.faults accepted.new.sink) in
    let now = around (g.P.Port.faults accepted.new.port) (g.W.Sink.held c.tell_end.new.sink) (g.W.Sink.faults c.tell_end.new.sink) in
    subst (λ (n : ℕ). Hosts accept before now n c.tell_end.result) (sym c.take-tally.ensures)
    (hosted accept accepted.result.links before mid now.sink accepted.result.end c.tell_end.result accepted.ensures.stops c.tell_end.ensures)
