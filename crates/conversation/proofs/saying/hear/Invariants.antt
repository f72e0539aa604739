use Rattle.std.proofs.Common.{length, ◌-◌}
use Rattle.conversation.specs.inner.Hearing.{Reads, IsQuiet}
use Rattle.conversation.proofs.saying.hear.Given as goal

abbrev pub invariant-reads : goal.invariant-reads
invariant-reads g l = record {
  reads : Reads (g.L.Link.line l.initial.link) (g.L.Link.line l.link) l.initial.inbox l.inbox;
  quiet : IsQuiet (g.L.Link.line l.initial.link) (g.L.Link.line l.link);
}

abbrev pub decreases-reads : goal.decreases-reads
decreases-reads g l = 81920 - length l.inbox
