use Rattle.std.proofs.Common.{◌≡◌, ℕ, List, ◌++◌, length}
use Rattle.std.specs.Vec.Iter.{into_iter_items, into_iter_len}
use Rattle.trust_types.specs.Kept.{IsMoment}
use Rattle.script.specs.Stages.{stage_of, stage_at_first}
use Rattle.script.specs.Runs.{Run}
use Rattle.script.specs.inner.Ready.{AreReady}
use Rattle.script.proofs.playing.play_lines.Given as goal

abbrev pub invariant-loop-line : goal.invariant-loop-line
invariant-loop-line g l = record {
  lines : l.yielded ++ into_iter_items l.line-iterator ≡ into_iter_items l.initial.line-iterator;
  long : into_iter_len l.line-iterator ≡ length (into_iter_items l.line-iterator);
  ready : AreReady l.book.history l.actors;
  moment : IsMoment l.moment;
  run : (added : List ℕ) × Run l.yielded (stage_at_first l.fn.book.history) (stage_of l.book.history l.actors l.moment) added × (l.out.items ≡ l.fn.out.items ++ added);
  found : l.book.found ≡ l.fn.book.found;
}
