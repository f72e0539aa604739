use Rattle.std.proofs.Common.{◌+◌, ◌*◌}
use Rattle.seat_cases.proofs.loads.+fn-watch_all-join+arg2+watch_all.Given as goal

abbrev pub decreases-join+arg2 : goal.decreases-join+arg2
decreases-join+arg2 g l = 2 * l.others + 2

abbrev pub decreases-watch_all : goal.decreases-watch_all
decreases-watch_all g l = 2 * l.readers + 1
