use Rattle.http_requests.specs.Progress.{IsProgress}
use Rattle.request_cases.proofs.next_of_each.Given as goal

abbrev pub invariant-loop-byte : goal.invariant-loop-byte
invariant-loop-byte l = IsProgress l.progress l.came.items
