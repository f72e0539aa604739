use Rattle.http_requests.specs.Progress.{IsProgress}
use Rattle.request_cases.proofs.times_whole.Given as goal

abbrev pub invariant-loop : goal.invariant-loop
invariant-loop l = IsProgress l.progress l.bytes
