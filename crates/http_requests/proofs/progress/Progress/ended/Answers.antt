use Rattle.std.proofs.Common.{◌≤◌, ◌+◌, length, take, drop, sym, arith, subst}
use Rattle.http_heads.proofs.Staying.{ended-within}
use Rattle.http_requests.specs.declared.next.Next.TheVariants.{Whole}
use Rattle.http_requests.specs.declared.requests.Request.{Request}
use Rattle.http_requests.specs.Requests.{request_of, IsRequest}
use Rattle.http_requests.proofs.Asking.{few_bytes, asked-more, asked-now, asked-whole}
use Rattle.http_requests.proofs.progress.Progress.ended.Goals as goal

pub overflow_add-self : goal.overflow_add-self
overflow_add-self c =
    let few = few_bytes c.in-Some.head c.in-Ok.length (sym c.in-Ok.ensures) in
    let within = ended-within c.args.bytes.now c.args.end c.requires.front in
    omega (arith, within.1)

pub returns-then-rest-length-clause-progress : goal.returns-then-rest-length-clause-progress
returns-then-rest-length-clause-progress c = record {
  scan = c.requires.known.scan;
  least = asked-more c.args.bytes.now c.args.end c.requires.front c.in-Some.head c.in-Ok.length (rw c.split_at.ensures.front at c.in-Some.ensures) (sym c.in-Ok.ensures);
}

pub returns-then-rest-length-clause-answer : goal.returns-then-rest-length-clause-answer
returns-then-rest-length-clause-answer c =
    asked-now c.args.bytes.now c.args.end c.requires.front c.in-Some.head c.in-Ok.length (rw c.split_at.ensures.front at c.in-Some.ensures) (sym c.in-Ok.ensures)
    (rw c.split_at.ensures.back at c.if-rest-length.true)

pub returns-in-Ok-request_of-clause-answer : goal.returns-in-Ok-request_of-clause-answer
returns-in-Ok-request_of-clause-answer c =
    let head = rw c.split_at.ensures.front at c.in-Some.ensures in
    let there : c.in-Ok.length ≤ length (drop c.args.end c.args.bytes.now) = rw c.split_at.ensures.back at c.if-rest-length.false in
    let whole = asked-whole c.args.bytes.now c.args.end c.requires.front c.in-Some.head c.in-Ok.length head (sym c.in-Ok.ensures) there in
    let request = rw c.split_at.ensures.back at c.in-Ok-request_of.ensures.request in
    subst (λ (r : Request). IsRequest c.args.bytes.now (Whole r (c.args.end + c.in-Ok.length))) (sym request) whole

pub returns-in-Err-request_of-clause-answer : goal.returns-in-Err-request_of-clause-answer
returns-in-Err-request_of-clause-answer c =
    let head = rw c.split_at.ensures.front at c.in-Some.ensures in
    let there : c.in-Ok.length ≤ length (drop c.args.end c.args.bytes.now) = rw c.split_at.ensures.back at c.if-rest-length.false in (
      request_of c.in-Some.head (take c.in-Ok.length (drop c.args.end c.args.bytes.now)),
      c.args.end + c.in-Ok.length,
      asked-whole c.args.bytes.now c.args.end c.requires.front c.in-Some.head c.in-Ok.length head (sym c.in-Ok.ensures) there,
    )
