use Rattle.std.proofs.Common.{arith, sym, inl, inr}
use Rattle.http_heads.proofs.Scanning.{front-ended, front-past, front-lines}
use Rattle.http_heads.proofs.scans.HeadScan.front.Goals as goal

pub returns-then-self-gt-MOST_LINES-clause-front : goal.returns-then-self-gt-MOST_LINES-clause-front
returns-then-self-gt-MOST_LINES-clause-front c =
    sym (front-lines c.go_on.new.self c.args.bytes.now c.go_on.ensures.scan c.go_on.ensures.far c.if-self-gt-MOST_LINES.true)

pub returns-then-self-clause-front : goal.returns-then-self-clause-front
returns-then-self-clause-front c =
    sym (front-ended c.go_on.new.self c.args.bytes.now c.go_on.ensures.scan c.if-self.true c.if-self-gt-MOST_LINES.false)

pub returns-then-bytes-gt-LONGEST_HEAD-clause-front : goal.returns-then-bytes-gt-LONGEST_HEAD-clause-front
returns-then-bytes-gt-LONGEST_HEAD-clause-front c =
    elim c.go_on.ensures.far [
      | inl shut ↦ absurd (cc (c.if-self.false, shut))
      | inr far ↦ sym (front-past c.go_on.new.self c.args.bytes.now c.go_on.ensures.scan c.if-self.false (omega (arith, far)) c.if-bytes-gt-LONGEST_HEAD.true)
    ]
