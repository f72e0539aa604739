use Rattle.std.proofs.Common.{arith, ◌≡◌, ◌∙◌, List, ℕ, ◌+◌}
use Rattle.std.specs.List.{swap}
use Rattle.trust_types.specs.declared.graphs.Cert.{Cert}
use Rattle.cert_log.proofs.Moving.{moved, passed}
use Rattle.cert_log.proofs.sorted.move_to_front.Goals as goal
use Rattle.cert_log.proofs.sorted.move_to_front.Goals.{then-stands_at, else-stands_at}

pub loop-place-preserved : goal.loop-place-preserved
loop-place-preserved c =
    let xs : List Cert = c.loop-place.certs in
    let place : ℕ = c.loop-place.place in
    let now = c.loop-place.invariant in
    elim c.if-stands_at.branch [
      | then-stands_at w ↦
          let next = moved xs c.args.certs.now c.loop-place.count place c.stands_at.result c.loop-place.auto.certs c.loop-place-test.true now.count now.left now.front c.stands_at.ensures w.if-stands_at.true in
          let certs : c.if-stands_at.certs ≡ swap xs c.loop-place.count place = w.certs-is ∙ w.swap.ensures.after in
          let count : c.if-stands_at.count ≡ c.loop-place.count + 1 = omega arith in
          record { count = omega arith; left = rw certs next.0; front = rw (certs, count) next.1 }
      | else-stands_at w ↦
          let next = passed xs c.args.certs.now c.loop-place.count place c.stands_at.result c.loop-place.auto.certs c.loop-place-test.true now.left now.front c.stands_at.ensures w.if-stands_at.false in
          record { count = omega arith; left = rw w.certs-is next.0; front = rw (w.certs-is, w.count-is) next.1 }
    ]
