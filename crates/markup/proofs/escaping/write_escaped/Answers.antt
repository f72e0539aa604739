use Rattle.std.proofs.Common.{◌++◌, ◌<◌, length, refl, arith}
use Rattle.std.proofs.lemmas.Bool.Decides.{nat_tests}
use Rattle.markup.specs.Escapes.{escaped}
use Rattle.markup.proofs.Fronts.{after-front, after-byte, behind_byte, escaped-cons}
use Rattle.markup.proofs.escaping.write_escaped.Goals as goal

pub loop-rest-init : goal.loop-rest-init
loop-rest-init c =
    after-front escaped escaped-cons c.args.html.now.items c.write_plain.new.html.items c.args.text.now c.in_ok-rest.rest.now (c.args.html.now.items ++ escaped c.args.text.now)
    c.in_ok-rest.ensures.written c.in_ok-rest.ensures.rest refl

pub loop-rest-preserved : goal.loop-rest-preserved
loop-rest-preserved c =
    let more : 0 < length c.loop-rest.rest.now = grind (arith, nat_tests) in
    after-front escaped escaped-cons c.write_byte.new.html.items c.write_plain-in-loop-rest.new.html.items (behind_byte c.loop-rest.rest.now) c.in_ok-rest-2.rest.now
    (c.args.html.now.items ++ escaped c.args.text.now) c.in_ok-rest-2.ensures.written c.in_ok-rest-2.ensures.rest
    (after-byte c.loop-rest.html.items c.write_byte.new.html.items c.loop-rest.rest.now (c.args.html.now.items ++ escaped c.args.text.now) more c.in_ok-write_byte.ensures c.loop-rest.invariant)
