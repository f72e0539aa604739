use Rattle.std.proofs.Common.{◌≡◌, length, arith}
use Rattle.audit_text.proofs.Written.{caps_done}
use Rattle.audit_text.proofs.writing.put_caps.Goals as goal

pub returns : goal.returns
returns c =
    let all : c.loop-entry.entry-index ≡ length c.args.entries.now = omega arith in
    caps_done c.args.text.now.items _ _ _ c.args.entries.now c.loop-entry.entry-index c.in_ok-extend_from_slice.ensures.items c.loop-entry.invariant all c.in_ok-push.ensures.items
