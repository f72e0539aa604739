use Rattle.std.proofs.Common.{ap, ◌∙◌, ◌-◌, ◌≤◌, take, length, rules}
use Rattle.conversation.proofs.Bytes.{moved}
use Rattle.conversation.proofs.buffer.move_front.Goals as goal

pub returns-clause-moved : goal.returns-clause-moved
returns-clause-moved c =
    let l : c.args.end ≤ length c.args.bytes.now.items = search rules in
    ap (take (c.args.end - c.args.start)) c.copy_within.ensures.items ∙ moved c.args.bytes.now.items c.args.start c.args.end c.requires.0 l
