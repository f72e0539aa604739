use Rattle.std.proofs.Common.{◌++◌, ◌∙◌, string_bytes, arith}
use Rattle.site_records.proofs.Entering.{entries_done}
use Rattle.site_records.proofs.writing.entries_text.Goals as goal

pub returns : goal.returns
returns c =
    entries_done (string_bytes c.loop-entry.text) (string_bytes c.push_str.new.self) c.args.entries.now c.loop-entry.entry-index c.in-Some.first.now c.in-Some.others.now
    (c.in_ok-push_str.ensures.bytes ∙ (λ i. c.in_ok-text.ensures.bytes i ++ c.format.ensures.text i)) c.loop-entry.invariant (omega arith) c.in-Some.ensures.cases.0
