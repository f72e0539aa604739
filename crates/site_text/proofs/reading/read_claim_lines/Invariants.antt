use Rattle.std.proofs.Common.{◌≡◌, ◌+◌, length}
use Rattle.text_lines.specs.Words.{lines}
use Rattle.text_lines.specs.Reading.{reading}
use Rattle.claim_lines.specs.Claim.{Claim, nothing, claim_line}
use Rattle.claim_lines.specs.Drafts.{IsClaimDraft}
use Rattle.site_text.proofs.reading.read_claim_lines.Given as goal

abbrev pub invariant-loop-line : goal.invariant-loop-line
invariant-loop-line l = record {
  so_far : (c : Claim) × IsClaimDraft (length l.names) l.draft c × (reading (claim_line l.names) (l.text.number + 1) c (lines l.text.bytes) ≡ reading (claim_line l.names) (l.initial.text.number + 1) nothing (lines l.initial.text.bytes));
  number : l.text.number + length (lines l.text.bytes) ≡ l.initial.text.number + length (lines l.initial.text.bytes);
}

abbrev pub decreases-loop-line : goal.decreases-loop-line
decreases-loop-line l = length l.text.bytes
