use Rattle.std.proofs.Common.{ℕ, ◌≡◌, ◌+◌, List, length, ap, sym, ◌∙◌, arith}
use Rattle.text_lines.specs.Words.{lines}
use Rattle.text_lines.specs.Reading.{reading, fault_at}
use Rattle.text_lines.proofs.Following.{reading-more, reading-end, reading-refused}
use Rattle.claim_lines.specs.Claim.{claim_line}
use Rattle.claim_lines.specs.Drafts.{IsClaimDraft}
use Rattle.site_text.specs.Faults.{fault_of}
use Rattle.site_text.proofs.Parting.{length-first}
use Rattle.site_text.proofs.reading.read_claim_lines.Goals as goal

pub loop-line-preserved : goal.loop-line-preserved
loop-line-preserved c =
    let inv = c.loop-line.invariant.so_far in
    let said = c.in-Ok.ensures inv.0 inv.1 in
    let n : ℕ = c.loop-line.text.number + 1 in
    let step = claim_line c.args.names.now in
    let others : List (List ℕ) = lines c.next_line.new.self.bytes in
    let long : length (lines c.loop-line.text.bytes) ≡ length others + 1 = length-first _ c.in-Some.line.now others c.in-Some.ensures.line in
    record {
      so_far = (
        said.0,
        said.2,
        ap (λ m. reading step (m + 1) said.0 others) c.in-Some.ensures.number
            ∙ sym (reading-more step n inv.0 c.in-Some.line.now others said.0 said.1)
            ∙ ap (reading step n inv.0) (sym c.in-Some.ensures.line) ∙ inv.2,
      );
      number = omega (arith, c.in-Some.ensures.number, long, c.loop-line.invariant.number);
    }

pub returns-in-Err-clause-read : goal.returns-in-Err-clause-read
returns-in-Err-clause-read c =
    let inv = c.loop-line.invariant.so_far in
    let n : ℕ = c.loop-line.text.number + 1 in
    let step = claim_line c.args.names.now in
    reading-refused step (IsClaimDraft (length c.args.names.now)) fault_of n inv.0 c.in-Some.line.now (lines c.next_line.new.self.bytes) _ c.read.new.self c.in-Err.fault c.at_line.result
    (ap (reading step n inv.0) (sym c.in-Some.ensures.line) ∙ inv.2) (c.in-Err.ensures inv.0 inv.1)
    (c.at_line.ensures ∙ ap (λ m. fault_at m c.in-Err.fault) (c.number.ensures.value ∙ c.in-Some.ensures.number))

pub returns-clause-read : goal.returns-clause-read
returns-clause-read c =
    let inv = c.loop-line.invariant.so_far in
    (inv.0, sym inv.2 ∙ reading-end (claim_line c.args.names.now) (c.loop-line.text.number + 1) inv.0 _ c.in_default.ensures.line, inv.1)
