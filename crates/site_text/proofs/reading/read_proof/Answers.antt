use Rattle.std.proofs.Common.{ℕ, ◌≡◌, ◌+◌, [], List, Option, Ok, Err, length, subst, ap, sym, ◌∙◌}
use Rattle.std.specs.Prelude.{IfSome, option_map}
use Rattle.trust_types.specs.declared.records.Record.{Record}
use Rattle.trust_types.specs.Kept.{accounts}
use Rattle.text_lines.specs.Words.{lines}
use Rattle.text_lines.specs.Reading.{reading}
use Rattle.text_lines.specs.Steps.{◌>>=◌}
use Rattle.text_lines.proofs.Stepping.{refused_text, passed_text}
use Rattle.site_lines.specs.Site.{site_line}
use Rattle.claim_lines.specs.Claim.{Claim}
use Rattle.claim_lines.specs.Drafts.{ArePartsAmong}
use Rattle.site_text.specs.Faults.{fault_of}
use Rattle.site_text.specs.declared.faults.SiteFault.TheVariants.{Text}
use Rattle.site_text.specs.inner.Parts.{claim_from, claim_number}
use Rattle.site_text.specs.Site.{proof_of, table_of, head_count, behind_head, site_part, claim_part, claim_of}
use Rattle.site_text.specs.View.{IsProofOf}
use Rattle.site_text.proofs.Composing.{whole, with_caps, with_site}
use Rattle.site_text.proofs.reading.read_proof.Goals as goal

pub returns-in_err-caps : goal.returns-in_err-caps
unfolding proof_of
returns-in_err-caps c =
    let same : c.of-text.result.bytes ≡ c.args.bytes.now = ap (λ u. u.bytes) c.of-text.ensures in
    refused_text (λ p t. IsProofOf t p) fault_of c.from_residual.result (table_of (lines c.args.bytes.now)) (with_caps (lines c.args.bytes.now)) (Text c.in_err-caps.field-0.0)
    c.from_residual.ensures.1 (ap (λ bs. table_of (lines bs)) (sym same) ∙ sym c.in_err-caps.ensures.table)

pub returns-in_err-part : goal.returns-in_err-part
unfolding proof_of
returns-in_err-part c =
    let same : c.of-text.result.bytes ≡ c.args.bytes.now = ap (λ u. u.bytes) c.of-text.ensures in
    let ls : List (List ℕ) = lines c.args.bytes.now in
    let others : lines c.read_head.new.text.bytes ≡ behind_head ls = c.in_ok-caps.ensures.left ∙ ap (λ bs. behind_head (lines bs)) same in
    let start : c.read_head.new.text.number ≡ head_count ls = c.in_ok-caps.ensures.number ∙ ap (λ bs. head_count (lines bs)) same in
    passed_text (λ p t. IsProofOf t p) fault_of c.from_residual-in_err-part.result (table_of ls) (with_caps ls) c.in_ok-caps.caps
    (ap (λ bs. table_of (lines bs)) (sym same) ∙ sym c.in_ok-caps.ensures.table)
    (refused_text (λ p t. IsProofOf t p) fault_of c.from_residual-in_err-part.result (reading (site_line c.in_ok-caps.caps) (head_count ls + 1) [] (site_part (behind_head ls))) (with_site ls c.in_ok-caps.caps) c.in_err-part.field-0.0
    c.from_residual-in_err-part.ensures.1 (subst (λ said. IfSome (fault_of c.in_err-part.field-0.0) (λ f. said ≡ Err f)) (λ i. reading (site_line c.in_ok-caps.caps) (start i + 1) [] (site_part (others i))) c.in_err-part.ensures.read))

pub returns-in_err-claimed : goal.returns-in_err-claimed
unfolding proof_of
returns-in_err-claimed c =
    let same : c.of-text.result.bytes ≡ c.args.bytes.now = ap (λ u. u.bytes) c.of-text.ensures in
    let ls : List (List ℕ) = lines c.args.bytes.now in
    let others : lines c.read_head.new.text.bytes ≡ behind_head ls = c.in_ok-caps.ensures.left ∙ ap (λ bs. behind_head (lines bs)) same in
    let start : c.read_head.new.text.number ≡ head_count ls = c.in_ok-caps.ensures.number ∙ ap (λ bs. head_count (lines bs)) same in
    let k : List Record = c.in_ok-part.ensures.read.0 in
    let first : Option (List ℕ) = option_map (λ l. l.now) c.in_ok-part.part.level_line in
    let said : claim_of c.in_ok-caps.caps c.names.result.now (claim_number first c.read_site_part.new.text.number) (claim_from first (lines c.read_site_part.new.text.bytes)) ≡
    claim_of c.in_ok-caps.caps (accounts k) (head_count ls + 1 + length (site_part (behind_head ls))) (claim_part (behind_head ls)) =
    (λ i. claim_of c.in_ok-caps.caps (c.names.ensures k c.in_ok-part.ensures.read.2 i) ((c.in_ok-part.ensures.number ∙ (λ j. start j + 1 + length (site_part (others j)))) i) ((sym c.in_ok-part.ensures.left ∙ ap claim_part others) i)) in
    passed_text (λ p t. IsProofOf t p) fault_of c.from_residual-in_err-claimed.result (table_of ls) (with_caps ls) c.in_ok-caps.caps
    (ap (λ bs. table_of (lines bs)) (sym same) ∙ sym c.in_ok-caps.ensures.table)
    (passed_text (λ p t. IsProofOf t p) fault_of c.from_residual-in_err-claimed.result (reading (site_line c.in_ok-caps.caps) (head_count ls + 1) [] (site_part (behind_head ls))) (with_site ls c.in_ok-caps.caps) k
    (sym (λ i. reading (site_line c.in_ok-caps.caps) (start i + 1) [] (site_part (others i))) ∙ c.in_ok-part.ensures.read.1)
    (refused_text (λ p t. IsProofOf t p) fault_of c.from_residual-in_err-claimed.result (claim_of c.in_ok-caps.caps (accounts k) (head_count ls + 1 + length (site_part (behind_head ls))) (claim_part (behind_head ls)))
    (λ claimed. Ok (whole c.in_ok-caps.caps k claimed)) c.in_err-claimed.field-0.0 c.from_residual-in_err-claimed.ensures.1
    (subst (λ r. IfSome (fault_of c.in_err-claimed.field-0.0) (λ f. r ≡ Err f)) said c.in_err-claimed.ensures.read)))

pub proof_of-requires-clause-parts : goal.proof_of-requires-clause-parts
proof_of-requires-clause-parts c =
    let k : List Record = c.in_ok-part.ensures.read.0 in
    let said = c.in_ok-claimed.ensures.read in
    let claim : Claim = said.0.1 in
    let named : c.names.result.now ≡ accounts k = c.names.ensures k c.in_ok-part.ensures.read.2 in (
      k,
      claim,
      c.in_ok-site.ensures k c.in_ok-part.ensures.read.2,
      c.in_ok-claim.ensures.parts _ claim said.2.claim,
      subst (λ n. ArePartsAmong n c.in_ok-claim.claim) (ap length named) (c.in_ok-claim.ensures.among _ claim said.2.claim),
      c.in_ok-claimed.ensures.root claim said.2.claim,
    )

pub returns : goal.returns
unfolding proof_of
returns c =
    let same : c.of-text.result.bytes ≡ c.args.bytes.now = ap (λ u. u.bytes) c.of-text.ensures in
    let ls : List (List ℕ) = lines c.args.bytes.now in
    let others : lines c.read_head.new.text.bytes ≡ behind_head ls = c.in_ok-caps.ensures.left ∙ ap (λ bs. behind_head (lines bs)) same in
    let start : c.read_head.new.text.number ≡ head_count ls = c.in_ok-caps.ensures.number ∙ ap (λ bs. head_count (lines bs)) same in
    let k : List Record = c.in_ok-part.ensures.read.0 in
    let first : Option (List ℕ) = option_map (λ l. l.now) c.in_ok-part.part.level_line in
    let said = c.in_ok-claimed.ensures.read in
    let claim : Claim = said.0.1 in
    let claims : claim_of c.in_ok-caps.caps (accounts k) (head_count ls + 1 + length (site_part (behind_head ls))) (claim_part (behind_head ls)) ≡ Ok said.0 =
    sym (λ i. claim_of c.in_ok-caps.caps (c.names.ensures k c.in_ok-part.ensures.read.2 i) ((c.in_ok-part.ensures.number ∙ (λ j. start j + 1 + length (site_part (others j)))) i) ((sym c.in_ok-part.ensures.left ∙ ap claim_part others) i))
    ∙ said.1 in (
      whole c.in_ok-caps.caps k said.0,
      ap (λ r. r >>= with_caps ls) (ap (λ bs. table_of (lines bs)) (sym same) ∙ sym c.in_ok-caps.ensures.table)
          ∙ ap (λ r. r >>= with_site ls c.in_ok-caps.caps) (sym (λ i. reading (site_line c.in_ok-caps.caps) (start i + 1) [] (site_part (others i))) ∙ c.in_ok-part.ensures.read.1)
          ∙ ap (λ r. r >>= λ claimed. Ok (whole c.in_ok-caps.caps k claimed)) claims,
      subst (λ level. IsProofOf (whole c.in_ok-caps.caps k (level, claim)) c.in_ok-proof_of.field-0) said.2.level
          (c.in_ok-proof_of.ensures k claim (c.in_ok-site.ensures k c.in_ok-part.ensures.read.2) (c.in_ok-claim.ensures.parts _ claim said.2.claim)),
    )
