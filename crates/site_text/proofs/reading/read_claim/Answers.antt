use Rattle.std.proofs.Common.{ℕ, ◌≡◌, ◌+◌, List, Ok, length, refl, ap, sym, ◌∙◌, arith}
use Rattle.text_lines.specs.Words.{lines}
use Rattle.text_lines.specs.Reading.{reading}
use Rattle.text_lines.specs.Steps.{◌>>=◌, at_line, fault_unless}
use Rattle.text_lines.specs.declared.faults.TextKind.TheVariants.{MissingRoot}
use Rattle.text_lines.proofs.Stepping.{refused_text, passed_text, at_line-ok, fault_unless-ok}
use Rattle.trust_types.specs.declared.levels.Level.{Level}
use Rattle.claim_lines.specs.Claim.{Claim, nothing, claim_line, level_line, has_root}
use Rattle.site_text.specs.Faults.{fault_of}
use Rattle.site_text.specs.declared.faults.SiteFault.TheVariants.{Text}
use Rattle.site_text.specs.inner.Parts.{IsClaimed}
use Rattle.site_text.specs.Site.{claim_of}
use Rattle.site_text.proofs.Composing.{with_level, with_claim}
use Rattle.site_text.proofs.reading.read_claim.Goals as goal

pub returns-in_default-clause-read : goal.returns-in_default-clause-read
unfolding claim_of
returns-in_default-clause-read c = rw (c.in_default.is, c.number.ensures.value) refl

pub returns-in_err-level-clause-read : goal.returns-in_err-level-clause-read
unfolding claim_of
returns-in_err-level-clause-read c =
    let n : ℕ = c.args.text.now.number in
    let line : List ℕ = c.in-Some.level_line.now in
    rw c.in-Some.is (refused_text (IsClaimed (length c.args.names.now)) fault_of c.from_residual.result (at_line n (level_line c.args.table.now line)) (with_level c.args.names.now n (lines c.args.text.now.bytes))
    (Text c.in_err-level.field-0.0) c.from_residual.ensures.1 ((λ i. at_line (sym c.number-2.ensures.value i) (sym c.read_level.ensures.level i)) ∙ sym c.in_err-level.ensures))

pub returns-in_err-draft-clause-read : goal.returns-in_err-draft-clause-read
unfolding claim_of
returns-in_err-draft-clause-read c =
    let n : ℕ = c.args.text.now.number in
    let line : List ℕ = c.in-Some.level_line.now in
    let others : List (List ℕ) = lines c.args.text.now.bytes in
    let names : List (List ℕ) = c.args.names.now in
    rw c.in-Some.is (passed_text (IsClaimed (length names)) fault_of c.from_residual-in_err-draft.result (at_line n (level_line c.args.table.now line)) (with_level names n others) c.in_ok-level.level
    ((λ i. at_line (sym c.number-2.ensures.value i) (sym c.read_level.ensures.level i)) ∙ sym c.in_ok-level.ensures)
    (refused_text (IsClaimed (length names)) fault_of c.from_residual-in_err-draft.result (reading (claim_line names) (n + 1) nothing others) (with_claim n others c.in_ok-level.level)
    c.in_err-draft.field-0.0 c.from_residual-in_err-draft.ensures.1 c.in_err-draft.ensures.read))

pub returns-in_err-at_line-clause-read : goal.returns-in_err-at_line-clause-read
unfolding claim_of
returns-in_err-at_line-clause-read c =
    let n : ℕ = c.args.text.now.number in
    let line : List ℕ = c.in-Some.level_line.now in
    let others : List (List ℕ) = lines c.args.text.now.bytes in
    let names : List (List ℕ) = c.args.names.now in
    let level : Level = c.in_ok-level.level in
    let read = c.in_ok-draft.ensures.read in
    let claim : Claim = read.0 in
    let number : n + 1 + length others ≡ c.number-3.result + 1 = omega (arith, c.number-3.ensures.value, c.in_ok-draft.ensures.number) in
    let has : has_root claim ≡ c.has_root.result = sym (c.has_root.ensures _ claim read.2) in
    rw c.in-Some.is (passed_text (IsClaimed (length names)) fault_of c.from_residual-in_err-at_line.result (at_line n (level_line c.args.table.now line)) (with_level names n others) level
    ((λ i. at_line (sym c.number-2.ensures.value i) (sym c.read_level.ensures.level i)) ∙ sym c.in_ok-level.ensures)
    (passed_text (IsClaimed (length names)) fault_of c.from_residual-in_err-at_line.result (reading (claim_line names) (n + 1) nothing others) (with_claim n others level) claim read.1
    (refused_text (IsClaimed (length names)) fault_of c.from_residual-in_err-at_line.result (at_line (n + 1 + length others) (fault_unless (has_root claim) MissingRoot)) (λ _. Ok (level, claim))
    (Text c.in_err-at_line.field-0.0) c.from_residual-in_err-at_line.ensures.1
    ((λ i. at_line (number i) (fault_unless (has i) MissingRoot)) ∙ ap (at_line (c.number-3.result + 1)) (sym c.fault_unless.ensures) ∙ sym c.in_err-at_line.ensures))))

pub returns-clause-read : goal.returns-clause-read
unfolding claim_of
returns-clause-read c =
    let n : ℕ = c.args.text.now.number in
    let line : List ℕ = c.in-Some.level_line.now in
    let others : List (List ℕ) = lines c.args.text.now.bytes in
    let names : List (List ℕ) = c.args.names.now in
    let level : Level = c.in_ok-level.level in
    let read = c.in_ok-draft.ensures.read in
    let claim : Claim = read.0 in
    let number : n + 1 + length others ≡ c.number-3.result + 1 = omega (arith, c.number-3.ensures.value, c.in_ok-draft.ensures.number) in
    let has : has_root claim ≡ c.has_root.result = sym (c.has_root.ensures _ claim read.2) in (
      (level, claim),
      rw c.in-Some.is (ap (λ r. r >>= with_level names n others) ((λ i. at_line (sym c.number-2.ensures.value i) (sym c.read_level.ensures.level i)) ∙ sym c.in_ok-level.ensures)
          ∙ ap (λ r. r >>= with_claim n others level) read.1
          ∙ ap (λ r. r >>= λ _. Ok (level, claim))
          ((λ i. at_line (number i) (fault_unless (has i) MissingRoot)) ∙ ap (at_line (c.number-3.result + 1)) (sym c.fault_unless.ensures) ∙ sym c.in_ok-at_line.ensures)),
      record { level = refl; claim = read.2 },
    )

pub returns-clause-root : goal.returns-clause-root
returns-clause-root c = λ claim is.
    sym (c.has_root.ensures _ claim is) ∙ fault_unless-ok c.has_root.result MissingRoot _ (sym c.fault_unless.ensures ∙ at_line-ok _ c.fault_unless.result _ (sym c.in_ok-at_line.ensures))
