use Rattle.std.proofs.Common.{refl, false, ◌≡◌, arith, sym, ◌∙◌}
use Rattle.std.proofs.lemmas.Bool.Decides.{nat_tests}
use Rattle.http_heads.specs.Lines.{is_end}
use Rattle.http_heads.proofs.Scanning.{scan-other, scan-text, scan-empty}
use Rattle.http_heads.proofs.scans.HeadScan.step.Goals as goal

pub returns-then-byte-ne10-clause-scan : goal.returns-then-byte-ne10-clause-scan
returns-then-byte-ne10-clause-scan c = λ front is.
    let n : is_end c.args.byte ≡ false = grind (arith, nat_tests) in
    scan-other c.args.self.now _ c.args.byte front c.requires.«open» n refl refl refl c.with-self.ensures is

pub returns-then-is_text-clause-scan : goal.returns-then-is_text-clause-scan
returns-then-is_text-clause-scan c = λ front is.
    rw c.if-byte-ne10.false (scan-text c.args.self.now _ front c.requires.«open» (sym c.is_text.ensures ∙ c.if-is_text.true) refl refl refl refl is)

pub returns-clause-scan : goal.returns-clause-scan
returns-clause-scan c = λ front is.
    rw c.if-byte-ne10.false (scan-empty c.args.self.now _ front c.requires.«open» (sym c.is_text.ensures ∙ c.if-is_text.false) refl refl refl refl is)
