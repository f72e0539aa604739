use Rattle.std.proofs.Common.{ℕ, ◌≡◌, ◌+◌, [], ◌∷◌, Bool, List, false, length, ap, sym, ◌∙◌, arith}
use Rattle.std.specs.List.{before_first}
use Rattle.text_lines.specs.Words.{lines}
use Rattle.text_lines.specs.Reading.{reading, fault_at}
use Rattle.text_lines.proofs.Following.{reading-more, reading-end, reading-refused}
use Rattle.site_lines.specs.Site.{site_line}
use Rattle.site_lines.specs.Drafts.{IsSiteDraft}
use Rattle.site_text.specs.Faults.{fault_of}
use Rattle.site_text.specs.inner.Parts.{ends_site}
use Rattle.site_text.proofs.Parting.{from_first, before-more, before-found, from-more, from-found, length-first}
use Rattle.site_text.proofs.reading.read_site_part.Goals as goal

pub returns-then-ends_site-clause-read : goal.returns-then-ends_site-clause-read
returns-then-ends_site-clause-read c =
    let inv = c.loop-line.invariant.so_far in
    let k = inv.0 in
    let p : List ℕ → Bool = ends_site c.args.in_proof in
    let others : List (List ℕ) = lines c.next_line.new.self.bytes in
    let none : before_first p (lines c.loop-line.text.bytes) ≡ [] = ap (before_first p) c.in-Some.ensures.line ∙ before-found p c.in-Some.line.now others (sym c.if-ends_site.ensures) in
    (k, sym inv.2 ∙ reading-end (site_line c.args.table.now) (c.loop-line.text.number + 1) k _ none, inv.1)

pub returns-then-ends_site-clause-left : goal.returns-then-ends_site-clause-left
returns-then-ends_site-clause-left c =
    let p : List ℕ → Bool = ends_site c.args.in_proof in
    sym c.loop-line.invariant.left ∙ ap (from_first p) c.in-Some.ensures.line ∙ from-found p c.in-Some.line.now (lines c.next_line.new.self.bytes) (sym c.if-ends_site.ensures)

pub loop-line-preserved : goal.loop-line-preserved
loop-line-preserved c =
    let inv = c.loop-line.invariant.so_far in
    let k = inv.0 in
    let n : ℕ = c.loop-line.text.number + 1 in
    let line : List ℕ = c.in-Some.line.now in
    let p : List ℕ → Bool = ends_site c.args.in_proof in
    let others : List (List ℕ) = lines c.next_line.new.self.bytes in
    let other : p line ≡ false = sym c.if-ends_site.ensures in
    let part : before_first p (lines c.loop-line.text.bytes) ≡ line ∷ before_first p others = ap (before_first p) c.in-Some.ensures.line ∙ before-more p line others other in
    let said = c.in-Ok.ensures k inv.1 in
    let long : length (before_first p (lines c.loop-line.text.bytes)) ≡ length (before_first p others) + 1 = length-first _ line (before_first p others) part in
    record {
      so_far = (
        said.0,
        said.2,
        ap (λ m. reading (site_line c.args.table.now) (m + 1) said.0 (before_first p others)) c.in-Some.ensures.number
            ∙ sym (reading-more (site_line c.args.table.now) n k line (before_first p others) said.0 said.1)
            ∙ ap (reading (site_line c.args.table.now) n k) (sym part) ∙ inv.2,
      );
      left = sym (from-more p line others other) ∙ ap (from_first p) (sym c.in-Some.ensures.line) ∙ c.loop-line.invariant.left;
      number = omega (arith, c.in-Some.ensures.number, long, c.loop-line.invariant.number);
    }

pub returns-in-Err-clause-read : goal.returns-in-Err-clause-read
returns-in-Err-clause-read c =
    let inv = c.loop-line.invariant.so_far in
    let k = inv.0 in
    let n : ℕ = c.loop-line.text.number + 1 in
    let line : List ℕ = c.in-Some.line.now in
    let p : List ℕ → Bool = ends_site c.args.in_proof in
    let others : List (List ℕ) = lines c.next_line.new.self.bytes in
    let part : before_first p (lines c.loop-line.text.bytes) ≡ line ∷ before_first p others = ap (before_first p) c.in-Some.ensures.line ∙ before-more p line others (sym c.if-ends_site.ensures) in
    reading-refused (site_line c.args.table.now) IsSiteDraft fault_of n k line (before_first p others) _ c.read.new.self c.in-Err.fault c.at_line.result
    (ap (reading (site_line c.args.table.now) n k) (sym part) ∙ inv.2) (c.in-Err.ensures k inv.1)
    (c.at_line.ensures ∙ ap (λ m. fault_at m c.in-Err.fault) (c.number.ensures.value ∙ c.in-Some.ensures.number))

pub returns-clause-read : goal.returns-clause-read
returns-clause-read c =
    let inv = c.loop-line.invariant.so_far in
    (inv.0, sym inv.2 ∙ reading-end (site_line c.args.table.now) (c.loop-line.text.number + 1) inv.0 _ (ap (before_first (ends_site c.args.in_proof)) c.in_default.ensures.line), inv.1)
