use Rattle.std.proofs.Common.{◌≡◌, ◌+◌, [], List, length}
use Rattle.std.specs.List.{before_first}
use Rattle.trust_types.specs.declared.records.Record.{Record}
use Rattle.text_lines.specs.Words.{lines}
use Rattle.text_lines.specs.Reading.{reading}
use Rattle.site_lines.specs.Site.{site_line}
use Rattle.site_lines.specs.Drafts.{IsSiteDraft}
use Rattle.site_text.specs.inner.Parts.{ends_site}
use Rattle.site_text.proofs.Parting.{from_first}
use Rattle.site_text.proofs.reading.read_site_part.Given as goal

abbrev pub invariant-loop-line : goal.invariant-loop-line
invariant-loop-line l = record {
  so_far : (k : List Record) × IsSiteDraft l.draft k × (reading (site_line l.table) (l.text.number + 1) k (before_first (ends_site l.in_proof) (lines l.text.bytes)) ≡ reading (site_line l.table) (l.initial.text.number + 1) [] (before_first (ends_site l.in_proof) (lines l.initial.text.bytes)));
  left : from_first (ends_site l.in_proof) (lines l.text.bytes) ≡ from_first (ends_site l.in_proof) (lines l.initial.text.bytes);
  number : l.text.number + length (before_first (ends_site l.in_proof) (lines l.text.bytes)) ≡ l.initial.text.number + length (before_first (ends_site l.in_proof) (lines l.initial.text.bytes));
}

abbrev pub decreases-loop-line : goal.decreases-loop-line
decreases-loop-line l = length l.text.bytes
