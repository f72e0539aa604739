use Rattle.std.proofs.Common.{◌≡◌, ◌==◌}
use Rattle.std.specs.List.{slice_split}
use Rattle.site_records.specs.inner.Entering.{pieces, bytes_left}
use Rattle.site_records.specs.inner.Reading.{numbers_in}
use Rattle.site_records.proofs.Entering.{after}
use Rattle.site_records.proofs.tables.entries_in.Given as goal

abbrev pub invariant-loop-rest : goal.invariant-loop-rest
invariant-loop-rest l = after l.entries (numbers_in (pieces l.rest)) ≡ numbers_in (slice_split (λ b. b == 43) l.value)

abbrev pub decreases-loop-rest : goal.decreases-loop-rest
decreases-loop-rest l = bytes_left l.rest
