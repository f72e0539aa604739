-- The law of rows.
use Rattle.std.specs.Prelude.{ℕ, List, ◌≡◌}
use Rattle.trust_types.specs.declared.records.Record.{Record}
use Rattle.site_records.specs.Records.{IsRecord}
use Rattle.site_records.specs.Rows.{IsRowOf}

-- No bytes are rows of two records, whatever their versions.
abbrev pub NoRowOfTwoRecords : Type 0
NoRowOfTwoRecords = (x y : Record) (bytes : List ℕ) → IsRecord x → IsRecord y → IsRowOf x bytes → IsRowOf y bytes → x ≡ y
