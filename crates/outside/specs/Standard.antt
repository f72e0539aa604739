-- What the standard input tells.
use Rattle.std.specs.Prelude.{ℕ}

-- how many reads failed, and how many met the end
pub record Reads : Type 0 where
  pub faults : ℕ
  pub ends : ℕ

abbrev pub no_reads : Reads
no_reads = record { faults = 0; ends = 0 }
