-- What a scan for a head's end has found in the bytes that it saw.
use Rattle.std.specs.Prelude.{ℕ, Bool, true, false, ◌≡◌, ◌≤◌, ◌==◌, List, [], ◌∷◌, ◌++◌, length, take, Some, None, cond, if◌then◌else◌}
use Rattle.http_heads.specs.declared.scans.Begun.{Begun}
use Rattle.http_heads.specs.declared.scans.Begun.TheVariants.{Nothing, Return, Text}
use Rattle.http_heads.specs.declared.scans.HeadScan.{HeadScan}
use Rattle.http_heads.specs.declared.fronts.Front.{Front}
use Rattle.http_heads.specs.declared.fronts.Front.TheVariants.{TooLong, Unfinished, Ended}
use Rattle.http_heads.specs.Lines.{whole_lines, is_end, filled_lines}
use Rattle.http_heads.specs.HeadEnd.{head_end}

abbrev pub are_none : List (List ℕ) → Bool
are_none [] = true
are_none (line ∷ lines) = false

-- What follows the last LF.
abbrev pub unfinished : List ℕ → List ℕ
unfinished [] = []
unfinished (byte ∷ bytes) = if is_end byte then unfinished bytes else (if are_none (whole_lines bytes) then byte ∷ bytes else unfinished bytes)

-- What a line that isn't finished has so far.
abbrev pub begun : List ℕ → Begun
begun [] = Nothing
begun (byte ∷ []) = if byte == 13 then Return else Text
begun (byte ∷ other ∷ more) = Text

-- The same with one byte more, which is no LF.
abbrev pub begun_with : Begun → ℕ → Begun
begun_with Nothing byte = if byte == 13 then Return else Text
begun_with Return byte = Text
begun_with Text byte = Text

-- Whether it is more than a CR.
abbrev pub is_text : Begun → Bool
is_text Nothing = false
is_text Return = false
is_text Text = true

-- The scan is that of these bytes.
pub record IsScan (s : HeadScan) (front : List ℕ) : Type 0 where
  pub seen : s.seen ≡ length front
  pub filled : s.filled ≡ filled_lines front
  pub end : head_end front ≡ cond s.ended (Some s.seen) None
  pub line : s.ended ≡ false → s.line ≡ begun (unfinished front)

-- The scan is that of the first of these bytes, and of at most 16,384.
pub record IsScanOf (s : HeadScan) (bytes : List ℕ) : Type 0 where
  pub front : List ℕ
  pub rest : List ℕ
  pub parts : bytes ≡ front ++ rest
  pub scan : IsScan s front
  pub few : length front ≤ 16384

-- A head that isn't too long lies within the bytes and the limits, and bytes without an end of one are no more than a head may have.
abbrev pub IsWithinLimits : List ℕ → Front → Type 0
IsWithinLimits bytes TooLong = Unit {0}
IsWithinLimits bytes Unfinished = length bytes ≤ 16384
IsWithinLimits bytes (Ended end) = (end ≤ 16384) × (end ≤ length bytes) × (filled_lines (take end bytes) ≤ 65)
