use Rattle.std.proofs.Common.{◌≡◌, ◌++◌, length, option_map}
use denote.Text.{Utf8}
use denote.Shadow.{shadow}
use Rattle.std.specs.List.{slice_split}
use Rattle.serve_words.specs.Plans.{entries_of, is_comma, numbers}
use Rattle.serve_words.proofs.tables.entries_of.Given as goal

-- the numbers so far stand before those of the parts that are left
abbrev pub invariant-loop-part : goal.invariant-loop-part
invariant-loop-part l = shadow (Utf8 l.rest) ×
    (entries_of l.text ≡ option_map (λ others. l.entries.items ++ others) (numbers (slice_split is_comma l.rest)))

abbrev pub decreases-loop-part : goal.decreases-loop-part
decreases-loop-part l = length l.rest
