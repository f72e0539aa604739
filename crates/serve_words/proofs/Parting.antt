-- The parts of a text between its commas.
use Rattle.std.proofs.Common.{◌≡◌, ℕ, ◌<◌, List, [], ◌∷◌, Option, Some, None, length, arith}
use Rattle.std.specs.Prelude.{MatchOption}
use Rattle.std.specs.Borrow.{Bor}
use Rattle.std.specs.List.{position_or_len, before_first, after_first, slice_split}
use Rattle.std.proofs.lemmas.List.Sums.{fails_before_first}
use Rattle.std.proofs.lemmas.List.Splits.{slice_split_none, slice_split_first}
use Rattle.serve_words.specs.Plans.{is_comma}

-- a text that is split at its first comma, and one that has none
pub parted : (text : List ℕ) (cut : Option (Bor (List ℕ) × Bor (List ℕ)))
    → MatchOption cut (position_or_len is_comma text ≡ length text)
    (λ x. (x.0.now ≡ before_first is_comma text) × (x.1.now ≡ after_first is_comma text) × (position_or_len is_comma text < length text))
    → MatchOption cut (slice_split is_comma text ≡ text ∷ []) (λ parts. slice_split is_comma text ≡ parts.0.now ∷ slice_split is_comma parts.1.now)
parted text None none = slice_split_none is_comma text (λ k d l. fails_before_first is_comma text k d (omega arith))
parted text (Some parts) cut = rw (cut.0, cut.1) (slice_split_first is_comma text 0 cut.2)
