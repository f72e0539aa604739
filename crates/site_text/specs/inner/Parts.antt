-- For the reader's own functions: what they read of a text.
use Rattle.std.specs.Prelude.{ℕ, Bool, ◌≡◌, ◌+◌, ◌&&◌, if◌then◌else◌, List, [], ◌∷◌, Option, Some, None}
use Rattle.trust_types.specs.declared.levels.Level.{Level}
use Rattle.trust_types.specs.declared.records.Record.{Record}
use Rattle.site_lines.specs.Site.{is_levels_line}
use Rattle.site_lines.specs.Drafts.{IsSiteDraft}
use Rattle.claim_lines.specs.Claim.{Claim, is_level_line}
use Rattle.claim_lines.specs.Drafts.{IsClaimDraft}
use Rattle.site_text.specs.declared.reading.SitePart.{SitePart}
use Rattle.site_text.specs.declared.reading.Claimed.{Claimed}

-- How many of the lines behind a text's first say how many levels there are.
abbrev pub levels_count : List (List ℕ) → ℕ
levels_count [] = 0
levels_count (second ∷ others) = if is_levels_line second then 1 else 0

-- The lines behind that one, where there is one.
abbrev pub behind_levels : List (List ℕ) → List (List ℕ)
behind_levels [] = []
behind_levels (second ∷ others) = if is_levels_line second then others else second ∷ others

-- Whether a line ends the site: in a proof text a `level` line does.
abbrev pub ends_site : Bool → List ℕ → Bool
ends_site in_proof line = in_proof && is_level_line line

-- A draft of the site of these records.
abbrev pub IsPart : SitePart → List Record → Type 0
IsPart part k = IsSiteDraft part.draft k

-- The lines from the `level` line on, where there is one.
abbrev pub claim_from : Option (List ℕ) → List (List ℕ) → List (List ℕ)
claim_from None others = []
claim_from (Some line) others = line ∷ others

-- The number of that line, or of the one that is missing, where so many were read.
abbrev pub claim_number : Option (List ℕ) → ℕ → ℕ
claim_number None read = read + 1
claim_number (Some line) read = read

-- A draft of this claim at this level, over so many accounts.
pub record IsClaimed (accounts : ℕ) (claimed : Claimed) (said : Level × Claim) : Type 0 where
  pub level : claimed.level ≡ said.0
  pub claim : IsClaimDraft accounts claimed.draft said.1
