-- What a text says, by the parts of it that are read one after another.
use Rattle.std.proofs.Common.{ℕ, ◌+◌, List, [], Result, Ok, length}
use Rattle.trust_types.specs.declared.levels.Level.{Level}
use Rattle.trust_types.specs.declared.records.Record.{Record}
use Rattle.trust_types.specs.Tables.{Table}
use Rattle.trust_types.specs.Kept.{accounts}
use Rattle.text_lines.specs.declared.faults.TextKind.TheVariants.{MissingRoot}
use Rattle.text_lines.specs.declared.faults.TextFault.{TextFault}
use Rattle.text_lines.specs.Reading.{reading}
use Rattle.text_lines.specs.Steps.{◌>>=◌, fault_unless, at_line}
use Rattle.site_lines.specs.Site.{site_line}
use Rattle.claim_lines.specs.Claim.{Claim, nothing, claim_line, has_root}
use Rattle.site_text.specs.Site.{SiteText, ProofText, head_count, behind_head, site_part, claim_part, claim_of}

-- Behind a site's table: its records.
abbrev pub with_records : Table → List Record → Result SiteText TextFault
with_records table k = Ok (record { table = table; records = k })

abbrev pub with_table : List (List ℕ) → Table → Result SiteText TextFault
with_table ls table = reading (site_line table) (head_count ls + 1) [] (behind_head ls) >>= with_records table

-- Behind a proof's table: the site's records, and what is claimed.
abbrev pub whole : Table → List Record → Level × Claim → ProofText
whole table k claimed = record { site = record { table = table; records = k }; level = claimed.0; claim = claimed.1 }

abbrev pub with_site : List (List ℕ) → Table → List Record → Result ProofText TextFault
with_site ls table k =
    claim_of table (accounts k) (head_count ls + 1 + length (site_part (behind_head ls))) (claim_part (behind_head ls)) >>= λ claimed. Ok (whole table k claimed)

abbrev pub with_caps : List (List ℕ) → Table → Result ProofText TextFault
with_caps ls table = reading (site_line table) (head_count ls + 1) [] (site_part (behind_head ls)) >>= with_site ls table

-- Behind a claim's level: its lines, and whether the root is placed.
abbrev pub with_claim : ℕ → List (List ℕ) → Level → Claim → Result (Level × Claim) TextFault
with_claim n others level c = at_line (n + 1 + length others) (fault_unless (has_root c) MissingRoot) >>= λ _. Ok (level, c)

abbrev pub with_level : List (List ℕ) → ℕ → List (List ℕ) → Level → Result (Level × Claim) TextFault
with_level names n others level = reading (claim_line names) (n + 1) nothing others >>= with_claim n others level
