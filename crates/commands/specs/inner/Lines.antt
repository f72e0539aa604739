-- Lines of rosters while they are written. The crate's own functions alone speak of them.
use Rattle.std.specs.Prelude.{ℕ, ◌≡◌, List, ◌++◌, filter}
use Rattle.trust_types.specs.declared.levels.Level.{Level}
use Rattle.trust_types.specs.Tables.{has_grade}
use Rattle.site_text.specs.View.{View}
use Rattle.commands.specs.Answers.{AreLinesOf}

-- The lines of those of these levels that are grades of the site's table were added to a text.
abbrev pub AddsLines : View → List Level → List ℕ → List ℕ → Type 0
AddsLines v levels before after = (added : List ℕ) × AreLinesOf v (filter (has_grade v.table) levels) added × (after ≡ before ++ added)
