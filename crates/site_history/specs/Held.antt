-- The level that an account holds: by the last publication, whatever was certified since.
use Rattle.std.specs.Prelude.{ℕ, Bool, false, ◌-◌, List, Option, Some, None, find, slice_get, unwrap_or, if◌then◌else◌}
use Rattle.trust_types.specs.declared.levels.Level.{Level}
use Rattle.trust_types.specs.declared.levels.Level.TheVariants.{Observer}
use Rattle.trust_types.specs.Levels.{rank, is_grade, grades_down}
use Rattle.roster_form.specs.Bounded.{is_accepted}
use Rattle.site_history.specs.Histories.{Published, History, last_published}

-- The accounts that a publication accepts at a level. Observer has none, and a level that its table hasn't has none.
abbrev pub served_at : Published → Level → Option (List ℕ)
served_at p level = if is_grade level then slice_get p.served (rank level - 1) else None

abbrev pub serves : Published → ℕ → Level → Bool
serves p account level = elim (served_at p level) [ None ↦ false | Some served ↦ is_accepted served account ]

-- The highest level at which a publication accepts the account, and Observer where there is none.
abbrev pub level_in : Published → ℕ → Level
level_in p account = unwrap_or (find (serves p account) grades_down) Observer

abbrev pub level_by : Option Published → ℕ → Level
level_by None account = Observer
level_by (Some p) account = level_in p account

unfoldable pub level_of : History → ℕ → Level
level_of h account = level_by (last_published h) account
