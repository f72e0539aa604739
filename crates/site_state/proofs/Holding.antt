-- The level that the last publication gives, and the accounts that it accepts.
use Rattle.std.proofs.Common.{◌≡◌, ℕ, ◌-◌, Bool, true, false, cond, List, map, slice_get, find, Option, Some, None, option_map, unwrap_or, refl, sym, ap, ◌∙◌}
use Rattle.std.proofs.lemmas.Option.{slice_get-map}
use Rattle.trust_types.specs.declared.levels.Level.{Level}
use Rattle.trust_types.specs.declared.levels.Level.TheVariants.{Observer}
use Rattle.trust_types.specs.Levels.{rank, is_grade, grades_down}
use Rattle.trust_types.specs.Proven.{Lists}
use Rattle.roster_form.specs.Bounded.{is_accepted}
use Rattle.roster_form.specs.Candidates.{Rosters, accepts, lists_at, held_level}
use Rattle.site_history.specs.Histories.{History, Published, last_published, published_of}
use Rattle.site_history.specs.Held.{served_at, serves, level_in, level_by, level_of}

-- the accounts that a publication accepts at a level are those of the candidate's roster
served-grade : (b : Bool) (grades : List Lists) (n : ℕ) → cond b (slice_get (map (λ r. r.served) grades) n) None ≡ option_map (λ (r : Lists). r.served) (cond b (slice_get grades n) None)
served-grade true grades n = slice_get-map (λ (r : Lists). r.served) grades n
served-grade false grades n = refl

pub served-lists : (number : ℕ) (c : Rosters) (level : Level) → served_at (published_of number c) level ≡ option_map (λ (r : Lists). r.served) (lists_at c level)
served-lists number c level = served-grade (is_grade level) c.grades (rank level - 1)

abbrev by_lists : Option Lists → ℕ → Bool
by_lists o a = elim o [ None ↦ false | Some r ↦ is_accepted r.served a ]

abbrev by_served : Option (List ℕ) → ℕ → Bool
by_served o a = elim o [ None ↦ false | Some served ↦ is_accepted served a ]

accepts-lists : (o : Option Lists) (a : ℕ) → by_lists o a ≡ by_served (option_map (λ (r : Lists). r.served) o) a
accepts-lists None a = refl
accepts-lists (Some r) a = refl

accepts-serves : (number : ℕ) (c : Rosters) (a : ℕ) (level : Level) → accepts c a level ≡ serves (published_of number c) a level
accepts-serves number c a level = accepts-lists (lists_at c level) a ∙ ap (λ (o : Option (List ℕ)). by_served o a) (sym (served-lists number c level))

pub held-level : (number : ℕ) (c : Rosters) (a : ℕ) → held_level c a ≡ level_in (published_of number c) a
held-level number c a = λ i. unwrap_or (find (λ level. accepts-serves number c a level i) grades_down) Observer

pub level-none : (h : History) (a : ℕ) → last_published h ≡ None → level_of h a ≡ Observer
unfolding level_of
level-none h a none = ap (λ (o : Option Published). level_by o a) none

pub level-some : (h : History) (number : ℕ) (c : Rosters) (a : ℕ) → last_published h ≡ Some (published_of number c) → held_level c a ≡ level_of h a
unfolding level_of
level-some h number c a some = held-level number c a ∙ sym (ap (λ (o : Option Published). level_by o a) some)
