use Rattle.std.proofs.Common.{ℕ, List, ◌≡◌, ◌∙◌, ◌-◌, ◌<◌, ap, sym, subst, arith}
use Rattle.std.specs.Prelude.{IfSome, slice_get, Option}
use Rattle.std.specs.Option.{option_copied}
use Rattle.trust_types.specs.Levels.{rank}
use Rattle.frozen.specs.Revision.{Revision}
use Rattle.roster_form.specs.declared.level_rosters.LevelRoster.{LevelRoster}
use Rattle.roster_form.specs.LevelRosters.{lists_of}
use Rattle.roster_form.specs.Candidates.{Rosters, IsSound}
use Rattle.roster_form.proofs.Sound.{found_sound, at_reference, some_weaker}
use Rattle.roster_form.proofs.candidates.Candidate.roster.Goals as goal

-- what is known of the roster that was found
found : (c : goal.After-roster_at) → IfSome c.roster_at.result (λ r. (r.now.level ≡ c.args.level) × IsSound c.args.self.now.graph c.args.level (lists_of r.now))
found c =
    let graph : c.self.inside.frozen.value ≡ c.args.self.now.graph = ap (λ (v : Rosters). v.graph) c.self.view_is in
    let P : Revision → LevelRoster → Type 0 = λ f r. (r.level ≡ c.args.level) × IsSound f c.args.level (lists_of r) in
    let place : slice_get c.self.inside.rosters.items (rank c.args.level - 1) ≡ option_copied c.roster_at.result =
    sym (c.roster_at.ensures ∙ ap (λ (xs : List LevelRoster). slice_get xs (c.rank-rank.result - 1)) c.deref.ensures.value ∙ ap (λ (n : ℕ). slice_get c.self.inside.rosters.items (n - 1)) c.rank-rank.ensures) in
    let grade : 0 < rank c.args.level = omega (arith, c.if-rank-eq0.false, c.rank-rank.ensures) in
    at_reference (P c.args.self.now.graph) c.roster_at.result
    (subst (λ (f : Revision). IfSome (option_copied c.roster_at.result) (P f)) graph
    (subst (λ (o : Option LevelRoster). IfSome o (P c.self.inside.frozen.value)) place (found_sound c.self.inside.frozen.value c.self.inside.rosters.items c.args.level c.self.invariant.lowest grade)))

pub returns-clause-level : goal.returns-clause-level
returns-clause-level c = some_weaker c.roster_at.result (λ r is. is.0) (found c)

pub returns-clause-sound : goal.returns-clause-sound
returns-clause-sound c = some_weaker c.roster_at.result (λ r is. is.1) (found c)
