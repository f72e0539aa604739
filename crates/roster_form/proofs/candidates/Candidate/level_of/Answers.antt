use Rattle.std.proofs.Common.{◌≡◌, ◌≤◌, ◌∙◌, ap, sym, subst}
use Rattle.std.specs.Prelude.{Option, unwrap_or}
use Rattle.trust_types.specs.declared.levels.Level.{Level}
use Rattle.trust_types.specs.declared.levels.Level.TheVariants.{Observer}
use Rattle.trust_types.specs.Levels.{rank}
use Rattle.roster_form.specs.Candidates.{accepts, held_level}
use Rattle.roster_form.proofs.Highest.{first_is_highest}
use Rattle.roster_form.proofs.candidates.Candidate.level_of.Goals as goal

pub returns-clause-highest : goal.returns-clause-highest
returns-clause-highest c =
    let is : c.unwrap_or.result ≡ held_level c.args.self.now c.args.account =
    c.unwrap_or.ensures ∙ ap (λ (found : Option Level). unwrap_or found Observer) c.first_with.ensures in
    λ level it. subst (λ (l : Level). rank level ≤ rank l) (sym is) (first_is_highest (accepts c.args.self.now c.args.account) level it)
