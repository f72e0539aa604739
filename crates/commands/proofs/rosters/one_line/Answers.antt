use Rattle.std.proofs.Common.{◌<◌, ◌++◌, All, ap, sym, subst, ◌∙◌}
use Rattle.frozen.specs.Revision.{Revision, certificates}
use Rattle.roster_form.specs.Candidates.{IsSound}
use Rattle.roster_form.specs.LevelRosters.{lists_of}
use Rattle.commands.specs.Answers.{roster_line}
use Rattle.commands.proofs.Told.{among, line_of}
use Rattle.commands.proofs.rosters.one_line.Goals as goal

pub push_line-requires : goal.push_line-requires
push_line-requires c =
    let f : Revision = c.args.frozen.now.value in
    let r = lists_of c.in_ok-roster.roster in
    let sound : IsSound f c.args.level r = subst (λ (g : Revision). IsSound g c.args.level r) c.deref.ensures c.in_ok-roster.ensures.sound in
    subst (λ (g : Revision). All (λ a. a < (certificates g).accounts) r.served) (sym c.deref-2.ensures) (among f c.args.level r sound)

pub returns : goal.returns
returns c =
    let f : Revision = c.args.frozen.now.value in
    let r = lists_of c.in_ok-roster.roster in
    let sound : IsSound f c.args.level r = subst (λ (g : Revision). IsSound g c.args.level r) c.deref.ensures c.in_ok-roster.ensures.sound in
    line_of f c.args.level r c.push_line.new.text.items sound
    (c.in_ok-push_line.ensures
    ∙ ap (λ bs. bs ++ roster_line c.deref-2.result.now.names c.in_ok-roster.roster.level r.served) c.new-text.ensures.items
    ∙ ap (λ (g : Revision). roster_line g.names c.in_ok-roster.roster.level r.served) c.deref-2.ensures
    ∙ ap (λ l. roster_line f.names l r.served) c.in_ok-roster.ensures.level)
