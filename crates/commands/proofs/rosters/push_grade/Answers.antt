use Rattle.std.proofs.Common.{◌≡◌, ◌<◌, ◌++◌, All, List, ℕ, ap, sym, subst, ◌∙◌, refl}
use Rattle.std.proofs.lemmas.Result.{on_ok_weaker}
use Rattle.frozen.specs.Revision.{Revision, certificates}
use Rattle.roster_form.specs.LevelRosters.{lists_of}
use Rattle.site_text.specs.View.{of_frozen}
use Rattle.commands.specs.Answers.{roster_line}
use Rattle.commands.proofs.Told.{among, line_of}
use Rattle.commands.proofs.Lines.{line_added}
use Rattle.commands.proofs.rosters.push_grade.Goals as goal

pub push_line-requires : goal.push_line-requires
push_line-requires c =
    let r = lists_of c.in-Some.roster.now in
    subst (λ (g : Revision). All (λ a. a < (certificates g).accounts) r.served) (sym (c.deref.ensures ∙ c.frozen.ensures)) (among c.args.candidate.now.graph c.args.level r c.in-Some.ensures.sound)

pub returns-in-Some : goal.returns-in-Some
returns-in-Some c =
    let f : Revision = c.args.candidate.now.graph in
    let r = lists_of c.in-Some.roster.now in
    let line : List ℕ = roster_line c.deref.result.now.names c.in-Some.roster.now.level r.served in
    let printed : line ≡ roster_line f.names c.args.level r.served =
    ap (λ (g : Revision). roster_line g.names c.in-Some.roster.now.level r.served) (c.deref.ensures ∙ c.frozen.ensures)
    ∙ ap (λ l. roster_line f.names l r.served) c.in-Some.ensures.level in
    on_ok_weaker c.push_line.result
    (line_added (of_frozen f) c.args.level c.args.text.now.items c.push_line.new.text.items line (c.in-Some.ensures.grades.0 refl) (line_of f c.args.level r line c.in-Some.ensures.sound printed))
    c.push_line.ensures
