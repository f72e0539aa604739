use Rattle.std.proofs.Common.{IfOk, ◌≡◌, ◌∙◌, ap, sym, subst}
use Rattle.site_history.specs.declared.queries.Query.{Query}
use Rattle.site_history.specs.Sites.{site_of}
use Rattle.site_history.specs.Views.{said, shown}
use Rattle.site_state.specs.States.{Known}
use Rattle.site_state.specs.inner.Parts.{site_in}
use Rattle.site_state.proofs.Showing.{all_posted, view_shown}
use Rattle.site_state.proofs.state.State.view.Goals as goal

pub front-requires : goal.front-requires
front-requires c = all_posted _ _ _ c.self.inside.parts c.self.invariant.state.parts_are

pub diary-requires : goal.diary-requires
diary-requires c = all_posted _ _ _ c.self.inside.parts c.self.invariant.state.parts_are

pub article-requires : goal.article-requires
article-requires c = all_posted _ _ _ c.self.inside.parts c.self.invariant.state.parts_are

pub project-requires : goal.project-requires
project-requires c = all_posted _ _ _ c.self.inside.parts c.self.invariant.state.parts_are

pub returns-in-Front : goal.returns-in-Front
returns-in-Front c =
    let same = c.self.invariant.state.parts_are.site ∙ ap (λ (k : Known). site_of k.history) c.self.view_is in
    subst (λ (q : Query). IfOk c.front.result (λ v. said v ≡ shown c.args.self.now.history q)) (sym c.in-Front.is)
    (view_shown c.args.self.now.history (site_in c.self.inside.parts) _ c.front.result same c.front.ensures)

pub returns-in-Diary : goal.returns-in-Diary
returns-in-Diary c =
    let same = c.self.invariant.state.parts_are.site ∙ ap (λ (k : Known). site_of k.history) c.self.view_is in
    subst (λ (q : Query). IfOk c.diary.result (λ v. said v ≡ shown c.args.self.now.history q)) (sym c.in-Diary.is)
    (view_shown c.args.self.now.history (site_in c.self.inside.parts) _ c.diary.result same c.diary.ensures)

pub returns-in-Article : goal.returns-in-Article
returns-in-Article c =
    let same = c.self.invariant.state.parts_are.site ∙ ap (λ (k : Known). site_of k.history) c.self.view_is in
    subst (λ (q : Query). IfOk c.article.result (λ v. said v ≡ shown c.args.self.now.history q)) (sym c.in-Article.is)
    (view_shown c.args.self.now.history (site_in c.self.inside.parts) _ c.article.result same c.article.ensures)

pub returns-in-Project : goal.returns-in-Project
returns-in-Project c =
    let same = c.self.invariant.state.parts_are.site ∙ ap (λ (k : Known). site_of k.history) c.self.view_is in
    subst (λ (q : Query). IfOk c.project.result (λ v. said v ≡ shown c.args.self.now.history q)) (sym c.in-Project.is)
    (view_shown c.args.self.now.history (site_in c.self.inside.parts) _ c.project.result same c.project.ensures)

pub returns-in-Stewards : goal.returns-in-Stewards
returns-in-Stewards c =
    let same = c.self.invariant.state.parts_are.site ∙ ap (λ (k : Known). site_of k.history) c.self.view_is in
    subst (λ (q : Query). IfOk c.stewards.result (λ v. said v ≡ shown c.args.self.now.history q)) (sym c.in-Stewards.is)
    (view_shown c.args.self.now.history (site_in c.self.inside.parts) _ c.stewards.result same c.stewards.ensures)
