use Rattle.std.proofs.Common.{ap, arith, sym, ◌∙◌, ◌≡◌, ◌<◌, length, refl, Some}
use Rattle.std.specs.List.{filter, find}
use Rattle.trust_types.specs.NameLists.{number_of}
use Rattle.postings.specs.Posts.{is_project, is_project_named, projects}
use Rattle.postings.proofs.Placing.{as_many, as_many_names, read, number_within, project_found, no_project_found}
use Rattle.postings.proofs.postings.Postings.project.Goals as goal

pub post_at-requires-clause-within : goal.post_at-requires-clause-within
post_at-requires-clause-within c =
    omega (
      arith,
      ap length c.places.ensures,
      as_many _ _ _ c.self.invariant.kept.projects,
      as_many_names c.self.inside.posts.items,
      number_within _ c.args.name.now c.in-Some.number (sym (c.in-Some.ensures _ c.self.invariant.kept.names)),
    )

pub post_at-requires-clause-inside : goal.post_at-requires-clause-inside
post_at-requires-clause-inside c =
    let within : c.in-Some.number < length (filter is_project c.self.inside.posts.items) =
    omega (arith, as_many_names c.self.inside.posts.items, number_within _ c.args.name.now c.in-Some.number (sym (c.in-Some.ensures _ c.self.invariant.kept.names))) in
    (read is_project _ c.self.inside.posts.items _ _ _ c.in-Some.number refl c.deref.ensures.value c.places.ensures c.self.invariant.kept.projects within).0

pub returns-in-Some : goal.returns-in-Some
returns-in-Some c =
    let numbered : number_of (projects c.self.inside.posts.items) c.args.name.now ≡ Some c.in-Some.number = sym (c.in-Some.ensures _ c.self.invariant.kept.names) in
    let within : c.in-Some.number < length (filter is_project c.self.inside.posts.items) =
    omega (arith, as_many_names c.self.inside.posts.items, number_within _ c.args.name.now c.in-Some.number numbered) in
    c.post_at.ensures
    ∙ (read is_project _ c.self.inside.posts.items _ _ _ c.in-Some.number refl c.deref.ensures.value c.places.ensures c.self.invariant.kept.projects within).1
    ∙ sym (project_found c.args.name.now c.self.inside.posts.items c.in-Some.number numbered)
    ∙ ap (λ posts. find (is_project_named c.args.name.now) posts.posts) c.self.view_is

pub returns-in-None : goal.returns-in-None
returns-in-None c =
    sym (no_project_found c.args.name.now c.self.inside.posts.items (sym (c.in-None.ensures _ c.self.invariant.kept.names)))
    ∙ ap (λ posts. find (is_project_named c.args.name.now) posts.posts) c.self.view_is
