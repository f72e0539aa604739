use Rattle.std.proofs.Common.{◌++◌, ◌∷◌, [], ◌≡◌, length, arith, sym, ap, subst, ◌∙◌, None}
use Rattle.std.specs.List.{filter}
use Rattle.trust_types.specs.declared.records.Record.TheVariants.{Diary}
use Rattle.trust_types.specs.Kept.{is_article}
use Rattle.trust_types.specs.NameLists.{number_of}
use Rattle.postings.specs.Posts.{is_diary_of, is_reply_to, is_project, projects, number_after, Follows}
use Rattle.postings.specs.inner.Places.{ArePlacesOf}
use Rattle.postings.proofs.Placing.{as_many, as_many_names, no_more, diary_added, article_added, reply_added, project_added}
use Rattle.postings.proofs.places.Places.push.Goals as goal

pub overflow_cast-number : goal.overflow_cast-number
overflow_cast-number c =
    omega (arith, ap length c.at.ensures, as_many _ _ _ (c.requires.kept.diaries c.author.inside.0), no_more (is_diary_of c.author.inside.0) c.args.posts.now)

pub overflow_cast-number-in-Article : goal.overflow_cast-number-in-Article
overflow_cast-number-in-Article c =
    omega (arith, ap length c.places.ensures, as_many _ _ _ c.requires.kept.articles, no_more is_article c.args.posts.now)

pub overflow_cast-number-in-Reply : goal.overflow_cast-number-in-Reply
overflow_cast-number-in-Reply c =
    omega (arith, ap length c.at-in-Reply.ensures, as_many _ _ _ (c.requires.kept.replies c.in-Reply.article), no_more (is_reply_to c.in-Reply.article) c.args.posts.now)

pub overflow_cast-number-in-Project : goal.overflow_cast-number-in-Project
overflow_cast-number-in-Project c =
    omega (arith, ap length c.places-in-Project.ensures, as_many _ _ _ c.requires.kept.projects, no_more is_project c.args.posts.now)

pub returns-in-Diary-clause-kept : goal.returns-in-Diary-clause-kept
returns-in-Diary-clause-kept c =
    subst (λ entry. ArePlacesOf (c.args.posts.now ++ entry ∷ []) (record c.args.self.now { diaries = c.push.new.self })) (sym c.in-Diary.is)
    (subst (λ author. ArePlacesOf (c.args.posts.now ++ Diary c.in-Diary.moment author c.in-Diary.text ∷ []) (record c.args.self.now { diaries = c.push.new.self }))
    c.author.view_is
    (diary_added c.args.posts.now c.args.self.now c.in-Diary.moment c.author.inside.0 c.in-Diary.text c.push.new.self c.requires.kept c.push.ensures.there c.push.ensures.others))

pub returns-in-Diary-clause-number : goal.returns-in-Diary-clause-number
returns-in-Diary-clause-number c =
    ap length c.at.ensures ∙ as_many _ _ _ (c.requires.kept.diaries c.author.inside.0)
    ∙ ap (λ author. length (filter (is_diary_of author) c.args.posts.now)) c.author.view_is ∙ sym (ap (number_after c.args.posts.now) c.in-Diary.is)

pub returns-in-Article-clause-kept : goal.returns-in-Article-clause-kept
returns-in-Article-clause-kept c =
    subst (λ entry. ArePlacesOf (c.args.posts.now ++ entry ∷ []) (record c.args.self.now { articles = c.push-in-Article.new.self })) (sym c.in-Article.is)
    (article_added c.args.posts.now c.args.self.now c.in-Article.moment c.in-Article.author c.in-Article.title c.in-Article.text c.push-in-Article.new.self c.requires.kept c.push-in-Article.ensures)

pub returns-in-Article-clause-number : goal.returns-in-Article-clause-number
returns-in-Article-clause-number c =
    ap length c.places.ensures ∙ as_many _ _ _ c.requires.kept.articles ∙ sym (ap (number_after c.args.posts.now) c.in-Article.is)

pub returns-in-Reply-clause-kept : goal.returns-in-Reply-clause-kept
returns-in-Reply-clause-kept c =
    subst (λ entry. ArePlacesOf (c.args.posts.now ++ entry ∷ []) (record c.args.self.now { replies = c.push-in-Reply.new.self })) (sym c.in-Reply.is)
    (reply_added c.args.posts.now c.args.self.now c.in-Reply.moment c.in-Reply.author c.in-Reply.article c.in-Reply.text c.push-in-Reply.new.self c.requires.kept c.push-in-Reply.ensures.there c.push-in-Reply.ensures.others)

pub returns-in-Reply-clause-number : goal.returns-in-Reply-clause-number
returns-in-Reply-clause-number c =
    ap length c.at-in-Reply.ensures ∙ as_many _ _ _ (c.requires.kept.replies c.in-Reply.article) ∙ sym (ap (number_after c.args.posts.now) c.in-Reply.is)

pub returns-in-Project-clause-kept : goal.returns-in-Project-clause-kept
returns-in-Project-clause-kept c =
    let free : number_of (projects c.args.posts.now) c.in-Project.name ≡ None = subst (Follows c.args.posts.now) c.in-Project.is c.requires.follows in
    let next : length c.places-in-Project.result.now ≡ length (projects c.args.posts.now) =
    ap length c.places-in-Project.ensures ∙ as_many _ _ _ c.requires.kept.projects ∙ as_many_names c.args.posts.now in
    subst (λ entry. ArePlacesOf (c.args.posts.now ++ entry ∷ []) (record c.args.self.now { projects = c.push-in-Project.new.self; names = c.push-in-Project-2.new.self }))
    (sym c.in-Project.is)
    (project_added c.args.posts.now c.args.self.now c.in-Project.moment c.in-Project.author c.in-Project.name c.in-Project.text c.push-in-Project.new.self c.push-in-Project-2.new.self c.requires.kept
    c.push-in-Project.ensures (c.push-in-Project-2.ensures _ c.requires.kept.names free next))

pub returns-in-Project-clause-number : goal.returns-in-Project-clause-number
returns-in-Project-clause-number c =
    ap length c.places-in-Project.ensures ∙ as_many _ _ _ c.requires.kept.projects ∙ as_many_names c.args.posts.now
    ∙ sym (ap (number_after c.args.posts.now) c.in-Project.is)
