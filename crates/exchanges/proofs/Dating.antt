-- What is shown of a legal history has dates.
use Rattle.std.proofs.Common.{ℕ, ◌<◌, ◌-◌, Bool, true, false, cond, List, [], ◌∷◌, ◌++◌, length, map, find, reverse, slice_get, All, Option, Some, None, IfSome, refl, sym, subst, arith, append_assoc, zero, suc}
use Rattle.std.proofs.lemmas.List.{get_or-reverse, length-reverse}
use Rattle.std.proofs.lemmas.List.Elements.{All-filter, All-map, All-take, All-get_or, All-from_get_or, All-weaker, All-nil, All-cons, All-head, All-tail}
use Rattle.trust_types.specs.declared.levels.Level.{Level}
use Rattle.trust_types.specs.declared.records.Record.{Record}
use Rattle.trust_types.specs.declared.records.Record.TheVariants.{Join, Seed, Unseed, Cert, Table, Diary, Article, Reply, Project}
use Rattle.trust_types.specs.Kept.{IsMoment, IsWellKept, moment_of, is_article}
use Rattle.trust_types.specs.Names.{is_name}
use Rattle.trust_types.specs.NameLists.{number_of}
use Rattle.trust_types.specs.Tables as tables
use Rattle.postings.specs.Posts.{diary_of, is_diary_of, articles, replies_to, is_reply_to, is_project_named}
use Rattle.http_pages.specs.Views.{IsDated, AreDated}
use Rattle.site_history.specs.declared.queries.Query.{Query}
use Rattle.site_history.specs.declared.queries.Query.TheVariants as asked
use Rattle.site_history.specs.Histories.{History, records}
use Rattle.site_history.specs.Legal.{IsLegal}
use Rattle.site_history.specs.Sites.{Site, site_of, is_post}
use Rattle.site_history.specs.Held.{level_of}
use Rattle.site_history.specs.Views.{shown, shown_of, post_of, newest, first_ones, entries_of, replies_shown, diary_shown, article_shown, project_shown, project_named, person_shown}
use Rattle.site_state.proofs.KeptWell.{records_legal}

abbrev IsTimed : Record → Type 0
IsTimed x = IsMoment (moment_of x)

-- a well kept record has a moment
timed : (opening : tables.Table) (before rest : List Record) → IsWellKept opening (before ++ rest) → All IsTimed rest
timed opening before [] well = All-nil IsTimed
timed opening before (x ∷ rest) well =
    All-cons IsTimed x rest (well before x rest refl).2 (timed opening (before ++ x ∷ []) rest (subst (IsWellKept opening) (sym (append_assoc before (x ∷ []) rest)) well))

dated : (s : Site) (x : Record) → IsTimed x → IsDated (post_of s x)
dated s (Diary moment author text) is = omega (arith, is)
dated s (Article moment author title text) is = omega (arith, is)
dated s (Reply moment author article text) is = omega (arith, is)
dated s (Project moment author name text) is = omega (arith, is)
dated s (Join moment name secret) is = omega arith
dated s (Seed moment subject) is = omega arith
dated s (Unseed moment subject) is = omega arith
dated s (Cert moment author subject level) is = omega arith
dated s (Table moment caps) is = omega arith

All-reverse : {X : Type 0} (P : X → Type 0) (xs : List X) → All P xs → All P (reverse xs)
All-reverse P [] all = all
All-reverse P (x ∷ xs) all =
    All-from_get_or P (reverse (x ∷ xs)) x (λ i less.
    let within : i < length (x ∷ xs) = omega (arith, less, length-reverse (x ∷ xs)) in
    subst P (sym (get_or-reverse (x ∷ xs) i x within)) (All-get_or P (x ∷ xs) (length (x ∷ xs) - 1 - i) x (omega arith) all))

posts_dated : (s : Site) (xs : List Record) → All IsTimed xs → All IsDated (map (post_of s) xs)
posts_dated s xs all = All-map IsDated (post_of s) xs (All-weaker IsTimed (λ x. IsDated (post_of s x)) (dated s) xs all)

slice_some : {X : Type 0} (P : X → Type 0) (xs : List X) (n : ℕ) → All P xs → IfSome (slice_get xs n) P
slice_some P [] n all = tt
slice_some P (x ∷ xs) zero all = All-head P x xs all
slice_some P (x ∷ xs) (suc n) all = slice_some P xs n (All-tail P x xs all)

found_some : {X : Type 0} (P : X → Type 0) (p : X → Bool) (xs : List X) → All P xs → IfSome (find p xs) P
found_some P p [] all = tt
found_some {X = X} P p (x ∷ xs) all = by (p x) (found_some P p xs (All-tail P x xs all))
  where
    by : (b : Bool) → IfSome (find p xs) P → IfSome (cond b (Some x) (find p xs)) P
    by true rest = All-head P x xs all
    by false rest = rest

module _ (s : Site) (held : ℕ → Level) (all : All IsTimed s.posts) where
  entries_dated : (account : ℕ) → All IsDated (entries_of s account)
  entries_dated account =
      posts_dated s (newest (diary_of s.posts account)) (All-take IsTimed 20 (reverse (diary_of s.posts account)) (All-reverse IsTimed (diary_of s.posts account) (All-filter (is_diary_of account) IsTimed s.posts all)))

  replies_dated : (n : ℕ) → All IsDated (replies_shown s n)
  replies_dated n = posts_dated s (first_ones (replies_to s.posts n)) (All-take IsTimed 200 (replies_to s.posts n) (All-filter (is_reply_to n) IsTimed s.posts all))

  person_dated : (name : List ℕ) (o : Option ℕ) → AreDated (person_shown s held name o)
  person_dated name None = tt
  person_dated name (Some a) = tt

  diary_dated : (name : List ℕ) (o : Option ℕ) → AreDated (diary_shown s name o)
  diary_dated name None = tt
  diary_dated name (Some a) = entries_dated a

  article_dated : (n : ℕ) (o : Option Record) → IfSome o IsTimed → AreDated (article_shown s n o)
  article_dated n None is = tt
  article_dated n (Some x) is = (dated s x is, replies_dated n)

  project_dated : (name : List ℕ) (o : Option Record) → IfSome o IsTimed → AreDated (project_shown s name o)
  project_dated name None is = tt
  project_dated name (Some x) is = dated s x is

  named_timed : (word : List ℕ) (b : Bool) → IfSome (cond b (find (is_project_named word) s.posts) None) IsTimed
  named_timed word true = found_some IsTimed (is_project_named word) s.posts all
  named_timed word false = tt

  all_dated : (q : Query) → AreDated (shown_of s held q)
  all_dated asked.Front = tt
  all_dated (asked.Person name) = person_dated name (number_of s.certs.names name)
  all_dated (asked.Diary name) = diary_dated name (number_of s.certs.names name)
  all_dated (asked.Article n) = article_dated n (slice_get (articles s.posts) n) (slice_some IsTimed (articles s.posts) n (All-filter is_article IsTimed s.posts all))
  all_dated (asked.Project name) = project_dated name (project_named s name) (named_timed name (is_name name))
  all_dated asked.Stewards = tt

-- what a legal history shows
pub shown_dated : (h : History) (q : Query) → IsLegal h → AreDated (shown h q)
unfolding shown
shown_dated h q legal =
    let well = (records_legal h legal).well in
    all_dated (site_of h) (level_of h) (All-filter is_post IsTimed (records h) (timed h.opening [] (records h) well)) q
