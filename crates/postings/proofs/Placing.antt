-- Places of posts: what stands at them, and one more post.
use Rattle.std.proofs.Common.{◌≡◌, ℕ, zero, suc, ◌+◌, not, ◌≤◌, ◌<◌, Bool, true, false, cond, List, [], ◌∷◌, ◌++◌, Option, Some, None, length, map, slice_get, refl, sym, ◌∙◌, ap, subst, arith, append-nil, ◌≢◌, ◌==◌, inl, inr, eq-eqb, lt-ltb, le-ltb}
use Rattle.std.specs.List.{filter, cons_option, find, position_or_len}
use Rattle.std.specs.Prelude.{is_some, slice_index}
use Rattle.std.specs.Str.{bytes_eq}
use Rattle.std.proofs.lemmas.List.{length-map, map-append}
use Rattle.std.proofs.lemmas.List.Elements.{filter-append, filter_map-append}
use Rattle.std.proofs.lemmas.Option.{slice_get_past, slice_get_within}
use Rattle.std.proofs.lemmas.Bool.{cases_eq, cases_lt}
use Rattle.std.proofs.lemmas.Bool.Decides.{nat_tests}
use Rattle.trust_types.specs.declared.records.Record.{Record}
use Rattle.trust_types.specs.declared.records.Record.TheVariants.{Diary, Article, Reply, Project}
use Rattle.trust_types.specs.Kept.{is_article, project_of}
use Rattle.trust_types.specs.NameLists.{number_of}
use Rattle.name_index.specs.Numbers.{Numbers, AreNumbersOf}
use Rattle.postings.specs.declared.places.Places.{Places}
use Rattle.postings.specs.Posts.{is_diary_of, is_reply_to, is_project, is_project_named, projects}
use Rattle.postings.specs.inner.Places.{AreAt, ArePlacesOf}
use Rattle.postings.specs.inner.Shelves.{Shelf, places_at}

-- There are as many places as posts that stand there.
pub as_many : (posts : List Record) (places : List ℕ) (some : List Record) → AreAt posts places some → length places ≡ length some
as_many posts places some are = sym (length-map places (slice_get posts)) ∙ ap length are ∙ length-map some Some

-- At the n-th place stands the n-th of them.
pub nth_there : (posts : List Record) (places : List ℕ) (some : List Record) (n : ℕ) → AreAt posts places some → n < length places →
    (slice_index places n < length posts) × (slice_get some n ≡ slice_get posts (slice_index places n))
nth_there posts [] some n are within = absurd (omega arith)
nth_there posts (place ∷ places) [] n are within = absurd (cc)
nth_there posts (place ∷ places) (y ∷ some) zero are within =
    let there : slice_get posts place ≡ Some y = (cc) in
    (slice_get_within posts place y there, sym there)
nth_there posts (place ∷ places) (y ∷ some) (suc n) are within =
    let others : map (slice_get posts) places ≡ map Some some = (cc) in
    nth_there posts places some n others (omega arith)

-- Of posts that pass a test there are no more than of all.
pub no_more : (p : Record → Bool) (posts : List Record) → length (filter p posts) ≤ length posts
no_more p [] = omega arith
no_more p (x ∷ posts) = by_test (p x) (no_more p posts)
  where
    by_test : (passes : Bool) → length (filter p posts) ≤ length posts → length (cond passes (x ∷ filter p posts) (filter p posts)) ≤ suc (length posts)
    by_test true rest = omega arith
    by_test false rest = omega arith

-- What is read at places that tell those posts which pass a test: how many they are, and the n-th.
pub counted : (p : Record → Bool) (posts now : List Record) (places at : List ℕ) → posts ≡ now → at ≡ places → AreAt posts places (filter p posts) →
    (length at ≤ length posts) × (length at ≡ length (filter p now))
counted p posts now places at same lent are =
    let many : length at ≡ length (filter p posts) = ap length lent ∙ as_many posts places (filter p posts) are in
    let few : length (filter p posts) ≤ length posts = no_more p posts in
    (omega arith, many ∙ ap (λ posts. length (filter p posts)) same)

pub read : (p : Record → Bool) (posts now there : List Record) (places at : List ℕ) (n : ℕ) → posts ≡ now → there ≡ posts → at ≡ places →
    AreAt posts places (filter p posts) → n < length (filter p now) →
    (slice_index at n < length there) × (slice_get there (slice_index at n) ≡ slice_get (filter p now) n)
read p posts now there places at n same whole lent are within =
    let many : length places ≡ length (filter p posts) = as_many posts places (filter p posts) are in
    let before : n < length (filter p posts) = subst (λ posts. n < length (filter p posts)) (sym same) within in
    let found : (slice_index places n < length posts) × (slice_get (filter p posts) n ≡ slice_get posts (slice_index places n)) =
    nth_there posts places (filter p posts) n are (omega arith) in
    let inside : slice_index at n < length posts = subst (λ at. slice_index at n < length posts) (sym lent) found.0 in (
      subst (λ there. slice_index at n < length there) (sym whole) inside,
      ap (λ there. slice_get there (slice_index at n)) whole ∙ ap (λ at. slice_get posts (slice_index at n)) lent ∙ sym found.1
          ∙ ap (λ posts. slice_get (filter p posts) n) same,
    )

-- A post further on changes nothing of what stands before it.
pub still_there : (posts : List Record) (x y : Record) (place : ℕ) → slice_get posts place ≡ Some y → slice_get (posts ++ x ∷ []) place ≡ Some y
still_there [] x y zero there = absurd (cc)
still_there [] x y (suc place) there = absurd (cc)
still_there (first ∷ posts) x y zero there = there
still_there (first ∷ posts) x y (suc place) there = still_there posts x y place there

pub last_there : (posts : List Record) (x : Record) → slice_get (posts ++ x ∷ []) (length posts) ≡ Some x
last_there [] x = refl
last_there (first ∷ posts) x = last_there posts x

pub still_at : (posts : List Record) (x : Record) (places : List ℕ) (some : List Record) → AreAt posts places some → AreAt (posts ++ x ∷ []) places some
still_at posts x [] [] are = refl
still_at posts x [] (y ∷ some) are = absurd (cc)
still_at posts x (place ∷ places) [] are = absurd (cc)
still_at posts x (place ∷ places) (y ∷ some) are =
    let first : slice_get posts place ≡ Some y = (cc) in
    let others : map (slice_get posts) places ≡ map Some some = (cc) in
    let first_still : slice_get (posts ++ x ∷ []) place ≡ Some y = still_there posts x y place first in
    let others_still : map (slice_get (posts ++ x ∷ [])) places ≡ map Some some = still_at posts x places some others in
    cc

-- One more post that fails the test, and one that passes it.
pub passed_over : (p : Record → Bool) (posts : List Record) (x : Record) (places : List ℕ) → p x ≡ false → AreAt posts places (filter p posts) →
    AreAt (posts ++ x ∷ []) places (filter p (posts ++ x ∷ []))
passed_over p posts x places fails are =
    still_at posts x places (filter p posts) are
    ∙ sym (ap (map Some) (filter-append p posts (x ∷ []) ∙ ap (λ passes. filter p posts ++ cond passes (x ∷ []) []) fails ∙ append-nil (filter p posts)))

pub taken : (p : Record → Bool) (posts : List Record) (x : Record) (places : List ℕ) → p x ≡ true → AreAt posts places (filter p posts) →
    AreAt (posts ++ x ∷ []) (places ++ length posts ∷ []) (filter p (posts ++ x ∷ []))
taken p posts x places passes are =
    map-append (slice_get (posts ++ x ∷ [])) places (length posts ∷ [])
    ∙ ap (λ found. found ++ slice_get (posts ++ x ∷ []) (length posts) ∷ []) (still_at posts x places (filter p posts) are)
    ∙ ap (λ last. map Some (filter p posts) ++ last ∷ []) (last_there posts x)
    ∙ sym (map-append Some (filter p posts) (x ∷ []))
    ∙ sym (ap (map Some) (filter-append p posts (x ∷ []) ∙ ap (λ passes. filter p posts ++ cond passes (x ∷ []) []) passes))

-- One more post on one of several shelves.
pub shelved : (p : ℕ → Record → Bool) (posts : List Record) (x : Record) (old new : List Shelf) (at : ℕ) → ((n : ℕ) → p n x ≡ (n == at)) →
    ((n : ℕ) → AreAt posts (places_at old n) (filter (p n) posts)) → places_at new at ≡ places_at old at ++ length posts ∷ [] →
    ((n : ℕ) → n ≢ at → places_at new n ≡ places_at old n) → (n : ℕ) → AreAt (posts ++ x ∷ []) (places_at new n) (filter (p n) (posts ++ x ∷ []))
shelved p posts x old new at test are there others n = elim (cases_eq n at) [
  | inl same ↦
      let passes : p n x ≡ true = test n ∙ eq-eqb n at same in
      let grown : places_at new n ≡ places_at old n ++ length posts ∷ [] =
      subst (λ m. places_at new m ≡ places_at old m ++ length posts ∷ []) (sym same) there in
      subst (λ places. AreAt (posts ++ x ∷ []) places (filter (p n) (posts ++ x ∷ []))) (sym grown) (taken (p n) posts x (places_at old n) passes (are n))
  | inr other ↦
      let fails : p n x ≡ false = test n ∙ grind (arith, nat_tests) in
      subst (λ places. AreAt (posts ++ x ∷ []) places (filter (p n) (posts ++ x ∷ []))) (sym (others n other))
      (passed_over (p n) posts x (places_at old n) fails (are n))
]

-- A post that is no project leaves the names.
pub no_name : (posts : List Record) (x : Record) → project_of x ≡ None → projects (posts ++ x ∷ []) ≡ projects posts
no_name posts x none =
    filter_map-append project_of posts (x ∷ []) ∙ ap (λ name. projects posts ++ cons_option name []) none ∙ append-nil (projects posts)

-- There are as many projects as names.
pub as_many_names : (posts : List Record) → length (filter is_project posts) ≡ length (projects posts)
as_many_names [] = refl
as_many_names (x ∷ posts) = by_name (project_of x) (as_many_names posts)
  where
    by_name : (name : Option (List ℕ)) → length (filter is_project posts) ≡ length (projects posts) →
        length (cond (is_some name) (x ∷ filter is_project posts) (filter is_project posts)) ≡ length (cons_option name (projects posts))
    by_name None rest = rest
    by_name (Some name) rest = ap suc rest

-- The project of a name is that of its number.
pub by_name_and_number : (word : List ℕ) (posts : List Record) →
    find (is_project_named word) posts ≡ slice_get (filter is_project posts) (position_or_len (λ other. bytes_eq other word) (projects posts))
by_name_and_number word [] = refl
by_name_and_number word (Project moment author name text ∷ posts) = by_test (bytes_eq name word) (by_name_and_number word posts)
  where
    by_test : (same : Bool) →
        find (is_project_named word) posts ≡ slice_get (filter is_project posts) (position_or_len (λ other. bytes_eq other word) (projects posts)) →
        cond same (Some (Project moment author name text)) (find (is_project_named word) posts)
        ≡ slice_get (Project moment author name text ∷ filter is_project posts) (cond (not same) (1 + position_or_len (λ other. bytes_eq other word) (projects posts)) 0)
    by_test true rest = refl
    by_test false rest =
        let next : suc (position_or_len (λ other. bytes_eq other word) (projects posts)) ≡ 1 + position_or_len (λ other. bytes_eq other word) (projects posts) =
        omega arith in
        rest ∙ ap (slice_get (Project moment author name text ∷ filter is_project posts)) next
by_name_and_number word (x ∷ posts) = by_name_and_number word posts

pub number_within : (names : List (List ℕ)) (word : List ℕ) (n : ℕ) → number_of names word ≡ Some n → n < length names
number_within names word n numbered = elim (cases_lt (position_or_len (λ other. bytes_eq other word) names) (length names)) [
  | inl within ↦ let place : position_or_len (λ other. bytes_eq other word) names ≡ n = at_place _ numbered in omega arith
  | inr past ↦ absurd (not_past _ numbered (le-ltb _ _ past))
]
  where
    at_place : (within : Bool) → cond within (Some (position_or_len (λ other. bytes_eq other word) names)) None ≡ Some n →
        position_or_len (λ other. bytes_eq other word) names ≡ n
    at_place true is = cc
    at_place false is = absurd (cc)

    not_past : (within : Bool) → cond within (Some (position_or_len (λ other. bytes_eq other word) names)) None ≡ Some n → within ≡ false → ⊥
    not_past true is same = absurd (cc)
    not_past false is same = absurd (cc)

pub project_found : (word : List ℕ) (posts : List Record) (n : ℕ) → number_of (projects posts) word ≡ Some n →
    find (is_project_named word) posts ≡ slice_get (filter is_project posts) n
project_found word posts n numbered = by_name_and_number word posts ∙ ap (slice_get (filter is_project posts)) (at_place _ numbered)
  where
    at_place : (within : Bool) → cond within (Some (position_or_len (λ other. bytes_eq other word) (projects posts))) None ≡ Some n →
        position_or_len (λ other. bytes_eq other word) (projects posts) ≡ n
    at_place true is = cc
    at_place false is = absurd (cc)

pub no_project_found : (word : List ℕ) (posts : List Record) → number_of (projects posts) word ≡ None → find (is_project_named word) posts ≡ None
no_project_found word posts none =
    let past : length (projects posts) ≤ position_or_len (λ other. bytes_eq other word) (projects posts) =
    elim (cases_lt (position_or_len (λ other. bytes_eq other word) (projects posts)) (length (projects posts))) [
      | inl within ↦ absurd (not_within _ none (lt-ltb _ _ within))
      | inr past ↦ past
    ] in
    by_name_and_number word posts ∙ slice_get_past (filter is_project posts) _ (omega (arith, as_many_names posts, past))
  where
    not_within : (within : Bool) → cond within (Some (position_or_len (λ other. bytes_eq other word) (projects posts))) None ≡ None → within ≡ true → ⊥
    not_within true is same = absurd (cc)
    not_within false is same = absurd (cc)

-- The places with one more post.
pub diary_added : (posts : List Record) (old : Places) (moment author : ℕ) (text : List ℕ) (diaries : List Shelf) → ArePlacesOf posts old →
    places_at diaries author ≡ places_at old.diaries author ++ length posts ∷ [] → ((n : ℕ) → n ≢ author → places_at diaries n ≡ places_at old.diaries n) →
    ArePlacesOf (posts ++ Diary moment author text ∷ []) (record old { diaries = diaries })
diary_added posts old moment author text diaries are there others =
    let x : Record = Diary moment author text in
    record {
      diaries = shelved is_diary_of posts x old.diaries diaries author (λ n. refl) are.diaries there others;
      articles = passed_over is_article posts x old.articles.places refl are.articles;
      replies = λ n. passed_over (is_reply_to n) posts x (places_at old.replies n) refl (are.replies n);
      names = subst (λ names. AreNumbersOf names old.names.entries) (sym (no_name posts x refl)) are.names;
      projects = passed_over is_project posts x old.projects.places refl are.projects;
    }

pub article_added : (posts : List Record) (old : Places) (moment author : ℕ) (title text : List ℕ) (articles : Shelf) → ArePlacesOf posts old →
    articles.places ≡ old.articles.places ++ length posts ∷ [] →
    ArePlacesOf (posts ++ Article moment author title text ∷ []) (record old { articles = articles })
article_added posts old moment author title text articles are there =
    let x : Record = Article moment author title text in
    record {
      diaries = λ n. passed_over (is_diary_of n) posts x (places_at old.diaries n) refl (are.diaries n);
      articles = subst (λ places. AreAt (posts ++ x ∷ []) places (filter is_article (posts ++ x ∷ []))) (sym there)
          (taken is_article posts x old.articles.places refl are.articles);
      replies = λ n. passed_over (is_reply_to n) posts x (places_at old.replies n) refl (are.replies n);
      names = subst (λ names. AreNumbersOf names old.names.entries) (sym (no_name posts x refl)) are.names;
      projects = passed_over is_project posts x old.projects.places refl are.projects;
    }

pub reply_added : (posts : List Record) (old : Places) (moment author article : ℕ) (text : List ℕ) (replies : List Shelf) → ArePlacesOf posts old →
    places_at replies article ≡ places_at old.replies article ++ length posts ∷ [] → ((n : ℕ) → n ≢ article → places_at replies n ≡ places_at old.replies n) →
    ArePlacesOf (posts ++ Reply moment author article text ∷ []) (record old { replies = replies })
reply_added posts old moment author article text replies are there others =
    let x : Record = Reply moment author article text in
    record {
      diaries = λ n. passed_over (is_diary_of n) posts x (places_at old.diaries n) refl (are.diaries n);
      articles = passed_over is_article posts x old.articles.places refl are.articles;
      replies = shelved is_reply_to posts x old.replies replies article (λ n. refl) are.replies there others;
      names = subst (λ names. AreNumbersOf names old.names.entries) (sym (no_name posts x refl)) are.names;
      projects = passed_over is_project posts x old.projects.places refl are.projects;
    }

pub project_added : (posts : List Record) (old : Places) (moment author : ℕ) (name text : List ℕ) (projects_there : Shelf) (names : Numbers) → ArePlacesOf posts old →
    projects_there.places ≡ old.projects.places ++ length posts ∷ [] → AreNumbersOf (projects posts ++ name ∷ []) names.entries →
    ArePlacesOf (posts ++ Project moment author name text ∷ []) (record old { projects = projects_there; names = names })
project_added posts old moment author name text projects_there names are there named =
    let x : Record = Project moment author name text in
    record {
      diaries = λ n. passed_over (is_diary_of n) posts x (places_at old.diaries n) refl (are.diaries n);
      articles = passed_over is_article posts x old.articles.places refl are.articles;
      replies = λ n. passed_over (is_reply_to n) posts x (places_at old.replies n) refl (are.replies n);
      names = subst (λ list. AreNumbersOf list names.entries) (sym (filter_map-append project_of posts (x ∷ []))) named;
      projects = subst (λ places. AreAt (posts ++ x ∷ []) places (filter is_project (posts ++ x ∷ []))) (sym there)
          (taken is_project posts x old.projects.places refl are.projects);
    }
