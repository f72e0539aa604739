-- What a judgement of a record says of the records before it.
use Rattle.std.proofs.Common.{◌≡◌, ℕ, Bool, true, false, ◌<◌, ◌≤◌, nat_lt, nat_le, List, [], ◌∷◌, length, count_by, filter, filter_map, find, slice_get, Contains, Option, Some, None, is_none, Ok, Err, Decides, if◌then◌else◌, refl, sym, ap, ◌∙◌, subst, zero, suc, arith}
use Rattle.std.proofs.lemmas.List.Sums.{length-filter}
use Rattle.std.specs.Result.{result_and}
use Rattle.trust_types.specs.declared.graphs.Cert.{Cert as Certificate}
use Rattle.trust_types.specs.declared.limits.TheConstants.{MOST_CERTS, LONGEST_TEXT}
use Rattle.trust_types.specs.declared.records.Record.{Record}
use Rattle.trust_types.specs.declared.records.Record.TheVariants.{Join, Seed, Unseed, Cert, Table, Diary, Article, Reply, Project}
use Rattle.trust_types.specs.Changes.{standing_count}
use Rattle.trust_types.specs.Kept.{Continues, Fits, IsWithin, changes, certs_of, is_article, project_of}
use Rattle.trust_types.specs.NameLists.{number_of}
use Rattle.trust_types.specs.Tables as tables
use Rattle.cert_book.specs.Books.{Book, IsAccount, book_of}
use Rattle.cert_book.proofs.Recording.{place}
use Rattle.postings.specs.declared.judging.PostFault.TheVariants.{LongText, NoSuchArticle}
use Rattle.postings.specs.Posts.{articles, projects, is_project, is_project_named}
use Rattle.postings.specs.Judged as posts
use Rattle.postings.proofs.Placing.{as_many_names, number_within, project_found, no_project_found}
use Rattle.site_history.specs.Sites.{posts_of}
use Rattle.site_state.specs.declared.opening.RecordFault.TheVariants.{Bad, Full, NoMemory}
use Rattle.site_state.specs.inner.Opening.{Judged, Judges, ◌>>=◌, bad_unless, by_posts, account_in, judged_record}
use Rattle.site_state.proofs.WellKept.{KnowsSeeds}
use Rattle.site_state.proofs.ChangesJudged.{false_true, unknown, none_has, name_judged, seeding_judged, unseeding_judged, certifying_judged, table_judged}

-- the same judgement in other words
judges_map : (r : Judged) (F F' P P' : Type 0) → (F → F') → (F' → F) → (P → P') → (P' → P) → Judges r F P → Judges r F' P'
judges_map (Ok u) F F' P P' f f' p p' j = (f j.0, p j.1)
judges_map (Err Bad) F F' P P' f f' p p' j = λ x. j (f' x)
judges_map (Err Full) F F' P P' f f' p p' j = (f j.0, λ x. j.1 (p' x))
judges_map (Err NoMemory) F F' P P' f f' p p' j = j

-- a step more at the front
with_fact : (r : Judged) (A F P : Type 0) → A → Judges r F P → Judges r (A × F) P
with_fact (Ok u) A F P a j = ((a, j.0), j.1)
with_fact (Err Bad) A F P a j = λ x. j x.1
with_fact (Err Full) A F P a j = ((a, j.0), j.1)
with_fact (Err NoMemory) A F P a j = j

stepped : (b : Bool) (r : Judged) (A F P : Type 0) → Decides b A → Judges r F P → Judges (bad_unless b >>= λ _. r) (A × F) P
stepped true r A F P decides j = with_fact r A F P (decides.0 refl) j
stepped false r A F P decides j = λ x. false_true (decides.1 x.0)

below_decides : (a n : ℕ) → Decides (nat_lt a n) (a < n)
below_decides a n = (λ e. grind arith, λ lt. grind arith)

within_decides : (n most : ℕ) → Decides (nat_le n most) (n ≤ most)
within_decides n most = (λ e. grind arith, λ le. grind arith)

account_stepped : (b : Book) (a : ℕ) (r : Judged) (F P : Type 0) → Judges r F P → Judges (account_in b a >>= λ _. r) (IsAccount b a × F) P
account_stepped b a r F P j = stepped (nat_lt a (length b.names)) r (IsAccount b a) F P (below_decides a (length b.names)) j

-- texts
abbrev one_text : Bool → ℕ → posts.Judged
one_text b n = if b then Ok record {} else Err (LongText n)

by_text : (b : Bool) (n : ℕ) (W : Type 0) → Decides b W → Judges (by_posts (one_text b n)) (Unit {0}) W
by_text true n W decides = (tt, decides.0 refl)
by_text false n W decides = (tt, λ w. false_true (decides.1 w))

fits_judged : (text : List ℕ) → Judges (by_posts (posts.fits text)) (Unit {0}) (IsWithin text)
fits_judged text = by_text (nat_le (length text) LONGEST_TEXT) (length text) (IsWithin text) (within_decides (length text) LONGEST_TEXT)

by_texts : (b c : Bool) (n m : ℕ) (W V : Type 0) → Decides b W → Decides c V → Judges (by_posts (result_and (one_text b n) (one_text c m))) (Unit {0}) (W × V)
by_texts true true n m W V one other = (tt, (one.0 refl, other.0 refl))
by_texts true false n m W V one other = (tt, λ x. false_true (other.1 x.1))
by_texts false c n m W V one other = (tt, λ x. false_true (one.1 x.0))

article_judged : (title text : List ℕ) → Judges (by_posts (posts.judged_article title text)) (Unit {0}) (IsWithin title × IsWithin text)
article_judged title text =
    by_texts (nat_le (length title) LONGEST_TEXT) (nat_le (length text) LONGEST_TEXT) (length title) (length text) (IsWithin title) (IsWithin text)
    (within_decides (length title) LONGEST_TEXT) (within_decides (length text) LONGEST_TEXT)

abbrev one_article : Bool → posts.Judged
one_article b = if b then Ok record {} else Err NoSuchArticle

by_article : (b c : Bool) (n : ℕ) (A W : Type 0) → Decides b A → Decides c W → Judges (by_posts (result_and (one_article b) (one_text c n))) A W
by_article true true n A W there fits = (there.0 refl, fits.0 refl)
by_article true false n A W there fits = (there.0 refl, λ w. false_true (fits.1 w))
by_article false c n A W there fits = λ a. false_true (there.1 a)

-- the articles and the projects are among the posts
articles_among : (k : List Record) → articles (posts_of k) ≡ filter is_article k
articles_among [] = refl
articles_among (Article moment author title text ∷ k) = ap (λ l. Article moment author title text ∷ l) (articles_among k)
articles_among (x ∷ k) = articles_among k

pub articles_counted : (k : List Record) → length (articles (posts_of k)) ≡ count_by is_article k
articles_counted k = ap length (articles_among k) ∙ length-filter is_article k

pub projects_among : (k : List Record) → projects (posts_of k) ≡ filter_map project_of k
projects_among [] = refl
projects_among (Project moment author name text ∷ k) = ap (λ l. name ∷ l) (projects_among k)
projects_among (x ∷ k) = projects_among k

reply_judged : (k : List Record) (article : ℕ) (text : List ℕ) → Judges (by_posts (posts.judged_reply (posts_of k) article text)) (article < count_by is_article k) (IsWithin text)
reply_judged k article text =
    by_article (nat_lt article (length (articles (posts_of k)))) (nat_le (length text) LONGEST_TEXT) (length text) (article < count_by is_article k) (IsWithin text)
    (subst (λ n. Decides (nat_lt article (length (articles (posts_of k)))) (article < n)) (articles_counted k) (below_decides article (length (articles (posts_of k)))))
    (within_decides (length text) LONGEST_TEXT)

there_is : (xs : List Record) (n : ℕ) → n < length xs → is_none (slice_get xs n) ≡ false
there_is [] n within = absurd (omega arith)
there_is (x ∷ xs) zero within = refl
there_is (x ∷ xs) (suc n) within = there_is xs n (omega arith)

is_there : (n : ℕ) → Some n ≡ None → ⊥
is_there n e = cc

-- a project's name is free where no project of that name is found
free_decides : (k : List Record) (name : List ℕ) → Decides (is_none (find (is_project_named name) (posts_of k))) (¬ (Contains (filter_map project_of k) name))
free_decides k name = by_number (number_of (projects (posts_of k)) name) refl
  where
    by_number : (found : Option ℕ) → number_of (projects (posts_of k)) name ≡ found →
        Decides (is_none (find (is_project_named name) (posts_of k))) (¬ (Contains (filter_map project_of k) name))
    by_number None is = (
      λ e. unknown (filter_map project_of k) name (ap (λ names. number_of names name) (sym (projects_among k)) ∙ is),
      λ new. ap is_none (no_project_found name (posts_of k) is),
    )
    by_number (Some n) is =
        let within : n < length (filter is_project (posts_of k)) = omega (arith, as_many_names (posts_of k), number_within (projects (posts_of k)) name n is) in
        let some : is_none (find (is_project_named name) (posts_of k)) ≡ false = ap is_none (project_found name (posts_of k) n is) ∙ there_is (filter is_project (posts_of k)) n within in (
          λ e. absurd (false_true (sym some ∙ e)),
          λ new. absurd (is_there n (sym (ap (λ names. number_of names name) (sym (projects_among k)) ∙ is) ∙ none_has (filter_map project_of k) name new)),
        )

-- a judgement of a record
pub record_judged : (opening : tables.Table) (k : List Record) (x : Record) → KnowsSeeds k → standing_count (certs_of k) ≤ MOST_CERTS
    → Judges (judged_record (book_of opening (changes k)) (posts_of k) x) (Continues opening k x) (Fits k x)
record_judged opening k (Join moment name secret) known few = name_judged (book_of opening (changes k)) name
record_judged opening k (Seed moment a) known few = let b : Book = book_of opening (changes k) in account_stepped b a _ _ _ (seeding_judged b a)
record_judged opening k (Unseed moment a) known few =
    let b : Book = book_of opening (changes k) in
    judges_map _ _ _ _ _ (λ f. (f.0, f.1.0, f.1.1)) (λ f. (f.0, (f.1, f.2))) (λ p. p) (λ p. p) (account_stepped b a _ _ _ (unseeding_judged b a known))
record_judged opening k (Cert moment author subject level) known few =
    let b : Book = book_of opening (changes k) in
    let c : Certificate = record { from = author; to = subject; level = level } in
    let same = place opening k (Cert moment author subject level) in
    judges_map _ _ _ _ _ (λ f. (f.0, f.1.0, f.1.1.0, f.1.1.1, f.1.1.2)) (λ f. (f.0, (f.1, (f.2, f.3, f.4)))) same.0 same.1
    (account_stepped b author _ _ _ (account_stepped b subject _ _ _ (certifying_judged b c few)))
record_judged opening k (Table moment caps) known few = table_judged (book_of opening (changes k)) caps
record_judged opening k (Diary moment author text) known few =
    judges_map _ _ _ _ _ (λ f. f.0) (λ f. (f, tt)) (λ p. p) (λ p. p) (account_stepped (book_of opening (changes k)) author _ _ _ (fits_judged text))
record_judged opening k (Article moment author title text) known few =
    judges_map _ _ _ _ _ (λ f. f.0) (λ f. (f, tt)) (λ p. p) (λ p. p) (account_stepped (book_of opening (changes k)) author _ _ _ (article_judged title text))
record_judged opening k (Reply moment author article text) known few = account_stepped (book_of opening (changes k)) author _ _ _ (reply_judged k article text)
record_judged opening k (Project moment author name text) known few =
    judges_map _ _ _ _ _ (λ f. (f.0, f.1.0)) (λ f. (f.0, (f.1, tt))) (λ p. p) (λ p. p)
    (account_stepped (book_of opening (changes k)) author _ _ _ (stepped (is_none (find (is_project_named name) (posts_of k))) _ _ _ _ (free_decides k name) (fits_judged text)))
