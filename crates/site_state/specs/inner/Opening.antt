-- For the state of a site alone: whether a record may be added to what a site is looked up in, step by step.
use Rattle.std.specs.Prelude.{ℕ, Bool, true, false, List, Result, Ok, Err, nat_lt, find, is_none, length}
use Rattle.trust_types.specs.declared.graphs.Cert.{Cert as Certificate}
use Rattle.trust_types.specs.declared.records.Record.{Record}
use Rattle.trust_types.specs.declared.records.Record.TheVariants.{Join, Seed, Unseed, Cert, Table, Diary, Article, Reply, Project}
use Rattle.cert_book.specs.declared.judging.CertFault.{CertFault}
use Rattle.cert_book.specs.declared.judging.CertFault.TheVariants.{AccountsFull, CertsFull}
use Rattle.cert_book.specs.Books.{Book}
use Rattle.cert_book.specs.Judged as certs
use Rattle.postings.specs.declared.judging.PostFault.{PostFault}
use Rattle.postings.specs.declared.judging.PostFault.TheVariants.{LongText}
use Rattle.postings.specs.Posts.{is_project_named}
use Rattle.postings.specs.Judged as posts
use Rattle.site_state.specs.declared.opening.RecordFault.{RecordFault}
use Rattle.site_state.specs.declared.opening.RecordFault.TheVariants.{Bad, Full, NoMemory}

abbrev pub Judged : Type 0
Judged = Result (Unit {0}) RecordFault

-- What a step gives, or the first fault: what a `do` stands for.
infixl 10 ◌>>=◌
abbrev pub ◌>>=◌ : Judged → (Unit {0} → Judged) → Judged
(Ok u) >>= f = f u
(Err fault) >>= f = Err fault

abbrev pub bad_unless : Bool → Judged
bad_unless true = Ok record {}
bad_unless false = Err Bad

-- The faults that are limits, and those that aren't.
abbrev pub cert_fault : CertFault → RecordFault
cert_fault AccountsFull = Full
cert_fault CertsFull = Full
cert_fault _ = Bad

abbrev pub post_fault : PostFault → RecordFault
post_fault (LongText n) = Full
post_fault _ = Bad

abbrev pub by_certs : certs.Judged → Judged
by_certs (Ok u) = Ok record {}
by_certs (Err fault) = Err (cert_fault fault)

abbrev pub by_posts : posts.Judged → Judged
by_posts (Ok u) = Ok record {}
by_posts (Err fault) = Err (post_fault fault)

abbrev pub account_in : Book → ℕ → Judged
account_in b a = bad_unless (nat_lt a (length b.names))

abbrev pub judged_seed : Book → ℕ → Judged
judged_seed b a = do
  _ ← account_in b a
  by_certs (certs.judged_seeding b a)

abbrev pub judged_unseed : Book → ℕ → Judged
judged_unseed b a = do
  _ ← account_in b a
  by_certs (certs.judged_unseeding b a)

abbrev pub judged_cert : Book → Certificate → Judged
judged_cert b c = do
  _ ← account_in b c.from
  _ ← account_in b c.to
  by_certs (certs.judged_certifying b c)

abbrev pub judged_diary : Book → ℕ → List ℕ → Judged
judged_diary b author text = do
  _ ← account_in b author
  by_posts (posts.judged_diary text)

abbrev pub judged_article : Book → ℕ → List ℕ → List ℕ → Judged
judged_article b author title text = do
  _ ← account_in b author
  by_posts (posts.judged_article title text)

abbrev pub judged_reply : Book → List Record → ℕ → ℕ → List ℕ → Judged
judged_reply b k author article text = do
  _ ← account_in b author
  by_posts (posts.judged_reply k article text)

abbrev pub judged_project : Book → List Record → ℕ → List ℕ → List ℕ → Judged
judged_project b k author name text = do
  _ ← account_in b author
  _ ← bad_unless (is_none (find (is_project_named name) k))
  by_posts (posts.judged_diary text)

abbrev pub judged_record : Book → List Record → Record → Judged
judged_record b k (Join moment name secret) = by_certs (certs.judged_name b name)
judged_record b k (Seed moment subject) = judged_seed b subject
judged_record b k (Unseed moment subject) = judged_unseed b subject
judged_record b k (Cert moment author subject level) = judged_cert b (record { from = author; to = subject; level = level })
judged_record b k (Table moment caps) = by_certs (certs.judged_table b caps)
judged_record b k (Diary moment author text) = judged_diary b author text
judged_record b k (Article moment author title text) = judged_article b author title text
judged_record b k (Reply moment author article text) = judged_reply b k author article text
judged_record b k (Project moment author name text) = judged_project b k author name text

-- What a judgement says of a record that may follow where F, and passes no limit of its own where P.
abbrev pub Judges : Judged → Type 0 → Type 0 → Type 0
Judges (Ok u) F P = F × P
Judges (Err Bad) F P = ¬ F
Judges (Err Full) F P = F × ¬ P
Judges (Err NoMemory) F P = ⊥
