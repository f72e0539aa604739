-- What a site accepted continues what it kept, and fits it.
use Rattle.std.proofs.Common.{◌≡◌, ℕ, ◌<◌, Bool, true, false, nat_lt, List, length, find, Option, Some, None, Result, Ok, Err, IfSome, IsTrue, is_some, is_none, unwrap_or, if◌then◌else◌, ◌==◌, refl, sym, ap, ◌∙◌, subst, arith}
use Rattle.std.specs.Result.{result_and}
use Rattle.trust_types.specs.declared.levels.Level.{Level}
use Rattle.trust_types.specs.declared.records.Record.{Record}
use Rattle.trust_types.specs.declared.records.Record.TheVariants as entry
use Rattle.trust_types.specs.Kept.{accounts}
use Rattle.trust_types.specs.NameLists.{number_of}
use Rattle.cert_book.specs.declared.judging.CertFault.{CertFault}
use Rattle.cert_book.specs.declared.judging.CertFault.TheVariants as certs
use Rattle.cert_book.specs.Books.{Book}
use Rattle.cert_book.specs.Judged as judging
use Rattle.site_state.proofs.Steps.{join_name, found_step}
use Rattle.cert_book.specs.Judged.{judged_join, judged_seed, judged_unseed, judged_cert, judged_seeding, judged_unseeding, judged_certifying}
use Rattle.posting_policy.specs.declared.PostKind.{PostKind}
use Rattle.postings.specs.declared.judging.PostFault.{PostFault}
use Rattle.postings.specs.declared.judging.PostFault.TheVariants as posts
use Rattle.postings.specs.Posts.{is_project_named}
use Rattle.postings.specs.Judged as posting
use Rattle.postings.proofs.Accepted.{name_is_free}
use Rattle.postings.proofs.Placing.{number_within, no_project_found}
use Rattle.sessions.specs.Sessions.{who}
use Rattle.site_history.specs.declared.acts.Act.{Act}
use Rattle.site_history.specs.declared.commands.Author.{Author}
use Rattle.site_history.specs.declared.commands.Author.TheVariants as author
use Rattle.site_history.specs.declared.commands.Command.{Command}
use Rattle.site_history.specs.declared.commands.Command.TheVariants.{Join, Seed, Unseed, Cert, Table, Diary, Article, Reply, Project, Login, Logout}
use Rattle.site_history.specs.declared.replies.Reply as replies
use Rattle.site_history.specs.Acts.{has_author}
use Rattle.site_history.specs.Held.{level_of}
use Rattle.site_history.specs.Histories.{History, records, record_of, author_of, account_of, is_kept}
use Rattle.site_history.specs.Replies.{judge, judged_author, named_account, same_account, reply_by, reply_to, number_in, cert_refusal, post_refusal, by_certs, by_posts}
use Rattle.site_history.specs.Sites.{Site, site_of}
use Rattle.site_state.specs.Weighed.{is_given}
use Rattle.site_state.specs.inner.Opening as opening
use Rattle.site_state.specs.inner.Opening.{◌>>=◌, Judged, account_in, judged_record}
use Rattle.site_state.proofs.ActsJudged.{given, author-found}

true_false : true ≡ false → ⊥
true_false e = cc

-- a refusal of the certificates or of the posts keeps nothing
cert_refused : (fault : CertFault) → is_kept (cert_refusal fault) ≡ false
cert_refused certs.BadName = refl
cert_refused (certs.NameTaken a) = refl
cert_refused certs.AccountsFull = refl
cert_refused certs.NoSuchAccount = refl
cert_refused certs.SelfCert = refl
cert_refused (certs.NoSuchLevel n) = refl
cert_refused certs.Same = refl
cert_refused certs.CertsFull = refl
cert_refused certs.NotSeed = refl
cert_refused certs.LastSeed = refl
cert_refused (certs.LevelsFall n) = refl

post_refused : (fault : PostFault) → is_kept (post_refusal fault) ≡ false
post_refused posts.NoSuchArticle = refl
post_refused posts.BadName = refl
post_refused (posts.NameTaken n) = refl
post_refused (posts.LongText n) = refl

certs_kept : {A : Type 0} (r : Result A CertFault) (accepted : replies.Reply) → is_kept (by_certs r accepted) ≡ true → (a : A) × (r ≡ Ok a)
certs_kept (Ok a) accepted is = (a, refl)
certs_kept (Err fault) accepted is = absurd (true_false (sym is ∙ cert_refused fault))

posts_kept : (r : posting.Judged) (kind : PostKind) (held : Level) (number : ℕ) → is_kept (by_posts r kind held number) ≡ true → r ≡ Ok tt
posts_kept (Ok u) kind held number is = refl
posts_kept (Err fault) kind held number is = absurd (true_false (sym is ∙ post_refused fault))

below_test : (a n : ℕ) → a < n → nat_lt a n ≡ true
below_test a n lt = grind arith

account_ok : (b : Book) (a : ℕ) (r : Judged) → a < length b.names → r ≡ Ok tt → (account_in b a >>= (λ _. r)) ≡ Ok tt
account_ok b a r below is = ap (λ (t : Bool). opening.bad_unless t >>= (λ _. r)) (below_test a (length b.names) below) ∙ is

certs_ok : (r : judging.Judged) → r ≡ Ok tt → opening.by_certs r ≡ Ok tt
certs_ok r is = ap opening.by_certs is

posts_ok : (r : posting.Judged) → r ≡ Ok tt → opening.by_posts r ≡ Ok tt
posts_ok r is = ap opening.by_posts is

account_is : (names : List (List ℕ)) (word : List ℕ) (n : ℕ) → number_of names word ≡ Some n → account_of names word ≡ n
account_is names word n is = ap (λ (o : Option ℕ). unwrap_or o 0) is

project_parts : (k : List Record) (name text : List ℕ) → posting.judged_project k name text ≡ Ok tt → posting.fits text ≡ Ok tt
project_parts k name text is = second (posting.name_free k name) (posting.fits text) is
  where
    second : (r s : posting.Judged) → result_and r s ≡ Ok tt → s ≡ Ok tt
    second (Ok u) s e = e
    second (Err fault) s e = absurd (cc)

-- a command that was accepted has a record that passes
by_command : (s : Site) (held : Level) (found : Option ℕ) (a moment : ℕ) (command : Command) (x : Record) → number_in found ≡ a → IfSome found (λ n. n < length s.certs.names)
    → IsTrue (is_given command found) → is_kept (reply_to s held found command) ≡ true → record_of s.certs.names a moment command ≡ Some x → judged_record s.certs s.posts x ≡ Ok tt
by_command s held found a moment (Join name secret) x same below has kept made =
    let accepted = certs_kept (judged_join s.certs name) (replies.TheVariants.Joined (length s.certs.names)) kept in
    let at : entry.Join moment name secret ≡ x = cc made in
    subst (λ (y : Record). judged_record s.certs s.posts y ≡ Ok tt) at (certs_ok _ (join_name s.certs name accepted.0 accepted.1))
by_command s held found a moment (Seed subject) x same below has kept made =
    let accepted = certs_kept (judged_seed s.certs subject) _ kept in
    let there = found_step (number_of s.certs.names subject) (judged_seeding s.certs) accepted.0 accepted.1 in
    let at : entry.Seed moment (account_of s.certs.names subject) ≡ x = cc made in
    subst (λ (y : Record). judged_record s.certs s.posts y ≡ Ok tt) (ap (entry.Seed moment) (sym (account_is s.certs.names subject there.0 there.1)) ∙ at)
    (account_ok s.certs there.0 _ (number_within s.certs.names subject there.0 there.1) (certs_ok _ there.2))
by_command s held found a moment (Unseed subject) x same below has kept made =
    let accepted = certs_kept (judged_unseed s.certs subject) _ kept in
    let there = found_step (number_of s.certs.names subject) (judged_unseeding s.certs) accepted.0 accepted.1 in
    let at : entry.Unseed moment (account_of s.certs.names subject) ≡ x = cc made in
    subst (λ (y : Record). judged_record s.certs s.posts y ≡ Ok tt) (ap (entry.Unseed moment) (sym (account_is s.certs.names subject there.0 there.1)) ∙ at)
    (account_ok s.certs there.0 _ (number_within s.certs.names subject there.0 there.1) (certs_ok _ there.2))
by_command s held None a moment (Cert subject level) x same below has kept made = absurd (true_false (sym has))
by_command s held (Some b) a moment (Cert subject level) x same below has kept made =
    let accepted = certs_kept (judged_cert s.certs b subject level) _ kept in
    let there = found_step (number_of s.certs.names subject) (λ (c : ℕ). judged_certifying s.certs (record { from = b; to = c; level = level })) accepted.0 accepted.1 in
    let at : entry.Cert moment a (account_of s.certs.names subject) level ≡ x = cc made in
    let here : entry.Cert moment b there.0 level ≡ x = (λ i. entry.Cert moment (same i) (sym (account_is s.certs.names subject there.0 there.1) i) level) ∙ at in
    subst (λ (y : Record). judged_record s.certs s.posts y ≡ Ok tt) here
    (account_ok s.certs b _ below (account_ok s.certs there.0 _ (number_within s.certs.names subject there.0 there.1) (certs_ok _ there.2)))
by_command s held found a moment (Table caps) x same below has kept made =
    let accepted = certs_kept (judging.judged_table s.certs caps) _ kept in
    let at : entry.Table moment caps ≡ x = cc made in
    subst (λ (y : Record). judged_record s.certs s.posts y ≡ Ok tt) at (certs_ok _ accepted.1)
by_command s held None a moment (Diary text) x same below has kept made = absurd (true_false (sym has))
by_command s held (Some b) a moment (Diary text) x same below has kept made =
    let at : entry.Diary moment a text ≡ x = cc made in
    subst (λ (y : Record). judged_record s.certs s.posts y ≡ Ok tt) (ap (λ (n : ℕ). entry.Diary moment n text) same ∙ at)
    (account_ok s.certs b _ below (posts_ok _ (posts_kept (posting.judged_diary text) _ held _ kept)))
by_command s held None a moment (Article title text) x same below has kept made = absurd (true_false (sym has))
by_command s held (Some b) a moment (Article title text) x same below has kept made =
    let at : entry.Article moment a title text ≡ x = cc made in
    subst (λ (y : Record). judged_record s.certs s.posts y ≡ Ok tt) (ap (λ (n : ℕ). entry.Article moment n title text) same ∙ at)
    (account_ok s.certs b _ below (posts_ok _ (posts_kept (posting.judged_article title text) _ held _ kept)))
by_command s held None a moment (Reply article text) x same below has kept made = absurd (true_false (sym has))
by_command s held (Some b) a moment (Reply article text) x same below has kept made =
    let at : entry.Reply moment a article text ≡ x = cc made in
    subst (λ (y : Record). judged_record s.certs s.posts y ≡ Ok tt) (ap (λ (n : ℕ). entry.Reply moment n article text) same ∙ at)
    (account_ok s.certs b _ below (posts_ok _ (posts_kept (posting.judged_reply s.posts article text) _ held _ kept)))
by_command s held None a moment (Project name text) x same below has kept made = absurd (true_false (sym has))
by_command s held (Some b) a moment (Project name text) x same below has kept made =
    let at : entry.Project moment a name text ≡ x = cc made in
    let accepted : posting.judged_project s.posts name text ≡ Ok tt = posts_kept (posting.judged_project s.posts name text) _ held _ kept in
    let free : is_none (find (is_project_named name) s.posts) ≡ true = ap is_none (no_project_found name s.posts (name_is_free s.posts name text tt accepted)) in
    subst (λ (y : Record). judged_record s.certs s.posts y ≡ Ok tt) (ap (λ (n : ℕ). entry.Project moment n name text) same ∙ at)
    (account_ok s.certs b _ below (ap (λ (t : Bool). opening.bad_unless t >>= (λ _. opening.by_posts (posting.fits text))) free ∙ posts_ok _ (project_parts s.posts name text accepted)))
by_command s held found a moment (Login name proof token) x same below has kept made = absurd (cc)
by_command s held found a moment Logout x same below has kept made = absurd (cc)

-- an author that was found is an account, and one that wasn't keeps nothing
abbrev IsFound : Site → Option ℕ → Type 0
IsFound s found = IfSome found (λ n. n < length s.certs.names)

found_below : (s : Site) (word : List ℕ) (o found : Option ℕ) → number_of s.certs.names word ≡ o → found ≡ o → IsFound s found
found_below s word None found number same = subst (IsFound s) (sym same) tt
found_below s word (Some n) found number same = subst (IsFound s) (sym same) (number_within s.certs.names word n number)

named_known : (s : Site) (word : List ℕ) (o found : Option ℕ) → number_of s.certs.names word ≡ o → named_account o ≡ Ok found → IsFound s found × (is_some found ≡ true)
named_known s word None found number is = absurd (cc)
named_known s word (Some n) found number is =
    let same : found ≡ Some n = cc is in (subst (IsFound s) (sym same) (number_within s.certs.names word n number), ap is_some same)

session_known : (s : Site) (word : List ℕ) (o session found : Option ℕ) → number_of s.certs.names word ≡ o → same_account o session ≡ Ok found → IsFound s found × (is_some found ≡ true)
session_known s word None session found number is = absurd (cc)
session_known s word (Some n) None found number is = absurd (cc)
session_known s word (Some n) (Some m) found number is = by_test (n == m) is
  where
    by_test : (t : Bool) → (if t then Ok (Some n) else Err replies.TheVariants.NoSession) ≡ Ok found → IsFound s found × (is_some found ≡ true)
    by_test true e = let same : found ≡ Some n = cc e in (subst (IsFound s) (sym same) (number_within s.certs.names word n number), ap is_some same)
    by_test false e = absurd (cc)

author_known : (s : Site) (a : Option Author) (found : Option ℕ) → judged_author s a ≡ Ok found → IsFound s found × (is_some found ≡ has_author a)
author_known s None found is = let same : found ≡ None = cc is in (subst (IsFound s) (sym same) tt, ap is_some same)
author_known s (Some (author.Named name)) found is = named_known s name (number_of s.certs.names name) found refl is
author_known s (Some (author.Session name token)) found is = session_known s name (number_of s.certs.names name) (who s.live token) found refl is

named_refused : (o : Option ℕ) (reply : replies.Reply) → named_account o ≡ Err reply → is_kept reply ≡ false
named_refused None reply is = let same : reply ≡ replies.TheVariants.NoSuchAuthor = cc is in ap is_kept same
named_refused (Some n) reply is = absurd (cc)

session_refused : (o session : Option ℕ) (reply : replies.Reply) → same_account o session ≡ Err reply → is_kept reply ≡ false
session_refused None session reply is = let same : reply ≡ replies.TheVariants.NoSession = cc is in ap is_kept same
session_refused (Some n) None reply is = let same : reply ≡ replies.TheVariants.NoSession = cc is in ap is_kept same
session_refused (Some n) (Some m) reply is = by_test (n == m) is
  where
    by_test : (t : Bool) → (if t then Ok (Some n) else Err replies.TheVariants.NoSession) ≡ Err reply → is_kept reply ≡ false
    by_test true e = absurd (cc)
    by_test false e = let same : reply ≡ replies.TheVariants.NoSession = cc e in ap is_kept same

author_refused : (s : Site) (a : Option Author) (reply : replies.Reply) → judged_author s a ≡ Err reply → is_kept reply ≡ false
author_refused s None reply is = absurd (cc)
author_refused s (Some (author.Named name)) reply is = named_refused (number_of s.certs.names name) reply is
author_refused s (Some (author.Session name token)) reply is = session_refused (number_of s.certs.names name) (who s.live token) reply is

-- the record of an act that was accepted passes
pub accepted : (h : History) (act : Act) (moment : ℕ) (x : Record) → is_kept (judge h act) ≡ true
    → record_of (accounts (records h)) (author_of (accounts (records h)) act.author) moment act.command ≡ Some x → judged_record (site_of h).certs (site_of h).posts x ≡ Ok tt
unfolding judge
accepted h act moment x kept made = by_author (judged_author (site_of h) act.author) refl kept
  where
    by_author : (r : Result (Option ℕ) replies.Reply) → judged_author (site_of h) act.author ≡ r → is_kept (reply_by h act.command r) ≡ true → judged_record (site_of h).certs (site_of h).posts x ≡ Ok tt
    by_author (Err refusal) is e = absurd (true_false (sym e ∙ author_refused (site_of h) act.author refusal is))
    by_author (Ok found) is e =
        let known = author_known (site_of h) act.author found is in
        by_command (site_of h) (level_of h (number_in found)) found (author_of (accounts (records h)) act.author) moment act.command x (author-found (site_of h) act.author found is) known.0
        (given act.command act.author found act.fits known.1) e made
