-- The state of a site with one entry more.
use Rattle.std.proofs.Common.{◌≡◌, ◌≢◌, ℕ, ◌+◌, ◌<◌, ◌≤◌, Bool, true, false, cond, List, [], ◌∷◌, ◌++◌, length, Option, Some, None, option_to_list, refl, sym, ap, ◌∙◌, subst, suc, arith, length-append, is_some}
use Rattle.std.proofs.lemmas.List.Elements.{filter_map-append}
use Rattle.std.specs.List.{last_or, cons_option}
use Rattle.std.specs.declared.sync.Arc.{Arc}
use Rattle.trust_types.specs.declared.records.Record.{Record}
use Rattle.trust_types.specs.Kept.{changes, change_of, revision, upto}
use Rattle.cert_book.specs.Books.{book}
use Rattle.roster_form.specs.declared.publications.Publication.{Publication}
use Rattle.postings.proofs.Placing.{no_more}
use Rattle.sessions.specs.Sessions.{Session}
use Rattle.trust_types.specs.Changes.{Change}
use Rattle.trust_types.specs.Kept.{IsMoment, accounts}
use Rattle.site_history.specs.declared.acts.Act.{Act}
use Rattle.site_history.specs.declared.replies.Reply.{Reply}
use Rattle.site_history.specs.declared.replies.Reply.TheVariants.{Joined, Revised, Posted, LoggedIn, LoggedOut}
use Rattle.site_history.specs.Answers.{is_refusal}
use Rattle.site_history.specs.Replies.{judge}
use Rattle.site_history.specs.Histories.{just_opened, Entry, Done, Freeze, KeeperFault, last_revision, graph_records, is_kept, record_of, author_of, History, with_entry, places, records, record_added, publications, published_by}
use Rattle.site_history.specs.Live.{live, live_after, live_by, with_login, without_author}
use Rattle.site_history.specs.Sites.{Site, is_post}
use Rattle.site_history.specs.Texts.{texts, texts_in, texts_in_entry}
use Rattle.site_history.specs.Legal.{Meets, IsFrozenOf}
use Rattle.site_history.proofs.Growing.{records-add, records-same, records-more, publications-same, live-add, texts-add, places-add, few-changes, few-records}
use Rattle.site_history.proofs.Legality.{legal_add, legal_opened, well_none}
use Rattle.site_history.proofs.Revisions.{frozen_later}
use Rattle.site_state.specs.declared.parts.Parts.{Parts}
use Rattle.trust_types.specs.Tables.{Table}
use Rattle.sessions.specs.Sessions.{without}
use Rattle.site_history.specs.declared.commands.Author.{Author}
use Rattle.site_history.specs.declared.commands.Author.TheVariants.{Named, Session as InSession}
use Rattle.site_history.specs.declared.commands.Command.{Command}
use Rattle.site_history.specs.declared.commands.Command.TheVariants.{Join, Seed, Unseed, Cert, Table as OfTable, Diary, Article, Reply as ReplyTo, Project, Login, Logout}
use Rattle.site_state.specs.Weighed.{token_of, author_token}
use Rattle.site_state.specs.inner.Parts.{ArePartsOf, AreFew, IsSameBut, site_in}
use Rattle.site_state.specs.inner.States.{IsState, LastIs}

-- a state has fewer changes and posts than their numbers can count
pub state_few : {Z : Type 0} (h : History) (parts : Parts) (n t p : ℕ) (last : Option (Arc Publication Z)) → IsState h parts n t p last → AreFew parts
state_few h parts n t p last is = record {
  changes = omega (arith, ap (λ (s : Site). s.certs.revision) is.parts_are.site, few-changes h, is.legal.short);
  posts = omega (arith, ap (λ (s : Site). length s.posts) is.parts_are.site, no_more is_post (records h), few-records h, is.legal.short);
}

more-revisions : (k l : List Record) → revision k ≤ revision (k ++ l)
more-revisions k l = omega (arith, ap length (filter_map-append change_of k l), length-append (changes k) (changes l))

-- the last publication stays, where the entry is none
pub last_stays : {Z : Type 0} (h : History) (e : Entry) (last : Option (Arc Publication Z)) → published_by e ≡ None → LastIs h last → LastIs (with_entry h e) last
last_stays h e None none is = ap (last_or None) (publications-same h e none) ∙ is
last_stays h e (Some q) none is =
    let l : List Record = option_to_list (record_added (records h) e) in
    let more : records (with_entry h e) ≡ records h ++ l = records-add h e in
    record {
      published = ap (last_or None) (publications-same h e none) ∙ is.published;
      past = subst (λ (k : List Record). q.value.candidate.graph.number ≤ revision k) (sym more) (omega (arith, is.past, more-revisions (records h) l));
      graph = subst (λ (k : List Record). IsFrozenOf h.opening (upto k q.value.candidate.graph.number) q.value.candidate.graph) (sym more)
          (frozen_later h.opening (records h) l q.value.candidate.graph.number q.value.candidate.graph is.past is.graph);
      sound = is.sound;
    }

-- a state with one entry more
pub state_add : {Z : Type 0} (h : History) (parts parts' : Parts) (n t t' p : ℕ) (last : Option (Arc Publication Z)) (e : Entry)
    → IsState h parts n t p last → Meets h e → places h < 4000000 → texts h + texts_in_entry e ≤ 536870912 → published_by e ≡ None
    → t' ≡ t + texts_in_entry e → ArePartsOf h.opening (records (with_entry h e)) (live (with_entry h e)) parts'
    → IsState (with_entry h e) parts' (n + 1) t' p last
state_add h parts parts' n t t' p last e is meets room few none more are = record {
  legal = legal_add h e is.legal room few meets;
  parts_are = are;
  count_is = omega (arith, is.count_is, places-add h e);
  bytes_are = omega (arith, more, is.bytes_are, texts-add h e);
  published_are = is.published_are ∙ sym (ap length (publications-same h e none));
  few = is.few;
  last_is = last_stays h e last none is.last_is;
}

-- the parts stay those of the records, where the entry adds none and nobody's session begins or ends
pub parts_stay : (h : History) (e : Entry) (parts : Parts) → record_added (records h) e ≡ None → live_after (live h) e ≡ live h → ArePartsOf h.opening (records h) (live h) parts
    → ArePartsOf h.opening (records (with_entry h e)) (live (with_entry h e)) parts
parts_stay h e parts none same are =
    subst (λ (z : List Record × List Session). ArePartsOf h.opening z.0 z.1 parts) (λ i. (sym (records-same h e none) i, sym (live-add h e ∙ same) i)) are

-- and those with one record more, where it adds it
pub parts_more : (h : History) (e : Entry) (x : Record) (parts : Parts) → record_added (records h) e ≡ Some x → live_after (live h) e ≡ live h → ArePartsOf h.opening (records h ++ x ∷ []) (live h) parts
    → ArePartsOf h.opening (records (with_entry h e)) (live (with_entry h e)) parts
parts_more h e x parts some same are =
    subst (λ (z : List Record × List Session). ArePartsOf h.opening z.0 z.1 parts) (λ i. (sym (records-more h e x some) i, sym (live-add h e ∙ same) i)) are

-- a state whose parts were changed but say the same
pub state_parts : {Z : Type 0} (h : History) (parts parts' : Parts) (n t p : ℕ) (last : Option (Arc Publication Z)) → IsState h parts n t p last
    → ArePartsOf h.opening (records h) (live h) parts' → IsState h parts' n t p last
state_parts h parts parts' n t p last is are = record {
  legal = is.legal;
  parts_are = are;
  count_is = is.count_is;
  bytes_are = is.bytes_are;
  published_are = is.published_are;
  few = is.few;
  last_is = is.last_is;
}

-- a refusal keeps nothing and ends no session, and a reply that keeps a record ends none
pub refusal_keeps : (reply : Reply) → is_refusal reply ≡ true → is_kept reply ≡ false
refusal_keeps (Joined a) is = absurd (cc)
refusal_keeps (Revised r) is = absurd (cc)
refusal_keeps (Posted kind n) is = absurd (cc)
refusal_keeps _ is = refl

pub refusal_live : (sessions : List Session) (act : Act) (reply : Reply) → is_refusal reply ≡ true → live_by sessions act reply ≡ sessions
refusal_live sessions act (LoggedIn a) is = absurd (cc)
refusal_live sessions act LoggedOut is = absurd (cc)
refusal_live sessions act _ is = refl

pub kept_live : (sessions : List Session) (act : Act) (reply : Reply) → is_kept reply ≡ true → live_by sessions act reply ≡ sessions
kept_live sessions act (LoggedIn a) is = absurd (cc)
kept_live sessions act LoggedOut is = absurd (cc)
kept_live sessions act _ is = refl

-- a state with an act more that was refused
pub state_refused : {Z : Type 0} (h : History) (parts : Parts) (n t p bytes caller moment : ℕ) (last : Option (Arc Publication Z)) (act : Act) (reply : Reply)
    → IsState h parts n t p last → reply ≡ judge h act → is_refusal reply ≡ true → IsMoment moment → places h < 4000000 → bytes ≡ texts_in act → texts h + bytes ≤ 536870912
    → IsState (with_entry h (Done caller act reply moment)) parts (n + 1) (t + bytes) p last
state_refused h parts n t p bytes caller moment last act reply is judged refusal at room same few =
    let e : Entry = Done caller act reply moment in
    let none : record_added (records h) e ≡ None = ap (λ (b : Bool). cond b (record_of (accounts (records h)) (author_of (accounts (records h)) act.author) moment act.command) None) (refusal_keeps reply refusal) in
    state_add h parts parts n t (t + bytes) p last e is (judged, at) room (omega (arith, same)) refl (ap (λ (b : ℕ). t + b) same)
    (parts_stay h e parts none (refusal_live (live h) act reply refusal) is.parts_are)

-- a state with an act more that was accepted, and its record
pub state_kept : {Z : Type 0} (h : History) (parts parts' : Parts) (n t p bytes caller moment : ℕ) (last : Option (Arc Publication Z)) (act : Act) (x : Record) (reply : Reply)
    → IsState h parts n t p last → reply ≡ judge h act → is_kept reply ≡ true
    → record_of (accounts (records h)) (author_of (accounts (records h)) act.author) moment act.command ≡ Some x → IsMoment moment → places h < 4000000 → bytes ≡ texts_in act
    → texts h + bytes ≤ 536870912 → ArePartsOf h.opening (records h ++ x ∷ []) (live h) parts' → IsState (with_entry h (Done caller act reply moment)) parts' (n + 1) (t + bytes) p last
state_kept h parts parts' n t p bytes caller moment last act x reply is judged kept made at room same few are =
    let e : Entry = Done caller act reply moment in
    let some : record_added (records h) e ≡ Some x =
    ap (λ (b : Bool). cond b (record_of (accounts (records h)) (author_of (accounts (records h)) act.author) moment act.command) None) kept ∙ made in
    state_add h parts parts' n t (t + bytes) p last e is (judged, at) room (omega (arith, same)) refl (ap (λ (b : ℕ). t + b) same)
    (parts_more h e x parts' some (kept_live (live h) act reply kept) are)

-- a state with a fault of the keeper more
pub state_failed : {Z : Type 0} (h : History) (parts : Parts) (n t p caller : ℕ) (last : Option (Arc Publication Z)) → IsState h parts n t p last → places h < 4000000
    → IsState (with_entry h (KeeperFault caller)) parts (n + 1) t p last
state_failed h parts n t p caller last is room =
    state_add h parts parts n t t p last (KeeperFault caller) is tt room (omega (arith, is.legal.few_texts)) refl (omega arith)
    (parts_stay h (KeeperFault caller) parts refl refl is.parts_are)

-- as many records are kept of changes as there are
pub as_many_records : (k : List Record) → length (graph_records k) ≡ revision k
as_many_records [] = refl
as_many_records (x ∷ k) = by_change (change_of x) (as_many_records k)
  where
    by_change : (o : Option Change) → length (graph_records k) ≡ revision k → length (cond (is_some o) (x ∷ graph_records k) (graph_records k)) ≡ length (cons_option o (changes k))
    by_change None rest = rest
    by_change (Some c) rest = ap suc rest

-- parts that differ in their sessions alone
lived : (opening : Table) (k : List Record) (live live' : List Session) (old new : Parts) → ArePartsOf opening k live old → IsSameBut old new
    → new.sessions.live ≡ live' → ArePartsOf opening k live' new
lived opening k live live' old new are same is =
    let certs : book new.certs ≡ (site_in old).certs = ap book same.certs in
    let posts : new.posts.posts ≡ (site_in old).posts = ap (λ p. p.posts) same.posts in
    let secrets : new.secrets.items ≡ (site_in old).secrets = ap (λ v. v.items) same.secrets in
    record {
      site = λ i. record {
        certs = (certs ∙ ap (λ (s : Site). s.certs) are.site) i;
        posts = (posts ∙ ap (λ (s : Site). s.posts) are.site) i;
        secrets = (secrets ∙ ap (λ (s : Site). s.secrets) are.site) i;
        live = is i;
      };
      graph = ap (λ v. v.items) same.graph ∙ are.graph;
      authors = are.authors;
    }

-- a state with an act more that adds no record but changes the sessions
pub state_session : {Z : Type 0} (h : History) (parts parts' : Parts) (n t p bytes caller moment : ℕ) (last : Option (Arc Publication Z)) (act : Act) (reply : Reply)
    → IsState h parts n t p last → reply ≡ judge h act → is_kept reply ≡ false → IsMoment moment → places h < 4000000 → bytes ≡ texts_in act → texts h + bytes ≤ 536870912
    → IsSameBut parts parts' → parts'.sessions.live ≡ live_by (live h) act reply → IsState (with_entry h (Done caller act reply moment)) parts' (n + 1) (t + bytes) p last
state_session h parts parts' n t p bytes caller moment last act reply is judged kept at room same few but now =
    let e : Entry = Done caller act reply moment in
    let none : record_added (records h) e ≡ None = ap (λ (b : Bool). cond b (record_of (accounts (records h)) (author_of (accounts (records h)) act.author) moment act.command) None) kept in
    state_add h parts parts' n t (t + bytes) p last e is (judged, at) room (omega (arith, same)) refl (ap (λ (b : ℕ). t + b) same)
    (subst (λ (k : List Record). ArePartsOf h.opening k (live (with_entry h e)) parts') (sym (records-same h e none))
    (lived h.opening (records h) (live h) (live (with_entry h e)) parts parts' is.parts_are but (now ∙ sym (live-add h e))))

-- what a login adds to the sessions, and a logout takes from them
pub logged_in : (sessions : List Session) (account : ℕ) (command : Command) (token : List ℕ) → token_of command ≡ Some token → with_login sessions account command ≡ sessions ++ (token, account) ∷ []
logged_in sessions account (Login name proof token') token is = let e : token' ≡ token = cc is in ap (λ (t : List ℕ). sessions ++ (t, account) ∷ []) e
logged_in sessions account (Join name secret) token is = absurd (cc)
logged_in sessions account (Seed subject) token is = absurd (cc)
logged_in sessions account (Unseed subject) token is = absurd (cc)
logged_in sessions account (Cert subject level) token is = absurd (cc)
logged_in sessions account (OfTable caps) token is = absurd (cc)
logged_in sessions account (Diary text) token is = absurd (cc)
logged_in sessions account (Article title text) token is = absurd (cc)
logged_in sessions account (ReplyTo article text) token is = absurd (cc)
logged_in sessions account (Project name text) token is = absurd (cc)
logged_in sessions account Logout token is = absurd (cc)

pub logged_out : (sessions : List Session) (a : Option Author) (token : List ℕ) → author_token a ≡ Some token → without_author sessions a ≡ without sessions token
logged_out sessions None token is = absurd (cc)
logged_out sessions (Some (Named name)) token is = absurd (cc)
logged_out sessions (Some (InSession name token')) token is = let e : token' ≡ token = cc is in ap (without sessions) e

-- a state with a freeze more
pub state_frozen : {Z : Type 0} (h : History) (parts parts' : Parts) (n t p caller r : ℕ) (last : Option (Arc Publication Z)) → IsState h parts n t p last
    → r ≡ revision (records h) → last_revision h ≢ Some (revision (records h)) → places h < 4000000 → ArePartsOf h.opening (records h) (live h) parts'
    → IsState (with_entry h (Freeze caller r)) parts' (n + 1) t p last
state_frozen h parts parts' n t p caller r last is at newer room are =
    let e : Entry = Freeze caller r in
    state_add h parts parts' n t t p last e is (at, λ same. newer (same ∙ ap Some at)) room (omega (arith, is.legal.few_texts)) refl (omega arith)
    (parts_stay h e parts' refl refl are)

-- the state of a site to which nothing happened yet
pub state_begun : {Z : Type 0} (opening : Table) (parts : Parts) → ArePartsOf opening [] [] parts → IsState {Z = Z} (just_opened opening []) parts 0 0 0 None
unfolding records live texts publications
state_begun opening parts are = record {
  legal = legal_opened opening [] (well_none opening) (omega arith) (omega arith);
  parts_are = are;
  count_is = refl;
  bytes_are = refl;
  published_are = refl;
  few = omega arith;
  last_is = refl;
}
