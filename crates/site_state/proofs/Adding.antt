-- The parts of a site with one record more.
use Rattle.std.proofs.Common.{◌≡◌, Bool, true, false, cond, List, [], ◌∷◌, ◌++◌, Option, Some, None, option_to_list, refl, sym, ap, ◌∙◌, filter}
use Rattle.std.proofs.lemmas.List.{append-nil}
use Rattle.std.proofs.lemmas.List.Elements.{filter_map-append, filter-append}
use Rattle.std.specs.List.{cons_option}
use Rattle.trust_types.specs.declared.records.Record.{Record}
use Rattle.trust_types.specs.declared.records.Secret.{Secret}
use Rattle.trust_types.specs.Changes.{Change}
use Rattle.trust_types.specs.Kept.{change_of, changes}
use Rattle.trust_types.specs.Tables.{Table}
use Rattle.cert_book.specs.Books.{Book, book_of}
use Rattle.site_history.specs.Histories.{changes_graph, graph_records}
use Rattle.sessions.specs.Sessions.{Session}
use Rattle.trust_types.specs.declared.records.Record.TheVariants.{Join, Seed, Unseed, Cert, Table as OfTable, Diary, Article, Reply, Project}
use Rattle.site_history.specs.Sites.{Site, site_with, is_post, posts_of, joined_secret, secrets_of}
use Rattle.site_state.specs.inner.Parts.{IsChanged}

changes-cons : (k : List Record) (o : Option Change) (x : Record) → change_of x ≡ o → changes (k ++ x ∷ []) ≡ changes k ++ cons_option o []
changes-cons k o x is = filter_map-append change_of k (x ∷ []) ∙ ap (λ (o : Option Change). changes k ++ cons_option o []) is

changed : (opening : Table) (k : List Record) (x : Record) (o : Option Change) (b b' : Book) → change_of x ≡ o → b ≡ book_of opening (changes k) → IsChanged b b' o → b' ≡ book_of opening (changes (k ++ x ∷ []))
changed opening k x None b b' is at new = new ∙ at ∙ ap (book_of opening) (sym (changes-cons k None x is ∙ append-nil (changes k)))
changed opening k x (Some c) b b' is at new = new opening (changes k) at ∙ ap (book_of opening) (sym (changes-cons k (Some c) x is))

pub certs_more : (opening : Table) (k : List Record) (x : Record) (b b' : Book) → b ≡ book_of opening (changes k) → IsChanged b b' (change_of x) → b' ≡ book_of opening (changes (k ++ x ∷ []))
certs_more opening k x b b' at new = changed opening k x (change_of x) b b' refl at new

kept_if : (p : Record → Bool) (k : List Record) (x : Record) → p x ≡ true → filter p (k ++ x ∷ []) ≡ filter p k ++ x ∷ []
kept_if p k x is = filter-append p k (x ∷ []) ∙ ap (λ (b : Bool). filter p k ++ cond b (x ∷ []) []) is

left_if : (p : Record → Bool) (k : List Record) (x : Record) → p x ≡ false → filter p (k ++ x ∷ []) ≡ filter p k
left_if p k x is = filter-append p k (x ∷ []) ∙ (ap (λ (b : Bool). filter p k ++ cond b (x ∷ []) []) is ∙ append-nil (filter p k))

pub posts_more : (k : List Record) (x : Record) → is_post x ≡ true → posts_of (k ++ x ∷ []) ≡ posts_of k ++ x ∷ []
posts_more = kept_if is_post

pub posts_same : (k : List Record) (x : Record) → is_post x ≡ false → posts_of (k ++ x ∷ []) ≡ posts_of k
posts_same = left_if is_post

pub graph_more : (k : List Record) (x : Record) → changes_graph x ≡ true → graph_records (k ++ x ∷ []) ≡ graph_records k ++ x ∷ []
graph_more = kept_if changes_graph

pub graph_same : (k : List Record) (x : Record) → changes_graph x ≡ false → graph_records (k ++ x ∷ []) ≡ graph_records k
graph_same = left_if changes_graph

secrets-cons : (k : List Record) (o : Option Secret) → secrets_of k ++ cons_option o [] ≡ secrets_of k ++ option_to_list o
secrets-cons k None = refl
secrets-cons k (Some s) = refl

pub secrets_more : (k : List Record) (x : Record) → secrets_of (k ++ x ∷ []) ≡ secrets_of k ++ option_to_list (joined_secret x)
secrets_more k x = filter_map-append joined_secret k (x ∷ []) ∙ secrets-cons k (joined_secret x)

-- a record that changes the graph is no post, and the other way round
pub no_post : (x : Record) → changes_graph x ≡ true → is_post x ≡ false
no_post (Join m name secret) is = refl
no_post (Seed m a) is = refl
no_post (Unseed m a) is = refl
no_post (Cert m a b level) is = refl
no_post (OfTable m caps) is = refl
no_post (Diary m a text) is = absurd (cc)
no_post (Article m a title text) is = absurd (cc)
no_post (Reply m a article text) is = absurd (cc)
no_post (Project m a name text) is = absurd (cc)

pub record IsPost (x : Record) : Type 0 where
  pub post : is_post x ≡ true
  pub secret : joined_secret x ≡ None
  pub change : change_of x ≡ None

pub a_post : (x : Record) → changes_graph x ≡ false → IsPost x
a_post (Join m name secret) is = absurd (cc)
a_post (Seed m a) is = absurd (cc)
a_post (Unseed m a) is = absurd (cc)
a_post (Cert m a b level) is = absurd (cc)
a_post (OfTable m caps) is = absurd (cc)
a_post (Diary m a text) is = record { post = refl; secret = refl; change = refl }
a_post (Article m a title text) is = record { post = refl; secret = refl; change = refl }
a_post (Reply m a article text) is = record { post = refl; secret = refl; change = refl }
a_post (Project m a name text) is = record { post = refl; secret = refl; change = refl }

-- what the parts say with a record more that changes the graph, or with a post more
pub site_changed : (opening : Table) (k : List Record) (live : List Session) (x : Record) (b b' : Book) (posts : List Record) (kept kept' : List Secret) (sessions : List Session)
    → record { certs = b; posts = posts; secrets = kept; live = sessions } ≡ site_with opening k live → changes_graph x ≡ true
    → IsChanged b b' (change_of x) → kept' ≡ kept ++ option_to_list (joined_secret x)
    → record { certs = b'; posts = posts; secrets = kept'; live = sessions } ≡ site_with opening (k ++ x ∷ []) live
site_changed opening k live x b b' posts kept kept' sessions is graph new more =
    let certs : b' ≡ book_of opening (changes (k ++ x ∷ [])) = certs_more opening k x b b' (ap (λ (s : Site). s.certs) is) new in
    let posts_are : posts ≡ posts_of (k ++ x ∷ []) = ap (λ (s : Site). s.posts) is ∙ sym (posts_same k x (no_post x graph)) in
    let secrets_are : kept' ≡ secrets_of (k ++ x ∷ []) = more ∙ (ap (λ (l : List Secret). l ++ option_to_list (joined_secret x)) (ap (λ (s : Site). s.secrets) is) ∙ sym (secrets_more k x)) in
    let live_is : sessions ≡ live = ap (λ (s : Site). s.live) is in
    λ i. record { certs = certs i; posts = posts_are i; secrets = secrets_are i; live = live_is i }

pub site_posted : (opening : Table) (k : List Record) (live : List Session) (x : Record) (b : Book) (posts posts' : List Record) (kept : List Secret) (sessions : List Session)
    → record { certs = b; posts = posts; secrets = kept; live = sessions } ≡ site_with opening k live → changes_graph x ≡ false → posts' ≡ posts ++ x ∷ []
    → record { certs = b; posts = posts'; secrets = kept; live = sessions } ≡ site_with opening (k ++ x ∷ []) live
site_posted opening k live x b posts posts' kept sessions is graph more =
    let p = a_post x graph in
    let certs : b ≡ book_of opening (changes (k ++ x ∷ [])) = changed opening k x None b b p.change (ap (λ (s : Site). s.certs) is) refl in
    let posts_are : posts' ≡ posts_of (k ++ x ∷ []) = more ∙ (ap (λ (l : List Record). l ++ x ∷ []) (ap (λ (s : Site). s.posts) is) ∙ sym (posts_more k x p.post)) in
    let secrets_are : kept ≡ secrets_of (k ++ x ∷ []) =
    ap (λ (s : Site). s.secrets) is ∙ sym (secrets_more k x ∙ (ap (λ (o : Option Secret). secrets_of k ++ option_to_list o) p.secret ∙ append-nil (secrets_of k))) in
    let live_is : sessions ≡ live = ap (λ (s : Site). s.live) is in
    λ i. record { certs = certs i; posts = posts_are i; secrets = secrets_are i; live = live_is i }
