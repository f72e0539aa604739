-- The record of each kind, by its own pairs.
use Rattle.std.proofs.Common.{◌≡◌, ℕ, Bool, true, false, cond, List, [], ◌∷◌, Ok, refl, codes, decimal, subst, inl, inr}
use Rattle.std.specs.Prelude.{◌⊎◌, IsUtf8}
use Rattle.std.specs.Str.{bytes_eq}
use Rattle.std.proofs.lemmas.Slice.Eq.{bytes_eq-Decides}
use Rattle.form_urlencoded.specs.Form.{byte_serialize}
use Rattle.form_urlencoded.proofs.OnLiterals.{form_urlencoded_on_literals}
use Rattle.trust_types.specs.declared.levels.Level.{Level}
use Rattle.trust_types.specs.declared.records.Record.{Record}
use Rattle.trust_types.specs.declared.records.Record.TheVariants.{Join, Seed, Unseed, Cert, Table, Diary, Article, Reply, Project}
use Rattle.trust_types.specs.declared.records.Secret.{Secret}
use Rattle.trust_types.specs.Kept.{IsMoment, moment_of}
use Rattle.trust_types.specs.Levels.{level_name}
use Rattle.trust_types.specs.Names.{IsName}
use Rattle.trust_types.specs.Tables.{table_with, IsLevelCount, AreEntries}
use Rattle.site_records.specs.declared.versions.Version.{Version}
use Rattle.site_records.specs.declared.versions.Version.TheVariants.{One, Two}
use Rattle.site_records.specs.Records.{IsRecord, IsNumber, IsSecret}
use Rattle.site_records.specs.Rows.{Pair, pairs, of_kind, is_old, secret_text, entries_text}
use Rattle.site_records.specs.inner.Reading.{Read, record_in, post, new_kind, join_in, seed_in, unseed_in, cert_in, table_in, diary_in, article_in, reply_in, project_in, account_in, name_in, secret_in, text_in, level_in, levels_in, entries_in, has_level}
use Rattle.site_records.proofs.Pairs.{fields, IsKey, one-back, two-back, three-back, one-only, two-only, three-only}
use Rattle.site_records.proofs.Plain.{plain, reads_account, reads_name, reads_secret, reads_text, reads_level}
use Rattle.site_records.proofs.Tabled.{reads_levels, reads_entries}

abbrev pub kind_of : Record → List ℕ
kind_of (Join moment name secret) = codes "join"
kind_of (Seed moment subject) = codes "seed"
kind_of (Unseed moment subject) = codes "unseed"
kind_of (Cert moment author subject level) = codes "cert"
kind_of (Table moment caps) = codes "table"
kind_of (Diary moment author text) = codes "diary"
kind_of (Article moment author title text) = codes "article"
kind_of (Reply moment author article text) = codes "reply"
kind_of (Project moment author name text) = codes "project"

-- The pairs behind the moment.
abbrev pub own : Record → List Pair
own (Join moment name secret) = (codes "n", name) ∷ (codes "s", secret_text secret) ∷ []
own (Seed moment subject) = (codes "a", decimal subject) ∷ []
own (Unseed moment subject) = (codes "a", decimal subject) ∷ []
own (Cert moment author subject level) = (codes "a", decimal author) ∷ (codes "b", decimal subject) ∷ (codes "l", level_name level) ∷ []
own (Table moment caps) = (codes "g", decimal caps.levels) ∷ (codes "c", entries_text caps.entries) ∷ []
own (Diary moment author text) = (codes "a", decimal author) ∷ (codes "t", text) ∷ []
own (Article moment author title text) = (codes "a", decimal author) ∷ (codes "h", title) ∷ (codes "t", text) ∷ []
own (Reply moment author article text) = (codes "a", decimal author) ∷ (codes "i", decimal article) ∷ (codes "t", text) ∷ []
own (Project moment author name text) = (codes "a", decimal author) ∷ (codes "n", name) ∷ (codes "t", text) ∷ []

pub pairs_are : (x : Record) → pairs x ≡ of_kind (kind_of x) (moment_of x) (own x)
pairs_are (Join moment name secret) = refl
pairs_are (Seed moment subject) = refl
pairs_are (Unseed moment subject) = refl
pairs_are (Cert moment author subject level) = refl
pairs_are (Table moment caps) = refl
pairs_are (Diary moment author text) = refl
pairs_are (Article moment author title text) = refl
pairs_are (Reply moment author article text) = refl
pairs_are (Project moment author name text) = refl

pub plain-kind : (x : Record) → byte_serialize (kind_of x) ≡ kind_of x
plain-kind (Join moment name secret) = plain _ refl
plain-kind (Seed moment subject) = plain _ refl
plain-kind (Unseed moment subject) = plain _ refl
plain-kind (Cert moment author subject level) = plain _ refl
plain-kind (Table moment caps) = plain _ refl
plain-kind (Diary moment author text) = plain _ refl
plain-kind (Article moment author title text) = plain _ refl
plain-kind (Reply moment author article text) = plain _ refl
plain-kind (Project moment author name text) = plain _ refl

-- Whether a version has the record.
abbrev pub has : Version → Record → Bool
has One x = is_old x
has Two x = true

has_old : (version : Version) (x : Record) → is_old x ≡ true → has version x ≡ true
has_old One x old = old
has_old Two x old = refl

pub key_k : IsKey (codes "k") (codes "&k=")
unfolding form_urlencoded_on_literals
key_k = record { is = refl }

pub key_m : IsKey (codes "m") (codes "&m=")
unfolding form_urlencoded_on_literals
key_m = record { is = refl }

pub key_n : IsKey (codes "n") (codes "&n=")
unfolding form_urlencoded_on_literals
key_n = record { is = refl }

pub key_s : IsKey (codes "s") (codes "&s=")
unfolding form_urlencoded_on_literals
key_s = record { is = refl }

pub key_a : IsKey (codes "a") (codes "&a=")
unfolding form_urlencoded_on_literals
key_a = record { is = refl }

pub key_b : IsKey (codes "b") (codes "&b=")
unfolding form_urlencoded_on_literals
key_b = record { is = refl }

pub key_l : IsKey (codes "l") (codes "&l=")
unfolding form_urlencoded_on_literals
key_l = record { is = refl }

pub key_g : IsKey (codes "g") (codes "&g=")
unfolding form_urlencoded_on_literals
key_g = record { is = refl }

pub key_c : IsKey (codes "c") (codes "&c=")
unfolding form_urlencoded_on_literals
key_c = record { is = refl }

pub key_t : IsKey (codes "t") (codes "&t=")
unfolding form_urlencoded_on_literals
key_t = record { is = refl }

pub key_h : IsKey (codes "h") (codes "&h=")
unfolding form_urlencoded_on_literals
key_h = record { is = refl }

pub key_i : IsKey (codes "i") (codes "&i=")
unfolding form_urlencoded_on_literals
key_i = record { is = refl }

cert_level : (version : Version) (moment author subject : ℕ) (level : Level) → has version (Cert moment author subject level) ≡ true → has_level version level ≡ true
cert_level One moment author subject level h = h
cert_level Two moment author subject level h = refl

level_cert : (version : Version) (moment author subject : ℕ) (level : Level) → has_level version level ≡ true → has version (Cert moment author subject level) ≡ true
level_cert One moment author subject level h = h
level_cert Two moment author subject level h = refl

pub record_back : (version : Version) (x : Record) → IsRecord x → has version x ≡ true → record_in version (kind_of x) (moment_of x) (fields (own x)) ≡ Ok x
unfolding record_in
record_back version (Join m n s) is h = two-back (List ℕ) Secret _ _ _ _ name_in secret_in (λ n. n) secret_text IsName IsSecret (λ n s. Join m n s) n s key_n key_s reads_name reads_secret is.1 is.2
record_back version (Seed m a) is h = one-back ℕ _ _ account_in decimal IsNumber (λ a. Seed m a) a key_a reads_account is.1
record_back One (Unseed m a) is h = absurd (cc h)
record_back Two (Unseed m a) is h = one-back ℕ _ _ account_in decimal IsNumber (λ a. Unseed m a) a key_a reads_account is.1
record_back version (Cert m a b l) is h =
    three-back ℕ ℕ Level _ _ _ _ _ _ account_in account_in (level_in version) decimal decimal level_name IsNumber IsNumber (λ l. has_level version l ≡ true) (λ a b l. Cert m a b l) a b l
    key_a key_b key_l reads_account reads_account (reads_level version) is.1 is.2 (cert_level version m a b l h)
record_back One (Table m caps) is h = absurd (cc h)
record_back Two (Table m caps) is h =
    two-back ℕ (List ℕ) _ _ _ _ levels_in entries_in decimal entries_text IsLevelCount AreEntries (λ levels entries. Table m (table_with levels entries)) caps.levels caps.entries
    key_g key_c reads_levels reads_entries is.1.levels is.1.entries
record_back version (Diary m a t) is h =
    two-back ℕ (List ℕ) _ _ _ _ account_in text_in decimal (λ t. t) IsNumber IsUtf8 (λ a t. Diary m a t) a t key_a key_t reads_account reads_text is.1 is.2
record_back version (Article m a h t) is _ =
    three-back ℕ (List ℕ) (List ℕ) _ _ _ _ _ _ account_in text_in text_in decimal (λ t. t) (λ t. t) IsNumber IsUtf8 IsUtf8 (λ a h t. Article m a h t) a h t
    key_a key_h key_t reads_account reads_text reads_text is.1 is.2 is.3
record_back version (Reply m a i t) is _ =
    three-back ℕ ℕ (List ℕ) _ _ _ _ _ _ account_in account_in text_in decimal decimal (λ t. t) IsNumber IsNumber IsUtf8 (λ a i t. Reply m a i t) a i t
    key_a key_i key_t reads_account reads_account reads_text is.1 is.2 is.3
record_back version (Project m a n t) is _ =
    three-back ℕ (List ℕ) (List ℕ) _ _ _ _ _ _ account_in name_in text_in decimal (λ n. n) (λ t. t) IsNumber IsName IsUtf8 (λ a n t. Project m a n t) a n t
    key_a key_n key_t reads_account reads_name reads_text is.1 is.2 is.3

-- What was read of a kind and a moment.
pub record Told (version : Version) (kind : List ℕ) (moment : ℕ) (row : List ℕ) (x : Record) : Type 0 where
  pub is : IsMoment moment → IsRecord x
  pub had : has version x ≡ true
  pub kind_is : kind ≡ kind_of x
  pub moment_is : moment ≡ moment_of x
  pub row_is : row ≡ fields (own x)

told_join : (version : Version) (kind : List ℕ) (m : ℕ) (row : List ℕ) (x : Record) → kind ≡ codes "join" → join_in m row ≡ Ok x → Told version kind m row x
told_join version kind m row x k e =
    let o = two-only (List ℕ) Secret _ _ _ _ name_in secret_in (λ n. n) secret_text IsName IsSecret (λ n s. Join m n s) row x key_n key_s reads_name reads_secret e in
    subst (λ x. Told version kind m row x) o.4 (record { is = λ at. (at, o.2, o.3); had = has_old version (Join m o.0 o.1) refl; kind_is = k; moment_is = refl; row_is = o.5 })

told_seed : (version : Version) (kind : List ℕ) (m : ℕ) (row : List ℕ) (x : Record) → kind ≡ codes "seed" → seed_in m row ≡ Ok x → Told version kind m row x
told_seed version kind m row x k e =
    let o = one-only ℕ _ _ account_in decimal IsNumber (λ a. Seed m a) row x key_a reads_account e in
    subst (λ x. Told version kind m row x) o.2 (record { is = λ at. (at, o.1); had = has_old version (Seed m o.0) refl; kind_is = k; moment_is = refl; row_is = o.3 })

told_unseed : (version : Version) (kind : List ℕ) (m : ℕ) (row : List ℕ) (x : Record) → kind ≡ codes "unseed" → unseed_in m row ≡ Ok x → Told Two kind m row x
told_unseed version kind m row x k e =
    let o = one-only ℕ _ _ account_in decimal IsNumber (λ a. Unseed m a) row x key_a reads_account e in
    subst (λ x. Told Two kind m row x) o.2 (record { is = λ at. (at, o.1); had = refl; kind_is = k; moment_is = refl; row_is = o.3 })

told_cert : (version : Version) (kind : List ℕ) (m : ℕ) (row : List ℕ) (x : Record) → kind ≡ codes "cert" → cert_in version m row ≡ Ok x → Told version kind m row x
told_cert version kind m row x k e =
    let o = three-only ℕ ℕ Level _ _ _ _ _ _ account_in account_in (level_in version) decimal decimal level_name IsNumber IsNumber (λ l. has_level version l ≡ true) (λ a b l. Cert m a b l) row x
    key_a key_b key_l reads_account reads_account (reads_level version) e in
    subst (λ x. Told version kind m row x) o.6 (record { is = λ at. (at, o.3, o.4); had = level_cert version m o.0 o.1 o.2 o.5; kind_is = k; moment_is = refl; row_is = o.7 })

told_table : (version : Version) (kind : List ℕ) (m : ℕ) (row : List ℕ) (x : Record) → kind ≡ codes "table" → table_in m row ≡ Ok x → Told Two kind m row x
told_table version kind m row x k e =
    let o = two-only ℕ (List ℕ) _ _ _ _ levels_in entries_in decimal entries_text IsLevelCount AreEntries (λ levels entries. Table m (table_with levels entries)) row x
    key_g key_c reads_levels reads_entries e in
    subst (λ x. Told Two kind m row x) o.4 (record { is = λ at. (at, record { levels = o.2; entries = o.3 }); had = refl; kind_is = k; moment_is = refl; row_is = o.5 })

told_diary : (version : Version) (kind : List ℕ) (m : ℕ) (row : List ℕ) (x : Record) → kind ≡ codes "diary" → diary_in m row ≡ Ok x → Told version kind m row x
told_diary version kind m row x k e =
    let o = two-only ℕ (List ℕ) _ _ _ _ account_in text_in decimal (λ t. t) IsNumber IsUtf8 (λ a t. Diary m a t) row x key_a key_t reads_account reads_text e in
    subst (λ x. Told version kind m row x) o.4 (record { is = λ at. (at, o.2, o.3); had = has_old version (Diary m o.0 o.1) refl; kind_is = k; moment_is = refl; row_is = o.5 })

told_article : (version : Version) (kind : List ℕ) (m : ℕ) (row : List ℕ) (x : Record) → kind ≡ codes "article" → article_in m row ≡ Ok x → Told version kind m row x
told_article version kind m row x k e =
    let o = three-only ℕ (List ℕ) (List ℕ) _ _ _ _ _ _ account_in text_in text_in decimal (λ t. t) (λ t. t) IsNumber IsUtf8 IsUtf8 (λ a h t. Article m a h t) row x
    key_a key_h key_t reads_account reads_text reads_text e in
    subst (λ x. Told version kind m row x) o.6 (record { is = λ at. (at, o.3, o.4, o.5); had = has_old version (Article m o.0 o.1 o.2) refl; kind_is = k; moment_is = refl; row_is = o.7 })

told_reply : (version : Version) (kind : List ℕ) (m : ℕ) (row : List ℕ) (x : Record) → kind ≡ codes "reply" → reply_in m row ≡ Ok x → Told version kind m row x
told_reply version kind m row x k e =
    let o = three-only ℕ ℕ (List ℕ) _ _ _ _ _ _ account_in account_in text_in decimal decimal (λ t. t) IsNumber IsNumber IsUtf8 (λ a i t. Reply m a i t) row x
    key_a key_i key_t reads_account reads_account reads_text e in
    subst (λ x. Told version kind m row x) o.6 (record { is = λ at. (at, o.3, o.4, o.5); had = has_old version (Reply m o.0 o.1 o.2) refl; kind_is = k; moment_is = refl; row_is = o.7 })

told_project : (version : Version) (kind : List ℕ) (m : ℕ) (row : List ℕ) (x : Record) → kind ≡ codes "project" → project_in m row ≡ Ok x → Told version kind m row x
told_project version kind m row x k e =
    let o = three-only ℕ (List ℕ) (List ℕ) _ _ _ _ _ _ account_in name_in text_in decimal (λ n. n) (λ t. t) IsNumber IsName IsUtf8 (λ a n t. Project m a n t) row x
    key_a key_n key_t reads_account reads_name reads_text e in
    subst (λ x. Told version kind m row x) o.6 (record { is = λ at. (at, o.3, o.4, o.5); had = has_old version (Project m o.0 o.1 o.2) refl; kind_is = k; moment_is = refl; row_is = o.7 })

chosen : (kind word : List ℕ) (t : Bool) (r later : Read Record) (x : Record) → bytes_eq kind word ≡ t → cond t r later ≡ Ok x → ((kind ≡ word) × (r ≡ Ok x)) ⊎ (later ≡ Ok x)
chosen kind word true r later x is e = inl ((bytes_eq-Decides kind word).0 is, e)
chosen kind word false r later x is e = inr e

choice : (kind word : List ℕ) (r later : Read Record) (x : Record) → cond (bytes_eq kind word) r later ≡ Ok x → ((kind ≡ word) × (r ≡ Ok x)) ⊎ (later ≡ Ok x)
choice kind word r later x e = chosen kind word (bytes_eq kind word) r later x refl e

new_only : (version : Version) (kind : List ℕ) (m : ℕ) (row : List ℕ) (x : Record) → new_kind version kind m row ≡ Ok x → Told version kind m row x
new_only One kind m row x e = absurd (cc e)
new_only Two kind m row x e =
    elim (choice kind (codes "unseed") _ _ x e) [
      | inl h ↦ told_unseed Two kind m row x h.0 h.1
      | inr e ↦ elim (choice kind (codes "table") _ _ x e) [ inl h ↦ told_table Two kind m row x h.0 h.1 | inr e ↦ absurd (cc e) ]
    ]

post_only : (version : Version) (kind : List ℕ) (m : ℕ) (row : List ℕ) (x : Record) → post version kind m row ≡ Ok x → Told version kind m row x
post_only version kind m row x e =
    elim (choice kind (codes "diary") _ _ x e) [
      | inl h ↦ told_diary version kind m row x h.0 h.1
      | inr e ↦ elim (choice kind (codes "article") _ _ x e) [
        | inl h ↦ told_article version kind m row x h.0 h.1
        | inr e ↦ elim (choice kind (codes "reply") _ _ x e) [
          | inl h ↦ told_reply version kind m row x h.0 h.1
          | inr e ↦ elim (choice kind (codes "project") _ _ x e) [ inl h ↦ told_project version kind m row x h.0 h.1 | inr e ↦ new_only version kind m row x e ]
        ]
      ]
    ]

pub record_only : (version : Version) (kind : List ℕ) (m : ℕ) (row : List ℕ) (x : Record) → record_in version kind m row ≡ Ok x → Told version kind m row x
unfolding record_in
record_only version kind m row x e =
    elim (choice kind (codes "cert") _ _ x e) [
      | inl h ↦ told_cert version kind m row x h.0 h.1
      | inr e ↦ elim (choice kind (codes "join") _ _ x e) [
        | inl h ↦ told_join version kind m row x h.0 h.1
        | inr e ↦ elim (choice kind (codes "seed") _ _ x e) [ inl h ↦ told_seed version kind m row x h.0 h.1 | inr e ↦ post_only version kind m row x e ]
      ]
    ]
