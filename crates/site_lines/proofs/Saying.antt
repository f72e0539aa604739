-- What a line says by its first word, and that a line that says something is one, since its words are keywords, names and levels.
use Rattle.std.proofs.Common.{◌≡◌, ℕ, Bool, true, false, List, [], ◌∷◌, ◌++◌, Result, Ok, Err, is_err, refl, codes, bytes_eq}
use Rattle.std.specs.List.{list_all}
use Rattle.std.proofs.lemmas.Slice.Eq.{bytes_eq-Decides}
use Rattle.trust_types.specs.declared.records.Record.{Record}
use Rattle.trust_types.specs.Tables.{Table}
use Rattle.trust_types.specs.Kept.{accounts}
use Rattle.text_lines.specs.declared.faults.LineFault.{LineFault}
use Rattle.text_lines.specs.declared.faults.TextKind.TheVariants.{BadLine}
use Rattle.text_lines.specs.declared.faults.LineFault.TheVariants.{Kind, NoMemory}
use Rattle.text_lines.specs.Places.{one_word, three_words, name_in, level_in}
use Rattle.text_lines.specs.Reading.{Reads}
use Rattle.text_lines.specs.Words.{words, is_word, is_line}
use Rattle.text_lines.proofs.Spelled.{is_word-name, is_word-level_of}
use Rattle.text_lines.proofs.Stepping.{bind-ok, one_word-ok, three_words-ok, name_in-ok, level_in-ok}
use Rattle.site_lines.specs.Site.{new_name, known_account, given_cert, pair_in, account_line, seed_line, cert_line, form, site_line}
use Rattle.site_lines.specs.Drafts.{IsSiteDraft, Adds}
use Rattle.site_lines.specs.declared.drafts.SiteDraft.{SiteDraft}

one_name : (ws : List (List ℕ)) (w name : List ℕ) → one_word ws ≡ Ok w → name_in w ≡ Ok name → list_all is_word ws ≡ true
one_name ws w name e f = rw (one_word-ok ws w e, is_word-name w (name_in-ok w name f).1) refl

account-words : (k : List Record) (ws : List (List ℕ)) (x : Record) → account_line k ws ≡ Ok x → list_all is_word ws ≡ true
unfolding account_line
account-words k ws x e =
    let whole = bind-ok (new_name (accounts k) ws) _ x e in
    let word = bind-ok (one_word ws) _ whole.0 whole.1 in
    let name = bind-ok (name_in word.0) _ whole.0 word.2 in
    one_name ws word.0 name.0 word.1 name.1

seed-words : (k : List Record) (ws : List (List ℕ)) (x : Record) → seed_line k ws ≡ Ok x → list_all is_word ws ≡ true
unfolding seed_line
seed-words k ws x e =
    let whole = bind-ok (known_account (accounts k) ws) _ x e in
    let word = bind-ok (one_word ws) _ whole.0 whole.1 in
    let name = bind-ok (name_in word.0) _ whole.0 word.2 in
    one_name ws word.0 name.0 word.1 name.1

cert-words : (table : Table) (k : List Record) (ws : List (List ℕ)) (x : Record) → cert_line table k ws ≡ Ok x → list_all is_word ws ≡ true
unfolding cert_line
cert-words table k ws x e =
    let whole = bind-ok (given_cert table (accounts k) ws) _ x e in
    let three = bind-ok (three_words ws) _ whole.0 whole.1 in
    let level = bind-ok (level_in table three.0.2) _ whole.0 three.2 in
    let pair = bind-ok (pair_in (accounts k) three.0.0 three.0.1) _ whole.0 level.2 in
    let giver = bind-ok (name_in three.0.0) _ pair.0 pair.1 in
    let taker = bind-ok (name_in three.0.1) _ pair.0 giver.2 in
    rw (
      three_words-ok ws three.0 three.1,
      is_word-name three.0.0 (name_in-ok three.0.0 giver.0 giver.1).1,
      is_word-name three.0.1 (name_in-ok three.0.1 taker.0 taker.1).1,
      is_word-level_of three.0.2 level.0 (level_in-ok table three.0.2 level.0 level.1).0,
    ) refl

keyword : (word other : List ℕ) (ws : List (List ℕ)) → bytes_eq word other ≡ true → is_word other ≡ true → list_all is_word ws ≡ true → list_all is_word (word ∷ ws) ≡ true
keyword word other ws same is each = rw ((bytes_eq-Decides word other).0 same, is, each) refl

words_by : (table : Table) (k : List Record) (word : List ℕ) (ws : List (List ℕ)) (x : Record) (account seed cert : Bool) → bytes_eq word (codes "account") ≡ account → bytes_eq word (codes "seed") ≡ seed → bytes_eq word (codes "cert") ≡ cert →
    form table k (word ∷ ws) ≡ Ok x → list_all is_word (word ∷ ws) ≡ true
unfolding form
words_by table k word ws x true seed cert a s c e = keyword word (codes "account") ws a refl (account-words k ws x (rw a at e))
words_by table k word ws x false true cert a s c e = keyword word (codes "seed") ws s refl (seed-words k ws x (rw (a, s) at e))
words_by table k word ws x false false true a s c e = keyword word (codes "cert") ws c refl (cert-words table k ws x (rw (a, s, c) at e))
words_by table k word ws x false false false a s c e = let clash : Err BadLine ≡ Ok x = rw (a, s, c) at e in cc

form-words : (table : Table) (k : List Record) (ws : List (List ℕ)) (x : Record) → form table k ws ≡ Ok x → list_all is_word ws ≡ true
unfolding form
form-words table k [] x e = cc
form-words table k (word ∷ ws) x e = words_by table k word ws x (bytes_eq word (codes "account")) (bytes_eq word (codes "seed")) (bytes_eq word (codes "cert")) refl refl refl e

-- Of a line that is one the words decide.
pub reads-line : (table : Table) (k : List Record) (line : List ℕ) (result : Result (Unit {0}) LineFault) (new : SiteDraft) → is_line line ≡ true → Adds k result new (form table k (words line)) → Reads IsSiteDraft result new (site_line table k line)
unfolding site_line
reads-line table k line (Ok u) new one (x, said, is) = (k ++ x ∷ [], rw (one, said) refl, is)
reads-line table k line (Err NoMemory) new one adds = tt
reads-line table k line (Err (Kind kind)) new one adds = rw (one, adds) refl

-- A line whose words were read is one.
pub reads-words : (table : Table) (k : List Record) (line : List ℕ) (result : Result (Unit {0}) LineFault) (new : SiteDraft) → is_err result ≡ false → Adds k result new (form table k (words line)) → Reads IsSiteDraft result new (site_line table k line)
reads-words table k line (Ok u) new read adds = reads-line table k line (Ok u) new (form-words table k (words line) adds.0 adds.1) adds
reads-words table k line (Err fault) new read adds = cc

-- What a line says by its first word.
pub form-none : (table : Table) (k : List Record) (ws : List (List ℕ)) → ws ≡ [] → form table k ws ≡ Err BadLine
unfolding form
form-none table k ws e = rw e refl

pub form-account : (table : Table) (k : List Record) (ws others : List (List ℕ)) (word : List ℕ) → ws ≡ word ∷ others → bytes_eq word (codes "account") ≡ true → form table k ws ≡ account_line k others
unfolding form
form-account table k ws others word e a = rw (e, a) refl

pub form-seed : (table : Table) (k : List Record) (ws others : List (List ℕ)) (word : List ℕ) → ws ≡ word ∷ others → bytes_eq word (codes "account") ≡ false → bytes_eq word (codes "seed") ≡ true → form table k ws ≡ seed_line k others
unfolding form
form-seed table k ws others word e a s = rw (e, a, s) refl

pub form-cert : (table : Table) (k : List Record) (ws others : List (List ℕ)) (word : List ℕ) → ws ≡ word ∷ others → bytes_eq word (codes "account") ≡ false → bytes_eq word (codes "seed") ≡ false → bytes_eq word (codes "cert") ≡ true →
    form table k ws ≡ cert_line table k others
unfolding form
form-cert table k ws others word e a s c = rw (e, a, s, c) refl

pub form-other : (table : Table) (k : List Record) (ws others : List (List ℕ)) (word : List ℕ) → ws ≡ word ∷ others → bytes_eq word (codes "account") ≡ false → bytes_eq word (codes "seed") ≡ false → bytes_eq word (codes "cert") ≡ false →
    form table k ws ≡ Err BadLine
unfolding form
form-other table k ws others word e a s c = rw (e, a, s, c) refl
