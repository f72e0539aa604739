-- The state of a site that is opened with one record more.
use Rattle.std.proofs.Common.{◌≡◌, ℕ, ◌+◌, ◌-◌, ◌^◌, ◌<◌, ◌≤◌, min, List, [], ◌∷◌, ◌++◌, length, sum_by, Option, Some, None, Result, Ok, Err, IfErr, IsErrAnd, refl, sym, ap, ◌∙◌, subst, arith, length-append}
use Rattle.std.proofs.lemmas.List.Sums.{sum_by-append}
use Rattle.std.specs.declared.sync.Arc.{Arc}
use Rattle.trust_types.specs.declared.records.Record.{Record}
use Rattle.trust_types.specs.declared.records.Record.TheVariants.{Join, Seed, Unseed, Cert, Table, Diary, Article, Reply, Project}
use Rattle.trust_types.specs.Kept.{Continues, Fits, IsMoment, moment_of, changes}
use Rattle.trust_types.specs.NameLists.{number_of}
use Rattle.trust_types.specs.Tables as tables
use Rattle.cert_book.specs.Books.{book, book_of}
use Rattle.cert_book.proofs.Recording.{place}
use Rattle.postings.specs.Posts as posts
use Rattle.roster_form.specs.declared.publications.Publication.{Publication}
use Rattle.site_history.specs.Histories.{History, just_opened, with_opened, places, records, publications}
use Rattle.sessions.specs.Sessions.{Session}
use Rattle.site_history.specs.Live.{live}
use Rattle.site_history.specs.Sites.{Site, posts_of}
use Rattle.site_history.specs.Texts.{texts, texts_in_record}
use Rattle.site_history.proofs.Legality.{legal_opened, well_add}
use Rattle.site_state.specs.Opened.{IsWithinLimits, RefusesRecord}
use Rattle.site_state.specs.declared.opening.RecordFault.{RecordFault}
use Rattle.site_state.specs.declared.opening.RecordFault.TheVariants.{Bad, Full, NoMemory}
use Rattle.site_state.specs.declared.parts.Parts.{Parts}
use Rattle.site_state.specs.inner.Opening.{Judged, Judges, judged_record}
use Rattle.site_state.specs.inner.Parts.{ArePartsOf, CanAdd}
use Rattle.site_state.specs.inner.States.{IsState, LastIs}
use Rattle.site_state.proofs.WellKept.{few_certs, knows_seeds}
use Rattle.site_state.proofs.ChangesJudged.{none_has}
use Rattle.site_state.proofs.RecordsJudged.{record_judged, articles_counted, projects_among}

-- a history to which nothing happened yet is that of its opened records
opened_alone : (h : History) → h.entries ≡ [] → h ≡ just_opened h.opening h.opened
opened_alone h none = λ i. record { opening = h.opening; opened = h.opened; entries = none i }

records-opened : (opening : tables.Table) (k : List Record) → records (just_opened opening k) ≡ k
unfolding records
records-opened opening k = refl

live-opened : (opening : tables.Table) (k : List Record) → live (just_opened opening k) ≡ []
unfolding live
live-opened opening k = refl

texts-opened : (opening : tables.Table) (k : List Record) → texts (just_opened opening k) ≡ sum_by texts_in_record k
unfolding texts
texts-opened opening k = omega arith

-- a judgement over the parts is one over the opened records
pub opened_judged : {Z : Type 0} (h : History) (parts : Parts) (n t p : ℕ) (last : Option (Arc Publication Z)) (x : Record) → h.entries ≡ [] → IsState h parts n t p last
    → Judges (judged_record (book parts.certs) parts.posts.posts x) (Continues h.opening h.opened x) (Fits h.opened x)
opened_judged h parts n t p last x none is =
    let well = is.legal.well in
    let same : records h ≡ h.opened = ap records (opened_alone h none) ∙ records-opened h.opening h.opened in
    let certs : book parts.certs ≡ book_of h.opening (changes h.opened) = ap (λ (s : Site). s.certs) is.parts_are.site ∙ ap (λ (k : List Record). book_of h.opening (changes k)) same in
    let posts : parts.posts.posts ≡ posts_of h.opened = ap (λ (s : Site). s.posts) is.parts_are.site ∙ ap posts_of same in
    let judged = record_judged h.opening h.opened x (knows_seeds h.opening h.opened well) (few_certs h.opening h.opened well) in
    rw (certs, posts) judged

-- where it passed, and where it was refused
pub passed_record : {Z : Type 0} (h : History) (parts : Parts) (n t p : ℕ) (last : Option (Arc Publication Z)) (x : Record) (u : Unit {0}) → h.entries ≡ [] → IsState h parts n t p last
    → Ok u ≡ judged_record (book parts.certs) parts.posts.posts x → Continues h.opening h.opened x × Fits h.opened x
passed_record h parts n t p last x u none is passed =
    subst (λ (r : Judged). Judges r (Continues h.opening h.opened x) (Fits h.opened x)) (sym passed) (opened_judged h parts n t p last x none is)

refused_by : (opening : tables.Table) (k : List Record) (x : Record) (fault : RecordFault) → Judges (Err fault) (Continues opening k x) (Fits k x) → RefusesRecord opening k x fault
refused_by opening k x Bad judged = judged
refused_by opening k x Full judged = (judged.0, λ within. judged.1 within.0)
refused_by opening k x NoMemory judged = absurd judged

pub refused_record : {Z : Type 0} (h : History) (parts : Parts) (n t p : ℕ) (last : Option (Arc Publication Z)) (x : Record) (fault : RecordFault) → h.entries ≡ [] → IsState h parts n t p last
    → Err fault ≡ judged_record (book parts.certs) parts.posts.posts x → RefusesRecord h.opening h.opened x fault
refused_record h parts n t p last x fault none is refused =
    refused_by h.opening h.opened x fault (subst (λ (r : Judged). Judges r (Continues h.opening h.opened x) (Fits h.opened x)) (sym refused) (opened_judged h parts n t p last x none is))

pub err_by : {T E : Type 0} (r : Result T E) (e : E) (P : E → Type 0) → IsErrAnd r (λ x. x ≡ e) → P e → IfErr r P
err_by (Ok x) e P is p = absurd is
err_by (Err x) e P is p = subst P (sym is) p

-- a record that may follow may be added
post_follows : (opening : tables.Table) (k : List Record) (x : Record) → Continues opening k x → posts.Follows (posts_of k) x
post_follows opening k (Reply moment author article text) continues = omega (arith, continues.1, articles_counted k)
post_follows opening k (Project moment author name text) continues = ap (λ names. number_of names name) (projects_among k) ∙ none_has _ name continues.1
post_follows opening k (Join moment name secret) continues = tt
post_follows opening k (Seed moment a) continues = tt
post_follows opening k (Unseed moment a) continues = tt
post_follows opening k (Cert moment author subject level) continues = tt
post_follows opening k (Table moment caps) continues = tt
post_follows opening k (Diary moment author text) continues = tt
post_follows opening k (Article moment author title text) continues = tt

pub can_follow : (opening : tables.Table) (k : List Record) (x : Record) → Continues opening k x → Fits k x → CanAdd (book_of opening (changes k)) (posts_of k) x
can_follow opening k (Join moment name secret) continues fits = record { change = (continues, fits); post = tt; author = tt }
can_follow opening k (Seed moment a) continues fits = record { change = (continues, tt); post = tt; author = tt }
can_follow opening k (Unseed moment a) continues fits = record { change = (continues, tt); post = tt; author = tt }
can_follow opening k (Cert moment author subject level) continues fits = record { change = (continues, (place opening k (Cert moment author subject level)).1 fits); post = tt; author = tt }
can_follow opening k (Table moment caps) continues fits = record { change = (continues, tt); post = tt; author = tt }
can_follow opening k (Diary moment author text) continues fits = record { change = tt; post = tt; author = continues }
can_follow opening k (Article moment author title text) continues fits = record { change = tt; post = tt; author = continues }
can_follow opening k (Reply moment author article text) continues fits = record { change = tt; post = post_follows opening k (Reply moment author article text) continues; author = continues.0 }
can_follow opening k (Project moment author name text) continues fits = record { change = tt; post = post_follows opening k (Project moment author name text) continues; author = continues.0 }

pub opened_can_add : (h : History) (parts : Parts) (x : Record) → h.entries ≡ [] → ArePartsOf h.opening (records h) (live h) parts → Continues h.opening h.opened x → Fits h.opened x
    → CanAdd (book parts.certs) parts.posts.posts x
opened_can_add h parts x none are continues fits =
    let same : records h ≡ h.opened = ap records (opened_alone h none) ∙ records-opened h.opening h.opened in
    let certs : book parts.certs ≡ book_of h.opening (changes h.opened) = ap (λ (s : Site). s.certs) are.site ∙ ap (λ (k : List Record). book_of h.opening (changes k)) same in
    let posts : parts.posts.posts ≡ posts_of h.opened = ap (λ (s : Site). s.posts) are.site ∙ ap posts_of same in
    rw (certs, posts) (can_follow h.opening h.opened x continues fits)

-- the texts of the opened records and one more
pub opened_texts : (h : History) → h.entries ≡ [] → texts h ≡ sum_by texts_in_record h.opened
opened_texts h none = ap texts (opened_alone h none) ∙ texts-opened h.opening h.opened

pub too_much : (k : List Record) (x : Record) (t bytes : ℕ) → t ≡ sum_by texts_in_record k → bytes ≡ min (texts_in_record x) (2 ^ 64 - 1) → 536870912 - t < bytes → ¬ (IsWithinLimits k x)
too_much k x t bytes total size past within = grind (arith, total, size, past, within.1)

pub size_is : (x : Record) (t bytes : ℕ) → t ≤ 536870912 → bytes ≡ min (texts_in_record x) (2 ^ 64 - 1) → bytes ≤ 536870912 - t → bytes ≡ texts_in_record x
size_is x t bytes few size past = grind (arith, few, size, past)

pub fits_texts : (k : List Record) (x : Record) (t bytes : ℕ) → t ≡ sum_by texts_in_record k → t ≤ 536870912 → bytes ≡ texts_in_record x → bytes ≤ 536870912 - t
    → sum_by texts_in_record k + texts_in_record x ≤ 536870912
fits_texts k x t bytes total few size past = omega (arith, total, few, size, past)

-- a state with one opened record more
opened_more : {Z : Type 0} (opening : tables.Table) (k : List Record) (parts parts' : Parts) (n t p bytes : ℕ) (last : Option (Arc Publication Z)) (x : Record)
    → IsState (just_opened opening k) parts n t p last → Continues opening k x → Fits k x → IsMoment (moment_of x) → length k < 4000000 → bytes ≡ texts_in_record x
    → sum_by texts_in_record k + bytes ≤ 536870912 → ArePartsOf opening (k ++ x ∷ []) [] parts' → IsState (just_opened opening (k ++ x ∷ [])) parts' (n + 1) (t + bytes) p last
unfolding records live texts publications
opened_more opening k parts parts' n t p bytes last x is continues fits moment room size few are = record {
  legal = legal_opened opening (k ++ x ∷ []) (well_add opening k x is.legal.well continues fits moment) (omega (arith, length-append k (x ∷ []))) (omega (arith, size, sum_by-append texts_in_record k (x ∷ [])));
  parts_are = are;
  count_is = omega (arith, is.count_is, length-append k (x ∷ []));
  bytes_are = omega (arith, is.bytes_are, size, sum_by-append texts_in_record k (x ∷ []));
  published_are = is.published_are;
  few = is.few;
  last_is = last_stays last is.last_is;
}
  where
    last_stays : {Z : Type 0} (last : Option (Arc Publication Z)) → LastIs (just_opened opening k) last → LastIs (just_opened opening (k ++ x ∷ [])) last
    last_stays None at = at
    last_stays (Some q) at = absurd (cc at.published)

pub state_opened : {Z : Type 0} (h : History) (parts parts' : Parts) (n t p bytes : ℕ) (last : Option (Arc Publication Z)) (x : Record) → h.entries ≡ [] → IsState h parts n t p last
    → Continues h.opening h.opened x → Fits h.opened x → IsMoment (moment_of x) → places h < 4000000 → bytes ≡ texts_in_record x → texts h + bytes ≤ 536870912
    → ArePartsOf h.opening (records h ++ x ∷ []) (live h) parts' → IsState (with_opened h x) parts' (n + 1) (t + bytes) p last
state_opened {Z = Z} h parts parts' n t p bytes last x none is continues fits moment room size few are =
    let alone : h ≡ just_opened h.opening h.opened = opened_alone h none in
    let begun : IsState (just_opened h.opening h.opened) parts n t p last = subst (λ (g : History). IsState g parts n t p last) alone is in
    let same : records h ≡ h.opened = ap records alone ∙ records-opened h.opening h.opened in
    let nobody : live h ≡ [] = ap live alone ∙ live-opened h.opening h.opened in
    let more : ArePartsOf h.opening (h.opened ++ x ∷ []) [] parts' = subst (λ (z : List Record × List Session). ArePartsOf h.opening (z.0 ++ x ∷ []) z.1 parts') (λ i. (same i, nobody i)) are in
    subst (λ (g : History). IsState g parts' (n + 1) (t + bytes) p last) (ap (λ (g : History). with_opened g x) (sym alone))
    (opened_more h.opening h.opened parts parts' n t p bytes last x begun continues fits moment (omega (arith, room)) size (omega (arith, few, opened_texts h none)) more)
