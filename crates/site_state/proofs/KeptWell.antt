-- The records of a legal history are well kept, and within the limits.
use Rattle.std.proofs.Common.{◌≡◌, ℕ, ◌+◌, ◌≤◌, Bool, true, false, cond, List, [], ◌∷◌, ◌++◌, fold, sum_by, Option, Some, None, Ok, option_to_list, refl, sym, ap, ◌∙◌, subst, arith}
use Rattle.std.proofs.lemmas.List.{append-nil, append_assoc}
use Rattle.std.proofs.lemmas.List.Sums.{sum_by-append, sum_by-cons}
use Rattle.trust_types.specs.declared.records.Record.{Record}
use Rattle.trust_types.specs.declared.records.Record.TheVariants as kept
use Rattle.trust_types.specs.Kept.{Continues, Fits, IsMoment, IsWellKept, moment_of, accounts}
use Rattle.trust_types.specs.Tables as tables
use Rattle.site_history.specs.declared.commands.Command.{Command}
use Rattle.site_history.specs.declared.commands.Command.TheVariants.{Join, Seed, Unseed, Cert, Table, Diary, Article, Reply, Project, Login, Logout}
use Rattle.site_history.specs.Histories.{History, Entry, Done, Freeze, Publish, KeeperFault, just_opened, with_entry, records, records_after, record_added, record_of, author_of, account_of, is_kept}
use Rattle.site_history.specs.Legal.{IsLegal, Meets}
use Rattle.site_history.specs.Sites.{site_of}
use Rattle.site_history.specs.Texts.{texts, texts_in, texts_in_record, texts_in_entry, texts_in_command}
use Rattle.site_history.proofs.Growing.{records-same, records-more, few-records}
use Rattle.site_history.proofs.Legality.{well_add, legal_opened}
use Rattle.site_state.specs.inner.Opening.{Judged, Judges, judged_record}
use Rattle.site_state.proofs.WellKept.{few_certs, knows_seeds}
use Rattle.site_state.proofs.RecordsJudged.{record_judged}
use Rattle.site_state.proofs.Accepted.{accepted}

-- the moment of a record, and its texts, are those of its command
moment_made : (names : List (List ℕ)) (a moment : ℕ) (command : Command) (x : Record) → record_of names a moment command ≡ Some x → moment_of x ≡ moment
moment_made names a moment (Join name secret) x made = let at : kept.Join moment name secret ≡ x = cc made in ap moment_of (sym at)
moment_made names a moment (Seed subject) x made = let at : kept.Seed moment (account_of names subject) ≡ x = cc made in ap moment_of (sym at)
moment_made names a moment (Unseed subject) x made = let at : kept.Unseed moment (account_of names subject) ≡ x = cc made in ap moment_of (sym at)
moment_made names a moment (Cert subject level) x made = let at : kept.Cert moment a (account_of names subject) level ≡ x = cc made in ap moment_of (sym at)
moment_made names a moment (Table caps) x made = let at : kept.Table moment caps ≡ x = cc made in ap moment_of (sym at)
moment_made names a moment (Diary text) x made = let at : kept.Diary moment a text ≡ x = cc made in ap moment_of (sym at)
moment_made names a moment (Article title text) x made = let at : kept.Article moment a title text ≡ x = cc made in ap moment_of (sym at)
moment_made names a moment (Reply article text) x made = let at : kept.Reply moment a article text ≡ x = cc made in ap moment_of (sym at)
moment_made names a moment (Project name text) x made = let at : kept.Project moment a name text ≡ x = cc made in ap moment_of (sym at)
moment_made names a moment (Login name proof token) x made = absurd (cc)
moment_made names a moment Logout x made = absurd (cc)

abbrev size_of : Option Record → ℕ
size_of o = sum_by texts_in_record (option_to_list o)

texts_made : (names : List (List ℕ)) (a moment : ℕ) (command : Command) → size_of (record_of names a moment command) ≤ texts_in_command command
texts_made names a moment (Join name secret) = omega arith
texts_made names a moment (Seed subject) = omega arith
texts_made names a moment (Unseed subject) = omega arith
texts_made names a moment (Cert subject level) = omega arith
texts_made names a moment (Table caps) = omega arith
texts_made names a moment (Diary text) = omega arith
texts_made names a moment (Article title text) = omega arith
texts_made names a moment (Reply article text) = omega arith
texts_made names a moment (Project name text) = omega arith
texts_made names a moment (Login name proof token) = omega arith
texts_made names a moment Logout = omega arith

texts_one : (k : List Record) (e : Entry) → size_of (record_added k e) ≤ texts_in_entry e
texts_one k (Done caller act reply moment) = by_reply (is_kept reply)
  where
    by_reply : (b : Bool) → size_of (cond b (record_of (accounts k) (author_of (accounts k) act.author) moment act.command) None) ≤ texts_in act
    by_reply true = omega (arith, texts_made (accounts k) (author_of (accounts k) act.author) moment act.command)
    by_reply false = omega arith
texts_one k (Freeze caller r) = omega arith
texts_one k (Publish caller p) = omega arith
texts_one k (KeeperFault caller) = omega arith

texts_grown : (k : List Record) (entries : List Entry) → sum_by texts_in_record (fold records_after k entries) ≤ sum_by texts_in_record k + sum_by texts_in_entry entries
texts_grown k [] = omega arith
texts_grown k (e ∷ entries) =
    omega (arith, texts_grown (records_after k e) entries, sum_by-append texts_in_record k (option_to_list (record_added k e)), texts_one k e, sum_by-cons texts_in_entry e entries)

few_texts : (h : History) → sum_by texts_in_record (records h) ≤ texts h
unfolding records texts
few_texts h = texts_grown h.opened h.entries

-- with one entry more
well_step : (h : History) (e : Entry) → Meets h e → IsWellKept h.opening (records h) → IsWellKept h.opening (records (with_entry h e))
well_step h (Done caller act reply moment) meets well = by_added (record_added (records h) (Done caller act reply moment)) refl
  where
    by_added : (o : Option Record) → record_added (records h) (Done caller act reply moment) ≡ o → IsWellKept h.opening (records (with_entry h (Done caller act reply moment)))
    by_added None is = subst (IsWellKept h.opening) (sym (records-same h (Done caller act reply moment) is)) well
    by_added (Some x) is =
        let parts = by_reply (is_kept reply) refl is in
        let passed : judged_record (site_of h).certs (site_of h).posts x ≡ Ok tt = accepted h act moment x (ap is_kept (sym meets.0) ∙ parts.0) parts.1 in
        let judged : Continues h.opening (records h) x × Fits (records h) x =
        subst (λ (r : Judged). Judges r (Continues h.opening (records h) x) (Fits (records h) x)) passed
        (record_judged h.opening (records h) x (knows_seeds h.opening (records h) well) (few_certs h.opening (records h) well)) in
        let at : IsMoment (moment_of x) = subst IsMoment (sym (moment_made (accounts (records h)) (author_of (accounts (records h)) act.author) moment act.command x parts.1)) meets.1 in
        subst (IsWellKept h.opening) (sym (records-more h (Done caller act reply moment) x is)) (well_add h.opening (records h) x well judged.0 judged.1 at)
      where
        by_reply : (b : Bool) → is_kept reply ≡ b → cond b (record_of (accounts (records h)) (author_of (accounts (records h)) act.author) moment act.command) None ≡ Some x
            → (is_kept reply ≡ true) × (record_of (accounts (records h)) (author_of (accounts (records h)) act.author) moment act.command ≡ Some x)
        by_reply true same made = (same, made)
        by_reply false same made = absurd (cc)
well_step h (Freeze caller r) meets well = subst (IsWellKept h.opening) (sym (records-same h (Freeze caller r) refl)) well
well_step h (Publish caller p) meets well = subst (IsWellKept h.opening) (sym (records-same h (Publish caller p) refl)) well
well_step h (KeeperFault caller) meets well = subst (IsWellKept h.opening) (sym (records-same h (KeeperFault caller) refl)) well

abbrev part_of : tables.Table → List Record → List Entry → History
part_of opening k entries = record { opening = opening; opened = k; entries = entries }

well_from : (opening : tables.Table) (k : List Record) (before rest : List Entry)
    → ((b : List Entry) (e : Entry) (after : List Entry) → before ++ rest ≡ b ++ e ∷ after → Meets (part_of opening k b) e)
    → IsWellKept opening (records (part_of opening k before)) → IsWellKept opening (records (part_of opening k (before ++ rest)))
well_from opening k before [] each well = subst (λ (es : List Entry). IsWellKept opening (records (part_of opening k es))) (sym (append-nil before)) well
well_from opening k before (e ∷ rest) each well =
    let same : (before ++ e ∷ []) ++ rest ≡ before ++ e ∷ rest = append_assoc before (e ∷ []) rest in
    subst (λ (es : List Entry). IsWellKept opening (records (part_of opening k es))) same
    (well_from opening k (before ++ e ∷ []) rest (λ b x after at. each b x after (sym same ∙ at)) (well_step (part_of opening k before) e (each before e rest refl) well))

-- a site that is opened with the records of a legal history is legal
pub records_legal : (h : History) → IsLegal h → IsLegal (just_opened h.opening (records h))
unfolding records
records_legal h is =
    legal_opened h.opening (records h) (well_from h.opening h.opened [] h.entries is.each is.well) (omega (arith, few-records h, is.short)) (omega (arith, few_texts h, is.few_texts))
