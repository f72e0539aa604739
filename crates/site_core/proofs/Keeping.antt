-- What a book keeps with one entry more.
use Rattle.std.proofs.Common.{◌≡◌, ◌⊎◌, ℕ, ◌+◌, ◌-◌, ◌^◌, ◌≤◌, Bool, true, false, cond, List, [], ◌∷◌, ◌++◌, length, map, drop, Option, Some, None, option_to_list, IsTrue, IsSome, refl, sym, ap, ◌∙◌, ⊎_elim, inl, inr, arith, length-append, sum_by, fold}
use Rattle.std.proofs.lemmas.List.{append-nil, append_assoc, map-append, drop-append-le}
use Rattle.std.proofs.lemmas.List.Sums.{sum_by-append}
use Rattle.trust_types.specs.declared.records.Record.{Record}
use Rattle.outside.specs.Causes.{one_more}
use Rattle.outside.specs.KeptRows.{ToldRows, append_row}
use Rattle.site_records.specs.Rows.{row}
use Rattle.trust_types.specs.Kept.{accounts}
use Rattle.site_history.specs.declared.acts.Act.{Act}
use Rattle.site_history.specs.declared.replies.Reply.{Reply}
use Rattle.site_history.specs.declared.commands.Author.{Author}
use Rattle.site_history.specs.declared.commands.Author.TheVariants.{Named, Session}
use Rattle.site_history.specs.Acts.{has_session}
use Rattle.site_state.specs.Weighed.{author_token}
use Rattle.site_history.specs.Histories.{Done, is_kept, record_of, author_of, Entry, History, with_entry, records, records_added, records_after, record_added, is_fault}
use Rattle.site_history.specs.Legal.{IsLegal}
use Rattle.site_history.proofs.Growing.{records-add}
use Rattle.site_core.specs.Books.{Kept, IsSound, append_rows}

abbrev pub kept_of : {K : Type 0} → History → K → K → Kept K
kept_of h found keeper = record { history = h; found = found; keeper = keeper }

grown : (k : List Record) (entries : List Entry) → length k ≤ length (fold records_after k entries)
grown k [] = omega arith
grown k (e ∷ entries) = omega (arith, grown (records_after k e) entries, length-append k (option_to_list (record_added k e)))

-- the opened records are among the records
opened-among : (h : History) → length h.opened ≤ length (records h)
unfolding records
opened-among h = grown h.opened h.entries

pub added-more : (h : History) (e : Entry) → records_added (with_entry h e) ≡ records_added h ++ option_to_list (record_added (records h) e)
added-more h e =
    let among : length h.opened ≤ length (records h) = opened-among h in
    ap (drop (length h.opened)) (records-add h e) ∙ drop-append-le (length h.opened) (records h) (option_to_list (record_added (records h) e)) among

append-append : (rows : ToldRows) (a b : List (List ℕ)) → append_rows (append_rows rows a) b ≡ append_rows rows (a ++ b)
append-append None a b = refl
append-append (Some rows) a b = ap Some (append_assoc rows a b)

append-none : (rows : ToldRows) → append_rows rows [] ≡ rows
append-none None = refl
append-none (Some rows) = ap Some (append-nil rows)

append-one : (rows : ToldRows) (bytes : List ℕ) → append_row rows bytes ≡ append_rows rows (bytes ∷ [])
append-one None bytes = refl
append-one (Some rows) bytes = refl

abbrev one_fault : Entry → ℕ
one_fault e = cond (is_fault e) 1 0

-- a book with one entry more
pub sound_add : {K : Type 0} (rows : K → ToldRows) (faults : K → ℕ) (h : History) (found keeper keeper' : K) (e : Entry)
    → IsSound rows faults (kept_of h found keeper) → IsLegal (with_entry h e) → rows keeper' ≡ append_rows (rows keeper) (map row (option_to_list (record_added (records h) e)))
    → (faults keeper + one_fault e ≤ faults keeper') ⊎ (2 ^ 64 - 1 ≤ faults keeper') → IsSound rows faults (kept_of (with_entry h e) found keeper')
sound_add rows faults h found keeper keeper' e is legal kept risen = record {
  legal = legal;
  found = is.found;
  kept =
      let l : List Record = option_to_list (record_added (records h) e) in
      kept ∙ (ap (λ (r : ToldRows). append_rows r (map row l)) is.kept ∙ (append-append (rows found) (map row (records_added h)) (map row l)
      ∙ ap (append_rows (rows found)) (sym (map-append row (records_added h) l) ∙ sym (ap (map row) (added-more h e)))));
  counted = ⊎_elim
      (λ (b : faults keeper + one_fault e ≤ faults keeper'). ⊎_elim
      (λ (a : faults found + sum_by one_fault h.entries ≤ faults keeper). inl (omega (arith, sum_by-append one_fault h.entries (e ∷ []))))
      (λ (a : 2 ^ 64 - 1 ≤ faults keeper). inr (omega arith)) is.counted)
      (λ (b : 2 ^ 64 - 1 ≤ faults keeper'). inr b) risen;
}

-- an entry that adds no record and is no fault
pub sound_note : {K : Type 0} (rows : K → ToldRows) (faults : K → ℕ) (h : History) (found keeper : K) (e : Entry)
    → IsSound rows faults (kept_of h found keeper) → IsLegal (with_entry h e) → record_added (records h) e ≡ None → is_fault e ≡ false
    → IsSound rows faults (kept_of (with_entry h e) found keeper)
sound_note rows faults h found keeper e is legal none plain =
    sound_add rows faults h found keeper keeper e is legal
    (sym (append-none (rows keeper)) ∙ ap (λ (o : Option Record). append_rows (rows keeper) (map row (option_to_list o))) (sym none))
    (let zero : one_fault e ≡ 0 = ap (λ (b : Bool). cond b 1 0) plain in inl (omega arith))

-- an entry that adds a record, whose row was appended
pub sound_keep : {K : Type 0} (rows : K → ToldRows) (faults : K → ℕ) (h : History) (found keeper keeper' : K) (e : Entry) (x : Record)
    → IsSound rows faults (kept_of h found keeper) → IsLegal (with_entry h e) → record_added (records h) e ≡ Some x → is_fault e ≡ false
    → rows keeper' ≡ append_row (rows keeper) (row x) → faults keeper' ≡ faults keeper → IsSound rows faults (kept_of (with_entry h e) found keeper')
sound_keep rows faults h found keeper keeper' e x is legal some plain appended counts =
    sound_add rows faults h found keeper keeper' e is legal
    (appended ∙ (append-one (rows keeper) (row x) ∙ ap (λ (o : Option Record). append_rows (rows keeper) (map row (option_to_list o))) (sym some)))
    (let zero : one_fault e ≡ 0 = ap (λ (b : Bool). cond b 1 0) plain in inl (omega arith))

risen : (before now : ℕ) → now ≡ one_more before → (before + 1 ≤ now) ⊎ (2 ^ 64 - 1 ≤ now)
risen before now is = grind arith

-- a fault of the keeper
pub sound_fail : {K : Type 0} (rows : K → ToldRows) (faults : K → ℕ) (h : History) (found keeper keeper' : K) (e : Entry)
    → IsSound rows faults (kept_of h found keeper) → IsLegal (with_entry h e) → record_added (records h) e ≡ None → is_fault e ≡ true
    → rows keeper' ≡ rows keeper → faults keeper' ≡ one_more (faults keeper) → IsSound rows faults (kept_of (with_entry h e) found keeper')
sound_fail rows faults h found keeper keeper' e is legal none fault same counts =
    sound_add rows faults h found keeper keeper' e is legal
    (same ∙ (sym (append-none (rows keeper)) ∙ ap (λ (o : Option Record). append_rows (rows keeper) (map row (option_to_list o))) (sym none)))
    (let one : one_fault e ≡ 1 = ap (λ (b : Bool). cond b 1 0) fault in
    ⊎_elim (λ (a : faults keeper + 1 ≤ faults keeper'). inl (omega arith)) (λ (b : 2 ^ 64 - 1 ≤ faults keeper'). inr b) (risen (faults keeper) (faults keeper') counts))

-- a call that leaves the history, the rows and the count of faults
pub sound_same : {K : Type 0} (rows : K → ToldRows) (faults : K → ℕ) (h : History) (found keeper keeper' : K) → IsSound rows faults (kept_of h found keeper)
    → rows keeper' ≡ rows keeper → faults keeper' ≡ faults keeper → IsSound rows faults (kept_of h found keeper')
sound_same rows faults h found keeper keeper' is same counts = record {
  legal = is.legal;
  found = is.found;
  kept = same ∙ is.kept;
  counted = ⊎_elim (λ (a : faults found + sum_by one_fault h.entries ≤ faults keeper). inl (omega arith)) (λ (a : 2 ^ 64 - 1 ≤ faults keeper). inr (omega arith)) is.counted;
}

-- what an act adds, by its reply
pub adds_none : (k : List Record) (caller moment : ℕ) (act : Act) (reply : Reply) → is_kept reply ≡ false → record_added k (Done caller act reply moment) ≡ None
adds_none k caller moment act reply kept = ap (λ (b : Bool). cond b (record_of (accounts k) (author_of (accounts k) act.author) moment act.command) None) kept

pub adds_one : (k : List Record) (caller moment : ℕ) (act : Act) (reply : Reply) (x : Record) → is_kept reply ≡ true
    → record_of (accounts k) (author_of (accounts k) act.author) moment act.command ≡ Some x → record_added k (Done caller act reply moment) ≡ Some x
adds_one k caller moment act reply x kept made =
    ap (λ (b : Bool). cond b (record_of (accounts k) (author_of (accounts k) act.author) moment act.command) None) kept ∙ made

-- who logs out has a session
pub has_token : (a : Option Author) → IsTrue (has_session a) → IsSome (author_token a)
has_token None is = absurd (cc)
has_token (Some (Named name)) is = absurd (cc)
has_token (Some (Session name token)) is = refl
