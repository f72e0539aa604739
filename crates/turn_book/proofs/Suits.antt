-- A candidate that suits the records of a history suits those of each history that begins with it.
use Rattle.std.proofs.Common.{◌≡◌, ℕ, ◌+◌, List, [], ◌∷◌, ◌++◌, refl, sym, ap, ◌∙◌, subst, append_assoc, option_to_list, fold}
use Rattle.std.proofs.lemmas.List.{append-nil}
use Rattle.trust_types.specs.declared.records.Record.{Record}
use Rattle.trust_types.specs.Kept.{revision}
use Rattle.trust_types.specs.Tables.{Table}
use Rattle.frozen.specs.Revision.{Revision}
use Rattle.roster_form.specs.Candidates.{Rosters}
use Rattle.site_history.specs.Histories.{Entry, Freeze, History, records, records_after, record_added, with_entry}
use Rattle.site_history.specs.Legal.{IsFrozenOf, Suits}
use Rattle.site_history.proofs.Growing.{records-same}
use Rattle.site_history.proofs.Revisions.{past_later, past_now}
use Rattle.turn_book.specs.Seats.{StartsWith}

fold-append : {A B : Type 0} (f : B → A → B) (b : B) (xs ys : List A) → fold f b (xs ++ ys) ≡ fold f (fold f b xs) ys
fold-append f b [] ys = refl
fold-append f b (x ∷ xs) ys = fold-append f (f b x) xs ys

-- the records that entries add to these
abbrev more : List Record → List Entry → List Record
more k [] = []
more k (e ∷ entries) = option_to_list (record_added k e) ++ more (records_after k e) entries

fold-more : (k : List Record) (entries : List Entry) → fold records_after k entries ≡ k ++ more k entries
fold-more k [] = sym (append-nil k)
fold-more k (e ∷ entries) = fold-more (records_after k e) entries ∙ append_assoc k (option_to_list (record_added k e)) (more (records_after k e) entries)

records-start : (h g : History) → (s : StartsWith h g) → records h ≡ records g ++ more (records g) s.0
unfolding records
records-start h g s = ap records s.1 ∙ (fold-append records_after g.opened g.entries s.0 ∙ fold-more (records g) s.0)

-- the records of a history stand at the front of those of a longer one
pub records_later : (h g : History) → StartsWith h g → (l : List Record) × (records h ≡ records g ++ l)
records_later h g s = (more (records g) s.0, records-start h g s)

pub suits_later : (h g : History) (c : Rosters) → StartsWith h g → Suits g.opening (records g) c → Suits h.opening (records h) c
suits_later h g c s is = subst (λ (z : Table × List Record). Suits z.0 z.1 c) (λ i. (sym (ap (λ (h : History). h.opening) s.1) i, sym (records-start h g s) i)) (past_later g.opening (records g) (more (records g) s.0) c.graph is)

-- A candidate over a graph that was just frozen suits what the seat has seen then.
pub frozen_suits : (before now : History) (caller : ℕ) (f : Revision) (c : Rosters) → IsFrozenOf before.opening (records before) f → now ≡ with_entry before (Freeze caller (revision (records before)))
    → c.graph ≡ f → Suits now.opening (records now) c
frozen_suits before now caller f c frozen added same =
    let stay : records (with_entry before (Freeze caller (revision (records before)))) ≡ records before = records-same before (Freeze caller (revision (records before))) refl in
    let of : IsFrozenOf before.opening (records before) c.graph = subst (IsFrozenOf before.opening (records before)) (sym same) frozen in
    let suits : Suits before.opening (records before) c = past_now before.opening (records before) c.graph of in
    subst (λ (h : History). Suits h.opening (records h) c) (sym added) (subst (λ (k : List Record). Suits before.opening k c) (sym stay) suits)
