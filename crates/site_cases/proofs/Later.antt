-- A graph that was frozen of a site, after one entry more.
use Rattle.std.proofs.Common.{◌≡◌, ℕ, List, Option, Some, None, Result, Ok, Err, IfSome, IfOk, OnErr, option_to_list, refl, sym, subst}
use Rattle.std.specs.declared.sync.Arc.{Arc}
use Rattle.trust_types.specs.declared.records.Record.{Record}
use Rattle.trust_types.specs.Kept.{revision}
use Rattle.frozen.specs.Revision.{Revision}
use Rattle.site_history.specs.Histories.{Entry, Freeze, History, with_entry, records, record_added}
use Rattle.site_history.specs.Legal.{IsFrozenOf, IsOfPast}
use Rattle.site_history.proofs.Growing.{records-add, records-same}
use Rattle.site_history.proofs.Revisions.{past_later, past_now}
use Rattle.site_cases.specs.Graphs.{IsPastGraph}

-- it stays a graph of the site's past
pub later : (h : History) (e : Entry) (f : Revision) → IsPastGraph h f → IsPastGraph (with_entry h e) f
later h e f is = subst (λ (k : List Record). IsOfPast h.opening k f) (sym (records-add h e)) (past_later h.opening (records h) (option_to_list (record_added (records h) e)) f is)

-- it is one as soon as it is frozen
pub at_once : (h : History) (caller : ℕ) (f : Revision) → IsFrozenOf h.opening (records h) f → IsPastGraph (with_entry h (Freeze caller (revision (records h)))) f
at_once h caller f is =
    let stay : records (with_entry h (Freeze caller (revision (records h)))) ≡ records h = records-same h (Freeze caller (revision (records h))) refl in
    subst (λ (k : List Record). IsOfPast h.opening k f) (sym stay) (past_now h.opening (records h) f is)

-- the one that is kept, where there is one, stays one after an entry
pub kept_later : {Z : Type 0} (h : History) (e : Entry) (kept : Option (Arc Revision Z)) → IfSome kept (λ graph. IsPastGraph h graph.value)
    → IfSome kept (λ graph. IsPastGraph (with_entry h e) graph.value)
kept_later h e None is = tt
kept_later h e (Some graph) is = later h e graph.value is

-- and after a call, whatever it answered
pub kept_after : {A B Z : Type 0} (h h' : History) (entry : A → Entry) (result : Result A B) (kept : Option (Arc Revision Z))
    → IfOk result (λ x. h' ≡ with_entry h (entry x)) → OnErr result (h' ≡ h) → IfSome kept (λ graph. IsPastGraph h graph.value)
    → IfSome kept (λ graph. IsPastGraph h' graph.value)
kept_after h h' entry (Ok x) kept ok err is = subst (λ (z : History). IfSome kept (λ graph. IsPastGraph z graph.value)) (sym ok) (kept_later h (entry x) kept is)
kept_after h h' entry (Err fault) kept ok err is = subst (λ (z : History). IfSome kept (λ graph. IsPastGraph z graph.value)) (sym err) is
