-- What actors have goes on to suit a site whose history grows.
use Rattle.std.proofs.Common.{ℕ, ◌≡◌, ◌-◌, List, [], ◌++◌, length, get_or, replicate, Option, Some, None, Result, Ok, Err, IfSome, OnOk, option_to_list, sym, subst, ◌∙◌, refl, ⊎_elim, inl, inr}
use Rattle.std.proofs.lemmas.Bool.{cases_lt}
use Rattle.std.proofs.lemmas.List.{length-set, length-replicate, get_or_past}
use Rattle.std.proofs.lemmas.List.Elements.{All-set, All-replicate}
use Rattle.trust_types.specs.declared.records.Record.{Record}
use Rattle.trust_types.specs.Tables.{Table}
use Rattle.frozen.specs.Revision.{Revision}
use Rattle.roster_form.specs.Candidates.{Rosters}
use Rattle.site_history.specs.Histories.{Entry, History, with_entry, records, record_added}
use Rattle.site_history.specs.Legal.{IsFrozenOf, IsOfPast, IsLegal, Meets, Suits}
use Rattle.site_history.proofs.Growing.{records-add}
use Rattle.site_history.proofs.Revisions.{past_later, past_now}
use Rattle.script.specs.Stages.{Holdings, nothing_held, held_by, with_held, with_kept, without_candidate}
use Rattle.script.specs.inner.Ready.{SuitsAll, AreReady, Grows, FindsBy, Finds}

if_some : {A : Type 0} (P Q : A → Type 0) (o : Option A) → ((x : A) → P x → Q x) → IfSome o P → IfSome o Q
if_some P Q None f is = tt
if_some P Q (Some x) f is = f x is

held_later : (opening : Table) (k l : List Record) (held : Holdings) → SuitsAll opening k held → SuitsAll opening (k ++ l) held
held_later opening k l held is = record {
  kept = if_some (IsOfPast opening k) (IsOfPast opening (k ++ l)) held.kept (past_later opening k l) is.kept;
  candidate = if_some (Suits opening k) (Suits opening (k ++ l)) held.candidate (λ c. past_later opening k l c.graph) is.candidate;
}

ready_with : (h : History) (e : Entry) (actors : List Holdings) → AreReady h actors → AreReady (with_entry h e) actors
ready_with h e actors is = record {
  count = is.count;
  each = λ i d inside. subst (λ (k : List Record). SuitsAll h.opening k (get_or actors i d)) (sym (records-add h e))
      (held_later h.opening (records h) (option_to_list (record_added (records h) e)) (get_or actors i d) (is.each i d inside));
}

-- actors stay ready, whatever entry is added
pub ready_grown : (h after : History) (actors : List Holdings) → Grows h after → AreReady h actors → AreReady after actors
ready_grown h after actors grows is = ⊎_elim
    (λ (same : after ≡ h). subst (λ (x : History). AreReady x actors) (sym same) is)
    (λ (more : (e : Entry) × (after ≡ with_entry h e)). subst (λ (x : History). AreReady x actors) (sym more.1) (ready_with h more.0 actors is)) grows

-- what one of them has
pub ready_at : (h : History) (actors : List Holdings) (n : ℕ) → AreReady h actors → SuitsAll h.opening (records h) (held_by actors n)
ready_at h actors n is = elim (cases_lt (n - 1) (length actors)) [
  | inl below ↦ is.each (n - 1) nothing_held below
  | inr past ↦ subst (SuitsAll h.opening (records h)) (sym (get_or_past actors (n - 1) nothing_held past)) (record { kept = tt; candidate = tt })
]

ready_set : (h : History) (actors : List Holdings) (n : ℕ) (held : Holdings) → AreReady h actors → SuitsAll h.opening (records h) held → AreReady h (with_held actors n held)
ready_set h actors n held is suits = record {
  count = length-set actors (n - 1) held ∙ is.count;
  each = All-set (SuitsAll h.opening (records h)) actors (n - 1) held suits is.each;
}

pub ready_kept : (h : History) (actors : List Holdings) (n : ℕ) (f : Revision) → AreReady h actors → IsFrozenOf h.opening (records h) f → AreReady h (with_kept actors n f)
ready_kept h actors n f is frozen =
    ready_set h actors n (record (held_by actors n) { kept = Some f }) is
    (record { kept = past_now h.opening (records h) f frozen; candidate = (ready_at h actors n is).candidate })

pub ready_taken : (h : History) (actors : List Holdings) (n : ℕ) → AreReady h actors → AreReady h (without_candidate actors n)
ready_taken h actors n is =
    ready_set h actors n (record (held_by actors n) { candidate = None }) is (record { kept = (ready_at h actors n is).kept; candidate = tt })

-- a candidate over a graph of the past suits the records
candidate_of : (opening : Table) (k : List Record) (f : Revision) (c : Rosters) → c.graph ≡ f → IsOfPast opening k f → Suits opening k c
candidate_of opening k f c same is = subst (IsOfPast opening k) (sym same) is

suits_found : (opening : Table) (k : List Record) (o : Option Revision) (before : Holdings) (found : Option ℕ) (after : Holdings) → o ≡ before.kept
    → FindsBy o before found after → SuitsAll opening k before → SuitsAll opening k after
suits_found opening k None before None after same finds is = subst (SuitsAll opening k) (sym finds) is
suits_found opening k None before (Some r) after same finds is = absurd finds
suits_found opening k (Some f) before None after same finds is = absurd finds
suits_found opening k (Some f) before (Some r) after same finds is =
    let kept : IsOfPast opening k f = subst (λ (o : Option Revision). IfSome o (IsOfPast opening k)) (sym same) is.kept in
    subst (SuitsAll opening k) (sym finds.4) (record { kept = is.kept; candidate = candidate_of opening k f finds.0 finds.2 kept })

pub ready_found : (h : History) (actors : List Holdings) (n : ℕ) (found : Option ℕ) (held : Holdings) → Finds (held_by actors n) found held
    → AreReady h actors → AreReady h (with_held actors n held)
ready_found h actors n found held finds is =
    ready_set h actors n held is (suits_found h.opening (records h) (held_by actors n).kept (held_by actors n) found held refl finds (ready_at h actors n is))

pub whenever_ok : {T E Q : Type 0} (r : Result T E) → Q → OnOk r Q
whenever_ok (Ok x) q = q
whenever_ok (Err e) q = tt

-- the last entry of a legal history is one that the history before it allows
pub last-meets : (h : History) (e : Entry) → IsLegal (with_entry h e) → Meets h e
last-meets h e legal = legal.each h.entries e [] refl

-- actors that have nothing are ready
pub ready_first : (h : History) → AreReady h (replicate 64 nothing_held)
ready_first h = record {
  count = length-replicate 64 nothing_held;
  each = All-replicate (SuitsAll h.opening (records h)) 64 nothing_held (record { kept = tt; candidate = tt });
}
