-- What keeps a history legal.
use Rattle.std.proofs.Common.{◌≡◌, ◌⊎◌, ◌+◌, ◌<◌, ◌≤◌, List, [], ◌∷◌, ◌++◌, length, refl, sym, ap, subst, ⊎_elim, inl, inr, arith, length-append, sum_by}
use Rattle.trust_types.specs.declared.records.Record.{Record}
use Rattle.trust_types.specs.Kept.{Continues, Fits, IsMoment, IsWellKept, moment_of}
use Rattle.trust_types.specs.Tables.{Table}
use Rattle.site_history.specs.Histories.{Entry, History, with_entry, just_opened, places}
use Rattle.site_history.specs.Texts.{texts, texts_in_entry, texts_in_record}
use Rattle.site_history.specs.Legal.{IsLegal, Meets}
use Rattle.site_history.proofs.Growing.{places-add, texts-add}

-- where a list with one item at its end has an item somewhere, that is the last one or stands before it
pub snoc_split : {A : Type 0} (h : List A) (x : A) (g : List A) (e : A) (rest : List A) → h ++ x ∷ [] ≡ g ++ e ∷ rest
    → ((g ≡ h) × (x ≡ e)) ⊎ ((r : List A) × (h ≡ g ++ e ∷ r))
snoc_split [] x [] e rest is = inl (refl, cc is)
snoc_split [] x (z ∷ g) e rest is =
    let n : length (x ∷ []) ≡ length (z ∷ (g ++ e ∷ rest)) = ap length is in absurd (omega (arith, length-append g (e ∷ rest)))
snoc_split (y ∷ h) x [] e rest is = inr (h, cc is)
snoc_split {A = A} (y ∷ h) x (z ∷ g) e rest is =
    let tails : h ++ x ∷ [] ≡ g ++ e ∷ rest = cc is in
    let heads : y ≡ z = cc is in
    ⊎_elim (λ (t : (g ≡ h) × (x ≡ e)). inl ((λ i. sym heads i ∷ t.0 i), t.1)) (λ (t : (r : List A) × (h ≡ g ++ e ∷ r)). inr (t.0, λ i. heads i ∷ t.1 i))
    (snoc_split h x g e rest tails)

pub legal_add : (h : History) (e : Entry) → IsLegal h → places h < 4000000 → texts h + texts_in_entry e ≤ 536870912 → Meets h e → IsLegal (with_entry h e)
legal_add h e is room few meets = record {
  well = is.well;
  short = omega (arith, places-add h e);
  few_texts = omega (arith, texts-add h e);
  each = λ g x rest at. ⊎_elim
      (λ (t : (g ≡ h.entries) × (e ≡ x)). subst (λ (z : List Entry × Entry). Meets (record h { entries = z.0 }) z.1) (λ i. (sym t.0 i, t.1 i)) meets)
      (λ (t : (r : List Entry) × (h.entries ≡ g ++ x ∷ r)). is.each g x t.0 t.1) (snoc_split h.entries e g x rest at);
}

-- well kept records with one more
pub well_add : (opening : Table) (k : List Record) (x : Record) → IsWellKept opening k → Continues opening k x → Fits k x → IsMoment (moment_of x)
    → IsWellKept opening (k ++ x ∷ [])
well_add opening k x is continues fits moment g y rest at = ⊎_elim
    (λ (t : (g ≡ k) × (x ≡ y)). subst (λ (z : List Record × Record). Continues opening z.0 z.1 × Fits z.0 z.1 × IsMoment (moment_of z.1)) (λ i. (sym t.0 i, t.1 i)) (continues, fits, moment))
    (λ (t : (r : List Record) × (k ≡ g ++ y ∷ r)). is g y t.0 t.1) (snoc_split k x g y rest at)

none_split : {A : Type 0} (g : List A) (e : A) (rest : List A) → [] ≡ g ++ e ∷ rest → ⊥
none_split [] e rest at = cc
none_split (y ∷ g) e rest at = cc

-- a history of opened records alone is legal
pub legal_opened : (opening : Table) (k : List Record) → IsWellKept opening k → length k ≤ 4000000 → sum_by texts_in_record k ≤ 536870912 → IsLegal (just_opened opening k)
unfolding texts
legal_opened opening k well short few = record {
  well = well;
  short = omega arith;
  few_texts = omega arith;
  each = λ g e rest at. absurd (none_split g e rest at);
}

pub well_none : (opening : Table) → IsWellKept opening []
well_none opening g x rest at = absurd (none_split g x rest at)
