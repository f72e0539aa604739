-- What holds of the opened records, and of each entry more that a legal history has, holds of the history.
use Rattle.std.proofs.Common.{◌≡◌, List, [], ◌∷◌, ◌++◌, sym, ◌∙◌, subst, append_assoc, refl}
use Rattle.std.proofs.lemmas.List.{append-nil}
use Rattle.site_history.specs.Histories.{Entry, History, with_entry, just_opened}
use Rattle.site_history.specs.Legal.{IsLegal, Meets}

from : (P : History → Type 0) → ((h : History) (e : Entry) → P h → Meets h e → P (with_entry h e))
    → (h : History) (before after : List Entry) → h.entries ≡ before ++ after → IsLegal h → P (record h { entries = before }) → P h
from P step h before [] at is p = subst (λ (l : List Entry). P (record h { entries = l })) (sym (at ∙ append-nil before)) p
from P step h before (e ∷ after) at is p =
    from P step h (before ++ e ∷ []) after (at ∙ sym (append_assoc before (e ∷ []) after)) is (step (record h { entries = before }) e p (is.each before e after at))

pub by_entries : (P : History → Type 0) → ((h : History) (e : Entry) → P h → Meets h e → P (with_entry h e)) → (h : History) → IsLegal h → P (just_opened h.opening h.opened) → P h
by_entries P step h is p = from P step h [] h.entries refl is p
