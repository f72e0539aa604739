-- The book of a site that was opened.
use Rattle.std.proofs.Common.{◌≡◌, ℕ, ◌+◌, ◌≤◌, List, [], length, map, count_by, Some, None, IfSome, refl, sym, ap, ◌∙◌, arith, inl}
use Rattle.std.proofs.lemmas.List.{append-nil, drop_all}
use Rattle.trust_types.specs.declared.records.Record.{Record}
use Rattle.trust_types.specs.Tables.{Table}
use Rattle.outside.specs.KeptRows.{ToldRows}
use Rattle.site_records.specs.Rows.{row}
use Rattle.site_history.specs.Histories.{History, just_opened, is_fault, records, records_added}
use Rattle.site_history.specs.Legal.{IsLegal}
use Rattle.site_core.specs.Books.{IsSound, AreFoundRows, append_rows}
use Rattle.site_core.specs.Opening.{Opens}
use Rattle.site_core.proofs.Keeping.{kept_of}

found_rows : (opening : Table) (told : ToldRows) (k : List Record) → IfSome told (λ rows. Opens opening rows k) → AreFoundRows told k
found_rows opening None k opens = tt
found_rows opening (Some rows) k opens = opens.0

none_more : (told : ToldRows) → append_rows told [] ≡ told
none_more None = refl
none_more (Some rows) = ap Some (append-nil rows)

none_added : (opening : Table) (k : List Record) → records_added (just_opened opening k) ≡ []
unfolding records
none_added opening k = drop_all (length k) k (omega arith)

pub sound_opened : {K : Type 0} (rows : K → ToldRows) (faults : K → ℕ) (opening : Table) (h : History) (found keeper : K) → h ≡ just_opened opening h.opened → IsLegal h
    → IfSome (rows found) (λ r. Opens opening r h.opened) → rows keeper ≡ rows found → faults keeper ≡ faults found → IsSound rows faults (kept_of h found keeper)
sound_opened rows faults opening h found keeper alone legal opens same counts = record {
  legal = legal;
  found = found_rows opening (rows found) h.opened opens;
  kept = same ∙ sym (ap (λ (g : History). append_rows (rows found) (map row (records_added g))) alone ∙ (ap (λ (l : List Record). append_rows (rows found) (map row l)) (none_added opening h.opened) ∙ none_more (rows found)));
  counted = inl (faultless h alone);
}
  where
    faultless : (h : History) → h ≡ just_opened opening h.opened → faults found + count_by is_fault h.entries ≤ faults keeper
    faultless h alone = let none : h.entries ≡ [] = ap (λ (g : History). g.entries) alone in let zero : count_by is_fault h.entries ≡ 0 = ap (count_by is_fault) none in omega (arith, zero, counts)
