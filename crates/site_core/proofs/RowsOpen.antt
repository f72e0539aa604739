-- What rows that open say of the records in them.
use Rattle.std.proofs.Common.{◌≡◌, ℕ, ◌≤◌, List, [], ◌∷◌, ◌++◌, length, sum_by, refl, ap, subst, arith, length-append, inl, inr, ⊎_elim}
use Rattle.std.proofs.lemmas.List.Sums.{sum_by-append, sum_by-cons}
use Rattle.trust_types.specs.declared.records.Record.{Record}
use Rattle.trust_types.specs.Kept.{Continues}
use Rattle.trust_types.specs.Tables.{Table}
use Rattle.site_records.specs.Records.{IsRecord}
use Rattle.site_records.specs.Rows.{IsRowOf}
use Rattle.site_records.proofs.Whole.{one_record}
use Rattle.site_history.specs.Histories.{just_opened}
use Rattle.site_history.specs.Legal.{IsLegal}
use Rattle.site_history.specs.Texts.{texts, texts_in_record}
use Rattle.site_state.specs.Opened.{IsWithinLimits}
use Rattle.site_state.proofs.KeptWell.{records_legal}
use Rattle.site_core.specs.declared.opening.OpenFault.TheVariants.{Keeper, BadRow, Full, NoMemory}
use Rattle.site_core.specs.Books.{AreRowsOf}
use Rattle.site_core.specs.Laws.{KeptRowsOpen, RowsOpenOnce, OpenRowsPass}

pub kept_rows : KeptRowsOpen
kept_rows h rows is are = (are, records_legal h is)

same_records : (rows : List (List ℕ)) (k l : List Record) → AreRowsOf rows k → AreRowsOf rows l → k ≡ l
same_records [] [] [] a b = refl
same_records [] [] (y ∷ l) a b = absurd b
same_records [] (x ∷ k) l a b = absurd a
same_records (r ∷ rows) [] l a b = absurd a
same_records (r ∷ rows) (x ∷ k) [] a b = absurd b
same_records (r ∷ rows) (x ∷ k) (y ∷ l) a b = λ i. one_record x y r a.0 b.0 a.1 b.1 i ∷ same_records rows k l a.2 b.2 i

pub once : RowsOpenOnce
once opening rows k l a b = same_records rows k l a.0 b.0

-- the records of rows, parted at one of them
record Parted (before : List (List ℕ)) (bytes : List ℕ) (k : List Record) : Type 0 where
  front : List Record
  x : Record
  rest : List Record
  whole : k ≡ front ++ x ∷ rest
  rows : AreRowsOf before front
  is : IsRecord x
  row : IsRowOf x bytes

parted : (before : List (List ℕ)) (bytes : List ℕ) (after : List (List ℕ)) (k : List Record) → AreRowsOf (before ++ bytes ∷ after) k → Parted before bytes k
parted [] bytes after [] are = absurd are
parted [] bytes after (x ∷ k) are = record { front = []; x = x; rest = k; whole = refl; rows = tt; is = are.0; row = are.1 }
parted (b ∷ before) bytes after [] are = absurd are
parted (b ∷ before) bytes after (y ∷ k) are =
    let p = parted before bytes after k are.2 in
    record { front = y ∷ p.front; x = p.x; rest = p.rest; whole = ap (λ (l : List Record). y ∷ l) p.whole; rows = (are.0, are.1, p.rows); is = p.is; row = p.row }

few_texts : (opening : Table) (k : List Record) → IsLegal (just_opened opening k) → sum_by texts_in_record k ≤ 536870912
unfolding texts
few_texts opening k legal = omega (arith, legal.few_texts)

within : (opening : Table) (front : List Record) (x : Record) (rest k : List Record) → k ≡ front ++ x ∷ rest → IsLegal (just_opened opening k) → IsWithinLimits front x
within opening front x rest k whole legal = (
  (legal.well front x rest whole).1,
  omega (arith, few_texts opening k legal, ap (sum_by texts_in_record) whole, sum_by-append texts_in_record front (x ∷ rest), sum_by-cons texts_in_record x rest),
)

pub pass : OpenRowsPass
pass opening rows k Keeper opens refuses = inl refl
pass opening rows k NoMemory opens refuses = inr refl
pass opening rows k (BadRow n) opens (l, bytes, at, few, none) =
    let p = parted at.before bytes at.after k (subst (λ (r : List (List ℕ)). AreRowsOf r k) at.there opens.0) in
    let same : p.front ≡ l = same_records at.before p.front l p.rows at.opens.0 in
    absurd (none p.x p.is p.row (subst (λ (g : List Record). Continues opening g p.x) same (opens.1.well p.front p.x p.rest p.whole).0))
pass opening rows k (Full n) opens (l, bytes, at, limit) =
    let p = parted at.before bytes at.after k (subst (λ (r : List (List ℕ)). AreRowsOf r k) at.there opens.0) in
    let same : p.front ≡ l = same_records at.before p.front l p.rows at.opens.0 in
    absurd (⊎_elim
    (λ (full : length l ≡ 4000000). omega (arith, full, ap length same, ap length p.whole, length-append p.front (p.x ∷ p.rest), opens.1.short))
    (λ (t : (y : Record) × IsRecord y × IsRowOf y bytes × Continues opening l y × ¬ (IsWithinLimits l y)).
    t.4 (subst (λ (z : List Record × Record). IsWithinLimits z.0 z.1) (λ i. (same i, one_record p.x t.0 bytes p.is t.1 p.row t.2 i)) (within opening p.front p.x p.rest k p.whole opens.1)))
    limit)
