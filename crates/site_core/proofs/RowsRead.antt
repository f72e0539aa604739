-- Rows that are read one after another.
use Rattle.std.specs.Result.{IsErrAnd}
use Rattle.std.proofs.Common.{◌≡◌, ℕ, suc, ◌+◌, ◌<◌, ◌≤◌, List, [], ◌∷◌, ◌++◌, length, slice_get, Some, None, Result, Ok, Err, IfSome, IfOk, refl, sym, ap, ◌∙◌, subst, arith, length-append, inl, inr}
use Rattle.std.proofs.lemmas.List.{append-nil, append_assoc}
use Rattle.trust_types.specs.declared.records.Record.{Record}
use Rattle.trust_types.specs.Tables.{Table}
use Rattle.outside.specs.declared.keeper.Fetched.{Fetched}
use Rattle.outside.specs.declared.keeper.Fetched.TheVariants.{Row, End}
use Rattle.outside.specs.Causes.{HasCause}
use Rattle.outside.specs.KeptRows.{ToldRows, Finds}
use Rattle.site_records.specs.Records.{IsRecord}
use Rattle.site_records.specs.Rows.{IsRowOf}
use Rattle.site_history.specs.Histories.{History, just_opened, places}
use Rattle.site_history.specs.Legal.{IsLegal}
use Rattle.site_core.specs.declared.opening.OpenFault.{OpenFault}
use Rattle.site_core.specs.declared.opening.OpenFault.TheVariants.{Keeper, BadRow, Full, NoMemory}
use Rattle.site_core.specs.Books.{AreRowsOf}
use Rattle.site_core.specs.Opening.{Opens, IsRowAt, RefusesRows, is_keeper_fault, is_keepers}
use Rattle.site_core.specs.inner.Opening.{BeginWith, RefusesRow, OpensRow, HasRead, ReadsNext}

rows_more : (front : List (List ℕ)) (k : List Record) (bytes : List ℕ) (x : Record) → AreRowsOf front k → IsRecord x → IsRowOf x bytes → AreRowsOf (front ++ bytes ∷ []) (k ++ x ∷ [])
rows_more [] [] bytes x are is row = (is, row, tt)
rows_more [] (y ∷ k) bytes x are is row = absurd are
rows_more (b ∷ front) [] bytes x are is row = absurd are
rows_more (b ∷ front) (y ∷ k) bytes x are is row = (are.0, are.1, rows_more front k bytes x are.2 is row)

pub as_many_rows : (rows : List (List ℕ)) (k : List Record) → AreRowsOf rows k → length rows ≡ length k
as_many_rows [] [] are = refl
as_many_rows [] (y ∷ k) are = absurd are
as_many_rows (b ∷ rows) [] are = absurd are
as_many_rows (b ∷ rows) (y ∷ k) are = ap suc (as_many_rows rows k are.2)

next_row : (front rest : List (List ℕ)) (bytes : List ℕ) → slice_get (front ++ rest) (length front) ≡ Some bytes → (after : List (List ℕ)) × (rest ≡ bytes ∷ after)
next_row [] [] bytes some = absurd (cc)
next_row [] (b ∷ rest) bytes some = let same : b ≡ bytes = cc in (rest, ap (λ (z : List ℕ). z ∷ rest) same)
next_row (c ∷ front) rest bytes some = next_row front rest bytes some

-- what stands behind the rows that were read
behind : (rows : List (List ℕ)) (k : List Record) (bytes : List ℕ) (begin : BeginWith rows k) → slice_get rows (length k) ≡ Some bytes → (after : List (List ℕ)) × (begin.1 ≡ bytes ∷ after)
behind rows k bytes begin some =
    next_row begin.0 begin.1 bytes ((λ i. slice_get (sym begin.2 i) (as_many_rows begin.0 k begin.3 i)) ∙ some)

pub begin_more : (rows : List (List ℕ)) (k : List Record) (bytes : List ℕ) (x : Record) → BeginWith rows k → slice_get rows (length k) ≡ Some bytes → IsRecord x → IsRowOf x bytes
    → BeginWith rows (k ++ x ∷ [])
begin_more rows k bytes x begin some is row =
    let next = behind rows k bytes begin some in (
      begin.0 ++ bytes ∷ [],
      next.0,
      begin.2 ∙ (ap (λ (l : List (List ℕ)). begin.0 ++ l) next.1 ∙ sym (append_assoc begin.0 (bytes ∷ []) next.0)),
      rows_more begin.0 k bytes x begin.3 is row,
    )

row_at : (opening : Table) (rows : List (List ℕ)) (n : ℕ) (k : List Record) (bytes : List ℕ) → BeginWith rows k → slice_get rows (length k) ≡ Some bytes → IsLegal (just_opened opening k)
    → n ≡ length k + 1 → IsRowAt opening rows n k bytes
row_at opening rows n k bytes begin some legal number =
    let next = behind rows k bytes begin some in
    record { before = begin.0; after = next.0; there = begin.2 ∙ ap (λ (l : List (List ℕ)). begin.0 ++ l) next.1; opens = (begin.3, legal); number = number }

none_left : (rest : List (List ℕ)) → length rest ≤ 0 → rest ≡ []
none_left [] few = refl
none_left (b ∷ rest) few = absurd (omega arith)

all_read : (rows : List (List ℕ)) (k : List Record) → BeginWith rows k → length rows ≤ length k → AreRowsOf rows k
all_read rows k begin end =
    let rest : begin.1 ≡ [] = none_left begin.1 (omega (arith, end, ap length begin.2, length-append begin.0 begin.1, as_many_rows begin.0 k begin.3)) in
    subst (λ (r : List (List ℕ)). AreRowsOf r k) (sym (begin.2 ∙ (ap (λ (l : List (List ℕ)). begin.0 ++ l) rest ∙ append-nil begin.0))) begin.3

-- the same of the rows that a keeper may tell
abbrev pub BeganWith : ToldRows → List Record → Type 0
BeganWith told k = IfSome told (λ rows. BeginWith rows k)

pub told_none : (told : ToldRows) → BeganWith told []
told_none None = tt
told_none (Some rows) = ([], rows, refl, tt)

pub told_more : (told : ToldRows) (k : List Record) (bytes : List ℕ) (x : Record) → BeganWith told k → Finds told (length k) Row bytes → IsRecord x → IsRowOf x bytes → BeganWith told (k ++ x ∷ [])
told_more None k bytes x begin found is row = tt
told_more (Some rows) k bytes x begin found is row = begin_more rows k bytes x begin found is row

pub told_all : (opening : Table) (told : ToldRows) (k : List Record) (bytes : List ℕ) → BeganWith told k → Finds told (length k) End bytes → IsLegal (just_opened opening k)
    → IfSome told (λ rows. Opens opening rows k)
told_all opening None k bytes begin found legal = tt
told_all opening (Some rows) k bytes begin found legal = (all_read rows k begin found, legal)

refused : (opening : Table) (rows : List (List ℕ)) (k : List Record) (bytes : List ℕ) (fault : OpenFault) → BeginWith rows k → slice_get rows (length k) ≡ Some bytes
    → IsLegal (just_opened opening k) → length k < 4000000 → RefusesRow opening k bytes fault → RefusesRows opening rows fault
refused opening rows k bytes Keeper begin some legal room why = tt
refused opening rows k bytes (BadRow n) begin some legal room why = (k, bytes, row_at opening rows n k bytes begin some legal why.0, omega (arith, room, why.0), why.1)
refused opening rows k bytes (Full n) begin some legal room why = (k, bytes, row_at opening rows n k bytes begin some legal why.0, inr why.1)
refused opening rows k bytes NoMemory begin some legal room why = tt

pub told_refused : (opening : Table) (told : ToldRows) (k : List Record) (bytes : List ℕ) (fault : OpenFault) → BeganWith told k → Finds told (length k) Row bytes
    → IsLegal (just_opened opening k) → length k < 4000000 → RefusesRow opening k bytes fault → IfSome told (λ rows. RefusesRows opening rows fault)
told_refused opening None k bytes fault begin found legal room why = tt
told_refused opening (Some rows) k bytes fault begin found legal room why = refused opening rows k bytes fault begin found legal room why

-- one row too many
pub told_full : (opening : Table) (told : ToldRows) (k : List Record) (bytes : List ℕ) → BeganWith told k → Finds told (length k) Row bytes → IsLegal (just_opened opening k)
    → length k ≡ 4000000 → IfSome told (λ rows. RefusesRows opening rows (Full 4000001))
told_full opening None k bytes begin found legal full = tt
told_full opening (Some rows) k bytes begin found legal full = (k, bytes, row_at opening rows 4000001 k bytes begin found legal (omega (arith, full)), inl full)

-- the steps of the loop over rows
pub read_none : (opening : Table) (told : ToldRows) (h : History) → h ≡ just_opened opening [] → HasRead told 0 h
read_none opening told h begun = record {
  alone = ap (λ (g : History). g.entries) begun;
  count = ap (λ (g : History). length g.opened) begun;
  begun = subst (BeganWith told) (sym (ap (λ (g : History). g.opened) begun)) (told_none told);
}

-- a site with nothing but opened records
pub opened_only : (h : History) → h.entries ≡ [] → h ≡ just_opened h.opening h.opened
opened_only h none = λ i. record { opening = h.opening; opened = h.opened; entries = none i }

found_here : (told : ToldRows) (h : History) (n : ℕ) (found : Fetched) (bytes : List ℕ) → HasRead told n h → Finds told n found bytes → Finds told (length h.opened) found bytes
found_here told h n found bytes read finds = subst (λ (m : ℕ). Finds told m found bytes) (sym read.count) finds

only_legal : (h : History) → h.entries ≡ [] → IsLegal h → IsLegal (just_opened h.opening h.opened)
only_legal h none legal = subst IsLegal (opened_only h none) legal

pub read_more : (told : ToldRows) (h h' : History) (n : ℕ) (bytes : List ℕ) → HasRead told n h → Finds told n Row bytes → OpensRow h h' bytes → ReadsNext told n h h' Row
read_more told h h' n bytes read finds opens = (
  record {
    alone = ap (λ (g : History). g.entries) opens.3 ∙ read.alone;
    count = omega (arith, read.count, ap (λ (g : History). length g.opened) opens.3, length-append h.opened (opens.0 ∷ []));
    begun = subst (BeganWith told) (sym (ap (λ (g : History). g.opened) opens.3)) (told_more told h.opened bytes opens.0 read.begun (found_here told h n Row bytes read finds) opens.1 opens.2);
  },
  ap (λ (g : History). g.opening) opens.3,
)

pub read_all : (told : ToldRows) (h : History) (n : ℕ) (bytes : List ℕ) → HasRead told n h → Finds told n End bytes → IsLegal h → IfSome told (λ rows. Opens h.opening rows h.opened)
read_all told h n bytes read finds legal = told_all h.opening told h.opened bytes read.begun (found_here told h n End bytes read finds) (only_legal h read.alone legal)

pub read_refused : (told : ToldRows) (h : History) (n : ℕ) (bytes : List ℕ) (fault : OpenFault) → HasRead told n h → Finds told n Row bytes → IsLegal h → n < 4000000
    → RefusesRow h.opening h.opened bytes fault → IfSome told (λ rows. RefusesRows h.opening rows fault)
read_refused told h n bytes fault read finds legal few why =
    told_refused h.opening told h.opened bytes fault read.begun (found_here told h n Row bytes read finds) (only_legal h read.alone legal) (omega (arith, few, read.count)) why

pub read_full : (told : ToldRows) (h : History) (bytes : List ℕ) → HasRead told 4000000 h → Finds told 4000000 Row bytes → IsLegal h → IfSome told (λ rows. RefusesRows h.opening rows (Full 4000001))
read_full told h bytes read finds legal = told_full h.opening told h.opened bytes read.begun (found_here told h 4000000 Row bytes read finds) (only_legal h read.alone legal) read.count

pub few_places : (told : ToldRows) (h : History) (n : ℕ) → HasRead told n h → n < 4000000 → places h < 4000000
few_places told h n read few = omega (arith, few, read.count, ap length read.alone)

pub read_most : (told : ToldRows) (h : History) (n : ℕ) → HasRead told n h → n ≡ 4000000 → HasRead told 4000000 h
read_most told h n read is = subst (λ (m : ℕ). HasRead told m h) is read

-- what a step says of the rows that were told at first, and of the table with which the site began
pub first_refused : (told now : ToldRows) (opening began : Table) (fault : OpenFault) → now ≡ told → began ≡ opening → IfSome now (λ rows. RefusesRows began rows fault)
    → IfSome told (λ rows. RefusesRows opening rows fault)
first_refused told now opening began fault same is why = subst (λ (z : ToldRows × Table). IfSome z.0 (λ rows. RefusesRows z.1 rows fault)) (λ i. (same i, is i)) why

pub first_opens : (told now : ToldRows) (opening : Table) (h h' : History) → now ≡ told → h.opening ≡ opening → h' ≡ h → IfSome now (λ rows. Opens h.opening rows h.opened)
    → IfSome told (λ rows. Opens opening rows h'.opened)
first_opens told now opening h h' same is kept opens =
    subst (λ (z : ToldRows × Table × List Record). IfSome z.0 (λ rows. Opens z.1 rows z.2)) (λ i. (same i, is i, sym (ap (λ (g : History). g.opened) kept) i)) opens

pub first_alone : (opening : Table) (h h' : History) → h.entries ≡ [] → h.opening ≡ opening → h' ≡ h → h' ≡ just_opened opening h'.opened
first_alone opening h h' none is kept =
    let began : h'.opening ≡ opening = ap (λ (g : History). g.opening) kept ∙ is in
    let alone : h'.entries ≡ [] = ap (λ (g : History). g.entries) kept ∙ none in
    λ i. record { opening = began i; opened = h'.opened; entries = alone i }

pub first_cause : {T : Type 0} (r : Result T OpenFault) (fault : OpenFault) (first before now : ℕ) → before ≡ first → IsErrAnd r (λ x. x ≡ fault) → HasCause before now (is_keeper_fault fault)
    → HasCause first now (is_keepers r)
first_cause (Ok x) fault first before now same is cause = absurd is
first_cause (Err x) fault first before now same is cause = subst (λ (z : ℕ × OpenFault). HasCause z.0 now (is_keeper_fault z.1)) (λ i. (same i, sym is i)) cause

pub not_ok : {T E : Type 0} (r : Result T E) (e : E) (P : T → Type 0) → IsErrAnd r (λ x. x ≡ e) → IfOk r P
not_ok (Ok x) e P is = absurd is
not_ok (Err x) e P is = tt

-- a site that had just begun
pub begun_alone : (opening : Table) (h h' : History) → h ≡ just_opened opening [] → h' ≡ just_opened h.opening h'.opened → h' ≡ just_opened opening h'.opened
begun_alone opening h h' begun is = subst (λ (t : Table). h' ≡ just_opened t h'.opened) (ap (λ (g : History). g.opening) begun) is

pub begun_opens : (told : ToldRows) (opening : Table) (h : History) (k : List Record) → h ≡ just_opened opening [] → IfSome told (λ rows. Opens h.opening rows k) → IfSome told (λ rows. Opens opening rows k)
begun_opens told opening h k begun opens = subst (λ (t : Table). IfSome told (λ rows. Opens t rows k)) (ap (λ (g : History). g.opening) begun) opens

pub begun_refused : (told : ToldRows) (opening : Table) (h : History) (fault : OpenFault) → h ≡ just_opened opening [] → IfSome told (λ rows. RefusesRows h.opening rows fault)
    → IfSome told (λ rows. RefusesRows opening rows fault)
begun_refused told opening h fault begun why = subst (λ (t : Table). IfSome told (λ rows. RefusesRows t rows fault)) (ap (λ (g : History). g.opening) begun) why
