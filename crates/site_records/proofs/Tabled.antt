-- The two values of a table, read as what they stand for.
use Rattle.std.proofs.Common.{◌≡◌, ℕ, suc, ◌-◌, ◌<◌, ◌≤◌, ◌^◌, Bool, true, false, nat_le, nat_lt, cond, List, [], ◌∷◌, ◌++◌, length, get_or, map, Ok, Err, All, refl, sym, ap, ◌∙◌, arith, decimal, ◌==◌, subst}
use Rattle.std.specs.Prelude.{Result, slice_index}
use Rattle.std.specs.Char.{is_ascii_digit}
use Rattle.std.specs.List.{list_any, join_with_byte, slice_split}
use Rattle.std.proofs.lemmas.Bool.{eqb-true}
use Rattle.std.proofs.lemmas.Bool.Decides.{nat_tests}
use Rattle.std.proofs.lemmas.Fmt.{digits_decimal}
use Rattle.std.proofs.lemmas.Grind.{get_or_default_zero}
use Rattle.std.proofs.lemmas.List.Folds.{list_any_none}
use Rattle.std.proofs.lemmas.List.Splits.{slice_split_none, slice_split_at, join_with_byte-slice_split}
use Rattle.std.proofs.lemmas.List.Sums.{AllPass-from_list_all}
use Rattle.form_urlencoded.specs.Form.{byte_serialize}
use Rattle.form_urlencoded.proofs.FormLemmas.{byte_serialize-nil, byte_serialize-cons, byte_serialize-append}
use Rattle.trust_types.specs.declared.limits.TheConstants.{FEWEST_LEVELS, MOST_LEVELS, MOST_ENTRIES, GREATEST_ENTRY}
use Rattle.trust_types.specs.declared.tables.CapsFault.{CapsFault}
use Rattle.trust_types.specs.declared.tables.CapsFault.TheVariants.{Empty, Long, Zero, Large, Rises, EndNotOne}
use Rattle.trust_types.specs.Tables.{IsLevelCount, AreEntries, rises, judged_entries}
use Rattle.trust_types.proofs.TableTests.{AreEntries-from_tests, list_any-AreEntries, rises-AreEntries}
use Rattle.site_records.specs.Rows.{entries_text}
use Rattle.site_records.specs.inner.Reading.{Read, ◌>>=◌, unless_not, number_in, levels_in, numbers_in, judged, entries_in}
use Rattle.site_records.proofs.Steps.{bind-ok, ok_same, unless_not-ok}
use Rattle.site_records.proofs.Numbers.{own, number_in-decimal, number_in-ok}
use Rattle.site_records.proofs.Entering.{is_plus}
use Rattle.site_records.proofs.Pairs.{Reads}
use Rattle.site_records.proofs.Plain.{plain-decimal, reads_number}

pub reads_levels : Reads ℕ levels_in decimal IsLevelCount
reads_levels =
    let reads = reads_number MOST_LEVELS (omega arith) in record {
      back = λ levels within.
          let enough : nat_le FEWEST_LEVELS levels ≡ true = let low : 2 ≤ levels = within.0 in grind (arith, nat_tests) in
          ap (λ r. r >>= λ levels. unless_not (nat_le FEWEST_LEVELS levels) >>= λ _. Ok levels) (reads.back levels within.1) ∙ rw enough refl;
      only = λ value levels e.
          let found = bind-ok (number_in MOST_LEVELS value) (λ levels. unless_not (nat_le FEWEST_LEVELS levels) >>= λ _. Ok levels) levels e in
          let enough = bind-ok (unless_not (nat_le FEWEST_LEVELS found.0)) (λ _. Ok found.0) levels found.2 in
          let same : found.0 ≡ levels = ok_same _ _ enough.2 in
          let is = reads.only value levels (found.1 ∙ ap Ok same) in
          let test : nat_le 2 found.0 ≡ true = unless_not-ok _ enough.0 enough.1 in
          let low : 2 ≤ found.0 = grind (arith, nat_tests) in
          (is.0, (omega arith, is.1));
    }

-- ---- entries, as they are and in a form

no_plus : (n : ℕ) → n < 2 ^ 64 → All (λ b. is_plus b ≡ false) (decimal n)
no_plus n small k d inside =
    let digit : is_ascii_digit (get_or (decimal n) k d) ≡ true = AllPass-from_list_all is_ascii_digit (decimal n) (digits_decimal own n small) k d inside in
    grind (arith, nat_tests)

-- Each is small.
abbrev pub Small : List ℕ → Type 0
Small [] = Unit {0}
Small (n ∷ ns) = (n ≤ GREATEST_ENTRY) × Small ns

spaced : (entries : List ℕ) → Small entries → byte_serialize (join_with_byte 32 (map decimal entries)) ≡ join_with_byte 43 (map decimal entries)
spaced [] small = byte_serialize-nil
spaced (n ∷ []) small = plain-decimal n (omega (arith, small.0))
spaced (n ∷ m ∷ entries) small =
    byte_serialize-append (decimal n) (32 ∷ join_with_byte 32 (map decimal (m ∷ entries)))
    ∙ (λ i. plain-decimal n (omega (arith, small.0)) i ++ byte_serialize-cons 32 (join_with_byte 32 (map decimal (m ∷ entries))) i)
    ∙ ap (λ rest. decimal n ++ 43 ∷ rest) (spaced (m ∷ entries) small.1)

parted : (n : ℕ) (entries : List ℕ) → Small (n ∷ entries) → slice_split is_plus (join_with_byte 43 (map decimal (n ∷ entries))) ≡ map decimal (n ∷ entries)
parted n [] small = slice_split_none is_plus (decimal n) (no_plus n (omega (arith, small.0)))
parted n (m ∷ entries) small =
    slice_split_at is_plus (decimal n) 43 (join_with_byte 43 (map decimal (m ∷ entries))) (no_plus n (omega (arith, small.0))) refl
    ∙ ap (λ rest. decimal n ∷ rest) (parted m entries small.1)

numbers_back : (entries : List ℕ) → Small entries → numbers_in (map decimal entries) ≡ Ok entries
numbers_back [] small = refl
numbers_back (n ∷ entries) small =
    rw (number_in-decimal GREATEST_ENTRY n small.0 (omega (arith, small.0)), numbers_back entries small.1) refl

numbers_only : (values : List (List ℕ)) (entries : List ℕ) → numbers_in values ≡ Ok entries → (values ≡ map decimal entries) × Small entries
numbers_only [] entries e = let none : [] ≡ entries = ok_same _ _ e in subst (λ es. ([] ≡ map decimal es) × Small es) none (refl, tt)
numbers_only (value ∷ values) entries e =
    let first = bind-ok (number_in GREATEST_ENTRY value) (λ n. numbers_in values >>= λ ns. Ok (n ∷ ns)) entries e in
    let others = bind-ok (numbers_in values) (λ ns. Ok (first.0 ∷ ns)) entries first.2 in
    let is = number_in-ok GREATEST_ENTRY first.0 value first.1 in
    let rest = numbers_only values others.0 others.1 in
    let all : first.0 ∷ others.0 ≡ entries = ok_same _ _ others.2 in
    subst (λ es. (value ∷ values ≡ map decimal es) × Small es) all ((λ i. is.0 i ∷ rest.0 i), (is.1, rest.1))

-- ---- entries that are a table's

pub judged-are : (entries : List ℕ) → AreEntries entries → judged_entries entries ≡ Ok entries
judged-are entries are =
    let some : (length entries == 0) ≡ false = grind (arith, nat_tests, are.some) in
    let few : nat_lt MOST_ENTRIES (length entries) ≡ false = grind (arith, nat_tests, are.few) in
    let zeros : list_any (λ entry. entry == 0) entries ≡ false = list_any_none (λ entry. entry == 0) entries (λ i d inside.
    let same : get_or entries i d ≡ get_or entries i 0 = get_or_default_zero entries i d inside in
    let least : 1 ≤ get_or entries i 0 = are.least i inside in
    grind (arith, nat_tests)) in
    let large : list_any (λ entry. nat_lt GREATEST_ENTRY entry) entries ≡ false = list_any-AreEntries entries are in
    let end : (slice_index entries (length entries - 1) == 1) ≡ true = rw (are.end) refl in
    rw (some, few, zeros, large, rises-AreEntries entries are, end) refl

else_ok : (t : Bool) (fault : CapsFault) (r : Result (List ℕ) CapsFault) (entries : List ℕ) → cond t (Err fault) r ≡ Ok entries → (t ≡ false) × (r ≡ Ok entries)
else_ok true fault r entries e = absurd (cc e)
else_ok false fault r entries e = (refl, e)

then_ok : (t : Bool) (fault : CapsFault) (found entries : List ℕ) → cond t (Ok found) (Err fault) ≡ Ok entries → (t ≡ true) × (found ≡ entries)
then_ok true fault found entries e = let same : found ≡ entries = cc in (refl, same)
then_ok false fault found entries e = absurd (cc e)

judged-only : (found entries : List ℕ) → judged_entries found ≡ Ok entries → (found ≡ entries) × AreEntries entries
judged-only found entries e =
    let some = else_ok (length found == 0) Empty _ entries e in
    let few = else_ok (nat_lt MOST_ENTRIES (length found)) Long _ entries some.1 in
    let zeros = else_ok (list_any (λ entry. entry == 0) found) Zero _ entries few.1 in
    let large = else_ok (list_any (λ entry. nat_lt GREATEST_ENTRY entry) found) Large _ entries zeros.1 in
    let rising = else_ok (rises found) Rises _ entries large.1 in
    let end = then_ok (slice_index found (length found - 1) == 1) EndNotOne found entries rising.1 in
    let least : 0 < length found = let test : (length found == 0) ≡ false = some.0 in grind (arith, nat_tests) in
    let most : length found ≤ 16 = let test : nat_lt 16 (length found) ≡ false = few.0 in grind (arith, nat_tests) in
    let last : get_or found (length found - 1) 0 ≡ 1 = eqb-true _ 1 end.0 in
    (end.1, subst AreEntries end.1 (AreEntries-from_tests found least most zeros.0 large.0 rising.0 last))

small_from : (entries : List ℕ) → ((i : ℕ) → i < length entries → get_or entries i 0 ≤ GREATEST_ENTRY) → Small entries
small_from [] most = tt
small_from (n ∷ entries) most = (most 0 (omega arith), small_from entries (λ i inside. most (suc i) (omega arith)))

judged-ok : (r : Result (List ℕ) CapsFault) (entries : List ℕ) → judged r ≡ Ok entries → r ≡ Ok entries
judged-ok (Ok found) entries e = ap Ok (ok_same found entries e)
judged-ok (Err fault) entries e = absurd (cc e)

abbrev whole : Read (List ℕ) → Read (List ℕ)
whole r = r >>= λ numbers. judged (judged_entries numbers)

entries_back : (entries : List ℕ) → AreEntries entries → entries_in (byte_serialize (entries_text entries)) ≡ Ok entries
entries_back [] are = let some : 1 ≤ 0 = are.some in absurd (omega arith)
entries_back (n ∷ entries) are =
    let small = small_from (n ∷ entries) are.most in
    ap entries_in (spaced (n ∷ entries) small) ∙ ap (λ words. whole (numbers_in words)) (parted n entries small)
    ∙ ap whole (numbers_back (n ∷ entries) small) ∙ ap judged (judged-are (n ∷ entries) are)

entries_only : (value entries : List ℕ) → entries_in value ≡ Ok entries → (value ≡ byte_serialize (entries_text entries)) × AreEntries entries
entries_only value entries e =
    let found = bind-ok (numbers_in (slice_split is_plus value)) (λ numbers. judged (judged_entries numbers)) entries e in
    let are = judged-only found.0 entries (judged-ok (judged_entries found.0) entries found.2) in
    let is = numbers_only (slice_split is_plus value) entries (found.1 ∙ ap Ok are.0) in
    (sym (join_with_byte-slice_split 43 value) ∙ ap (join_with_byte 43) is.0 ∙ sym (spaced entries is.1), are.1)

pub reads_entries : Reads (List ℕ) entries_in entries_text AreEntries
reads_entries = record { back = entries_back; only = entries_only }
