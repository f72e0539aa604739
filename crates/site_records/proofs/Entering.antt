-- The entries of a table.
use Rattle.std.proofs.Common.{append_assoc, length-append, cond, true, false, nat_lt, Ok, Err, ◌≡◌, ℕ, ◌+◌, ◌<◌, Bool, List, [], ◌∷◌, ◌++◌, length, take, drop, map, refl, sym, ap, ◌∙◌, arith, decimal, ◌==◌}
use Rattle.std.specs.List.{join_with_byte, flat_map, slice_split, position_or_len}
use Rattle.std.proofs.lemmas.List.{append-nil}
use Rattle.std.proofs.lemmas.List.Sums.{fails_before_first}
use Rattle.std.proofs.lemmas.List.Splits.{slice_split_none, slice_split_first}
use Rattle.std.proofs.Math.Seq.{take-length}
use Rattle.trust_types.specs.declared.limits.TheConstants.{GREATEST_ENTRY, MOST_ENTRIES}
use Rattle.trust_types.specs.Tables.{judged_entries}
use Rattle.site_records.specs.declared.faults.RowFault.TheVariants.{NotARow}
use Rattle.site_records.specs.inner.Reading.{Read, ◌>>=◌, number_in, numbers_in, entries_in, judged}
use Rattle.site_records.specs.declared.faults.RowFault.{RowFault}
use Rattle.site_records.proofs.Steps.{given, refused}
use Rattle.std.proofs.lemmas.Bool.Decides.{nat_tests}

joined : (word : List ℕ) (numbers : List ℕ) → join_with_byte 32 (word ∷ map decimal numbers) ≡ word ++ flat_map (λ n. 32 ∷ decimal n) numbers
joined word [] = sym (append-nil word)
joined word (n ∷ numbers) = ap (λ others. word ++ 32 ∷ others) (joined (decimal n) numbers)

pub entries_done : (text first whole : List ℕ) (n : ℕ) (entry : ℕ) (others : List ℕ) → first ≡ [] ++ decimal entry →
    text ≡ first ++ flat_map (λ n. 32 ∷ decimal n) (take n others) → n ≡ length others → whole ≡ entry ∷ others → text ≡ join_with_byte 32 (map decimal whole)
entries_done text first whole n entry others begun is all cut =
    is ∙ ap (λ front. front ++ flat_map (λ n. 32 ∷ decimal n) (take n others)) begun
    ∙ ap (λ ns. decimal entry ++ flat_map (λ n. 32 ∷ decimal n) ns) (rw all (take-length others))
    ∙ sym (joined (decimal entry) others) ∙ ap (λ es. join_with_byte 32 (map decimal es)) (sym cut)

abbrev pub is_plus : ℕ → Bool
is_plus b = b == 43

pub cut-none : (xs : List ℕ) (n : ℕ) → n ≡ position_or_len is_plus xs → n ≡ length xs → slice_split is_plus xs ≡ xs ∷ []
cut-none xs n place all =
    let end : position_or_len is_plus xs ≡ length xs = omega arith in
    slice_split_none is_plus xs (λ k d l. fails_before_first is_plus xs k d (omega arith))

pub cut-some : (xs rest : List ℕ) (n : ℕ) → n ≡ position_or_len is_plus xs → n < length xs → rest ≡ drop (n + 1) xs → slice_split is_plus xs ≡ take n xs ∷ slice_split is_plus rest
cut-some xs rest n place inside behind =
    let lt : position_or_len is_plus xs < length xs = omega arith in
    let place' : position_or_len is_plus xs ≡ n = sym place in
    let tail : drop (position_or_len is_plus xs + 1) xs ≡ rest = ap (λ m. drop (m + 1) xs) place' ∙ sym behind in
    slice_split_first is_plus xs 0 lt ∙ (λ i. take (place' i) xs ∷ slice_split is_plus (tail i))

-- Numbers, and those that are read after them.
abbrev pub after : List ℕ → Read (List ℕ) → Read (List ℕ)
after front (Ok numbers) = Ok (front ++ numbers)
after front (Err e) = Err e

after-none : (r : Read (List ℕ)) → after [] r ≡ r
after-none (Ok numbers) = refl
after-none (Err e) = refl

after-cons : (front : List ℕ) (n : ℕ) (r : Read (List ℕ)) → after front (r >>= λ ns. Ok (n ∷ ns)) ≡ after (front ++ n ∷ []) r
after-cons front n (Ok numbers) = ap Ok (sym (append_assoc front (n ∷ []) numbers))
after-cons front n (Err e) = refl

numbers_in-first : (value : List ℕ) (values : List (List ℕ)) (r : Read ℕ) (n : ℕ) → number_in GREATEST_ENTRY value ≡ Ok n →
    numbers_in (value ∷ values) ≡ (numbers_in values >>= λ ns. Ok (n ∷ ns))
numbers_in-first value values r n e = rw e refl

pub entered_more : (front new value : List ℕ) (values pieces : List (List ℕ)) (whole : Read (List ℕ)) (n : ℕ) → after front (numbers_in pieces) ≡ whole → pieces ≡ value ∷ values →
    Ok n ≡ number_in GREATEST_ENTRY value → new ≡ front ++ n ∷ [] → after new (numbers_in values) ≡ whole
entered_more front new value values pieces whole n before cut is grown =
    ap (λ f. after f (numbers_in values)) grown ∙ sym (after-cons front n (numbers_in values))
    ∙ ap (after front) (sym (numbers_in-first value values (Ok n) n (sym is))) ∙ ap (λ ps. after front (numbers_in ps)) (sym cut) ∙ before

-- A step that fails finds that the bytes are no row.
cons_refused : (t : Bool) (n : ℕ) (r : Read (List ℕ)) → ((e : RowFault) → r ≡ Err e → e ≡ NotARow) →
    (e : RowFault) → (cond t (given n) refused >>= λ n. r >>= λ ns. Ok (n ∷ ns)) ≡ Err e → e ≡ NotARow
cons_refused false n r only e h = cc
cons_refused true n (Ok ns) only e h = absurd (cc h)
cons_refused true n (Err d) only e h = only e h

-- Too many entries are none of a table.
judged-long : (entries : List ℕ) → 16 < length entries → judged (judged_entries entries) ≡ refused
judged-long entries long =
    let some : (length entries == 0) ≡ false = grind (arith, nat_tests) in
    let many : nat_lt MOST_ENTRIES (length entries) ≡ true = grind (arith, nat_tests) in
    rw (some, many) refl

long_by : (front : List ℕ) (r : Read (List ℕ)) (n : ℕ) → length front ≡ 16 → ((e : RowFault) → r ≡ Err e → e ≡ NotARow) →
    (after front (r >>= λ ns. Ok (n ∷ ns)) >>= λ ns. judged (judged_entries ns)) ≡ refused
long_by front (Ok ns) n full only = judged-long (front ++ n ∷ ns) (simp length-append (omega (arith, full)))
long_by front (Err e) n full only = ap Err (only e refl)

only_refused : (values : List (List ℕ)) (e : RowFault) → numbers_in values ≡ Err e → e ≡ NotARow
only_refused [] e h = absurd (cc h)
only_refused (value ∷ values) e h = cons_refused _ _ (numbers_in values) (only_refused values) e h

pub entered_many : (front value whole : List ℕ) (values pieces : List (List ℕ)) (n : ℕ) → after front (numbers_in pieces) ≡ numbers_in (slice_split is_plus whole) → pieces ≡ value ∷ values →
    Ok n ≡ number_in GREATEST_ENTRY value → length front ≡ 16 → entries_in whole ≡ refused
entered_many front value whole values pieces n before cut is full =
    ap (λ r. r >>= λ ns. judged (judged_entries ns)) (sym before ∙ ap (λ ps. after front (numbers_in ps)) cut ∙ ap (after front) (numbers_in-first value values (Ok n) n (sym is)))
    ∙ long_by front (numbers_in values) n full (only_refused values)

pub entered_none : (front value whole : List ℕ) (values pieces : List (List ℕ)) (e : RowFault) → after front (numbers_in pieces) ≡ numbers_in (slice_split is_plus whole) → pieces ≡ value ∷ values →
    Err e ≡ number_in GREATEST_ENTRY value → entries_in whole ≡ Err e
entered_none front value whole values pieces e before cut is =
    let none : numbers_in (value ∷ values) ≡ Err e = rw (sym is) refl in
    ap (λ r. r >>= λ ns. judged (judged_entries ns)) (sym before ∙ ap (λ ps. after front (numbers_in ps)) cut ∙ ap (after front) none)

pub entered_all : (front whole : List ℕ) (pieces : List (List ℕ)) → after front (numbers_in pieces) ≡ numbers_in (slice_split is_plus whole) → pieces ≡ [] →
    entries_in whole ≡ judged (judged_entries front)
entered_all front whole pieces before cut =
    ap (λ r. r >>= λ ns. judged (judged_entries ns)) (sym before ∙ ap (λ ps. after front (numbers_in ps)) cut) ∙ ap (λ f. judged (judged_entries f)) (append-nil front)
