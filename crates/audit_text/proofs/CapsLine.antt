-- A site's first line is read as its table's entries.
use Rattle.std.proofs.Common.{◌≡◌, ℕ, ◌-◌, ◌≤◌, true, false, List, [], ◌∷◌, length, get_or, Ok, All, refl, arith, nat_lt, map, codes, decimal, ◌==◌}
use Rattle.std.specs.List.{list_any, join_with_byte}
use Rattle.std.proofs.lemmas.Bool.Decides.{nat_tests}
use Rattle.std.specs.Str.{bytes_eq}
use Rattle.std.proofs.lemmas.Fmt.{decimal_digit}
use Rattle.std.proofs.lemmas.Grind.{get_or_default_zero}
use Rattle.std.proofs.lemmas.List.Elements.{All-head, All-tail}
use Rattle.std.proofs.lemmas.List.Folds.{list_any_none}
use Rattle.trust_types.specs.Tables.{AreEntries, judged_entries}
use Rattle.trust_types.proofs.TableTests.{list_any-AreEntries, rises-AreEntries}
use Rattle.text_lines.proofs.Decimals.{number-decimal}
use Rattle.text_lines.proofs.Joining.{words-join, is_line-join}
use Rattle.site_lines.specs.Site.{numbers, judged, entries_in, caps_line}
use Rattle.audit_text.specs.inner.Writing.{entries_words}
use Rattle.audit_text.proofs.Wording.{IsSmall, small-AreEntries, IsWorded, entries-worded}

numbers-decimals : (entries : List ℕ) → All IsSmall entries → numbers (map decimal entries) ≡ Ok entries
numbers-decimals [] small = refl
numbers-decimals (n ∷ entries) small =
    rw (number-decimal n (All-head IsSmall n entries small), numbers-decimals entries (All-tail IsSmall n entries small)) refl

judged_entries-AreEntries : (entries : List ℕ) → AreEntries entries → judged_entries entries ≡ Ok entries
judged_entries-AreEntries entries is =
    let some : (length entries == 0) ≡ false = grind (arith, nat_tests, is.some) in
    let few : nat_lt 16 (length entries) ≡ false = grind (arith, nat_tests, is.few) in
    let zeros : list_any (λ entry. entry == 0) entries ≡ false = list_any_none (λ entry. entry == 0) entries (λ k d inside.
    let same : get_or entries k d ≡ get_or entries k 0 = get_or_default_zero entries k d inside in
    let least : 1 ≤ get_or entries k 0 = is.least k inside in
    grind (arith, nat_tests)) in
    let end : (get_or entries (length entries - 1) 0 == 1) ≡ true = grind (arith, nat_tests, is.end) in
    rw (some, few, zeros, list_any-AreEntries entries is, rises-AreEntries entries is, end) refl

judged-AreEntries : (entries : List ℕ) → AreEntries entries → judged entries ≡ Ok entries
judged-AreEntries entries is = rw (judged, judged_entries-AreEntries entries is) refl

-- The words behind `caps`; a single entry is 1, whose word isn't `default`.
entries_in-decimals : (entries : List ℕ) → AreEntries entries → entries_in (map decimal entries) ≡ Ok entries
entries_in-decimals [] is = absurd (omega (arith, is.some))
entries_in-decimals (n ∷ []) is =
    let one : n ≡ 1 = is.end in
    let other : bytes_eq (decimal n) (codes "default") ≡ false = rw (one, decimal_digit 1 (omega arith)) refl in
    rw (other, numbers-decimals (n ∷ []) (small-AreEntries (n ∷ []) is)) (judged-AreEntries (n ∷ []) is)
entries_in-decimals (n ∷ m ∷ entries) is =
    rw (numbers-decimals (n ∷ m ∷ entries) (small-AreEntries (n ∷ m ∷ entries) is)) (judged-AreEntries (n ∷ m ∷ entries) is)

pub caps_line-words : (entries : List ℕ) → AreEntries entries → caps_line (join_with_byte 32 (entries_words entries)) ≡ Ok entries
unfolding caps_line
caps_line-words entries is =
    let each : IsWorded (entries_words entries) = entries-worded entries is in
    rw (is_line-join (entries_words entries) (omega arith) each, words-join (entries_words entries) (omega arith) each) (entries_in-decimals entries is)
