-- A number and the value that is its decimal text.
use Rattle.std.proofs.Common.{◌≡◌, ℕ, ◌<◌, ◌≤◌, ◌^◌, Bool, true, false, ◌&&◌, nat_le, List, Option, Some, None, Ok, Err, refl, sym, ap, arith, rules, decimal}
use Rattle.std.specs.Char.{is_ascii_digit}
use Rattle.std.specs.List.{list_all}
use Rattle.std.specs.Str.{bytes_eq}
use Rattle.std.specs.Str.Parse.{digits_value}
use Rattle.std.proofs.lemmas.Bool.{and_parts}
use Rattle.std.proofs.lemmas.Bool.Decides.{nat_tests}
use Rattle.std.proofs.lemmas.Fmt.{digits_value-decimal}
use Rattle.std.proofs.lemmas.Slice.Eq.{bytes_eq-Decides}
use Rattle.std.proofs.lemmas.Str.Parse.{IsNumeralModel, numerals_by_value}
use Rattle.site_records.specs.declared.faults.RowFault.TheVariants.{NotARow}
use Rattle.site_records.specs.inner.Reading.{number_in}
use Rattle.site_records.proofs.Steps.{if-ok, if-err}

pub own : IsNumeralModel (λ ds. list_all is_ascii_digit ds ≡ true) (digits_value 10)
own = numerals_by_value _ (search rules)

abbrev test : ℕ → ℕ → List ℕ → Bool
test most n value = bytes_eq (decimal n) value && nat_le n most

holds : (most n : ℕ) (value : List ℕ) → value ≡ decimal n → n ≤ most → test most n value ≡ true
holds most n value is within =
    let same : bytes_eq (decimal n) value ≡ true = (bytes_eq-Decides (decimal n) value).1 (sym is) in
    let most' : nat_le n most ≡ true = grind (arith, nat_tests) in
    rw (same, most') refl

told : (most n : ℕ) (value : List ℕ) → test most n value ≡ true → (value ≡ decimal n) × (n ≤ most)
told most n value e =
    let parts = and_parts (bytes_eq (decimal n) value) (nat_le n most) e in
    let most' : nat_le n most ≡ true = parts.1 in
    (sym ((bytes_eq-Decides (decimal n) value).0 parts.0), grind (arith, nat_tests))

pub number_in-decimal : (most n : ℕ) → n ≤ most → n < 2 ^ 64 → number_in most (decimal n) ≡ Ok n
number_in-decimal most n within small =
    let value : digits_value 10 (decimal n) ≡ n = digits_value-decimal own n small in
    rw (value, holds most n (decimal n) refl within) refl

pub number_in-ok : (most n : ℕ) (value : List ℕ) → number_in most value ≡ Ok n → (value ≡ decimal n) × (n ≤ most)
number_in-ok most n value e =
    let d = digits_value 10 value in
    let parts = if-ok (test most d value) d n e in
    let is = told most d value parts.0 in
    rw (← parts.1) is

pub number_none : (most : ℕ) (value : List ℕ) (r : Option ℕ) → most < 2 ^ 64 → ((n : ℕ) → n < 2 ^ 64 → value ≡ decimal n → r ≡ Some n) → r ≡ None →
    number_in most value ≡ Err NotARow
number_none most value r small found none =
    let d = digits_value 10 value in
    if-err (test most d value) d (λ e. let is = told most d value e in cc (found d (omega (arith, is.1)) is.0, none))

pub number_some : (most n : ℕ) (value : List ℕ) (r : Option ℕ) → most < 2 ^ 64 → ((n : ℕ) → n < 2 ^ 64 → value ≡ decimal n → r ≡ Some n) → r ≡ Some n →
    test most n value ≡ true → number_in most value ≡ Ok n
number_some most n value r small found some e =
    let is = told most n value e in
    rw is.0 (number_in-decimal most n is.1 (omega (arith, is.1)))

pub number_other : (most n : ℕ) (value : List ℕ) (r : Option ℕ) → most < 2 ^ 64 → ((n : ℕ) → n < 2 ^ 64 → value ≡ decimal n → r ≡ Some n) → r ≡ Some n →
    test most n value ≡ false → number_in most value ≡ Err NotARow
number_other most n value r small found some e =
    let d = digits_value 10 value in
    if-err (test most d value) d
    (λ so. let is = told most d value so in let same : d ≡ n = cc (found d (omega (arith, is.1)) is.0, some) in cc (sym e, ap (λ m. test most m value) same, so))
