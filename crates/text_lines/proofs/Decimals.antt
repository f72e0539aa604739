-- A number's own text is a word, and reads back as the number.
use Rattle.std.proofs.Common.{◌≡◌, ℕ, zero, suc, ◌<◌, ◌^◌, Bool, true, false, not, ◌||◌, nat_eq, nat_le, nat_lt, List, [], ◌∷◌, Some, length, get_or, refl, arith, rules}
use Rattle.std.specs.Prelude.{decimal, slice_index, ◌==◌}
use Rattle.std.specs.Char.{is_ascii_digit}
use Rattle.std.specs.List.{list_all}
use Rattle.std.specs.Str.Parse.{digits_value}
use Rattle.std.proofs.lemmas.Bool.Decides.{nat_tests}
use Rattle.std.proofs.lemmas.Fmt.{digits_decimal, digits_value-decimal, decimal_nonempty, decimal_digit, first_decimal, length-decimal-le}
use Rattle.std.proofs.lemmas.Str.Parse.{IsNumeralModel, numerals_by_value}
use Rattle.text_lines.specs.Numbers.{number, is_numeral}
use Rattle.text_lines.specs.Words.{is_word, is_graphic}

own : IsNumeralModel (λ ds. list_all is_ascii_digit ds ≡ true) (digits_value 10)
own = numerals_by_value _ (search rules)

-- the only number whose text begins with 0 is 0
plain_front : (n : ℕ) → n < 2 ^ 64 → (length (decimal n) == 1 || not (slice_index (decimal n) 0 == 48)) ≡ true
plain_front zero small = rw (decimal_digit 0 (omega arith)) refl
plain_front (suc n) small =
    let first : 48 < get_or (decimal (suc n)) 0 0 = first_decimal (suc n) (omega arith) small in
    let other : nat_eq (get_or (decimal (suc n)) 0 0) 48 ≡ false = grind (arith, nat_tests) in
    front (length (decimal (suc n)) == 1) _ other
  where
    front : (one zero_first : Bool) → zero_first ≡ false → (one || not zero_first) ≡ true
    front true b e = refl
    front false b e = rw e refl

pub is_numeral-decimal : (most n : ℕ) → 0 < most → n < 10 ^ most → n < 2 ^ 64 → is_numeral most (decimal n) ≡ true
is_numeral-decimal most n some fits small =
    let least : nat_le 1 (length (decimal n)) ≡ true = grind (arith, nat_tests, decimal_nonempty n small) in
    let few : nat_le (length (decimal n)) most ≡ true = grind (arith, nat_tests, length-decimal-le most n some fits small) in
    rw (least, few, digits_decimal own n small, plain_front n small) refl

pub number-decimal : (n : ℕ) → n < 2 ^ 32 → number (decimal n) ≡ Some n
unfolding number
number-decimal n small =
    let form : is_numeral 10 (decimal n) ≡ true = is_numeral-decimal 10 n (omega arith) (omega arith) (omega arith) in
    let value : digits_value 10 (decimal n) ≡ n = digits_value-decimal own n (omega arith) in
    let most : nat_le n 4294967295 ≡ true = grind (arith, nat_tests) in
    rw (form, value, most) refl

graphic_digit : (byte : ℕ) → is_ascii_digit byte ≡ true → is_graphic byte ≡ true
graphic_digit byte h = grind (arith, nat_tests)

graphic_digits : (ds : List ℕ) → list_all is_ascii_digit ds ≡ true → list_all is_graphic ds ≡ true
graphic_digits [] each = refl
graphic_digits (d ∷ ds) each =
    let first : is_ascii_digit d ≡ true = grind arith in
    let others : list_all is_ascii_digit ds ≡ true = grind arith in
    rw (graphic_digit d first, graphic_digits ds others) refl

pub is_word-decimal : (n : ℕ) → n < 2 ^ 64 → is_word (decimal n) ≡ true
is_word-decimal n small =
    let some : nat_lt 0 (length (decimal n)) ≡ true = grind (arith, nat_tests, decimal_nonempty n small) in
    rw (some, graphic_digits _ (digits_decimal own n small)) refl
