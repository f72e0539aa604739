-- What words stand for in their places.
use Rattle.std.proofs.Common.{◌≡◌, ℕ, ◌<◌, ◌≤◌, ◌^◌, Bool, true, false, List, Result, Ok, Err, length, refl, arith, rules}
use Rattle.std.specs.Char.{is_ascii_digit}
use Rattle.std.specs.List.{list_all}
use Rattle.std.specs.Str.{IsUtf8, is_utf8}
use Rattle.std.specs.Str.Parse.{digits_value, ParsesUnsigned}
use Rattle.std.proofs.lemmas.Bool.Decides.{nat_tests}
use Rattle.std.proofs.lemmas.Str.{is_utf8-from_IsUtf8, IsUtf8-from_is_utf8}
use Rattle.std.proofs.lemmas.Str.Parse.{IsNumeralModel, numerals_by_value, parse_gives, digits_value_short}
use Rattle.percent_encoding.specs.Percent.{percent_decode}
use Rattle.text_lines.specs.Numbers.{is_numeral}
use Rattle.text_lines.specs.declared.faults.TextKind.TheVariants.{BadText}
use Rattle.script_text.specs.Places.{text_in}

own : IsNumeralModel (λ ds. list_all is_ascii_digit ds ≡ true) (digits_value 10)
own = numerals_by_value _ (search rules)

-- A numeral of 12 digits is a number, and no other.
pub parsed : {E : Type 0} (word : List ℕ) (r : Result ℕ E) → ParsesUnsigned 64 10 word r → is_numeral 12 word ≡ true → r ≡ Ok (digits_value 10 word)
parsed word r p e =
    let few : (1 ≤ length word) × (length word ≤ 12) × (list_all is_ascii_digit word ≡ true) = (grind (arith, nat_tests), grind (arith, nat_tests), grind arith) in
    let value : digits_value 10 word < 10 ^ 12 = digits_value_short own word 12 few.2 few.1 in
    parse_gives own 64 word r p few.2 (omega (arith, few.0)) (omega (arith, value))

pub text-utf8 : (word : List ℕ) → IsUtf8 (percent_decode word) → text_in word ≡ Ok (percent_decode word)
text-utf8 word is = rw (is_utf8-from_IsUtf8 (percent_decode word) is) refl

other_by : (word : List ℕ) (b : Bool) → is_utf8 (percent_decode word) ≡ b → ¬ (IsUtf8 (percent_decode word)) → text_in word ≡ Err BadText
other_by word true e not = absurd (not (IsUtf8-from_is_utf8 (percent_decode word) e))
other_by word false e not = rw e refl

pub text-other : (word : List ℕ) → ¬ (IsUtf8 (percent_decode word)) → text_in word ≡ Err BadText
text-other word not = other_by word (is_utf8 (percent_decode word)) refl not
