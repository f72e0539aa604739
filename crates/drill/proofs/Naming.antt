-- The accounts' names are names, and no two are the same.
use Rattle.std.proofs.Common.{◌≡◌, ℕ, ◌+◌, ◌<◌, ◌≤◌, Option, Some, None, if◌then◌else◌, true, nat_le, List, [], ◌∷◌, ◌++◌, length, get_or, drop, refl, sym, ap, ◌∙◌, arith, rules}
use Rattle.std.specs.Prelude.{decimal}
use Rattle.std.specs.Char.{is_ascii_digit}
use Rattle.std.specs.List.{list_all}
use Rattle.std.specs.Str.Parse.{digits_value}
use Rattle.std.proofs.lemmas.Bool.Decides.{nat_tests}
use Rattle.std.proofs.lemmas.Fmt.{digits_decimal, decimal_injective, length-decimal-le}
use Rattle.std.proofs.lemmas.List.FromFn.{length-map-range_with_len, get_or-map-range_with_len, map-range_with_len_more}
use Rattle.std.proofs.lemmas.Str.Parse.{IsNumeralModel, numerals_by_value}
use Rattle.trust_types.specs.Names.{is_name, is_name_byte}
use Rattle.trust_types.specs.NameLists.{AreApart}
use Rattle.drill.specs.Drill.{name_at, names}

own : IsNumeralModel (λ ds. list_all is_ascii_digit ds ≡ true) (digits_value 10)
own = numerals_by_value _ (search rules)

name_digit : (byte : ℕ) → is_ascii_digit byte ≡ true → is_name_byte byte ≡ true
name_digit byte e = grind (arith, nat_tests)

name_digits : (ds : List ℕ) → list_all is_ascii_digit ds ≡ true → list_all is_name_byte ds ≡ true
name_digits [] e = refl
name_digits (d ∷ ds) e =
    let first : is_ascii_digit d ≡ true = grind arith in
    let others : list_all is_ascii_digit ds ≡ true = grind arith in
    rw (name_digit d first, name_digits ds others) refl

pub is_name-at : (a : ℕ) → a < 2000 → is_name (name_at a) ≡ true
is_name-at a small =
    let few : length (decimal a) ≤ 4 = length-decimal-le 4 a (omega arith) (omega arith) (omega arith) in
    let least : nat_le 1 (length (name_at a)) ≡ true = grind (arith, nat_tests) in
    let most : nat_le (length (name_at a)) 20 ≡ true = grind (arith, nat_tests) in
    rw (least, most, name_digits (decimal a) (digits_decimal own a (omega arith))) refl

pub names-none : names 0 ≡ []
unfolding names
names-none = refl

pub names-more : (n : ℕ) → names (n + 1) ≡ names n ++ name_at n ∷ []
unfolding names
names-more n = map-range_with_len_more name_at 0 n n (omega arith)

pub length-names : (n : ℕ) → length (names n) ≡ n
unfolding names
length-names n = length-map-range_with_len name_at 0 n

get_or-names : (n a : ℕ) (d : List ℕ) → a < n → get_or (names n) a d ≡ name_at a
unfolding names
get_or-names n a d lt = get_or-map-range_with_len name_at 0 n a a d lt (omega arith)

differ : (a b : ℕ) → a < b → b < 2000 → name_at a ≡ name_at b → ⊥
differ a b lt small e = let same : a ≡ b = decimal_injective a b (omega arith) (omega arith) (ap (drop 1) e) in omega arith

pub names-apart : AreApart (names 2000)
names-apart = λ i j d lt within e.
    let small : j < 2000 = omega (arith, within, length-names 2000) in
    differ i j lt small (sym (get_or-names 2000 i d (omega arith)) ∙ e ∙ get_or-names 2000 j d small)

-- So each is read as a name.
pub read-named : (word : List ℕ) (r : Option (List ℕ)) → is_name word ≡ true → r ≡ (if is_name word then Some word else None) → r ≡ None → ⊥
read-named word r named read none =
    let found : r ≡ Some word = rw named at read in
    cc
