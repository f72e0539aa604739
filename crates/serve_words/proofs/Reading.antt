-- What std and `clap` tell of a number, as the definitions say it.
use Rattle.std.proofs.Common.{◌≡◌, ℕ, ◌<◌, ◌≤◌, ◌^◌, Bool, true, false, List, Option, Some, None, refl, sym, arith, cond}
use Rattle.std.specs.Str.Parse.{IsNumeral, digits_value, without_leading_plus}
use Rattle.std.proofs.lemmas.Bool.{false_from_ne_true}
use Rattle.clap.specs.ValueTests.{is_unsigned_in}
use Rattle.clap.specs.Values.{Accepts}
use Rattle.clap.specs.declared.builder.value_parser.ValueParser.TheVariants as vp
use Rattle.clap.proofs.ValueTestLemmas.{accepts-Accepts, Accepts-accepts}
use Rattle.serve_words.specs.Plans.{number_within}

chosen : (b : Bool) (n m : ℕ) → b ≡ true → n ≡ m → cond b (Some n) None ≡ Some m
chosen b n m e is = rw (e, is) refl

left_out : (b : Bool) (n : ℕ) → b ≡ false → cond b (Some n) None ≡ None
left_out b n e = rw e refl

tested : (least most : ℕ) (text : List ℕ) → is_unsigned_in least most text ≡ true → Accepts false (vp.Unsigned least most) text
tested least most text e = accepts-Accepts false (vp.Unsigned least most) text e

no_none : (n : ℕ) → Some n ≡ None → ⊥
no_none n e = grind arith

-- A number that was read and lies within the bounds, and one that doesn't.
module _ (least most : ℕ) where
  pub read_within : (t : Option (List ℕ)) (n : ℕ) → (t ≡ None → Some n ≡ None)
      → ((s : List ℕ) → t ≡ Some s → (IsNumeral 10 (without_leading_plus s) × (digits_value 10 (without_leading_plus s) < 2 ^ 32)) × (n ≡ digits_value 10 (without_leading_plus s)))
      → least ≤ n → n ≤ most → number_within least most t ≡ Some n
  read_within None n none value low high = absurd (no_none n (none refl))
  read_within (Some s) n none value low high =
      let read = value s refl in
      let is : n ≡ digits_value 10 (without_leading_plus s) = read.1 in
      let few : digits_value 10 (without_leading_plus s) < 2 ^ 32 = read.0.1 in
      chosen _ _ _ (Accepts-accepts false (vp.Unsigned least most) s (read.0.0, omega arith, omega arith, omega arith)) (sym is)

  pub read_outside : (t : Option (List ℕ)) (n : ℕ)
      → ((s : List ℕ) → t ≡ Some s → (IsNumeral 10 (without_leading_plus s) × (digits_value 10 (without_leading_plus s) < 2 ^ 32)) × (n ≡ digits_value 10 (without_leading_plus s)))
      → (least ≤ n → n ≤ most → ⊥) → number_within least most t ≡ None
  read_outside None n value outside = refl
  read_outside (Some s) n value outside =
      let is : n ≡ digits_value 10 (without_leading_plus s) = (value s refl).1 in
      left_out _ _ (false_from_ne_true _ (λ e.
      let in_it = tested least most s e in
      let low : least ≤ digits_value 10 (without_leading_plus s) = in_it.2 in
      let high : digits_value 10 (without_leading_plus s) ≤ most = in_it.3 in
      outside (omega arith) (omega arith)))

  pub read_none : most < 2 ^ 32 → (t : Option (List ℕ))
      → ((s : List ℕ) → t ≡ Some s → ¬ (IsNumeral 10 (without_leading_plus s) × (digits_value 10 (without_leading_plus s) < 2 ^ 32)))
      → number_within least most t ≡ None
  read_none few None value = refl
  read_none few (Some s) value =
      left_out _ _ (false_from_ne_true _ (λ e.
      let in_it = tested least most s e in
      let high : digits_value 10 (without_leading_plus s) ≤ most = in_it.3 in
      value s refl (in_it.0, omega arith)))
