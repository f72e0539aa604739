-- A name's spread key tells it from every other name.
use Rattle.std.proofs.Common.{ℕ, ◌≡◌, ◌<◌, ◌*◌, ◌%◌, ◌^◌, List, sym, ap, ◌∙◌}
use Rattle.std.proofs.lemmas.Nat.{mul-mod_first, mul-mod_second}
use Rattle.std.proofs.Math.Nat.{mod-eq_of_lt, mul-one, mul_assoc}
use Rattle.trust_types.specs.Names.{IsName, name_key}
use Rattle.trust_types.proofs.NameKeys.{same_from_keys, key_fits}
use Rattle.name_index.specs.inner.Indexes.{spread_key}
use Rattle.name_index.specs.declared.index.TheConstants.{SPREAD}

-- The number that undoes the spreading: times the other it is 1 modulo 2 ^ 128.
abbrev GATHER : ℕ
GATHER = 10455382779074951524300553632856583309

gathered : (key : ℕ) → key < 2 ^ 128 → key * SPREAD % 2 ^ 128 * GATHER % 2 ^ 128 ≡ key
gathered key fits =
    mul-mod_first (key * SPREAD) GATHER (2 ^ 128) ∙ ap (λ (n : ℕ). n % 2 ^ 128) (mul_assoc key SPREAD GATHER)
    ∙ sym (mul-mod_second key (SPREAD * GATHER) (2 ^ 128)) ∙ ap (λ (n : ℕ). n % 2 ^ 128) (mul-one key) ∙ mod-eq_of_lt fits

-- Names with the same spread key are the same.
pub same_from_spread_keys : (a b : List ℕ) → IsName a → IsName b → spread_key a ≡ spread_key b → a ≡ b
unfolding spread_key
same_from_spread_keys a b a_is b_is same =
    same_from_keys a b a_is b_is (sym (gathered (name_key a) (key_fits a a_is)) ∙ ap (λ (n : ℕ). n * GATHER % 2 ^ 128) same ∙ gathered (name_key b) (key_fits b b_is))
