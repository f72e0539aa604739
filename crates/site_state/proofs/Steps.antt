-- The steps of a command that the certificates accepted.
use Rattle.std.proofs.Common.{◌≡◌, ℕ, Bool, true, false, List, Option, Some, None, Ok, Err, refl}
use Rattle.std.specs.Option.{ok_or}
use Rattle.trust_types.specs.Names.{is_name}
use Rattle.cert_book.specs.declared.judging.CertFault.TheVariants.{BadName, NoSuchAccount}
use Rattle.cert_book.specs.Books.{Book}
use Rattle.cert_book.specs.Judged.{◌>>=◌, Judged, fault_unless, judged_name, judged_join}

ended : {A : Type 0} (r : Judged) (y : A) (z : A) → (r >>= (λ _. Ok y)) ≡ Ok z → r ≡ Ok tt
ended (Ok u) y z is = refl
ended (Err fault) y z is = absurd (cc)

pub join_name : (b : Book) (word a : List ℕ) → judged_join b word ≡ Ok a → judged_name b word ≡ Ok tt
join_name b word a is = by_form (is_name word) (judged_name b word) is
  where
    by_form : (t : Bool) (r : Judged) → (fault_unless t BadName >>= (λ _. (r >>= (λ _. Ok word)))) ≡ Ok a → r ≡ Ok tt
    by_form false r e = absurd (cc)
    by_form true r e = ended r word a e

abbrev pub Found : Option ℕ → (ℕ → Judged) → Type 0
Found found f = (n : ℕ) × (found ≡ Some n) × (f n ≡ Ok tt)

pub found_step : (found : Option ℕ) (f : ℕ → Judged) (a : ℕ) → (ok_or found NoSuchAccount >>= (λ n. (f n >>= (λ _. Ok n)))) ≡ Ok a → Found found f
found_step None f a is = absurd (cc)
found_step (Some n) f a is = (n, refl, ended (f n) n a is)
