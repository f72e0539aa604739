-- Values of letters and digits stand for themselves.
use Rattle.std.proofs.Common.{refl, IsAscii}
use Rattle.std.proofs.lemmas.Str.Ascii.{IsAscii-from_all}
use Rattle.std.proofs.lemmas.List.Sums.{AllPass-from_list_all}
use Rattle.std.proofs.lemmas.Bool.{ltb-true}
use Rattle.hex.specs.Hex.{lower_digits}
use Rattle.std.specs.Prelude.{nat_lt}

pub IsAscii-lower_digits : IsAscii lower_digits
IsAscii-lower_digits = IsAscii-from_all lower_digits (λ k d inside. ltb-true _ _ (AllPass-from_list_all (λ b. nat_lt b 128) lower_digits refl k d inside))
