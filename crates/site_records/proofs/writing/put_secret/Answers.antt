use Rattle.std.proofs.Common.{subst, sym}
use Rattle.std.specs.Str.{IsUtf8}
use Rattle.std.proofs.lemmas.Str.{IsUtf8-from_ascii}
use Rattle.hex.specs.Hex.{lower_digits}
use Rattle.hex.proofs.HexLemmas.{IsAscii-encode_with}
use Rattle.site_records.proofs.Spelled.{IsAscii-lower_digits}
use Rattle.site_records.proofs.writing.put_secret.Goals as goal

pub from_utf8_unchecked-text-requires : goal.from_utf8_unchecked-text-requires
from_utf8_unchecked-text-requires c =
    subst IsUtf8 (sym c.digits_of-digits.ensures) (IsUtf8-from_ascii _ (IsAscii-encode_with lower_digits c.in-Digest.digest IsAscii-lower_digits))
