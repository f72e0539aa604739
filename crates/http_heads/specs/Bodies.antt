-- How long the body of a request is, and which heads ask for a body that isn't taken.
use Rattle.std.specs.Prelude.{ℕ, Bool, not, List, [], ◌∷◌, length, Option, Some, None, Result, Ok, ◌==◌, ◌&&◌, ◌||◌, nat_le, nat_lt, if◌then◌else◌, codes}
use Rattle.std.specs.Char.{is_ascii_digit}
use Rattle.std.specs.List.{list_any, list_all}
use Rattle.std.specs.Option.{ok_or}
use Rattle.std.specs.Str.{str_eq_ignore_ascii_case}
use Rattle.std.specs.Str.Parse.{digits_value}
use Rattle.http_heads.specs.Heads.{Head}
use Rattle.http_heads.specs.Fields.{values_of}
use Rattle.http_heads.specs.Refusals.{◌>>=◌, refused_if}

-- How many fields have that name.
abbrev pub count_of : Head → List ℕ → ℕ
count_of head name = length (values_of name head.fields)

-- There is more than one Host field, or the version is 1.1 and there is none (RFC 9112, section 3.2).
abbrev pub has_wrong_hosts : Head → Bool
has_wrong_hosts head = nat_lt 1 (count_of head (codes "host")) || (head.minor == 1 && count_of head (codes "host") == 0)

-- 1 to 10 digits.
abbrev pub is_length : List ℕ → Bool
is_length value = nat_le 1 (length value) && nat_le (length value) 10 && list_all is_ascii_digit value

-- The length that the Content-Length fields state: 0 where there is none; `None` where there are several, or the one is no length.
abbrev pub stated_length : List (List ℕ) → Option ℕ
stated_length [] = Some 0
stated_length (value ∷ []) = if is_length value then Some (digits_value 10 value) else None
stated_length (value ∷ other ∷ more) = None

-- Codings are compared without regard to ASCII case (RFC 9110, section 8.4.1).
abbrev pub is_identity : List ℕ → Bool
is_identity value = str_eq_ignore_ascii_case value (codes "identity")

-- Whether the body is encoded: there is a Content-Encoding field other than `identity`.
abbrev pub is_encoded : Head → Bool
is_encoded head = list_any (λ value. not (is_identity value)) (values_of (codes "content-encoding") head.fields)

-- The length of the body that a head announces, or the status of the refusal. The first step that refuses decides.
abbrev pub body_length : Head → Result ℕ ℕ
body_length head = do
  _ ← refused_if (has_wrong_hosts head) 400
  _ ← refused_if (nat_lt 0 (count_of head (codes "transfer-encoding"))) 501
  n ← ok_or (stated_length (values_of (codes "content-length") head.fields)) 400
  _ ← refused_if (nat_lt 65536 n) 413
  _ ← refused_if (nat_lt 0 n && is_encoded head) 400
  Ok n
