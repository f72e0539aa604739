-- The session that a request's cookies name.
use Rattle.std.specs.Prelude.{ℕ, Bool, List, [], ◌∷◌, ◌+◌, length, take, drop, Option, Some, None, Result, Ok, Err, ◌==◌, if◌then◌else◌, codes}
use Rattle.std.specs.List.{flat_map, position, slice_split}
use Rattle.std.specs.Str.{bytes_eq}
use Rattle.hex.specs.Hex.{decode_sized}
use Rattle.hex.specs.declared.error.FromHexError.{FromHexError}
use Rattle.trust_types.specs.Names.{is_name}
use Rattle.http_heads.specs.Heads.{Field}
use Rattle.http_heads.specs.Fields.{values_of}

-- Without the spaces at the front.
abbrev pub skip_spaces : List ℕ → List ℕ
skip_spaces [] = []
skip_spaces (byte ∷ bytes) = if byte == 32 then skip_spaces bytes else byte ∷ bytes

-- What follows a front; `None` where the bytes don't begin with it.
abbrev pub after : List ℕ → List ℕ → Option (List ℕ)
after front bytes = if bytes_eq (take (length front) bytes) front then Some (drop (length front) bytes) else None

abbrev pub or_next : {Y : Type 0} → Option Y → Option Y → Option Y
or_next (Some y) next = Some y
or_next None next = next

-- The first answer that some items give.
abbrev pub first_given : {X Y : Type 0} → (X → Option Y) → List X → Option Y
first_given f [] = None
first_given f (x ∷ xs) = or_next (f x) (first_given f xs)

-- A semicolon ends a part.
abbrev pub is_part_end : ℕ → Bool
is_part_end byte = byte == 59

-- What a cookie's part gives as the session's word.
abbrev pub id_in : List ℕ → Option (List ℕ)
id_in part = after (codes "id=") (skip_spaces part)

-- The word of the first part that gives one, over the Cookie fields in order.
abbrev pub id_word : List Field → Option (List ℕ)
id_word fields = first_given id_in (flat_map (slice_split is_part_end) (values_of (codes "cookie") fields))

abbrev pub Session : Type 0
Session = List ℕ × List ℕ

abbrev pub with_token : List ℕ → Result (List ℕ) FromHexError → Option Session
with_token name (Ok token) = Some (name, token)
with_token name (Err fault) = None

-- A name and a token of 32 hexadecimal digits.
abbrev pub session_of : List ℕ → List ℕ → Option Session
session_of name digits = if is_name name then with_token name (decode_sized digits 16) else None

abbrev pub parted : List ℕ → Option ℕ → Option Session
parted word None = None
parted word (Some place) = session_of (take place word) (drop (place + 1) word)

-- A colon parts them.
abbrev pub session_in : List ℕ → Option Session
session_in word = parted word (position (λ byte. byte == 58) word)

abbrev pub session_by : Option (List ℕ) → Option Session
session_by None = None
session_by (Some word) = session_in word

-- The session, where the cookies name one.
abbrev pub session : List Field → Option Session
session fields = session_by (id_word fields)
