-- How text is escaped in HTML.
use Rattle.std.specs.Prelude.{ℕ, Bool, List, ◌∷◌, [], ◌==◌, ◌&&◌, not, if◌then◌else◌, codes}
use Rattle.std.specs.List.{flat_map}

-- What stands for a byte of text: &, <, > and " are escaped, and all else stands as it is.
unfoldable pub escape_of : ℕ → List ℕ
escape_of byte =
    if byte == 38 then codes "&amp;" else
    if byte == 60 then codes "&lt;" else
    if byte == 62 then codes "&gt;" else
    if byte == 34 then codes "&quot;" else byte ∷ []

-- A text escaped, for a place in a page or in an attribute.
abbrev pub escaped : List ℕ → List ℕ
escaped text = flat_map escape_of text

-- Whether a byte is none of these four.
abbrev pub is_plain : ℕ → Bool
is_plain byte = not (byte == 38) && not (byte == 60) && not (byte == 62) && not (byte == 34)
