-- For this crate's own functions: a text up to the first byte that markup is made of, and from it on.
use Rattle.std.specs.Prelude.{ℕ, List, drop}
use Rattle.std.specs.List.{prefix_len}
use Rattle.markup.specs.Escapes.{is_plain}

abbrev pub behind_plain : List ℕ → List ℕ
behind_plain text = drop (prefix_len is_plain text) text
