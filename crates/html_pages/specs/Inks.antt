-- What a pen holds: the text that it wrote or, where it only counts, how many bytes that has.
use Rattle.std.specs.Prelude.{ℕ, ◌+◌, List, [], ◌++◌, length}
use Rattle.html_pages.specs.declared.pens.Ink.{Ink as Kept}
use Rattle.html_pages.specs.declared.pens.Ink.TheVariants as kept

pub data Ink : Type 0 where
  Counted : ℕ → Ink
  Written : List ℕ → Ink

abbrev pub seen : Kept → Ink
seen (kept.Counted n) = Counted n
seen (kept.Written text) = Written text.items

-- With these bytes more.
unfoldable pub inked : Ink → List ℕ → Ink
inked (Counted n) bytes = Counted (n + length bytes)
inked (Written text) bytes = Written (text ++ bytes)

abbrev pub amount : Ink → ℕ
amount (Counted n) = n
amount (Written text) = length text

-- What it wrote.
abbrev pub text_of : Ink → List ℕ
text_of (Counted n) = []
text_of (Written text) = text
