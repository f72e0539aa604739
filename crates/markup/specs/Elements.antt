-- The elements and links that a text may have, as they are written.
use Rattle.std.specs.Prelude.{ℕ, Bool, List, [], ◌∷◌, ◌++◌, ◌==◌, codes}
use Rattle.std.specs.List.{list_any}
use Rattle.markup.specs.Escapes.{escaped}
use Rattle.markup.specs.declared.elements.Element.{Element}
use Rattle.markup.specs.declared.elements.Element.TheVariants.{A, B, I, Em, Strong, Tt, Code, Pre, P, Blockquote, Ul, Ol, Li}
use Rattle.markup.specs.declared.elements.Page.{Page}
use Rattle.markup.specs.declared.elements.Page.TheVariants.{Person, Project}

abbrev pub name_of : Element → List ℕ
name_of A = codes "a"
name_of B = codes "b"
name_of I = codes "i"
name_of Em = codes "em"
name_of Strong = codes "strong"
name_of Tt = codes "tt"
name_of Code = codes "code"
name_of Pre = codes "pre"
name_of P = codes "p"
name_of Blockquote = codes "blockquote"
name_of Ul = codes "ul"
name_of Ol = codes "ol"
name_of Li = codes "li"

-- The elements that are written without an attribute.
abbrev pub bare : List Element
bare = B ∷ I ∷ Em ∷ Strong ∷ Tt ∷ Code ∷ Pre ∷ P ∷ Blockquote ∷ Ul ∷ Ol ∷ Li ∷ []

unfoldable pub start_tag : Element → List ℕ
start_tag x = codes "<" ++ name_of x ++ codes ">"

unfoldable pub end_tag : Element → List ℕ
end_tag x = codes "</" ++ name_of x ++ codes ">"

-- An element's place in its type, by which it is told from the others.
abbrev pub place_of : Element → ℕ
place_of A = 0
place_of B = 1
place_of I = 2
place_of Em = 3
place_of Strong = 4
place_of Tt = 5
place_of Code = 6
place_of Pre = 7
place_of P = 8
place_of Blockquote = 9
place_of Ul = 10
place_of Ol = 11
place_of Li = 12

unfoldable pub is_same : Element → Element → Bool
is_same x y = place_of x == place_of y

-- Whether an element is among those that are open.
abbrev pub is_open : Element → List Element → Bool
is_open x opened = list_any (is_same x) opened

-- The word for a kind of page, in texts and in paths.
abbrev pub page_word : Page → List ℕ
page_word Person = codes "person"
page_word Project = codes "project"

-- The tag behind a name in a text.
unfoldable pub page_end : Page → List ℕ
page_end page = codes "</" ++ page_word page ++ codes ">"

-- A link to the page of a name.
unfoldable pub link : Page → List ℕ → List ℕ
link page name = codes "<a href=\"/" ++ page_word page ++ codes "/" ++ name ++ codes "\">" ++ name ++ codes "</a>"

-- The start tag of an a with this URL.
unfoldable pub anchor_tag : List ℕ → List ℕ
anchor_tag url = codes "<a href=\"" ++ escaped url ++ codes "\">"
