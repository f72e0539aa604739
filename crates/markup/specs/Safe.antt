-- Safe markup: a grammar by cases on nested text, over the bytes that a browser reads. It knows nothing of the rules by which text is
-- cleaned.
use Rattle.std.specs.Prelude.{ℕ, suc, Bool, true, false, List, [], ◌++◌, ◌≡◌, Contains, IsTrue, encode_utf8, codes}
use Rattle.std.specs.Char.{IsScalar}
use Rattle.std.specs.Str.{IsUtf8}
use Rattle.trust_types.specs.Names.{IsName}
use Rattle.markup.specs.declared.elements.Element.{Element}
use Rattle.markup.specs.declared.elements.Element.TheVariants.{A}
use Rattle.markup.specs.declared.elements.Page.{Page}
use Rattle.markup.specs.Elements.{bare, start_tag, end_tag, link, anchor_tag}
use Rattle.markup.specs.Escapes.{is_plain, escape_of}
use Rattle.markup.specs.Urls.{is_url}

-- Safe text: whether an a is around it, how many elements may yet nest in it, and its bytes.
pub data IsSafe : Bool → ℕ → List ℕ → Type 0 where
  -- no text
  Empty : {in_anchor : Bool} {room : ℕ} → IsSafe in_anchor room []
  -- a character other than &, <, > and "
  Character : {in_anchor : Bool} {room : ℕ} {text : List ℕ} → (c : ℕ) → IsScalar c → is_plain c ≡ true →
      IsSafe in_anchor room text → IsSafe in_anchor room (encode_utf8 c ++ text)
  -- one of these four, escaped
  Escape : {in_anchor : Bool} {room : ℕ} {text : List ℕ} → (c : ℕ) → is_plain c ≡ false →
      IsSafe in_anchor room text → IsSafe in_anchor room (escape_of c ++ text)
  -- a line break
  LineBreak : {in_anchor : Bool} {room : ℕ} {text : List ℕ} →
      IsSafe in_anchor room text → IsSafe in_anchor room (codes "<br>" ++ text)
  -- a link to the page of a person or a project, within no a
  PageLink : {room : ℕ} {text : List ℕ} → (page : Page) (name : List ℕ) → IsName name →
      IsSafe false room text → IsSafe false room (link page name ++ text)
  -- an a with a URL, within no a, and safe text in it
  Anchor : {room : ℕ} {inside text : List ℕ} → (url : List ℕ) → IsUtf8 url → IsTrue (is_url url) →
      IsSafe true room inside →
      IsSafe false (suc room) text → IsSafe false (suc room) (anchor_tag url ++ inside ++ end_tag A ++ text)
  -- an element without an attribute, and safe text in it
  Bare : {in_anchor : Bool} {room : ℕ} {inside text : List ℕ} → (x : Element) → Contains bare x →
      IsSafe in_anchor room inside →
      IsSafe in_anchor (suc room) text → IsSafe in_anchor (suc room) (start_tag x ++ inside ++ end_tag x ++ text)

-- Bytes that a page may hold: UTF-8, with these elements and no others, nested and closed, no more than 64 deep (a link to a page takes no
-- room).
abbrev pub IsSafeHtml : List ℕ → Type 0
IsSafeHtml html = IsSafe false 64 html
