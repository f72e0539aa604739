-- The tag at the front of a text, if one stands there. The letters behind its bracket decide which form it may have, so that no two
-- forms can stand at one place. They are read without regard to ASCII case, and all else exactly.
use Rattle.std.specs.Prelude.{ℕ, List, ◌∷◌, ◌&&◌, nat_eq, length, take, drop, codes, if◌then◌else◌, Option, Some, None}
use Rattle.std.specs.Char.{is_ascii_alphabetic}
use Rattle.std.specs.List.{find, starts_with, take_while}
use Rattle.std.specs.Option.{option_map}
use Rattle.std.specs.Str.{str_eq_ignore_ascii_case}
use Rattle.trust_types.specs.Names.{is_name, is_name_byte}
use Rattle.markup.specs.declared.elements.Element.{Element}
use Rattle.markup.specs.declared.elements.Element.TheVariants.{A}
use Rattle.markup.specs.declared.elements.Page.{Page}
use Rattle.markup.specs.declared.elements.Page.TheVariants.{Person, Project}
use Rattle.markup.specs.Urls.{is_url_byte, has_scheme}
use Rattle.markup.specs.Elements.{bare, name_of, page_end}

pub data Tag : Type 0 where
  -- <br>
  LineBreak : Tag
  -- <person>NAME</person> or <project>NAME</project>
  PageLink : Page → List ℕ → Tag
  -- <a href="URL">
  AnchorStart : List ℕ → Tag
  -- <X>
  Start : Element → Tag
  -- </X>
  End : Element → Tag

-- A tag, and the text behind it.
pub record Found : Type 0 where
  pub tag : Tag
  pub rest : List ℕ

-- Rule 1, behind the word: <br>, <br/> or <br />.
unfoldable pub line_break_at : List ℕ → Option Found
line_break_at text =
    if starts_with nat_eq text (codes ">") then Some (record { tag = LineBreak; rest = drop 1 text }) else
    if starts_with nat_eq text (codes "/>") then Some (record { tag = LineBreak; rest = drop 2 text }) else
    if starts_with nat_eq text (codes " />") then Some (record { tag = LineBreak; rest = drop 3 text }) else None

-- Rule 2, behind the first word: <person>NAME</person> or <project>NAME</project>.
unfoldable pub page_link_at : Page → List ℕ → Option Found
page_link_at page text =
    let name = take_while is_name_byte (drop 1 text) in
    let behind = drop (length name) (drop 1 text) in
    if starts_with nat_eq text (codes ">") && is_name name && str_eq_ignore_ascii_case (take (length (page_end page)) behind) (page_end page)
    then Some (record { tag = PageLink page name; rest = drop (length (page_end page)) behind }) else None

-- Rule 3, behind the word: <a href="URL">.
unfoldable pub anchor_at : List ℕ → Option Found
anchor_at text =
    let url = take_while is_url_byte (drop 7 text) in
    let behind = drop (length url) (drop 7 text) in
    if starts_with nat_eq text (codes " href=\"") && has_scheme url && starts_with nat_eq behind (codes "\">")
    then Some (record { tag = AnchorStart url; rest = drop 2 behind }) else None

-- The first of the elements that is called by this word.
abbrev pub called : List ℕ → List Element → Option Element
called word elements = find (λ x. str_eq_ignore_ascii_case word (name_of x)) elements

-- Rule 4: <X>, by its word and what stands behind it.
unfoldable pub start_at : List ℕ → List ℕ → Option Found
start_at word text =
    if starts_with nat_eq text (codes ">") then option_map (λ x. record { tag = Start x; rest = drop 1 text }) (called word bare) else None

-- Rule 5: </X>, where X may be a.
unfoldable pub end_at : List ℕ → List ℕ → Option Found
end_at word text =
    if starts_with nat_eq text (codes ">") then option_map (λ x. record { tag = End x; rest = drop 1 text }) (called word (A ∷ bare)) else None

-- The form that a word has behind a <.
unfoldable pub form_at : List ℕ → List ℕ → Option Found
form_at word text =
    if str_eq_ignore_ascii_case word (codes "br") then line_break_at text else
    if str_eq_ignore_ascii_case word (codes "person") then page_link_at Person text else
    if str_eq_ignore_ascii_case word (codes "project") then page_link_at Project text else
    if str_eq_ignore_ascii_case word (codes "a") then anchor_at text else start_at word text

-- The letters at the front of a text, and what stands behind them.
abbrev pub word_at : List ℕ → List ℕ
word_at text = take_while is_ascii_alphabetic text

abbrev pub behind_word : List ℕ → List ℕ
behind_word text = drop (length (word_at text)) text

-- The tag at the front of a text.
unfoldable pub tag_at : List ℕ → Option Found
tag_at text =
    if starts_with nat_eq text (codes "</") then end_at (word_at (drop 2 text)) (behind_word (drop 2 text)) else
    if starts_with nat_eq text (codes "<") then form_at (word_at (drop 1 text)) (behind_word (drop 1 text)) else None
