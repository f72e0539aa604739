-- What a text becomes when it is cleaned: six rules that read it from left to right with a stack of open elements. At each place the
-- first rule that applies decides.
use Rattle.std.specs.Prelude.{ℕ, zero, suc, Bool, List, [], ◌∷◌, ◌++◌, ◌-◌, ◌||◌, not, nat_le, length, take, drop, codes, if◌then◌else◌, Option, Some, None, unwrap_or}
use Rattle.std.specs.List.{flat_map}
use Rattle.std.specs.Option.{option_and_then}
use Rattle.markup.specs.declared.elements.Element.{Element}
use Rattle.markup.specs.declared.elements.Element.TheVariants.{A}
use Rattle.markup.specs.Elements.{start_tag, end_tag, is_same, is_open, link, anchor_tag}
use Rattle.markup.specs.Escapes.{escaped}
use Rattle.markup.specs.Tags.{LineBreak, PageLink, AnchorStart, Start, End, Found, tag_at}

-- At most 64 elements are open at once.
abbrev pub is_full : List Element → Bool
is_full opened = nat_le 64 (length opened)

-- The end tags of all open elements, the uppermost first.
abbrev pub end_tags : List Element → List ℕ
end_tags opened = flat_map end_tag opened

-- The end tags of the elements above the uppermost X and of X, the uppermost first.
unfoldable pub end_tags_through : Element → List Element → List ℕ
end_tags_through x [] = []
end_tags_through x (top ∷ opened) = end_tag top ++ (if is_same x top then [] else end_tags_through x opened)

-- What is open below the uppermost X.
unfoldable pub below : Element → List Element → List Element
below x [] = []
below x (top ∷ opened) = if is_same x top then opened else below x opened

-- What a rule does at a place: what it writes, what is open behind it, and the text that is left.
pub record Step : Type 0 where
  pub written : List ℕ
  pub opened : List Element
  pub rest : List ℕ

-- Rules 1 to 5: what is done with a tag while these elements are open. None: its rule doesn't apply.
unfoldable pub by_rule : List Element → Found → Option Step
by_rule opened found = elim found.tag [
  | LineBreak ↦ Some (record { written = codes "<br>"; opened = opened; rest = found.rest })
  | PageLink page name ↦ if is_open A opened then None else
      Some (record { written = link page name; opened = opened; rest = found.rest })
  | AnchorStart url ↦ if is_open A opened || is_full opened then None else
      Some (record { written = anchor_tag url; opened = A ∷ opened; rest = found.rest })
  | Start x ↦ if is_full opened then None else
      Some (record { written = start_tag x; opened = x ∷ opened; rest = found.rest })
  | End x ↦ if not (is_open x opened) then None else
      Some (record { written = end_tags_through x opened; opened = below x opened; rest = found.rest })
]

-- Rule 6: one byte is text.
abbrev pub as_text : List Element → List ℕ → Step
as_text opened text = record { written = escaped (take 1 text); opened = opened; rest = drop 1 text }

-- The first rule that applies at the front of a text.
unfoldable pub step_at : List Element → List ℕ → Step
step_at opened text = unwrap_or (option_and_then (by_rule opened) (tag_at text)) (as_text opened text)

-- What is written for a text while these elements are open, where so many bytes at its front are taken already.
unfoldable pub cleaned_from : List Element → ℕ → List ℕ → List ℕ
cleaned_from opened taken [] = end_tags opened
cleaned_from opened (suc taken) (byte ∷ text) = cleaned_from opened taken text
cleaned_from opened zero (byte ∷ text) =
    let step = step_at opened (byte ∷ text) in
    step.written ++ cleaned_from step.opened (length text - length step.rest) text

-- A text cleaned.
abbrev pub cleaned : List ℕ → List ℕ
cleaned text = cleaned_from [] 0 text
