-- What a reader of bytes that knows nothing of the grammar finds in safe markup: tags, from each < to the next >.
use Rattle.std.specs.Prelude.{ℕ, Bool, true, List, [], ◌∷◌, ◌++◌, ◌==◌, ◌&&◌, ◌||◌, ◌≡◌, not, nat_eq, codes, if◌then◌else◌, Option, Some, None}
use Rattle.std.specs.List.{list_any, list_all, starts_with}
use Rattle.std.specs.Str.{bytes_eq}

-- The tags of bytes, where the reader stands behind these bytes of a tag or outside any.
unfoldable pub tags_from : Option (List ℕ) → List ℕ → List (List ℕ)
tags_from None [] = []
tags_from None (byte ∷ bytes) = if byte == 60 then tags_from (Some []) bytes else tags_from None bytes
tags_from (Some tag) [] = tag ∷ []
tags_from (Some tag) (byte ∷ bytes) = if byte == 62 then tag ∷ tags_from None bytes else tags_from (Some (tag ++ byte ∷ [])) bytes

-- What stands between the brackets of each tag, in order.
abbrev pub tags : List ℕ → List (List ℕ)
tags bytes = tags_from None bytes

-- A byte of an attribute's value in quotes: no quote and no bracket.
abbrev pub is_value_byte : ℕ → Bool
is_value_byte byte = not (byte == 34) && not (byte == 60) && not (byte == 62)

-- Where a link may lead.
abbrev pub is_target : List ℕ → Bool
is_target value = starts_with nat_eq value (codes "http://") || starts_with nat_eq value (codes "https://")
    || starts_with nat_eq value (codes "/person/") || starts_with nat_eq value (codes "/project/")

-- The elements that may stand without an attribute, by name.
abbrev pub element_names : List (List ℕ)
element_names = codes "b" ∷ codes "i" ∷ codes "em" ∷ codes "strong" ∷ codes "tt" ∷ codes "code" ∷ codes "pre" ∷ codes "p" ∷ codes "blockquote"
    ∷ codes "ul" ∷ codes "ol" ∷ codes "li" ∷ []

-- The tags that safe markup may have.
pub data IsAllowed : List ℕ → Type 0 where
  LineBreak : IsAllowed (codes "br")
  Start : (tag : List ℕ) → list_any (λ name. bytes_eq name tag) element_names ≡ true → IsAllowed tag
  End : (tag : List ℕ) → list_any (λ name. bytes_eq name tag) (codes "a" ∷ element_names) ≡ true → IsAllowed (codes "/" ++ tag)
  Href : (value : List ℕ) → list_all is_value_byte value ≡ true → is_target value ≡ true → IsAllowed (codes "a href=\"" ++ value ++ codes "\"")
