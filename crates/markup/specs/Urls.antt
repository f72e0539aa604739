-- The URLs that a text may link to.
use Rattle.std.specs.Prelude.{ℕ, Bool, List, ◌&&◌, ◌||◌, ◌==◌, not, nat_eq, nat_lt, codes}
use Rattle.std.specs.List.{list_all, starts_with}

-- Whether a byte may stand in a URL: none of ", < and >, and none up to the space.
abbrev pub is_url_byte : ℕ → Bool
is_url_byte byte = nat_lt 32 byte && not (byte == 34) && not (byte == 60) && not (byte == 62)

-- Whether a text begins with http:// or https://.
unfoldable pub has_scheme : List ℕ → Bool
has_scheme url = starts_with nat_eq url (codes "http://") || starts_with nat_eq url (codes "https://")

abbrev pub is_url : List ℕ → Bool
is_url url = has_scheme url && list_all is_url_byte url
