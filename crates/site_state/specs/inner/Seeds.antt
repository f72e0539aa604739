-- For the code alone: the names of seeds, listed one account after another.
use Rattle.std.specs.Prelude.{ℕ, List, [], ◌∷◌, ◌++◌, ◌&&◌, nat_lt, length, if◌then◌else◌}
use Rattle.site_history.specs.Sites.{Site}
use Rattle.site_history.specs.Views.{name_of}

-- With the name of an account that is a seed, where fewer are listed than are shown.
abbrev pub with_seed : Site → ℕ → List (List ℕ) → List (List ℕ)
with_seed s account names = if nat_lt (length names) 200 && s.certs.is_seed account then names ++ name_of s account ∷ [] else names
