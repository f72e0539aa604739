-- What a look and a question for a level print, without the LF that ends each line.
use Rattle.std.specs.Prelude.{ℕ, List, ◌∷◌, ◌++◌, Option, Some, None, codes, decimal, length, flat_map, if◌then◌else◌}
use Rattle.trust_types.specs.declared.levels.Level.{Level}
use Rattle.trust_types.specs.Levels.{level_name}
use Rattle.trust_types.specs.Kept.{accounts, upto}
use Rattle.trust_types.specs.Names.{is_name}
use Rattle.trust_types.specs.NameLists.{number_of}
use Rattle.trust_types.specs.NodeWords.{name_of}
use Rattle.site_history.specs.Histories.{Published, History, records}
use Rattle.site_history.specs.Held.{served_at, level_of}

-- The number of a publication, the revision that it is of, the grade, how many accounts the roster has, and their names in the order of their numbers.
abbrev pub roster_line : List (List ℕ) → ℕ → ℕ → Level → List ℕ → List ℕ
roster_line names number revision level served =
    codes "roster " ++ decimal number ++ codes " revision " ++ decimal revision ++ codes " " ++ level_name level ++ codes " " ++ decimal (length served)
    ++ flat_map (λ a. 32 ∷ name_of names a) served

abbrev pub shown_line : List (List ℕ) → ℕ → ℕ → Level → Option (List ℕ) → List ℕ
shown_line names number revision level None = codes "no grade"
shown_line names number revision level (Some served) = roster_line names number revision level served

-- The roster of a grade in a publication, where there is one, with the names that the accounts had at its revision.
abbrev pub look_line : History → Level → Option Published → List ℕ
look_line h level None = codes "no publication"
look_line h level (Some p) = shown_line (accounts (upto (records h) p.revision)) p.number p.revision level (served_at p level)

-- The account of that name. A word that is no name is none's.
abbrev pub account_named : History → List ℕ → Option ℕ
account_named h word = if is_name word then number_of (accounts (records h)) word else None

abbrev pub level_line_of : History → List ℕ → Option ℕ → List ℕ
level_line_of h name None = codes "no such account"
level_line_of h name (Some a) = codes "level " ++ name ++ codes " " ++ level_name (level_of h a)

-- The level that the account of that name holds.
abbrev pub level_line : History → List ℕ → List ℕ
level_line h word = level_line_of h word (account_named h word)
