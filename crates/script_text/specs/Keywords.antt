-- The forms of a script's lines, by their first words.
use Rattle.std.specs.Prelude.{ℕ, List, [], ◌∷◌, Option, find, codes}
use Rattle.std.specs.Str.{bytes_eq}
use Rattle.script_text.specs.declared.keywords.Keyword.{Keyword}
use Rattle.script_text.specs.declared.keywords.Keyword.TheVariants.{Moment, Join, Seed, Unseed, Cert, Table, Diary, Article, Reply, Project, Login, Logout, Freeze, Solve, Publish, Look, Level}

-- How a keyword is spelled.
abbrev pub spelling : Keyword → List ℕ
spelling Moment = codes "moment"
spelling Join = codes "join"
spelling Seed = codes "seed"
spelling Unseed = codes "unseed"
spelling Cert = codes "cert"
spelling Table = codes "table"
spelling Diary = codes "diary"
spelling Article = codes "article"
spelling Reply = codes "reply"
spelling Project = codes "project"
spelling Login = codes "login"
spelling Logout = codes "logout"
spelling Freeze = codes "freeze"
spelling Solve = codes "solve"
spelling Publish = codes "publish"
spelling Look = codes "look"
spelling Level = codes "level"

abbrev pub keywords : List Keyword
keywords =
    Cert ∷ Join ∷ Seed ∷ Unseed ∷ Table ∷ Moment ∷ Diary ∷ Article ∷ Reply ∷ Project ∷ Login ∷ Logout ∷ Freeze ∷ Solve ∷ Publish ∷ Look ∷ Level ∷ []

-- The keyword that a word spells.
abbrev pub keyword_of : List ℕ → Option Keyword
keyword_of word = find (λ keyword. bytes_eq (spelling keyword) word) keywords
