-- What the lines of a script ask for, form by form.
use Rattle.std.specs.Prelude.{ℕ, List, [], ◌∷◌, Option, Some, None, Result, Ok, Err, IsTrue, refl, replicate, if◌then◌else◌}
use Rattle.trust_types.specs.declared.records.Secret.{Secret}
use Rattle.trust_types.specs.declared.records.Secret.TheVariants.{Absent, Digest}
use Rattle.trust_types.specs.Names.{is_name}
use Rattle.trust_types.specs.Tables.{Table as Caps, judged_table}
use Rattle.sessions.specs.Secrets.{digest_of}
use Rattle.text_lines.specs.declared.faults.TextKind.{TextKind}
use Rattle.text_lines.specs.declared.faults.TextKind.TheVariants.{BadLine}
use Rattle.text_lines.specs.Faults.{kind_of_table}
use Rattle.text_lines.specs.Places.{one_word, three_words}
use Rattle.text_lines.specs.Steps.{◌>>=◌}
use Rattle.site_lines.specs.Site.{numbers}
use Rattle.site_history.specs.declared.commands.Author.{Author}
use Rattle.site_history.specs.declared.commands.Author.TheVariants.{Named, Session}
use Rattle.site_history.specs.declared.commands.Command.{Command}
use Rattle.site_history.specs.declared.commands.Command.TheVariants.{Join, Seed, Unseed, Cert, Table, Diary, Article, Reply, Project, Login, Logout}
use Rattle.site_history.specs.Acts.{may_have}
use Rattle.script_text.specs.declared.keywords.Keyword.{Keyword}
use Rattle.script_text.specs.declared.keywords.Keyword.TheVariants as word
use Rattle.script_text.specs.declared.lines.ScriptLine.{ScriptLine}
use Rattle.script_text.specs.declared.lines.ScriptLine.TheVariants.{Moment, Act, Freeze, Solve, Publish, Look, Level}
use Rattle.script_text.specs.Places.{one_or_two, two_words, number_in, moment_in, any_level, any_grade, text_in, token_in}
use Rattle.script_text.specs.Actors.{actor_in}

-- The act of an author, or of nobody, who may give the command.
abbrev pub act : (author : Option Author) (command : Command) → IsTrue (may_have command author) → ScriptLine
act author command fits = Act (record { author = author; command = command; fits = fits })

-- What is kept of a password. A word that is no name has no account, so nothing is kept of it.
abbrev pub secret_by : List ℕ → List ℕ → Secret
secret_by word password = if is_name word then Digest (digest_of word password) else Absent

-- What proves the password of which this would be kept: 32 zero bytes, where nothing would.
abbrev pub proof_by : Secret → List ℕ
proof_by (Digest digest) = digest
proof_by Absent = replicate 32 0

-- `moment MOMENT`
abbrev pub moment_line : List (List ℕ) → Result ScriptLine TextKind
moment_line words = do
  word ← one_word words
  moment ← moment_in word
  Ok (Moment moment)

-- The secret of a new account with that name, by the password's word where there is one.
abbrev pub secret_in : List ℕ → Option (List ℕ) → Result Secret TextKind
secret_in name None = Ok Absent
secret_in name (Some word) = do
  password ← text_in word
  Ok (secret_by name password)

-- `join WORD` or `join WORD TEXT`: a new account's name, and its password.
abbrev pub join_line : List (List ℕ) → Result ScriptLine TextKind
join_line words = do
  ws ← one_or_two words
  secret ← secret_in ws.0 ws.1
  Ok (act None (Join ws.0 secret) refl)

-- `seed WORD`
abbrev pub seed_line : List (List ℕ) → Result ScriptLine TextKind
seed_line words = do
  subject ← one_word words
  Ok (act None (Seed subject) refl)

-- `unseed WORD`
abbrev pub unseed_line : List (List ℕ) → Result ScriptLine TextKind
unseed_line words = do
  subject ← one_word words
  Ok (act None (Unseed subject) refl)

-- `cert WORD WORD LEVEL`: the first certifies the second.
abbrev pub cert_line : List (List ℕ) → Result ScriptLine TextKind
cert_line words = do
  ws ← three_words words
  level ← any_level ws.2
  Ok (act (Some (Named ws.0)) (Cert ws.1 level) refl)

-- The table of which the first number is the number of levels, and the others are the entries.
abbrev pub table_in : List ℕ → Result Caps TextKind
table_in [] = Err BadLine
table_in (levels ∷ entries) = elim (judged_table levels entries) [ Ok table ↦ Ok table | Err fault ↦ Err (kind_of_table fault) ]

-- `table NUMBER NUMBER..`
abbrev pub table_line : List (List ℕ) → Result ScriptLine TextKind
table_line words = do
  ns ← numbers words
  table ← table_in ns
  Ok (act None (Table table) refl)

-- `diary WORD TEXT`: the author, and the text.
abbrev pub diary_line : List (List ℕ) → Result ScriptLine TextKind
diary_line words = do
  ws ← two_words words
  text ← text_in ws.1
  Ok (act (Some (Named ws.0)) (Diary text) refl)

-- `article WORD TEXT TEXT`: the author, the title and the text.
abbrev pub article_line : List (List ℕ) → Result ScriptLine TextKind
article_line words = do
  ws ← three_words words
  title ← text_in ws.1
  text ← text_in ws.2
  Ok (act (Some (Named ws.0)) (Article title text) refl)

-- `reply WORD NUMBER TEXT`: the author, the article and the text.
abbrev pub reply_line : List (List ℕ) → Result ScriptLine TextKind
reply_line words = do
  ws ← three_words words
  article ← number_in ws.1
  text ← text_in ws.2
  Ok (act (Some (Named ws.0)) (Reply article text) refl)

-- `project WORD WORD TEXT`: the author, the project's name and the text.
abbrev pub project_line : List (List ℕ) → Result ScriptLine TextKind
project_line words = do
  ws ← three_words words
  text ← text_in ws.2
  Ok (act (Some (Named ws.0)) (Project ws.1 text) refl)

-- `login WORD TEXT HEX`: an account's name, its password and the token of the session.
abbrev pub login_line : List (List ℕ) → Result ScriptLine TextKind
login_line words = do
  ws ← three_words words
  password ← text_in ws.1
  token ← token_in ws.2
  Ok (act None (Login ws.0 (proof_by (secret_by ws.0 password)) token) refl)

-- `logout WORD HEX`: the account that is logged in under the token.
abbrev pub logout_line : List (List ℕ) → Result ScriptLine TextKind
logout_line words = do
  ws ← two_words words
  token ← token_in ws.1
  Ok (act (Some (Session ws.0 token)) Logout refl)

-- `level WORD`
abbrev pub level_line : List (List ℕ) → Result ScriptLine TextKind
level_line words = do
  name ← one_word words
  Ok (Level name)

-- What a line says after those before: what it asks for, and the names of the actors from then on.
abbrev pub Said : Type 0
Said = ScriptLine × List (List ℕ)

-- `freeze ACTOR`, `solve ACTOR`, `publish ACTOR`
abbrev pub actor_line : (ℕ → ScriptLine) → List (List ℕ) → List (List ℕ) → Result Said TextKind
actor_line asks actors words = do
  word ← one_word words
  actor ← actor_in actors word
  Ok (asks actor.0, actor.1)

-- `look ACTOR GRADE`
abbrev pub look_line : List (List ℕ) → List (List ℕ) → Result Said TextKind
look_line actors words = do
  ws ← two_words words
  grade ← any_grade ws.1
  actor ← actor_in actors ws.0
  Ok (Look actor.0 grade, actor.1)

-- A line that names no actor leaves the actors as they are.
abbrev pub of_nobody : List (List ℕ) → Result ScriptLine TextKind → Result Said TextKind
of_nobody actors line = do
  asked ← line
  Ok (asked, actors)

-- What a line of each form says, where these actors were named before, by the words behind its first.
abbrev pub said_by : Keyword → List (List ℕ) → List (List ℕ) → Result Said TextKind
said_by word.Moment actors words = of_nobody actors (moment_line words)
said_by word.Join actors words = of_nobody actors (join_line words)
said_by word.Seed actors words = of_nobody actors (seed_line words)
said_by word.Unseed actors words = of_nobody actors (unseed_line words)
said_by word.Cert actors words = of_nobody actors (cert_line words)
said_by word.Table actors words = of_nobody actors (table_line words)
said_by word.Diary actors words = of_nobody actors (diary_line words)
said_by word.Article actors words = of_nobody actors (article_line words)
said_by word.Reply actors words = of_nobody actors (reply_line words)
said_by word.Project actors words = of_nobody actors (project_line words)
said_by word.Login actors words = of_nobody actors (login_line words)
said_by word.Logout actors words = of_nobody actors (logout_line words)
said_by word.Freeze actors words = actor_line Freeze actors words
said_by word.Solve actors words = actor_line Solve actors words
said_by word.Publish actors words = actor_line Publish actors words
said_by word.Look actors words = look_line actors words
said_by word.Level actors words = of_nobody actors (level_line words)
