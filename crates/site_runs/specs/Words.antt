-- The words that ask for a script to be played, for a drill, or for a server.
use Rattle.std.specs.Prelude.{ℕ, ◌≡◌, Bool, not, ◌&&◌, List, [], ◌∷◌, Option, Some, None, is_some, codes, if◌then◌else◌}
use Rattle.std.specs.Str.{bytes_eq}
use Rattle.text_lines.specs.Numbers.{number}
use Rattle.serve_words.specs.Plans.{plan_of, said}
use Rattle.site_runs.specs.declared.words.Wants.{Wants}
use Rattle.site_runs.specs.declared.words.Wants.TheVariants.{Run, RunOn, Serve}

-- The file of the words `script --db FILE`, which isn't empty.
abbrev pub file_of : List (List ℕ) → Option (List ℕ)
file_of (command ∷ option ∷ file ∷ []) = if bytes_eq command (codes "script") && bytes_eq option (codes "--db") && not (bytes_eq file []) then Some file else None
file_of words = None

-- Whether the words are `script`, or `script --db FILE`.
abbrev pub is_script : List (List ℕ) → Bool
is_script (command ∷ []) = bytes_eq command (codes "script")
is_script words = is_some (file_of words)

-- The number of the words `drill N`.
abbrev pub drill_of : List (List ℕ) → Option ℕ
drill_of (command ∷ word ∷ []) = if bytes_eq command (codes "drill") then number word else None
drill_of words = None

-- The words ask for just this: a server by their plan, the file that they name, or neither.
abbrev pub AsksFor : List (List ℕ) → Wants → Type 0
AsksFor words (Serve plan) = plan_of words ≡ Some (said plan)
AsksFor words (RunOn file) = file_of words ≡ Some file
AsksFor words Run = (plan_of words ≡ None) × (file_of words ≡ None)
