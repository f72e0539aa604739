-- What a source of words of 16 bytes tells, and what a draw does to that.
use Rattle.std.specs.Prelude.{◌≡◌, ℕ, List, drop, get_or, replicate, Option, Some, None}
use Rattle.std.specs.Option.{option_map}
use Rattle.outside.specs.Causes.{one_more}

-- the words that are left, where they are told
abbrev pub ToldWords : Type 0
ToldWords = Option (List (List ℕ))

-- the words left to draw, where they are told, and how many calls failed
pub record Pool : Type 0 where
  pub words : ToldWords
  pub faults : ℕ

-- The word at place k of those left, counted from 0. Behind the last come words of zeros.
abbrev pub word_at : List (List ℕ) → ℕ → List ℕ
word_at words k = get_or words k (replicate 16 0)

-- A word is the one at place k of those left, where they are told.
abbrev pub IsWord : ToldWords → ℕ → List ℕ → Type 0
IsWord None k word = Unit {0}
IsWord (Some words) k word = word ≡ word_at words k

-- the words that are left after n draws
abbrev pub after_draws : ℕ → ToldWords → ToldWords
after_draws n words = option_map (drop n) words

-- A draw gave the first word of those left.
pub record Drew (before now : Pool) (word : List ℕ) : Type 0 where
  pub first : IsWord before.words 0 word
  pub words : now.words ≡ after_draws 1 before.words
  pub faults : now.faults ≡ before.faults

-- A draw that failed counted a fault, and drew no word.
pub record Missed (before now : Pool) : Type 0 where
  pub words : now.words ≡ before.words
  pub faults : now.faults ≡ one_more before.faults
