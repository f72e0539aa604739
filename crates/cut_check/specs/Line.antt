-- The line that a verdict is printed as.
use Rattle.std.specs.Prelude.{ℕ, ◌<◌, List, ◌++◌, codes, decimal}
use Rattle.cut_check.specs.declared.verdicts.Verdict.{Verdict}
use Rattle.cut_check.specs.declared.verdicts.Verdict.TheVariants.{NoEdge, NoBalance, NoRoom, NoService, NoClosure, NoMatch, Greatest}
use Rattle.trust_types.specs.Lines.{IsNodeAmong}
use Rattle.trust_types.specs.NodeWords.{name_of, node_name}

-- The accounts that a verdict names are accounts of the graph.
abbrev pub IsAmong : ℕ → Verdict → Type 0
IsAmong accounts (NoEdge x b) = IsNodeAmong accounts x × (b < accounts)
IsAmong accounts (NoBalance a) = a < accounts
IsAmong accounts (NoRoom x) = IsNodeAmong accounts x
IsAmong accounts (NoService a) = a < accounts
IsAmong accounts (NoClosure x b) = IsNodeAmong accounts x × (b < accounts)
IsAmong accounts (NoMatch sent worth) = Unit {0}
IsAmong accounts (Greatest sent) = Unit {0}

abbrev pub verdict_words : List (List ℕ) → Verdict → List ℕ
verdict_words names (NoEdge x b) = codes "no edge " ++ node_name names x ++ codes " " ++ name_of names b
verdict_words names (NoBalance a) = codes "no balance " ++ name_of names a
verdict_words names (NoRoom x) = codes "no room " ++ node_name names x
verdict_words names (NoService a) = codes "no service " ++ name_of names a
verdict_words names (NoClosure x b) = codes "no closure " ++ node_name names x ++ codes " " ++ name_of names b
verdict_words names (NoMatch sent worth) = codes "no match " ++ decimal sent ++ codes " " ++ decimal worth
verdict_words names (Greatest sent) = codes "greatest " ++ decimal sent

-- A line ends with LF.
abbrev pub verdict_line : List (List ℕ) → Verdict → List ℕ
verdict_line names verdict = verdict_words names verdict ++ codes "\n"
