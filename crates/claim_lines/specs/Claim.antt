-- What is claimed of a site at a level, by the lines of a proof text behind the site's own: a flow and a cut.
use Rattle.std.specs.Prelude.{ℕ, Bool, true, false, List, [], ◌∷◌, ◌++◌, Option, Some, None, Result, Ok, Err, ◌==◌, ◌&&◌, ◌||◌, codes, if◌then◌else◌}
use Rattle.std.specs.List.{list_any}
use Rattle.std.specs.Option.{ok_or}
use Rattle.std.specs.Str.{bytes_eq}
use Rattle.trust_types.specs.declared.levels.Level.{Level}
use Rattle.trust_types.specs.declared.accounts.Node.{Node}
use Rattle.trust_types.specs.declared.accounts.Node.TheVariants.{Root}
use Rattle.trust_types.specs.declared.flows.FlowLine.{FlowLine}
use Rattle.trust_types.specs.Tables.{Table}
use Rattle.trust_types.specs.NameLists.{number_of}
use Rattle.trust_types.specs.NodeWords.{is_node, node_of}
use Rattle.trust_types.specs.Lines.{same_node}
use Rattle.text_lines.specs.declared.faults.TextKind.{TextKind}
use Rattle.text_lines.specs.declared.faults.TextKind.TheVariants.{BadLine, BadNumber, BadName, Unknown, Twice}
use Rattle.text_lines.specs.Words.{words, is_line}
use Rattle.text_lines.specs.Numbers.{number}
use Rattle.text_lines.specs.Steps.{◌>>=◌, fault_if, fault_unless}
use Rattle.text_lines.specs.Places.{one_word, three_words, name_in, grade_in}

-- The lines of the flow, and the nodes that pass and that are full, each in the order of the text.
pub record Claim : Type 0 where
  pub flow : List FlowLine
  pub pass : List Node
  pub full : List Node

abbrev pub nothing : Claim
nothing = record { flow = []; pass = []; full = [] }

-- The number of units that a word writes, which isn't 0.
abbrev pub units_of : List ℕ → Option ℕ
units_of word = elim (number word) [ None ↦ None | Some n ↦ (if n == 0 then None else Some n) ]

abbrev pub is_of_pair : Node → ℕ → FlowLine → Bool
is_of_pair x b l = same_node x l.from && (b == l.to)

-- Whether the node is on a side of the cut already.
abbrev pub is_placed : Claim → Node → Bool
is_placed c x = list_any (same_node x) c.pass || list_any (same_node x) c.full

-- A node and an account by their words: both have their form before either is looked up.
abbrev pub ends_in : List (List ℕ) → List ℕ → List ℕ → Result (Node × ℕ) TextKind
ends_in names giver taker = do
  _ ← fault_unless (is_node giver) BadName
  to ← name_in taker
  x ← ok_or (node_of names giver) Unknown
  b ← ok_or (number_of names to) Unknown
  Ok (x, b)

-- The line of a flow behind `flow`.
abbrev pub flow_in : List (List ℕ) → List (List ℕ) → Result FlowLine TextKind
flow_in names words = do
  ws ← three_words words
  units ← ok_or (units_of ws.2) BadNumber
  pair ← ends_in names ws.0 ws.1
  Ok (record { from = pair.0; to = pair.1; units = units })

-- `flow NODE NAME UNITS`: one line more of the flow.
unfoldable pub flow_line : List (List ℕ) → Claim → List (List ℕ) → Result Claim TextKind
flow_line names c words = do
  l ← flow_in names words
  _ ← fault_if (list_any (is_of_pair l.from l.to) c.flow) Twice
  Ok (record { flow = c.flow ++ l ∷ []; pass = c.pass; full = c.full })

-- The node behind `pass` or `full`.
abbrev pub node_in : List (List ℕ) → List (List ℕ) → Result Node TextKind
node_in names words = do
  word ← one_word words
  _ ← fault_unless (is_node word) BadName
  ok_or (node_of names word) Unknown

-- One node more, which passes, or is full.
abbrev pub with_node : Bool → Claim → Node → Claim
with_node true c x = record { flow = c.flow; pass = c.pass ++ x ∷ []; full = c.full }
with_node false c x = record { flow = c.flow; pass = c.pass; full = c.full ++ x ∷ [] }

-- `pass NODE` and `full NODE`: one node more of the cut.
unfoldable pub node_line : List (List ℕ) → Bool → Claim → List (List ℕ) → Result Claim TextKind
node_line names passes c words = do
  x ← node_in names words
  _ ← fault_if (is_placed c x) Twice
  Ok (with_node passes c x)

-- A line that is one of the forms, by its words.
unfoldable pub claim_form : List (List ℕ) → Claim → List (List ℕ) → Result Claim TextKind
claim_form names c [] = Err BadLine
claim_form names c (word ∷ words) =
    if bytes_eq word (codes "pass") then node_line names true c words else
    if bytes_eq word (codes "full") then node_line names false c words else
    if bytes_eq word (codes "flow") then flow_line names c words else Err BadLine

-- What is claimed after one line more, of a site whose accounts have these names; or the line's fault.
unfoldable pub claim_line : List (List ℕ) → Claim → List ℕ → Result Claim TextKind
claim_line names c line = do
  _ ← fault_unless (is_line line) BadLine
  claim_form names c (words line)

abbrev pub begins_with_level : List (List ℕ) → Bool
begins_with_level [] = false
begins_with_level (word ∷ others) = bytes_eq word (codes "level")

-- The line that ends the site and begins the claim.
abbrev pub is_level_line : List ℕ → Bool
is_level_line line = is_line line && begins_with_level (words line)

-- The grade of such a line.
abbrev pub level_form : Table → List (List ℕ) → Result Level TextKind
level_form table [] = Err BadLine
level_form table (word ∷ words) = one_word words >>= grade_in table

-- `level GRADE`
unfoldable pub level_line : Table → List ℕ → Result Level TextKind
level_line table line = do
  _ ← fault_unless (is_level_line line) BadLine
  level_form table (words line)

-- Whether the root is on a side of the cut.
abbrev pub has_root : Claim → Bool
has_root c = is_placed c Root
