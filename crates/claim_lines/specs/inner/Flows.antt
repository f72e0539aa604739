-- For the drafts alone: the lines of a flow as the entries of a map of pairs, a giver by its place, a taker by its number, and the
-- units.
use Rattle.std.specs.Prelude.{ℕ, zero, suc, List, Option, map}
use Rattle.trust_types.specs.declared.accounts.Node.{Node}
use Rattle.trust_types.specs.declared.accounts.Node.TheVariants.{Root, Account}
use Rattle.trust_types.specs.declared.flows.FlowLine.{FlowLine}
use Rattle.trust_types.specs.Lines.{place}
use Rattle.pair_map.specs.Pairs.{value_at}

-- The node at a place.
abbrev pub node_at : ℕ → Node
node_at zero = Root
node_at (suc a) = Account a

abbrev pub line_of : (ℕ × ℕ) × ℕ → FlowLine
line_of e = record { from = node_at e.0.0; to = e.0.1; units = e.1 }

abbrev pub entry_of : FlowLine → (ℕ × ℕ) × ℕ
entry_of l = ((place l.from, l.to), l.units)

-- The units of the first line of a pair, where there is one.
abbrev pub units_at : List FlowLine → ℕ → ℕ → Option ℕ
units_at lines p b = value_at (map entry_of lines) p b
