-- What contracts see of a residual graph: the graph and the level that were loaded, and what rests of their split graph.
use Rattle.std.specs.Prelude.{ℕ, ◌≡◌, ◌<◌, ◌≤◌, ◌+◌, ◌*◌, if◌then◌else◌, [], IsTrue, Option, Some}
use Rattle.std.specs.Option.{option_map_or}
use Rattle.trust_types.specs.declared.levels.Level.{Level}
use Rattle.trust_types.specs.declared.accounts.Node.{Node}
use Rattle.trust_types.specs.declared.accounts.Node.TheVariants.{Root, Account}
use Rattle.trust_types.specs.Sum.{sum_below}
use Rattle.trust_types.specs.Levels.{IsGrade}
use Rattle.trust_types.specs.Tables.{IsTable}
use Rattle.trust_types.specs.Rows.{GivesEachOnce}
use Rattle.frozen.specs.Sites.{Parts, accounts, degree, taker, given, certificates_of, certs}
use Rattle.frozen.specs.Revision.{Revision, certificates}
use Rattle.split_flow.specs.Split.{SplitNode, InHalf, OutHalf, Supersink, source, Rests, IsNode}
use Rattle.split_flow.specs.Moved.{RestsOf, units_moved}
use Rattle.split_graph.specs.Numbers.{node_number}
use Rattle.split_graph.specs.Arcs.{Arcs, blank, AreArcs, IsSameGraph, LeadsTo, arc_count, first_of, between}

-- For how many accounts and certificates there is room.
pub record Room : Type 0 where
  pub accounts : ℕ
  pub certs : ℕ

-- The graph whose arcs are laid out, with its capacity table, and the level that was loaded on them, each `None` until then; and the
-- arcs of their split graph, with the units that may still be moved along each.
pub record Network : Type 0 where
  pub room : Room
  pub graph : Option Revision
  pub level : Option Level
  pub arcs : Arcs

-- The same room, graph, level and arcs, whatever rests on them.
pub record IsSameNetwork (old new : Network) : Type 0 where
  pub room : new.room ≡ old.room
  pub graph : new.graph ≡ old.graph
  pub level : new.level ≡ old.level
  pub arcs : IsSameGraph old.arcs new.arcs

-- There is room for the graph.
pub record Fits (f : Revision) (room : Room) : Type 0 where
  pub accounts : (certificates f).accounts ≤ room.accounts
  pub certs : certs f.parts ≤ room.certs

-- The rows of the graph that is laid out. Until then there are none.
abbrev pub rows_of : Network → Parts
rows_of n = option_map_or (λ f. f.parts) n.graph []

-- How many seeds there are among the accounts before one.
abbrev pub seeds_before : Parts → ℕ → ℕ
seeds_before r b = sum_below b (λ a. if (certificates_of r).is_seed a then 1 else 0)

-- How many edges a node has at the lowest level: the root one to each seed, an account one for each certificate that it gives.
abbrev pub given_count : Parts → Node → ℕ
given_count r Root = seeds_before r (accounts r)
given_count r (Account a) = degree r a

-- The account to which the i-th of these leads.
abbrev pub IsTaker : Parts → Node → ℕ → ℕ → Type 0
IsTaker r Root i b = (b < accounts r) × IsTrue ((certificates_of r).is_seed b) × (seeds_before r b ≡ i)
IsTaker r (Account a) i b = (a < accounts r) × (i < degree r a) × (taker r a i ≡ b)

-- The arc along the i-th of them: these stand in order, after the arc back through the node.
abbrev pub arc_along : Arcs → Node → ℕ → ℕ
arc_along a x i = first_of a (node_number (OutHalf x)) + (i + 1)

-- The arc of an account to the supersink: the second one out of its first half.
abbrev pub arc_to_supersink : Arcs → ℕ → ℕ
arc_to_supersink a b = first_of a (node_number (InHalf (Account b))) + 1

-- How many residual arcs there are: two for each arc of the split graph, which has two for each account, one for each seed and each
-- certificate, and the root's.
abbrev pub residual_count : Parts → ℕ
residual_count r = 2 * (2 * accounts r + given_count r Root + sum_below (accounts r) (degree r) + 1)

-- Where the arcs are. The first one out of a node's first half goes through the node, and that of the root is the only one; the
-- second one of an account goes to the supersink.
pub record AreInPlace (r : Parts) (a : Arcs) : Type 0 where
  pub through : (x : Node) → IsNode (accounts r) x → LeadsTo a (InHalf x) (OutHalf x) (first_of a (node_number (InHalf x)))
  pub only : first_of a (node_number (OutHalf Root)) ≡ first_of a (node_number source) + 1
  pub ends : (b : ℕ) → b < accounts r → LeadsTo a (InHalf (Account b)) Supersink (arc_to_supersink a b)
  pub number : arc_count a ≡ residual_count r
  pub along : (x : Node) (i b : ℕ) → IsTaker r x i b → LeadsTo a (OutHalf x) (InHalf (Account b)) (arc_along a x i)

-- The arcs of a graph are laid out, whatever rests on them.
pub record IsLaidFor (f : Revision) (n : Network) : Type 0 where
  pub graph : n.graph ≡ Some f
  pub readers : GivesEachOnce (certificates f) (degree f.parts) (given f.parts)
  pub accounts : n.arcs.accounts ≡ (certificates f).accounts
  pub arcs : AreArcs (blank n.arcs)
  pub places : AreInPlace f.parts n.arcs

-- A level of a graph was loaded, and the arcs stand for what rests of its split graph.
pub record StandsFor (n : Network) : Type 0 where
  pub graph : Revision
  pub level : Level
  pub loaded : n.graph ≡ Some graph
  pub at : n.level ≡ Some level
  pub grade : IsGrade level
  pub table : IsTable graph.caps
  pub readers : GivesEachOnce (certificates graph) (degree graph.parts) (given graph.parts)
  pub arcs : AreArcs n.arcs
  pub accounts : n.arcs.accounts ≡ (certificates graph).accounts
  pub places : AreInPlace graph.parts n.arcs
  pub rests : RestsOf (certificates graph) level graph.caps (between n.arcs)

-- The units on an arc along an edge; 0 on one that goes through a node or to the supersink, and on one that leads back.
abbrev pub units_on : Rests → SplitNode → SplitNode → ℕ
units_on r (OutHalf x) (InHalf (Account b)) = units_moved r x b
units_on r u v = 0
