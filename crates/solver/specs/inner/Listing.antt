-- Items found one after another, by a number that each has. The crate's own functions alone speak of it.
use Rattle.std.specs.Prelude.{ℕ, ◌≡◌, ◌<◌, ◌↔◌, List, [], ◌∷◌, ◌++◌, AllPairs, Contains}
use Rattle.trust_types.specs.declared.accounts.Node.{Node}
use Rattle.trust_types.specs.declared.flows.Side.{Side}
use Rattle.trust_types.specs.declared.flows.Side.TheVariants.{Outside, Pass, Full}
use Rattle.trust_types.specs.Cut.{Sides}
use Rattle.trust_types.specs.Lines.{place}

-- The list has, in rising order, the items with numbers below a bound of which a fact holds.
pub record ListsBelow {X : Type 0} (number : X → ℕ) (Holds : X → Type 0) (bound : ℕ) (xs : List X) : Type 0 where
  pub rises : AllPairs (λ x y. number x < number y) xs
  pub listed : (x : X) → ((number x < bound) × Holds x) ↔ Contains xs x

-- The lists have the nodes that pass and those that are full, of the places below a bound.
pub record AreSidesBelow (side : Sides) (bound : ℕ) (pass full : List Node) : Type 0 where
  pub passing : ListsBelow place (λ x. side x ≡ Pass) bound pass
  pub filled : ListsBelow place (λ x. side x ≡ Full) bound full

-- The two lists after one more node.
abbrev pub passing_after : List Node → Node → Side → List Node
passing_after nodes x Outside = nodes
passing_after nodes x Pass = nodes ++ x ∷ []
passing_after nodes x Full = nodes

abbrev pub filled_after : List Node → Node → Side → List Node
filled_after nodes x Outside = nodes
filled_after nodes x Pass = nodes
filled_after nodes x Full = nodes ++ x ∷ []
