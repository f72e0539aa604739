-- The rules that a claim has to meet, each of one node, or of one pair of giver and taker.
use Rattle.std.specs.Prelude.{ℕ, ◌≡◌, ◌≢◌, ◌<◌, ◌≤◌, ◌-◌, ◌⊎◌}
use Rattle.trust_types.specs.declared.levels.Level.{Level}
use Rattle.trust_types.specs.declared.accounts.Node.{Node}
use Rattle.trust_types.specs.declared.accounts.Node.TheVariants.{Root, Account}
use Rattle.trust_types.specs.declared.flows.Side.TheVariants.{Outside, Pass}
use Rattle.trust_types.specs.Graph.{Certificates, HasEdge}
use Rattle.trust_types.specs.Flow.{Flow, IsServed, PassesAllOn, units_in, units_out}
use Rattle.trust_types.specs.Cut.{Sides}

-- Units go along an edge alone.
abbrev pub KeepsToEdge : Certificates → Level → Flow → Node → ℕ → Type 0
KeepsToEdge g level f x b = 0 < f x b → HasEdge g level x b

-- An account is served once, or not at all.
abbrev pub IsBalanced : ℕ → Flow → ℕ → Type 0
IsBalanced n f a = IsServed n f a ⊎ PassesAllOn n f a

-- A node passes on at most one unit less than its capacity, and an account of capacity 0 takes no part.
abbrev pub HasRoom : ℕ → (Node → ℕ) → Flow → Node → Type 0
HasRoom n cap f Root = units_out n f Root ≤ cap Root - 1
HasRoom n cap f (Account a) =
    (units_out n f (Account a) ≤ cap (Account a) - 1) × (cap (Account a) ≡ 0 → units_in n f a ≡ 0)

-- An account that passes units on is served.
abbrev pub HasService : ℕ → Flow → ℕ → Type 0
HasService n f a = 0 < units_out n f (Account a) → IsServed n f a

-- An edge out of a passing node ends inside the cut.
abbrev pub EndsInside : Certificates → Level → Sides → Node → ℕ → Type 0
EndsInside g level side x b = HasEdge g level x b → side x ≡ Pass → side (Account b) ≢ Outside
