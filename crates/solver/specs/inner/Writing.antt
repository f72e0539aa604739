-- The lines of a flow, written one after another. The crate's own functions alone speak of it.
use Rattle.std.specs.Prelude.{ℕ, Bool, ◌≡◌, ◌<◌, ◌==◌, ◌&&◌, ◌||◌, nat_lt, if◌then◌else◌, List, [], ◌∷◌, ◌++◌, All, AllPairs, true}
use Rattle.trust_types.specs.declared.accounts.Node.{Node}
use Rattle.trust_types.specs.declared.accounts.Node.TheVariants.{Root, Account}
use Rattle.trust_types.specs.declared.flows.FlowLine.{FlowLine}
use Rattle.trust_types.specs.Flow.{Flow}
use Rattle.frozen.specs.Sites.{Parts, accounts, degree, taker}
use Rattle.trust_types.specs.Lines.{place, flow_of, IsLineBefore}

-- The flow sends units along the edges from the root to accounts and along the certificates of the rows, and nowhere else.
pub record GoesAlong (r : Parts) (f : Flow) : Type 0 where
  pub root : (b : ℕ) → 0 < f Root b → b < accounts r
  pub certs : (a b : ℕ) → 0 < f (Account a) b → (a < accounts r) × ((i : ℕ) × (i < degree r a) × (taker r a i ≡ b))

-- A line more, where it carries units.
abbrev pub with_line : List FlowLine → FlowLine → List FlowLine
with_line lines l = if nat_lt 0 l.units then lines ++ l ∷ [] else lines

-- A pair of a node and an account comes before the pair of this place and this number.
abbrev pub is_earlier : Node → ℕ → ℕ → ℕ → Bool
is_earlier x c at b = nat_lt (place x) at || ((place x == at) && nat_lt c b)

-- The lines of a flow on all pairs before one.
pub record IsWritten (f : Flow) (at b : ℕ) (lines : List FlowLine) : Type 0 where
  pub some : All (λ l. 0 < l.units) lines
  pub rises : AllPairs IsLineBefore lines
  pub earlier : All (λ l. is_earlier l.from l.to at b ≡ true) lines
  pub units : (x : Node) (c : ℕ) → flow_of lines x c ≡ (if is_earlier x c at b then f x c else 0)

-- All lines of a flow.
pub record AreLinesOf (f : Flow) (lines : List FlowLine) : Type 0 where
  pub some : All (λ l. 0 < l.units) lines
  pub rises : AllPairs IsLineBefore lines
  pub units : (x : Node) (c : ℕ) → flow_of lines x c ≡ f x c
