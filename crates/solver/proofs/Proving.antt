-- Lists written from a solution prove their roster.
use Rattle.std.proofs.Common.{ℕ, Bool, true, false, ◌+◌, ◌≡◌, ◌<◌, List, Contains, refl, sym, subst, ap, ◌∙◌, arith, cond}
use Rattle.std.specs.List.{list_any}
use Rattle.std.proofs.lemmas.Bool.{eqb-true, eq-eqb}
use Rattle.std.proofs.lemmas.List.Folds.{Any-from_list_any, list_any-from_Any}
use Rattle.trust_types.specs.declared.levels.Level.{Level}
use Rattle.trust_types.specs.declared.accounts.Node.{Node}
use Rattle.trust_types.specs.declared.accounts.Node.TheVariants.{Root, Account}
use Rattle.trust_types.specs.declared.flows.FlowLine.{FlowLine}
use Rattle.trust_types.specs.declared.flows.Side.{Side}
use Rattle.trust_types.specs.declared.flows.Side.TheVariants.{Outside, Pass, Full}
use Rattle.trust_types.specs.Levels.{IsGrade}
use Rattle.trust_types.specs.Tables.{Table}
use Rattle.trust_types.specs.Graph.{Certificates, HasEdge}
use Rattle.trust_types.specs.Rows.{GivesEachOnce}
use Rattle.trust_types.specs.Flow.{Flow, IsServed}
use Rattle.trust_types.specs.Cut.{Sides, IsCut, value, account_share, root_share}
use Rattle.trust_types.specs.Lines.{place, same_node, flow_of, sides_of}
use Rattle.frozen.specs.Sites.{Parts, certificates_of, degree, given}
use Rattle.trust_types.specs.Proven.{Lists, AreInOrder, Proves, IsProven}
use Rattle.trust_types.proofs.Sums.{sum_below-eq}
use Rattle.trust_types.proofs.Walks.{edge_within, cert_of_edge}
use Rattle.split_flow.specs.Solved.{IsSolved}
use Rattle.solver.specs.inner.Listing.{ListsBelow, AreSidesBelow}
use Rattle.solver.specs.inner.Writing.{GoesAlong, AreLinesOf}
use Rattle.solver.proofs.Listing.{same_place, increasing}

-- a flow that keeps to the edges goes along the rows
pub goes_along : (r : Parts) (level : Level) (f : Flow) → GivesEachOnce (certificates_of r) (degree r) (given r) → IsGrade level →
    ((x : Node) (b : ℕ) → 0 < f x b → HasEdge (certificates_of r) level x b) → GoesAlong r f
goes_along r level f readers grade edges = record {
  root = λ b some. edge_within (certificates_of r) level Root b (edges Root b some);
  certs = λ a b some.
      let edge = edges (Account a) b some in
      let cert = cert_of_edge (certificates_of r) (degree r) (given r) level a b readers grade edge in
      (edge.0, (cert.0, cert.1, cert.2));
}

-- a node is listed where the test finds it
listed_any : (xs : List Node) (x : Node) → Contains xs x → list_any (same_node x) xs ≡ true
listed_any xs x found = list_any-from_Any (same_node x) xs (found.0, x, found.1, found.2, eq-eqb (place x) (place x) refl)

any_listed : (xs : List Node) (x : Node) → list_any (same_node x) xs ≡ true → Contains xs x
any_listed xs x is =
    let found = Any-from_list_any (same_node x) xs is in
    let same : x ≡ found.1 = same_place x found.1 (eqb-true (place x) (place found.1) found.4) in
    subst (Contains xs) (sym same) (found.0, found.2, found.3)

sides_by_tests : (passes fills : Bool) (s : Side) → (passes ≡ true → s ≡ Pass) → (fills ≡ true → s ≡ Full) → (s ≡ Pass → passes ≡ true) → (s ≡ Full → fills ≡ true) →
    cond passes Pass (cond fills Full Outside) ≡ s
sides_by_tests true fills s pass full passing filled = sym (pass refl)
sides_by_tests false true s pass full passing filled = sym (full refl)
sides_by_tests false false Outside pass full passing filled = refl
sides_by_tests false false Pass pass full passing filled = let never = passing refl in absurd (cc)
sides_by_tests false false Full pass full passing filled = let never = filled refl in absurd (cc)

-- they give the cut back, on the nodes of the graph
pub sides_same : (side : Sides) (bound : ℕ) (pass full : List Node) → AreSidesBelow side bound pass full → (x : Node) → place x < bound → sides_of pass full x ≡ side x
sides_same side bound pass full are x below = sides_by_tests (list_any (same_node x) pass) (list_any (same_node x) full) (side x)
    (λ is. ((are.passing.listed x).1 (any_listed pass x is)).1)
    (λ is. ((are.filled.listed x).1 (any_listed full x is)).1)
    (λ is. listed_any pass x ((are.passing.listed x).0 (below, is)))
    (λ is. listed_any full x ((are.filled.listed x).0 (below, is)))

edge_from_within : (g : Certificates) (level : Level) (x : Node) (b : ℕ) → HasEdge g level x b → place x < g.accounts + 1
edge_from_within g level Root b edge = omega arith
edge_from_within g level (Account a) b edge = omega (arith, edge.0)

-- a cut by other sides that are the same on the graph's nodes
cut_same : (g : Certificates) (level : Level) (side other : Sides) → ((x : Node) → place x < g.accounts + 1 → other x ≡ side x) → IsCut g level side → IsCut g level other
cut_same g level side other same cut = record {
  root = λ outside. cut.root (sym (same Root (omega arith)) ∙ outside);
  closed = λ x b edge pass outside.
      cut.closed x b edge (sym (same x (edge_from_within g level x b edge)) ∙ pass)
      (sym (same (Account b) (omega (arith, edge_within g level x b edge))) ∙ outside);
}

value_same : (g : Certificates) (cap : Node → ℕ) (side other : Sides) → ((x : Node) → place x < g.accounts + 1 → other x ≡ side x) → value g cap other ≡ value g cap side
value_same g cap side other same =
    let root : root_share (other Root) (cap Root) ≡ root_share (side Root) (cap Root) = ap (λ (s : Side). root_share s (cap Root)) (same Root (omega arith)) in
    let rest = sum_below-eq g.accounts (λ x. account_share (other (Account x)) (cap (Account x))) (λ x. account_share (side (Account x)) (cap (Account x)))
    (λ x below. ap (λ (s : Side). account_share s (cap (Account x))) (same (Account x) (omega arith))) in
    omega (arith, root, rest)

-- lists written from a solution
pub record Written : Type 0 where
  pub g : Certificates
  pub level : Level
  pub table : Table
  pub f : Flow
  pub side : Sides
  pub served : List ℕ
  pub lines : List FlowLine
  pub pass : List Node
  pub full : List Node
  pub solved : IsSolved g level table f side
  pub serves : ListsBelow (λ a. a) (IsServed g.accounts f) g.accounts served
  pub units : AreLinesOf f lines
  pub sides : AreSidesBelow side (g.accounts + 1) pass full

-- those that a reader of the graph's accounts, of its edges and of its nodes wrote
abbrev pub written : {g : Certificates} {level : Level} {table : Table} {f : Flow} {side : Sides} {served : List ℕ} {lines : List FlowLine} {pass full : List Node} (n : ℕ) → n ≡ g.accounts →
    IsSolved g level table f side → ListsBelow (λ a. a) (IsServed n f) n served → AreLinesOf f lines → AreSidesBelow side (n + 1) pass full → Written
written {g} {level} {table} {f} {side} {served} {lines} {pass} {full} n all solved serves units sides = record {
  g = g;
  level = level;
  table = table;
  f = f;
  side = side;
  served = served;
  lines = lines;
  pass = pass;
  full = full;
  solved = solved;
  serves = subst (λ (m : ℕ). ListsBelow (λ (a : ℕ). a) (IsServed m f) m served) all serves;
  units = units;
  sides = subst (λ (m : ℕ). AreSidesBelow side (m + 1) pass full) all sides;
}

abbrev pub lists : Written → Lists
lists w = record { served = w.served; flow = w.lines; pass = w.pass; full = w.full }

pub in_order : (w : Written) → AreInOrder (lists w)
in_order w = record {
  served = increasing w.served w.serves.rises;
  flow = w.units.rises;
  units = w.units.some;
  pass = w.sides.passing.rises;
  full = w.sides.filled.rises;
  apart = λ x passes fills.
      let p = ((w.sides.passing.listed x).1 passes).1 in
      let q = ((w.sides.filled.listed x).1 fills).1 in
      absurd (cc);
}

pub cut : (w : Written) → IsCut w.g w.level (sides_of w.pass w.full)
cut w = cut_same w.g w.level w.side (sides_of w.pass w.full) (sides_same w.side (w.g.accounts + 1) w.pass w.full w.sides) w.solved.cut

proves_as : (w : Written) (f : Flow) → w.f ≡ f → Proves w.g w.level w.solved.cap w.served f (sides_of w.pass w.full)
proves_as w f same = subst (λ (other : Flow). Proves w.g w.level w.solved.cap w.served other (sides_of w.pass w.full)) same (record {
  feasible = w.solved.greatest.feasible;
  conduits = w.solved.conduits;
  serves = w.serves.listed;
  cut = cut w;
  equal = value_same w.g w.solved.cap w.side (sides_of w.pass w.full) (sides_same w.side (w.g.accounts + 1) w.pass w.full w.sides) ∙ w.solved.equal;
})

pub proven : (w : Written) → IsProven w.g w.level w.table (lists w)
proven w = (in_order w, (w.solved.cap, w.solved.capacities, proves_as w (flow_of w.lines) (λ i x b. sym (w.units.units x b) i)))
