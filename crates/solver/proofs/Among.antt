-- Lists written from a solution name accounts of the graph alone.
use Rattle.std.proofs.Common.{ℕ, ◌+◌, ◌≡◌, ◌<◌, ◌≤◌, ◌==◌, ◌&&◌, if◌then◌else◌, length, get_or, refl, arith}
use Rattle.std.proofs.lemmas.Bool.{eq-eqb}
use Rattle.std.proofs.lemmas.List.Elements.{Contains-get_or}
use Rattle.std.proofs.lemmas.List.Sums.{get_or-le-sum_by}
use Rattle.trust_types.specs.declared.levels.Level.{Level}
use Rattle.trust_types.specs.declared.accounts.Node.{Node}
use Rattle.trust_types.specs.declared.accounts.Node.TheVariants.{Root, Account}
use Rattle.trust_types.specs.declared.flows.FlowLine.{FlowLine}
use Rattle.trust_types.specs.Graph.{Certificates, HasEdge}
use Rattle.trust_types.specs.Lines.{place, same_node}
use Rattle.trust_types.proofs.Walks.{edge_within}
use Rattle.roster_form.specs.LevelRosters.{AreAmong}
use Rattle.solver.proofs.Proving.{Written, lists}

-- what a line adds to the units of a pair
abbrev carried : Node → ℕ → FlowLine → ℕ
carried x b l = if same_node l.from x && (l.to == b) then l.units else 0

carried_here : (l : FlowLine) → carried l.from l.to l ≡ l.units
carried_here l = rw (eq-eqb (place l.from) (place l.from) refl, eq-eqb l.to l.to refl) refl

giver_within : (g : Certificates) (level : Level) (x : Node) (b : ℕ) → HasEdge g level x b → place x ≤ g.accounts
giver_within g level Root b edge = omega arith
giver_within g level (Account a) b edge = omega (arith, edge.0)

line_edge : (w : Written) (k : ℕ) (d : FlowLine) → k < length w.lines → HasEdge w.g w.level (get_or w.lines k d).from (get_or w.lines k d).to
line_edge w k d within =
    let l : FlowLine = get_or w.lines k d in
    let some : 0 < w.f l.from l.to =
    omega (arith, w.units.some k d within, get_or-le-sum_by (carried l.from l.to) w.lines k d within, carried_here l, w.units.units l.from l.to) in
    w.solved.greatest.feasible.edges l.from l.to some

pub among : (w : Written) → AreAmong w.g.accounts (lists w)
among w = record {
  givers = λ k d within. giver_within w.g w.level (get_or w.lines k d).from (get_or w.lines k d).to (line_edge w k d within);
  takers = λ k d within. edge_within w.g w.level (get_or w.lines k d).from (get_or w.lines k d).to (line_edge w k d within);
  pass = λ k d within. let here : place (get_or w.pass k d) < w.g.accounts + 1 = ((w.sides.passing.listed (get_or w.pass k d)).1 (Contains-get_or w.pass k d within)).0 in omega (arith, here);
  full = λ k d within. let here : place (get_or w.full k d) < w.g.accounts + 1 = ((w.sides.filled.listed (get_or w.full k d)).1 (Contains-get_or w.full k d within)).0 in omega (arith, here);
}
