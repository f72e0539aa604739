-- What `solve` leaves: a solution that can be read, and how many steps it took.
use Rattle.std.proofs.Common.{ℕ, Bool, ◌+◌, ◌*◌, ◌-◌, ◌==◌, ◌≡◌, ◌≤◌, ◌∙◌, arith, ap, sym, subst}
use Rattle.trust_types.specs.declared.levels.Level.{Level}
use Rattle.trust_types.specs.declared.accounts.Node.TheVariants.{Root, Account}
use Rattle.trust_types.specs.Tables.{IsTable}
use Rattle.trust_types.specs.Flow.{Flow, is_served, total, units_out}
use Rattle.trust_types.proofs.Conservation.{total_is_root_units}
use Rattle.frozen.specs.Revision.{Revision, certificates}
use Rattle.split_flow.specs.Split.{SplitNode, InHalf, OutHalf, Supersink, source, Rests}
use Rattle.split_flow.specs.Moved.{PassesServed, IsSaturated, out_of, units_moved, sides_of_reached}
use Rattle.split_flow.specs.Solved.{IsSolved}
use Rattle.split_flow.specs.Laws.{NoneToItself}
use Rattle.split_flow.proofs.Sums.{sum_below-none}
use Rattle.split_flow.proofs.Halves.{Moves, zero_cap, zero_rest, to_other_half, passed_on, room_through}
use Rattle.split_flow.proofs.Feasible.{feasible}
use Rattle.split_flow.proofs.Capacities.{capacity_passes}
use Rattle.split_flow.proofs.Endings.{Sent, solved, served_at_first, served_read, unmoved}
use Rattle.split_graph.specs.Arcs.{arc_count, between}
use Rattle.split_graph.specs.Network.{Network, IsSameNetwork, Fits, StandsFor, residual_count}
use Rattle.split_graph.proofs.Standing.{no_self, graph_loaded, level_loaded}
use Rattle.layers.specs.Layers.{ArePhases}
use Rattle.layers.specs.PhaseBound.{capacity_sum, most_steps}
use Rattle.layers.proofs.FewPhases.{all_moved, each-sends, steps_are_few}
use Rattle.flow_engine.specs.declared.solving.Scratch.{Scratch}
use Rattle.flow_engine.specs.Solved.{IsCounted}
use Rattle.flow_engine.specs.inner.Held.{AreRead, AreServedByArc, IsLoaded, IsReadable}
use Rattle.flow_engine.specs.inner.Passed.{sent_by, HavePassed}

none_to_itself : (f : Revision) (level : Level) (n : Network) → IsLoaded f level n → NoneToItself (certificates f) level
none_to_itself f level n loaded =
    subst (λ (g : Revision). NoneToItself (certificates g) level) (graph_loaded n loaded.stands f loaded.graph)
    (subst (λ (l : Level). NoneToItself (certificates loaded.stands.graph) l) (level_loaded n loaded.stands level loaded.at) (no_self n loaded.stands))

accounts_loaded : (f : Revision) (level : Level) (n : Network) → IsLoaded f level n → n.arcs.accounts ≡ (certificates f).accounts
accounts_loaded f level n loaded = loaded.stands.accounts ∙ ap (λ (g : Revision). (certificates g).accounts) (graph_loaded n loaded.stands f loaded.graph)

-- at first no account passes units on
pub nothing_passed : (f : Revision) (level : Level) (n : Network) → IsLoaded f level n → PassesServed (between n.arcs)
nothing_passed f level n loaded =
    served_at_first (record {
      g = certificates f;
      level = level;
      cap = loaded.cap;
      c = between n.arcs;
      r = between n.arcs;
      split = loaded.split;
      moved = unmoved (certificates f).accounts (between n.arcs);
      no_self = none_to_itself f level n loaded;
    })

-- and then units were sent, phase by phase, until none could be
pub record Ended : Type 0 where
  pub graph : Revision
  pub level : Level
  pub before : Network
  pub loaded : IsLoaded graph level before
  pub after : Network
  pub reached : SplitNode → Bool
  pub old : ℕ
  pub new : ℕ
  pub same : IsSameNetwork before after
  pub passed : HavePassed before after old new 2
  pub served : PassesServed (between after.arcs)
  pub saturated : IsSaturated (between after.arcs) reached
  pub stands : StandsFor after

accounts_before : (e : Ended) → e.before.arcs.accounts ≡ (certificates e.graph).accounts
accounts_before e = accounts_loaded e.graph e.level e.before e.loaded

phases_were : (e : Ended) → ArePhases (certificates e.graph).accounts (between e.before.arcs) e.passed.phases (between e.after.arcs)
phases_were e = subst (λ (n : ℕ). ArePhases n (between e.before.arcs) e.passed.phases (between e.after.arcs)) (accounts_before e) e.passed.are

abbrev sent : Ended → Sent
sent e = record {
  g = certificates e.graph;
  level = e.level;
  table = e.graph.caps;
  cap = e.loaded.cap;
  c = between e.before.arcs;
  r = between e.after.arcs;
  reached = e.reached;
  is_table = subst (λ (g : Revision). IsTable g.caps) (graph_loaded e.before e.loaded.stands e.graph e.loaded.graph) e.loaded.stands.table;
  capacities = e.loaded.capacities;
  no_self = none_to_itself e.graph e.level e.before e.loaded;
  split = e.loaded.split;
  moved = all_moved (certificates e.graph).accounts (between e.before.arcs) e.passed.phases (between e.after.arcs) (phases_were e);
  served = e.served;
  saturated = e.saturated;
}

abbrev moves_of : Sent → Moves
moves_of s = record { g = s.g; level = s.level; cap = s.cap; c = s.c; r = s.r; split = s.split; moved = s.moved; no_self = s.no_self }

pub is_solved : (e : Ended) → IsSolved (certificates e.graph) e.level e.graph.caps (units_moved (between e.after.arcs)) (sides_of_reached e.reached)
is_solved e = solved (sent e)

-- whom the flow serves is told by the arcs to the supersink
served_by_arc : (e : Ended) → AreServedByArc e.after.arcs
served_by_arc e b below =
    let flow : Flow = units_moved (between e.after.arcs) in
    let same : e.after.arcs.accounts ≡ (certificates e.graph).accounts = e.same.arcs.accounts ∙ accounts_before e in
    subst (λ (n : ℕ). (between e.after.arcs (InHalf (Account b)) Supersink == 0) ≡ is_served n flow b) (sym same) (served_read (moves_of (sent e)) b (omega (arith, below, same)))

pub is_readable : (e : Ended) (s : Scratch) → Fits e.graph e.before.room → AreRead e.after.arcs s.units.items s.root_units.items s.served.items → IsReadable e.after s
is_readable e s fits read =
    let graph : e.stands.graph ≡ e.graph = graph_loaded e.after e.stands e.graph (e.same.graph ∙ e.loaded.graph) in
    record {
      stands = e.stands;
      fits = rw (graph, e.same.room) fits;
      read = read;
      served = served_by_arc e;
    }

-- units leave the source through the root alone
from_source : (n : ℕ) (t : Rests) → t source source ≡ 0 → ((a : ℕ) → t source (InHalf (Account a)) ≡ 0) → ((a : ℕ) → t source (OutHalf (Account a)) ≡ 0) → t source Supersink ≡ 0 →
    out_of n t source ≡ t source (OutHalf Root)
from_source n t self firsts seconds end =
    omega (arith, self, end, sum_below-none n (λ a. t source (InHalf (Account a)) + t source (OutHalf (Account a))) (λ a lt. omega (arith, firsts a, seconds a)))

root_sent : (m : Moves) → sent_by m.g.accounts m.c m.r ≡ units_out m.g.accounts (units_moved m.r) Root
root_sent m =
    let n : ℕ = m.g.accounts in
    let no_half : (a : ℕ) → m.c source (OutHalf (Account a)) ≡ 0 = λ a. zero_cap m source (OutHalf (Account a)) (to_other_half m.g m.level Root (Account a) (λ e. cc)) in
    let rests : out_of n m.r source ≡ m.r source (OutHalf Root) =
    from_source n m.r (zero_rest m source source (λ no. no) (λ no. no)) (λ a. zero_rest m source (InHalf (Account a)) (λ no. no) (λ no. no))
    (λ a. zero_rest m source (OutHalf (Account a)) (to_other_half m.g m.level Root (Account a) (λ e. cc)) (λ no. no)) (zero_rest m source Supersink (λ no. no) (λ no. no)) in
    let caps : out_of n m.c source ≡ m.c source (OutHalf Root) =
    from_source n m.c (zero_cap m source source (λ no. no)) (λ a. zero_cap m source (InHalf (Account a)) (λ no. no)) no_half (zero_cap m source Supersink (λ no. no)) in
    omega (arith, rests, caps, m.split.through Root tt, room_through m Root tt, passed_on m Root tt)

-- as many as accounts are served
served_is_sent : (s : Sent) → sent_by s.g.accounts s.c s.r ≡ total s.g.accounts (units_moved s.r)
served_is_sent s =
    let m : Moves = moves_of s in
    root_sent m ∙ sym (total_is_root_units s.g s.level s.cap (units_moved s.r) (feasible m (capacity_passes s.g s.level s.table s.cap s.is_table s.capacities)))

sent_back : (n : ℕ) (c r : Rests) (p : ℕ) → out_of n r source + p ≤ out_of n c source → out_of n r source + sent_by n c r ≡ out_of n c source
sent_back n c r p le = omega arith

taken_off : (new old a b : ℕ) → new ≤ old + a + b → new - old ≤ a + b
taken_off new old a b le = omega arith

put_back : (new old m : ℕ) → new - old ≤ m → new ≤ old + m
put_back new old m le = omega arith

-- the steps
pub is_counted : (e : Ended) → IsCounted e.graph e.level (units_moved (between e.after.arcs)) e.old e.new
is_counted e =
    let s : Sent = sent e in
    let n : ℕ = s.g.accounts in
    let p : ℕ = e.passed.phases in
    let arcs : ℕ = residual_count e.graph.parts in
    let units : ℕ = sent_by n s.c s.r in
    let are : ArePhases n s.c p s.r = phases_were e in
    let graph : e.loaded.stands.graph ≡ e.graph = graph_loaded e.before e.loaded.stands e.graph e.loaded.graph in
    let count : arc_count e.before.arcs ≡ arcs = e.loaded.stands.places.number ∙ ap (λ (g : Revision). residual_count g.parts) graph in
    let Most : ℕ → ℕ → Type 0 = λ m k. e.new ≤ e.old + 3 * k * (p + 2) + sent_by m s.c s.r * (2 * m + 4) in
    let most : Most n arcs = subst (λ (m : ℕ). Most m arcs) (accounts_before e) (subst (λ (k : ℕ). Most e.before.arcs.accounts k) count e.passed.most) in
    let few : e.new - e.old ≤ most_steps n arcs (capacity_sum n s.cap) units =
    steps_are_few s.g s.level s.table s.cap s.c s.r p units arcs (e.new - e.old) s.is_table s.capacities s.no_self s.split are (sent_back n s.c s.r p (each-sends n s.c p s.r are))
    (taken_off e.new e.old (3 * arcs * (p + 2)) (units * (2 * n + 4)) most) in
    record {
      cap = s.cap;
      capacities = s.capacities;
      most = subst (λ (k : ℕ). e.new ≤ e.old + most_steps n arcs (capacity_sum n s.cap) k) (served_is_sent s) (put_back e.new e.old (most_steps n arcs (capacity_sum n s.cap) units) few);
    }
