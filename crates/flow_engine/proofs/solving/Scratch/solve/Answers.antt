use Rattle.std.proofs.Common.{ℕ, ◌≡◌, ◌∙◌, arith, sym, subst, List, Bool}
use Rattle.std.proofs.lemmas.List.{with_items_is}
use Rattle.std.specs.Vec.{with_items}
use Rattle.split_flow.specs.Split.{SplitNode}
use Rattle.split_graph.specs.Numbers.{node_number}
use Rattle.split_graph.specs.Arcs.{Arcs}
use Rattle.split_graph.specs.Network.{Room, Network, Fits}
use Rattle.split_graph.proofs.Units.{same_count}
use Rattle.flow_engine.specs.declared.solving.Scratch.{Scratch}
use Rattle.flow_engine.specs.inner.Held.{AreRead}
use Rattle.flow_engine.specs.inner.Reached.{is_reached}
use Rattle.flow_engine.proofs.Counting.{arcs-fit, passed_read}
use Rattle.flow_engine.proofs.Results.{Ended, nothing_passed, is_solved, is_readable, is_counted}
use Rattle.flow_engine.proofs.solving.Scratch.solve.Goals as goal

pub send_all-requires-clause-served : goal.send_all-requires-clause-served
send_all-requires-clause-served g c = nothing_passed c.args.frozen.now c.args.level c.load.new.residual c.load.ensures.loaded

pub read-requires-clause-units : goal.read-requires-clause-units
read-requires-clause-units g c =
    let before : Network = c.args.residual.now in
    omega (
      arith,
      arcs-fit c.args.frozen.now before.arcs before.room c.requires.laid.places c.requires.fits (sym c.certs-certs.ensures.value ∙ c.certs-certs.ensures.sum),
      same_count before.arcs c.load.new.residual.arcs c.load.ensures.arcs,
      same_count c.load.new.residual.arcs c.send_all.new.residual.arcs c.send_all.ensures.same.arcs,
      c.deref_mut-2.ensures.len,
      c.requires.reserved.units,
    )

abbrev ended : (g : _) → goal.After-self-4-1 g → Ended
ended g c = record {
  graph = c.args.frozen.now;
  level = c.args.level;
  before = c.load.new.residual;
  loaded = c.load.ensures.loaded;
  after = c.send_all.new.residual;
  reached = λ (u : SplitNode). is_reached c.send_all.new.search (node_number u);
  old = c.args.steps.now;
  new = c.read.new.steps;
  same = c.send_all.ensures.same;
  passed = passed_read c.load.new.residual c.send_all.new.residual c.args.steps.now c.send_all.new.steps c.read.new.steps c.send_all.ensures.stands c.send_all.ensures.same c.send_all.ensures.passed
      (omega (arith, c.read.ensures.steps, c.send_all.ensures.same.arcs.accounts, c.load.ensures.arcs.accounts, c.requires.laid.accounts));
  served = c.send_all.ensures.served;
  saturated = c.send_all.ensures.saturated;
  stands = c.send_all.ensures.stands;
}

pub returns-clause-readable : goal.returns-clause-readable
returns-clause-readable g c =
    let a : Arcs = c.send_all.new.residual.arcs in
    let s : Scratch = c.args.self.now in
    let units : List ℕ = (with_items s.units c.read.new.units).items in
    let root_units : List ℕ = (with_items s.root_units c.read.new.root_units).items in
    let units_is : units ≡ c.read.new.units = with_items_is s.units c.read.new.units (c.read.auto.units ∙ c.deref_mut-2.ensures.len) in
    let root_is : root_units ≡ c.read.new.root_units = with_items_is s.root_units c.read.new.root_units (c.read.auto.root_units ∙ c.deref_mut-3.ensures.len) in
    let served_is : (with_items s.served c.read.new.served).items ≡ c.read.new.served = with_items_is s.served c.read.new.served (c.read.auto.served ∙ c.deref_mut-4.ensures.len) in
    is_readable (ended g c) _ (subst (λ (r : Room). Fits c.args.frozen.now r) (sym c.load.ensures.room) c.requires.fits)
    (subst (λ (bs : List Bool). AreRead a units root_units bs) (sym served_is)
    (subst (λ (ns : List ℕ). AreRead a units ns c.read.new.served) (sym root_is)
    (subst (λ (ns : List ℕ). AreRead a ns c.read.new.root_units c.read.new.served) (sym units_is) c.read.ensures.read)))

pub returns-clause-counted : goal.returns-clause-counted
returns-clause-counted g c = is_counted (ended g c)

pub returns-clause-solved : goal.returns-clause-solved
returns-clause-solved g c = is_solved (ended g c)
