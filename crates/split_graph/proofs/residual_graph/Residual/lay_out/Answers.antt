use Rattle.std.proofs.Common.{ℕ, ◌∙◌, arith, ap, subst, sym, List}
use Rattle.std.specs.Prelude.{Some}
use Rattle.frozen.specs.Revision.{Revision, certificates}
use Rattle.split_graph.specs.declared.split_arcs.SplitArc.{SplitArc}
use Rattle.split_graph.specs.Numbers.{node_count}
use Rattle.split_graph.specs.inner.Layout.{AreSplitArcs}
use Rattle.split_graph.specs.Network.{Network}
use Rattle.split_graph.proofs.Listed.{are_split_arcs}
use Rattle.split_graph.proofs.Loaded.{Loading, laid_arcs, in_place}
use Rattle.split_graph.proofs.residual_graph.Residual.lay_out.Goals as goal

pub build-requires-clause-arcs : goal.build-requires-clause-arcs
build-requires-clause-arcs c =
    subst (λ (n : ℕ). AreSplitArcs (node_count n) c.deref.result.now) (sym c.accounts-self-inside.ensures.value)
    (subst (λ (arcs : List SplitArc). AreSplitArcs (node_count (certificates c.args.frozen.now).accounts) arcs) (sym (c.deref.ensures.value ∙ c.list_arcs.ensures.listed))
    (are_split_arcs (record { r = c.args.frozen.now.parts; readers = c.accounts-self-inside.ensures.readers })))

pub returns-clause-laid : goal.returns-clause-laid
returns-clause-laid c =
    let l : Loading = record {
      graph = c.args.frozen.now;
      readers = c.accounts-self-inside.ensures.readers;
      n = c.accounts-self-inside.result;
      arcs = c.deref.result.now;
      t = c.build.new.self;
      size = c.accounts-self-inside.ensures.value;
      fits = c.accounts-self-inside.ensures.few;
      few = omega (arith, c.list_arcs.ensures.few, c.deref.ensures.len);
      listed = c.deref.ensures.value ∙ c.list_arcs.ensures.listed;
      long = omega (arith, c.build.ensures.long.first, c.self.invariant.table.first, c.requires.accounts, c.accounts-self-inside.ensures.value, ap (λ (n : Network). n.room.accounts) c.self.view_is);
      enough = omega (arith, c.deref.ensures.len, c.list_arcs.new.arcs.ok.1, c.list_arcs.ensures.capacity, c.self.invariant.list, c.self.invariant.table.rest, c.build.ensures.long.rest);
      laid = c.build.ensures.laid;
      placed = c.build.ensures.placed;
    } in
    record {
      graph = ap (λ (f : Revision). Some f) c.of.ensures;
      readers = l.readers;
      accounts = l.size;
      arcs = laid_arcs l;
      places = in_place l;
    }
