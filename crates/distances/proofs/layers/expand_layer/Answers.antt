use Rattle.std.proofs.Common.{arith, ◌∙◌, ◌≡◌, ℕ, sym, subst}
use Rattle.std.specs.Prelude.{slice_index}
use Rattle.std.proofs.lemmas.List.{get_or_read}
use Rattle.trust_types.specs.declared.accounts.Node.TheVariants.{Account}
use Rattle.trust_types.specs.Graph.{HasEdge}
use Rattle.distances.proofs.Reaching.{IsCertifiedAt, reaches_next, reaches_same}
use Rattle.distances.proofs.layers.expand_layer.Goals as goal

pub loop-at-preserved : goal.loop-at-preserved
loop-at-preserved g c =
    let graph = g.G.CertGraph.certificates c.args.graph.now in
    let before = c.args.queue.now.items in
    let loop = c.loop-at in
    let read : c.index-account.result.now ≡ slice_index loop.queue.items loop.at =
    get_or_read loop.queue.items _ _ (omega (arith, loop.invariant.reached.longer, c.args.queue.now.ok.0)) c.index-account.ensures 0 in
    let is : c.index-account.result.now ≡ slice_index before loop.at = read ∙ loop.invariant.reached.stays loop.at (omega (arith, c.args.queue.now.ok.0)) in
    let step = reaches_same {R = IsCertifiedAt graph c.args.level before c.args.start loop.at} c.expand.ensures.reached
    (λ b edge. (loop.auto.at, subst (λ (a : ℕ). HasEdge graph c.args.level (Account a) b) is edge))
    (λ b given. subst (λ (a : ℕ). HasEdge graph c.args.level (Account a) b) (sym is) given.1) in
    record {
      reached = reaches_next (IsCertifiedAt graph c.args.level before c.args.start) loop.at loop.invariant.reached step;
      room = c.expand.ensures.room;
      reserved = c.expand.ensures.reserved ∙ loop.invariant.reserved;
    }

pub returns-clause-reached : goal.returns-clause-reached
returns-clause-reached g c = reaches_same c.loop-at.invariant.reached
    (λ b among. (among.0, among.2.0, omega (arith, among.1, c.args.queue.now.ok.0), among.2.1))
    (λ b from. (from.0, omega (arith, from.2, c.args.queue.now.ok.0), (from.1, from.3)))
