use Rattle.std.proofs.Common.{◌∙◌, arith}
use Rattle.distances.proofs.Reaching.{IsGivenAt, reaches_next, reaches_edges}
use Rattle.distances.proofs.layers.expand.Goals as goal

pub loop-i-preserved : goal.loop-i-preserved
loop-i-preserved g c = record {
  reached = reaches_next (IsGivenAt (g.G.CertGraph.cert_of c.args.graph.now c.args.account) c.args.level) c.loop-i.i c.loop-i.invariant.reached (rw c.given-cert.ensures at c.follow.ensures.reached);
  room = c.follow.ensures.room;
  reserved = c.follow.ensures.reserved ∙ c.loop-i.invariant.reserved;
}

pub returns-clause-reached : goal.returns-clause-reached
returns-clause-reached g c =
    let graph = g.G.CertGraph in
    reaches_edges (graph.certificates c.args.graph.now) (graph.degree_of c.args.graph.now) (graph.cert_of c.args.graph.now) c.args.level c.args.account c.loop-i.i
    c.requires.readers c.requires.grade c.requires.account (omega arith) c.loop-i.invariant.reached
