use Rattle.std.proofs.Common.{◌∙◌, ◌≡◌, ◌%◌, ap, arith}
use Rattle.frozen.specs.Parts.{Part, degree_in}
use Rattle.frozen.specs.Sites.{part_of}
use Rattle.frozen.proofs.Readers.{given_is}
use Rattle.frozen.proofs.frozen_graph.FrozenCertGraph.given.Goals as goal

pub returns : goal.returns
returns c =
    let row : c.account.inside.0 ≡ c.args.account = c.account.view_is in
    let given = rw row at c.given.ensures in
    let degrees : degree_in c.block.result.now.part (c.args.account % 64) ≡ degree_in (part_of c.args.self.now.parts c.args.account) (c.args.account % 64) = ap (λ (p : Part). degree_in p (c.args.account % 64)) c.block.ensures.part in
    given ∙ given_is c.args.self.now.parts c.args.account c.args.i c.block.result.now.part c.block.ensures.part (c.block.ensures.own (omega (arith, degrees, c.requires.within)))
