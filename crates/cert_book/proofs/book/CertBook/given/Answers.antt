use Rattle.cert_book.proofs.Reading.{given_reads, given_within}
use Rattle.cert_book.proofs.book.CertBook.given.Goals as goal

pub given-requires-clause-within : goal.given-requires-clause-within
given-requires-clause-within c =
    let below = rw (← c.self.view_is) at c.requires.account in
    let lt = rw (← c.self.view_is) at c.requires.within in
    rw c.account.view_is (given_within _ c.args.account c.args.i c.block.result.now.part c.block.ensures.parts below c.block.ensures.part lt)

pub returns : goal.returns
returns c =
    let below = rw (← c.self.view_is) at c.requires.account in
    let lt = rw (← c.self.view_is) at c.requires.within in
    rw (← c.self.view_is) (given_reads _ c.args.account c.args.i c.block.result.now.part c.given.result c.block.ensures.parts below c.block.ensures.part c.block.ensures.own lt (rw c.account.view_is at c.given.ensures))
