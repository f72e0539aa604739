use Rattle.cert_book.proofs.Rising.{told}
use Rattle.cert_book.proofs.takings.Givers.search.Goals as goal

pub returns : goal.returns
returns c = rw (← c.self.view_is) (told c.self.inside.accounts.items c.args.giver c.binary_search.result c.self.invariant (rw c.deref.ensures.value at c.binary_search.ensures.position))
