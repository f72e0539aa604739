use Rattle.std.proofs.Common.{refl}
use Rattle.cert_book.proofs.Adding.{adds, tabled_after}
use Rattle.cert_book.proofs.book.CertBook.add_table.Goals as goal

pub returns-clause-added : goal.returns-clause-added
returns-clause-added c = rw (← c.self.view_is) (adds _ _ _ _ _ _ (tabled_after c.args.caps _) refl)
