use Rattle.std.proofs.Common.{refl, sym}
use Rattle.cert_log.proofs.Listing.{tested}
use Rattle.cert_book.proofs.Keeping.{kept_cert}
use Rattle.cert_book.proofs.Adding.{adds}
use Rattle.cert_book.proofs.book.CertBook.add_cert.Goals as goal

pub invariant_of-self : goal.invariant_of-self
invariant_of-self g c = record {
  kept = kept_cert _ _ _ _ _ _ c.args.author c.args.subject c.args.level c.is_grade.result c.put.ensures.put c.self.invariant.kept (sym (tested c.args.level c.is_grade.result c.is_grade.ensures)) c.set.ensures.long c.set.ensures.there c.set.ensures.others;
  room = tt;
}

pub returns-clause-added : goal.returns-clause-added
returns-clause-added g c = rw (← c.self.view_is) (adds _ _ _ _ _ _ c.put.ensures.put refl)
