use Rattle.std.proofs.Common.{◌∙◌, ap, subst, sym}
use Rattle.cert_book.specs.inner.Blocks.{Blocks}
use Rattle.cert_book.specs.inner.Keeping.{AreKept}
use Rattle.cert_book.proofs.Keeping.{kept_new}
use Rattle.cert_book.proofs.Adding.{book_at, new_book}
use Rattle.cert_book.proofs.book.CertBook.new.Goals as goal

pub invariant_of-result : goal.invariant_of-result
invariant_of-result c = record {
  kept = subst (λ (b : Blocks). AreKept b.parts c.new-2.result c.new-3.result 0) (sym c.new.ensures) (kept_new c.new-2.result c.new-3.result c.new-2.ensures c.new-3.ensures);
  room = tt;
}

pub returns-clause-book : goal.returns-clause-book
returns-clause-book c = ap (λ (b : Blocks). book_at 0 c.args.caps b.parts) c.new.ensures ∙ new_book c.args.caps
