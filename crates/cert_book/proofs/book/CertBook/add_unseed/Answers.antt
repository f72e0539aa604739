use Rattle.std.proofs.Common.{refl, arith}
use Rattle.cert_book.proofs.Keeping.{kept_unseed, some_seeds}
use Rattle.cert_book.proofs.Adding.{adds}
use Rattle.cert_book.proofs.book.CertBook.add_unseed.Goals as goal

pub overflow_sub-self : goal.overflow_sub-self
overflow_sub-self c =
    let follows = rw (← c.self.view_is) at c.requires.follows in
    omega (arith, some_seeds _ _ _ _ c.args.subject c.self.invariant.kept follows.0 follows.1)

pub invariant_of-self : goal.invariant_of-self
invariant_of-self c =
    let follows = rw (← c.self.view_is) at c.requires.follows in
    record {
      kept = kept_unseed _ _ _ _ _ _ c.args.subject c.mark.ensures.marked c.self.invariant.kept follows.0 follows.1 (omega (arith, some_seeds _ _ _ _ c.args.subject c.self.invariant.kept follows.0 follows.1));
      room = tt;
    }

pub returns-clause-added : goal.returns-clause-added
returns-clause-added c = rw (← c.self.view_is) (adds _ _ _ _ _ _ c.mark.ensures.marked refl)
