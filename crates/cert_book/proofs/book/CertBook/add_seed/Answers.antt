use Rattle.std.proofs.Common.{refl, arith}
use Rattle.cert_book.proofs.Keeping.{kept_seed, few_seeds}
use Rattle.cert_book.proofs.Adding.{adds}
use Rattle.cert_book.proofs.book.CertBook.add_seed.Goals as goal

pub overflow_add-self : goal.overflow_add-self
overflow_add-self g c = omega (arith, few_seeds _ _ _ _ c.self.invariant.kept, c.mark.ensures.parts.few)

pub invariant_of-self : goal.invariant_of-self
invariant_of-self g c =
    let follows = rw (← c.self.view_is) at c.requires.follows in
    record { kept = kept_seed _ _ _ _ _ c.args.subject c.mark.ensures.marked c.self.invariant.kept follows.0 follows.1; room = tt }

pub returns-clause-added : goal.returns-clause-added
returns-clause-added g c = rw (← c.self.view_is) (adds _ _ _ _ _ _ c.mark.ensures.marked refl)
