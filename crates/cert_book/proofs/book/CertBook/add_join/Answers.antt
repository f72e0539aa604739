use Rattle.std.proofs.Common.{refl, ◌∙◌}
use Rattle.cert_book.proofs.Passing.{none_has}
use Rattle.cert_book.proofs.Keeping.{kept_join}
use Rattle.cert_book.proofs.Adding.{adds}
use Rattle.cert_book.proofs.book.CertBook.add_join.Goals as goal

pub join-account-requires-clause-new : goal.join-account-requires-clause-new
join-account-requires-clause-new g c = none_has _ _ (rw (← c.self.view_is) at c.requires.follows)

pub invariant_of-self : goal.invariant_of-self
invariant_of-self g c =
    let none = none_has _ _ (rw (← c.self.view_is) at c.requires.follows) in
    record {
      kept = kept_join _ _ c.self.inside.numbers c.push.new.self c.self.inside.takings c.push_list.new.self _ c.args.name c.join-account.ensures.parts c.join-account.ensures.joined c.self.invariant.kept c.bytes-bytes.ensures.name
          (c.push.ensures _ c.self.invariant.kept.numbers none (c.account.view_is ∙ c.join-account.ensures.account)) c.push_list.ensures.long c.push_list.ensures.same;
      room = tt;
    }

pub returns-clause-added : goal.returns-clause-added
returns-clause-added g c = rw (← c.self.view_is) (adds _ _ _ _ _ _ c.join-account.ensures.joined refl)
