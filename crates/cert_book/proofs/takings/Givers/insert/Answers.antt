use Rattle.std.proofs.Common.{ap, ◌∙◌, subst, sym}
use Rattle.cert_book.specs.inner.Takings.{has, Rises}
use Rattle.cert_book.proofs.Rising.{rises_with, has_with}
use Rattle.cert_book.proofs.takings.Givers.insert.Goals as goal

pub invariant_of-self : goal.invariant_of-self
invariant_of-self c =
    let place = rw (← c.self.view_is) at c.requires.place in
    subst Rises (sym c.insert_reserved.ensures) (rises_with _ _ _ c.self.invariant place)

pub returns : goal.returns
returns c = λ a. rw (← c.self.view_is) (ap (λ xs. has xs a) c.insert_reserved.ensures ∙ has_with c.self.inside.accounts.items c.args.place c.args.giver a)
