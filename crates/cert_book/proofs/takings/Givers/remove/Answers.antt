use Rattle.std.proofs.Common.{ap, ◌∙◌, subst, sym}
use Rattle.cert_book.specs.inner.Takings.{has, Rises}
use Rattle.cert_book.proofs.Rising.{rises_without, has_without}
use Rattle.cert_book.proofs.takings.Givers.remove.Goals as goal

pub invariant_of-self : goal.invariant_of-self
invariant_of-self c =
    let found = rw (← c.self.view_is) at c.requires in
    subst Rises (sym c.remove.ensures.items) (rises_without _ _ c.self.invariant found.within)

pub returns : goal.returns
returns c = λ a.
    let found = rw (← c.self.view_is) at c.requires in
    rw (← c.self.view_is) (ap (λ xs. has xs a) c.remove.ensures.items ∙ has_without c.self.inside.accounts.items c.args.place c.args.giver a c.self.invariant found.within found.here)
