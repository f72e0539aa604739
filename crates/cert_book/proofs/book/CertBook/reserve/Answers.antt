use Rattle.std.proofs.Common.{refl, sym, ap, ◌∙◌, ◌≡◌, ℕ, List, Some}
use Rattle.frozen.specs.Parts.{Part}
use Rattle.frozen.specs.Sites.{accounts}
use Rattle.cert_book.specs.inner.Keeping.{written}
use Rattle.cert_book.proofs.Keeping.{kept_reserved, written_inside}
use Rattle.cert_book.proofs.book.CertBook.reserve.Goals as goal

pub invariant_of-self : goal.invariant_of-self
invariant_of-self g c = record {
  kept = kept_reserved _ _ _ _ _ _ _ refl c.self.invariant.kept c.reserve_beside.ensures.numbers c.reserve_beside.ensures.long c.reserve_beside.ensures.takings;
  room = tt;
}

pub invariant_of-self-in_err-reserve : goal.invariant_of-self-in_err-reserve
invariant_of-self-in_err-reserve g c = record {
  kept = kept_reserved _ _ _ _ _ _ _ c.reserve.ensures.same c.self.invariant.kept c.reserve_beside.ensures.numbers c.reserve_beside.ensures.long c.reserve_beside.ensures.takings;
  room = tt;
}

pub invariant_of-self-2 : goal.invariant_of-self-2
invariant_of-self-2 g c =
    let count : c.accounts.result ≡ accounts c.reserve.new.self.parts = c.accounts.ensures.value ∙ ap (λ (ps : List Part). accounts ps) (sym c.reserve.ensures.same) in
    record {
      kept = kept_reserved _ _ _ _ _ _ _ c.reserve.ensures.same c.self.invariant.kept c.reserve_beside.ensures.numbers c.reserve_beside.ensures.long c.reserve_beside.ensures.takings;
      room = (c.in_ok-reserve.ensures.ready ∙ ap Some (c.written-account.ensures ∙ ap (λ (n : ℕ). written n c.args.author c.args.subject) count), c.in_ok-reserve_beside.ensures.room);
    }

pub returns-in_err-reserve-clause-again : goal.returns-in_err-reserve-clause-again
returns-in_err-reserve-clause-again g c = λ some room.
    let was = rw (← c.self.view_is) at room in
    let held = rw was at c.self.invariant.room in
    let account : c.written-account.result ≡ written (accounts c.self.inside.blocks.parts) c.args.author c.args.subject =
    c.written-account.ensures ∙ ap (λ (n : ℕ). written n c.args.author c.args.subject) c.accounts.ensures.value in
    let author = rw (← c.self.view_is) at c.requires.author in
    let subject = rw (← c.self.view_is) at c.requires.subject in
    c.reserve.ensures.again (held.0 ∙ ap Some (sym account)) (written_inside c.self.inside.blocks.parts c.args.author c.args.subject c.written-account.result c.accounts.ensures.parts some author subject account)

pub returns-clause-again : goal.returns-clause-again
returns-clause-again g c = λ some room.
    let was = rw (← c.self.view_is) at room in
    let held = rw was at c.self.invariant.room in
    let account : c.written-account.result ≡ written (accounts c.self.inside.blocks.parts) c.args.author c.args.subject =
    c.written-account.ensures ∙ ap (λ (n : ℕ). written n c.args.author c.args.subject) c.accounts.ensures.value in
    let author = rw (← c.self.view_is) at c.requires.author in
    let subject = rw (← c.self.view_is) at c.requires.subject in
    c.reserve.ensures.again (held.0 ∙ ap Some (sym account)) (written_inside c.self.inside.blocks.parts c.args.author c.args.subject c.written-account.result c.accounts.ensures.parts some author subject account)
