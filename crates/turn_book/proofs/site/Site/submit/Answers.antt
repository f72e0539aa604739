use Rattle.std.proofs.Common.{◌≡◌, [], ap, sym, subst, ◌∙◌, false}
use Rattle.site_history.specs.Answers.{entry_of}
use Rattle.site_history.specs.Histories.{Entry, with_entry}
use Rattle.turn_book.specs.inner.Known.{seeing, turning, knows}
use Rattle.turn_book.specs.inner.Turns.{Sat}
use Rattle.turn_book.specs.Seats.{Seated, Adds}
use Rattle.turn_book.proofs.Seats.{adds_rest, adds_seat, entry_caller}
use Rattle.turn_book.proofs.site.Site.submit.Goals as goal

pub show-entries-requires-clause-entry : goal.show-entries-requires-clause-entry
show-entries-requires-clause-entry g c =
    let e : Entry = entry_of c.seat.inside.low c.args.act c.in-Ok.reply c.args.moment in
    let turn = c.take-book.ensures.turn in
    (e, c.in-Ok.ensures.entry ∙ ap (λ (m : Sat g.K.Keeper.rows g.K.Keeper.faults). with_entry m.0.seen e) (sym turn), entry_caller c.seat.inside.low c.args.act c.in-Ok.reply c.args.moment ∙ (c.seat.invariant.0 ∙ ap (λ (m : Sat g.K.Keeper.rows g.K.Keeper.faults). m.0.low) (sym turn)))

pub invariant_of-seat : goal.invariant_of-seat
invariant_of-seat g c =
    let inv = c.seat.invariant in
    let v = c.seat.inside.token.me.0 in
    let next = c.submit.new.self.history in
    let is : c.show-entries.new.token.me ≡ (knows next v.base v.low v.high false, []) = c.show-entries.ensures.idle ∙ ap (λ (m : Sat g.K.Keeper.rows g.K.Keeper.faults). (turning (seeing m.0 next) false, [])) c.take-book.ensures.turn in
    adds_rest _ _ _ _ v c.take-book.result.history next (entry_of c.seat.inside.low c.args.act c.in-Ok.reply c.args.moment) is inv.0 inv.1 inv.3 c.take-book.ensures.later c.in-Ok.ensures.entry (entry_caller c.seat.inside.low c.args.act c.in-Ok.reply c.args.moment ∙ inv.0) c.show-entries.ensures.legal c.show-entries.ensures.entries

pub returns-in-Ok-clause-reply : goal.returns-in-Ok-clause-reply
returns-in-Ok-clause-reply g c =
    let inv = c.seat.invariant in
    let v = c.seat.inside.token.me.0 in
    let next = c.submit.new.self.history in
    let is : c.show-entries.new.token.me ≡ (knows next v.base v.low v.high false, []) = c.show-entries.ensures.idle ∙ ap (λ (m : Sat g.K.Keeper.rows g.K.Keeper.faults). (turning (seeing m.0 next) false, [])) c.take-book.ensures.turn in
    let t = c.show-entries.new.token in
    let after : Seated = record { site = t.table_id; id = t.id; seen = t.me.0.seen; base = t.me.0.base; low = c.seat.inside.low; high = c.seat.inside.high } in
    let before = c.take-book.result.history in (
      before,
      c.in-Ok.ensures.reply,
      subst (λ (s : Seated). Adds s before (entry_of s.low c.args.act c.in-Ok.reply c.args.moment) after) c.seat.view_is
          (adds_seat _ _ _ _ _ _ _ v before next (entry_of c.seat.inside.low c.args.act c.in-Ok.reply c.args.moment) (c.show-entries.ensures.site.0 ∙ c.take-book.ensures.site.0) (c.show-entries.ensures.site.1 ∙ c.take-book.ensures.site.1) is inv.0 c.take-book.ensures.later c.in-Ok.ensures.entry (entry_caller c.seat.inside.low c.args.act c.in-Ok.reply c.args.moment ∙ inv.0) c.show-entries.ensures.legal),
    )

pub returns-in-Ok-clause-admitted : goal.returns-in-Ok-clause-admitted
unfolding returns-in-Ok-clause-reply
returns-in-Ok-clause-admitted g c =
    let found = returns-in-Ok-clause-reply g c in
    (c.take-book.result.history, c.in-Ok.ensures.admitted, found.2)
