use Rattle.std.proofs.Common.{◌≡◌, [], ap, sym, refl, subst, ◌∙◌, false}
use Rattle.trust_types.specs.Kept.{revision}
use Rattle.site_history.specs.Histories.{Entry, Freeze, records, with_entry}
use Rattle.turn_book.specs.inner.Known.{seeing, turning, knows}
use Rattle.turn_book.specs.inner.Turns.{Sat}
use Rattle.turn_book.specs.Seats.{Seated, Adds}
use Rattle.turn_book.proofs.Seats.{adds_rest, adds_seat}
use Rattle.turn_book.proofs.site.Site.freeze_counted.Goals as goal

pub show-entries-requires-clause-entry : goal.show-entries-requires-clause-entry
show-entries-requires-clause-entry g c =
    let e : Entry = Freeze c.seat.inside.low (revision (records c.take-book.result.history)) in
    let turn = c.take-book.ensures.turn in
    (e, c.in-Ok.ensures.entry ∙ ap (λ (m : Sat g.K.Keeper.rows g.K.Keeper.faults). with_entry m.0.seen e) (sym turn), refl ∙ (c.seat.invariant.0 ∙ ap (λ (m : Sat g.K.Keeper.rows g.K.Keeper.faults). m.0.low) (sym turn)))

pub invariant_of-seat : goal.invariant_of-seat
invariant_of-seat g c =
    let inv = c.seat.invariant in
    let v = c.seat.inside.token.me.0 in
    let next = c.freeze.new.self.history in
    let is : c.show-entries.new.token.me ≡ (knows next v.base v.low v.high false, []) = c.show-entries.ensures.idle ∙ ap (λ (m : Sat g.K.Keeper.rows g.K.Keeper.faults). (turning (seeing m.0 next) false, [])) c.take-book.ensures.turn in
    adds_rest _ _ _ _ v c.take-book.result.history next (Freeze c.seat.inside.low (revision (records c.take-book.result.history))) is inv.0 inv.1 inv.3 c.take-book.ensures.later c.in-Ok.ensures.entry inv.0 c.show-entries.ensures.legal c.show-entries.ensures.entries

pub returns-in-Ok-clause-graph : goal.returns-in-Ok-clause-graph
returns-in-Ok-clause-graph g c =
    let inv = c.seat.invariant in
    let v = c.seat.inside.token.me.0 in
    let next = c.freeze.new.self.history in
    let is : c.show-entries.new.token.me ≡ (knows next v.base v.low v.high false, []) = c.show-entries.ensures.idle ∙ ap (λ (m : Sat g.K.Keeper.rows g.K.Keeper.faults). (turning (seeing m.0 next) false, [])) c.take-book.ensures.turn in
    let t = c.show-entries.new.token in
    let after : Seated = record { site = t.table_id; id = t.id; seen = t.me.0.seen; base = t.me.0.base; low = c.seat.inside.low; high = c.seat.inside.high } in
    let before = c.take-book.result.history in (
      before,
      c.in-Ok.ensures.graph,
      subst (λ (s : Seated). Adds s before (Freeze s.low (revision (records before))) after) c.seat.view_is
          (adds_seat _ _ _ _ _ _ _ v before next (Freeze c.seat.inside.low (revision (records c.take-book.result.history))) (c.show-entries.ensures.site.0 ∙ c.take-book.ensures.site.0) (c.show-entries.ensures.site.1 ∙ c.take-book.ensures.site.1) is inv.0 c.take-book.ensures.later c.in-Ok.ensures.entry inv.0 c.show-entries.ensures.legal),
    )
