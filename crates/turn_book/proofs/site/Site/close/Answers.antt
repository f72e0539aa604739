use Rattle.std.proofs.Common.{◌≡◌, ℕ, ◌+◌, ◌∙◌, sym, ap, subst, refl, Option, Some, IsSome}
use Rattle.std.proofs.lemmas.Option.{same_Some}
use mathlib.Core.Option.{some-injective}
use Rattle.site_core.specs.Books.{Kept, IsSound}
use Rattle.turn_book.specs.Seats.{Seated, StartsWith, made_by, mine}
use Rattle.turn_book.specs.inner.Known.{Known, Later}
use Rattle.turn_book.proofs.Keeps.{closing}
use Rattle.turn_book.proofs.site.Site.close.Goals as goal

pub returns-then-turn-ne0-clause-err : goal.returns-then-turn-ne0-clause-err
returns-then-turn-ne0-clause-err g c =
    let inv = c.seat.invariant in
    let known = closing g.K.Keeper.rows g.K.Keeper.faults _ _ c.seat.inside.token.me.0 _ _ inv.3.off c.close_with-closed.ensures.values.2 in
    let turn : known.0 ≡ c.word-turn.result = some-injective _ _ (sym known.1 ∙ c.word-turn.ensures) in
    let low : c.seat.inside.low ≡ c.args.seat.low = ap (λ s. s.low) c.seat.view_is in
    (c.if-turn-ne0.true, λ is. known.2 (turn ∙ is ∙ ap (λ (n : ℕ). n + 1) (sym low ∙ inv.0)))

pub unwrap-requires : goal.unwrap-requires
unwrap-requires g c =
    let inv = c.seat.invariant in
    let known = closing g.K.Keeper.rows g.K.Keeper.faults _ _ c.seat.inside.token.me.0 _ _ inv.3.off c.close_with-closed.ensures.values.2 in
    let turn : known.0 ≡ c.word-turn.result = some-injective _ _ (sym known.1 ∙ c.word-turn.ensures) in
    let found = known.3 (turn ∙ c.if-turn-ne0.false) in
    let held : Some found.0 ≡ c.take-held.result = some-injective _ _ (sym found.1 ∙ c.take-held.ensures.value) in
    subst (λ (o : Option (Kept g.row.K.Denot)). IsSome o) held refl

pub returns-clause-ok : goal.returns-clause-ok
returns-clause-ok g c =
    let B = Kept g.row.K.Denot in
    let rows = g.K.Keeper.rows in
    let faults = g.K.Keeper.faults in
    let inv = c.seat.invariant in
    let v : Known = c.seat.inside.token.me.0 in
    let known = closing rows faults _ _ v _ _ inv.3.off c.close_with-closed.ensures.values.2 in
    let turn : known.0 ≡ c.word-turn.result = some-injective _ _ (sym known.1 ∙ c.word-turn.ensures) in
    let found = known.3 (turn ∙ c.if-turn-ne0.false) in
    let held : Some found.0 ≡ c.take-held.result = some-injective _ _ (sym found.1 ∙ c.take-held.ensures.value) in
    let book : B = c.unwrap.result in
    let same : found.0 ≡ book = same_Some _ _ (held ∙ c.unwrap.ensures) in
    let t = subst (λ (b : B). Later v b.history × IsSound rows faults b) same (found.2, found.3) in
    subst (λ (s : Seated). IsSound rows faults book × StartsWith book.history s.seen × (made_by s.base s.low book.history ≡ mine s)) c.seat.view_is
    (t.1, t.0.begins, subst (λ (z : ℕ). made_by v.base z book.history ≡ made_by v.base z v.seen) (sym inv.0) t.0.mine)
