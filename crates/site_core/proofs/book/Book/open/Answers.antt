use Rattle.std.proofs.Common.{sym, subst}
use Rattle.site_core.specs.Books.{IsSound}
use Rattle.site_core.proofs.Keeping.{kept_of}
use Rattle.site_core.proofs.Reopening.{sound_opened}
use Rattle.site_core.proofs.book.Book.open.Goals as goal

pub invariant_of-result : goal.invariant_of-result
invariant_of-result g c =
    subst (λ found. IsSound g.K.Keeper.rows g.K.Keeper.faults (kept_of c.in-Ok.state.history found c.read_rows.new.keeper)) (sym c.of-found.ensures)
    (sound_opened g.K.Keeper.rows g.K.Keeper.faults c.args.caps c.in-Ok.state.history c.args.keeper c.read_rows.new.keeper
    c.in-Ok.ensures.history c.places.ensures.legal c.in-Ok.ensures.opens c.in-Ok.ensures.rows c.in-Ok.ensures.cause)

pub returns-in-Ok-clause-history : goal.returns-in-Ok-clause-history
returns-in-Ok-clause-history g c = c.in-Ok.ensures.history

pub returns-in-Ok-clause-opens : goal.returns-in-Ok-clause-opens
returns-in-Ok-clause-opens g c = c.in-Ok.ensures.opens

pub returns-in-Ok-clause-found : goal.returns-in-Ok-clause-found
returns-in-Ok-clause-found g c = c.of-found.ensures

pub returns-in-Ok-clause-sound : goal.returns-in-Ok-clause-sound
returns-in-Ok-clause-sound g c =
    subst (λ found. IsSound g.K.Keeper.rows g.K.Keeper.faults (kept_of c.in-Ok.state.history found c.read_rows.new.keeper)) (sym c.of-found.ensures)
    (sound_opened g.K.Keeper.rows g.K.Keeper.faults c.args.caps c.in-Ok.state.history c.args.keeper c.read_rows.new.keeper
    c.in-Ok.ensures.history c.places.ensures.legal c.in-Ok.ensures.opens c.in-Ok.ensures.rows c.in-Ok.ensures.cause)

pub returns-in-Ok-clause-counted : goal.returns-in-Ok-clause-counted
returns-in-Ok-clause-counted g c = c.in-Ok.ensures.cause

pub returns-in-Err-clause-refused : goal.returns-in-Err-clause-refused
returns-in-Err-clause-refused g c = c.in-Err.ensures.refused

pub returns-in-Err-clause-back : goal.returns-in-Err-clause-back
returns-in-Err-clause-back g c = c.in-Err.ensures.rows

pub returns-in-Err-clause-cause : goal.returns-in-Err-clause-cause
returns-in-Err-clause-cause g c = c.in-Err.ensures.cause
