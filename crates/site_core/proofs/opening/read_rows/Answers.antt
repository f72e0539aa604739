use Rattle.std.proofs.Common.{IfSome, refl}
use Rattle.site_core.specs.declared.opening.OpenFault.{OpenFault}
use Rattle.site_core.specs.Opening.{RefusesRows}
use Rattle.site_state.proofs.StateOpened.{err_by}
use Rattle.site_core.proofs.RowsRead.{read_none, begun_alone, begun_opens, begun_refused, first_cause, not_ok}
use Rattle.site_core.proofs.opening.read_rows.Goals as goal

pub open_rows-requires : goal.open_rows-requires
open_rows-requires g c = read_none c.args.caps (g.K.Keeper.rows c.args.keeper.now) c.begin-state.result.history c.begin-state.ensures.history

pub returns-in_err-open_rows-clause-history : goal.returns-in_err-open_rows-clause-history
returns-in_err-open_rows-clause-history g c = not_ok c.from_residual.result c.in_err-open_rows.field-0.0 _ c.from_residual.ensures.1

pub returns-in_err-open_rows-clause-opens : goal.returns-in_err-open_rows-clause-opens
returns-in_err-open_rows-clause-opens g c = not_ok c.from_residual.result c.in_err-open_rows.field-0.0 _ c.from_residual.ensures.1

pub returns-in_err-open_rows-clause-refused : goal.returns-in_err-open_rows-clause-refused
returns-in_err-open_rows-clause-refused g c =
    let told = g.K.Keeper.rows c.args.keeper.now in
    let fault : OpenFault = c.in_err-open_rows.field-0.0 in
    err_by c.from_residual.result fault (λ (e : OpenFault). IfSome told (λ rows. RefusesRows c.args.caps rows e)) c.from_residual.ensures.1
    (begun_refused told c.args.caps c.begin-state.result.history fault c.begin-state.ensures.history c.in_err-open_rows.ensures.refused)

pub returns-in_err-open_rows-clause-rows : goal.returns-in_err-open_rows-clause-rows
returns-in_err-open_rows-clause-rows g c = c.in_err-open_rows.ensures.rows

pub returns-in_err-open_rows-clause-cause : goal.returns-in_err-open_rows-clause-cause
returns-in_err-open_rows-clause-cause g c =
    first_cause c.from_residual.result c.in_err-open_rows.field-0.0 (g.K.Keeper.faults c.args.keeper.now) (g.K.Keeper.faults c.args.keeper.now) (g.K.Keeper.faults c.open_rows.new.keeper)
    refl c.from_residual.ensures.1 c.in_err-open_rows.ensures.cause

pub same-state : goal.same-state
same-state g c = refl

pub returns-clause-history : goal.returns-clause-history
returns-clause-history g c = begun_alone c.args.caps c.begin-state.result.history c.open_rows.new.state.history c.begin-state.ensures.history c.in_ok-open_rows.ensures.history

pub returns-clause-opens : goal.returns-clause-opens
returns-clause-opens g c =
    begun_opens (g.K.Keeper.rows c.args.keeper.now) c.args.caps c.begin-state.result.history c.open_rows.new.state.history.opened c.begin-state.ensures.history c.in_ok-open_rows.ensures.opens

pub returns-clause-rows : goal.returns-clause-rows
returns-clause-rows g c = c.in_ok-open_rows.ensures.rows

pub returns-clause-cause : goal.returns-clause-cause
returns-clause-cause g c = c.in_ok-open_rows.ensures.cause
