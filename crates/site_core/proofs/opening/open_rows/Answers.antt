use Rattle.std.proofs.Common.{◌∙◌, ◌+◌, ℕ, IfSome, refl, sym, subst, arith}
use Rattle.outside.specs.declared.keeper.Fetched.TheVariants.{Row, End}
use Rattle.outside.specs.KeptRows.{ToldRows}
use Rattle.site_history.specs.Histories.{History}
use Rattle.site_core.specs.declared.opening.OpenFault.{OpenFault}
use Rattle.site_core.specs.Opening.{RefusesRows}
use Rattle.site_core.specs.inner.Opening.{HasRead, ReadsNext}
use Rattle.site_state.proofs.StateOpened.{err_by}
use Rattle.site_core.proofs.RowsRead.{read_most, first_refused, first_opens, first_alone, first_cause}
use Rattle.site_core.proofs.opening.open_rows.Goals as goal

pub loop-n-init : goal.loop-n-init
loop-n-init g c = record { opening = refl; read = c.requires; rows = refl; faults = refl }

pub next_row-requires-clause-read : goal.next_row-requires-clause-read
next_row-requires-clause-read g c = c.loop-n.invariant.read

pub returns-in_err-next_row-clause-refused : goal.returns-in_err-next_row-clause-refused
returns-in_err-next_row-clause-refused g c =
    let told = g.K.Keeper.rows c.args.keeper.now in
    let opening = c.args.state.now.history.opening in
    let fault : OpenFault = c.in_err-next_row.field-0.0 in
    err_by c.from_residual.result fault (λ (e : OpenFault). IfSome told (λ rows. RefusesRows opening rows e)) c.from_residual.ensures.1
    (first_refused told (g.K.Keeper.rows c.loop-n.keeper) opening c.loop-n.state.history.opening fault c.loop-n.invariant.rows c.loop-n.invariant.opening c.in_err-next_row.ensures.refused)

pub returns-in_err-next_row-clause-rows : goal.returns-in_err-next_row-clause-rows
returns-in_err-next_row-clause-rows g c = c.in_err-next_row.ensures.rows ∙ c.loop-n.invariant.rows

pub returns-in_err-next_row-clause-cause : goal.returns-in_err-next_row-clause-cause
returns-in_err-next_row-clause-cause g c =
    first_cause c.from_residual.result c.in_err-next_row.field-0.0 (g.K.Keeper.faults c.args.keeper.now) (g.K.Keeper.faults c.loop-n.keeper) (g.K.Keeper.faults c.next_row.new.keeper)
    c.loop-n.invariant.faults c.from_residual.ensures.1 c.in_err-next_row.ensures.cause

pub returns-in-End-clause-history : goal.returns-in-End-clause-history
returns-in-End-clause-history g c =
    let read : ReadsNext (g.K.Keeper.rows c.loop-n.keeper) c.loop-n.n c.loop-n.state.history c.next_row.new.state.history End =
    subst (ReadsNext (g.K.Keeper.rows c.loop-n.keeper) c.loop-n.n c.loop-n.state.history c.next_row.new.state.history) c.in-End.is c.in_ok-next_row.ensures.read in
    first_alone c.args.state.now.history.opening c.loop-n.state.history c.next_row.new.state.history c.loop-n.invariant.read.alone c.loop-n.invariant.opening read.0

pub returns-in-End-clause-opens : goal.returns-in-End-clause-opens
returns-in-End-clause-opens g c =
    let read : ReadsNext (g.K.Keeper.rows c.loop-n.keeper) c.loop-n.n c.loop-n.state.history c.next_row.new.state.history End =
    subst (ReadsNext (g.K.Keeper.rows c.loop-n.keeper) c.loop-n.n c.loop-n.state.history c.next_row.new.state.history) c.in-End.is c.in_ok-next_row.ensures.read in
    first_opens (g.K.Keeper.rows c.args.keeper.now) (g.K.Keeper.rows c.loop-n.keeper) c.args.state.now.history.opening c.loop-n.state.history c.next_row.new.state.history
    c.loop-n.invariant.rows c.loop-n.invariant.opening read.0 read.1

pub returns-in-End-clause-rows : goal.returns-in-End-clause-rows
returns-in-End-clause-rows g c = c.in_ok-next_row.ensures.rows ∙ c.loop-n.invariant.rows

pub returns-in-End-clause-cause : goal.returns-in-End-clause-cause
returns-in-End-clause-cause g c = c.in_ok-next_row.ensures.cause ∙ c.loop-n.invariant.faults

pub loop-n-preserved : goal.loop-n-preserved
loop-n-preserved g c =
    let h : History = c.next_row.new.state.history in
    let n : ℕ = c.loop-n.n in
    let read : ReadsNext (g.K.Keeper.rows c.loop-n.keeper) n c.loop-n.state.history h Row =
    subst (ReadsNext (g.K.Keeper.rows c.loop-n.keeper) n c.loop-n.state.history h) c.in-Row.is c.in_ok-next_row.ensures.read in
    record {
      opening = read.1 ∙ c.loop-n.invariant.opening;
      read = subst (λ (told : ToldRows). HasRead told (n + 1) h) (sym c.in_ok-next_row.ensures.rows) read.0;
      rows = c.in_ok-next_row.ensures.rows ∙ c.loop-n.invariant.rows;
      faults = c.in_ok-next_row.ensures.cause ∙ c.loop-n.invariant.faults;
    }

pub end_of_rows-requires : goal.end_of_rows-requires
end_of_rows-requires g c = read_most (g.K.Keeper.rows c.loop-n.keeper) c.loop-n.state.history c.loop-n.n c.loop-n.invariant.read (omega (arith, c.loop-n.auto.n-end, c.loop-n-test.false))
