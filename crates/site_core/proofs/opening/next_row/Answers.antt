use Rattle.std.proofs.Common.{List, ℕ, IfSome, refl, subst}
use Rattle.outside.specs.declared.keeper.Fetched.{Fetched}
use Rattle.outside.specs.declared.keeper.Fetched.TheVariants.{Row, End}
use Rattle.outside.specs.KeptRows.{Finds}
use Rattle.site_history.specs.Histories.{History}
use Rattle.site_core.specs.declared.opening.OpenFault.{OpenFault}
use Rattle.site_core.specs.Opening.{RefusesRows}
use Rattle.site_core.specs.inner.Opening.{RefusesRow, OpensRow}
use Rattle.site_state.proofs.StateOpened.{err_by}
use Rattle.site_core.proofs.RowsRead.{read_more, read_all, read_refused}
use Rattle.site_core.proofs.opening.next_row.Goals as goal

pub returns-in_err-open_row-in-Row-clause-refused : goal.returns-in_err-open_row-in-Row-clause-refused
returns-in_err-open_row-in-Row-clause-refused g c =
    let told = g.K.Keeper.rows c.args.keeper.now in
    let h : History = c.args.state.now.history in
    let bytes : List ℕ = c.fetch.new.row.items in
    let fault : OpenFault = c.in_err-open_row-in-Row.field-0.0 in
    let finds : Finds told c.args.n Row bytes = subst (λ (f : Fetched). Finds told c.args.n f bytes) c.in-Row.is c.in_ok-fetch.ensures.found in
    let why : RefusesRow h.opening h.opened bytes fault = subst (λ (b : List ℕ). RefusesRow h.opening h.opened b fault) c.deref.ensures.value c.in_err-open_row-in-Row.ensures.refused in
    err_by c.from_residual-in_err-open_row-in-Row.result fault (λ (e : OpenFault). IfSome told (λ rows. RefusesRows h.opening rows e)) c.from_residual-in_err-open_row-in-Row.ensures.1
    (read_refused told h c.args.n bytes fault c.requires.read finds c.places.ensures.legal c.requires.few why)

pub returns-in-End-clause-read : goal.returns-in-End-clause-read
returns-in-End-clause-read g c =
    let told = g.K.Keeper.rows c.args.keeper.now in
    let bytes : List ℕ = c.fetch.new.row.items in
    let finds : Finds told c.args.n End bytes = subst (λ (f : Fetched). Finds told c.args.n f bytes) c.in-End.is c.in_ok-fetch.ensures.found in
    (refl, read_all told c.args.state.now.history c.args.n bytes c.requires.read finds c.places.ensures.legal)

pub returns-in_ok-open_row-in-Row-clause-read : goal.returns-in_ok-open_row-in-Row-clause-read
returns-in_ok-open_row-in-Row-clause-read g c =
    let told = g.K.Keeper.rows c.args.keeper.now in
    let h : History = c.args.state.now.history in
    let h' : History = c.open_row.new.state.history in
    let bytes : List ℕ = c.fetch.new.row.items in
    let finds : Finds told c.args.n Row bytes = subst (λ (f : Fetched). Finds told c.args.n f bytes) c.in-Row.is c.in_ok-fetch.ensures.found in
    let opens : OpensRow h h' bytes = subst (λ (b : List ℕ). OpensRow h h' b) c.deref.ensures.value c.in_ok-open_row-in-Row.ensures.ok in
    read_more told h h' c.args.n bytes c.requires.read finds opens
