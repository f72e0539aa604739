use Rattle.std.proofs.Common.{List, ℕ, subst}
use Rattle.outside.specs.declared.keeper.Fetched.{Fetched}
use Rattle.outside.specs.declared.keeper.Fetched.TheVariants.{Row, End}
use Rattle.outside.specs.KeptRows.{Finds}
use Rattle.site_core.proofs.RowsRead.{read_all, read_full}
use Rattle.site_core.proofs.opening.end_of_rows.Goals as goal

pub returns-in-End-clause-opens : goal.returns-in-End-clause-opens
returns-in-End-clause-opens g c =
    let told = g.K.Keeper.rows c.args.keeper.now in
    let bytes : List ℕ = c.fetch.new.row.items in
    let finds : Finds told 4000000 End bytes = subst (λ (f : Fetched). Finds told 4000000 f bytes) c.in-End.is c.in_ok-fetch.ensures.found in
    read_all told c.args.state.now.history 4000000 bytes c.requires finds c.places.ensures.legal

pub returns-in-Row-clause-refused : goal.returns-in-Row-clause-refused
returns-in-Row-clause-refused g c =
    let told = g.K.Keeper.rows c.args.keeper.now in
    let bytes : List ℕ = c.fetch.new.row.items in
    let finds : Finds told 4000000 Row bytes = subst (λ (f : Fetched). Finds told 4000000 f bytes) c.in-Row.is c.in_ok-fetch.ensures.found in
    read_full told c.args.state.now.history bytes c.requires finds c.places.ensures.legal
