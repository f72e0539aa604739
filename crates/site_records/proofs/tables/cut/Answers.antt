use Rattle.std.proofs.Common.{◌+◌, arith}
use Rattle.std.proofs.lemmas.List.{take_rest}
use Rattle.site_records.proofs.Entering.{cut-none, cut-some}
use Rattle.site_records.proofs.tables.cut.Goals as goal

pub returns-then-place-values-clause-pieces : goal.returns-then-place-values-clause-pieces
returns-then-place-values-clause-pieces c = cut-none c.args.values.now c.place_of-place.result c.place_of-place.ensures.place (omega arith)

pub returns-else-place-values-clause-pieces : goal.returns-else-place-values-clause-pieces
returns-else-place-values-clause-pieces c =
    cut-some c.args.values.now _ c.place_of-place.result c.place_of-place.ensures.place (omega arith) (take_rest c.args.values.now (c.place_of-place.result + 1))
