use Rattle.matchit.specs.Route.{parse_route}
use Rattle.http_paths.specs.inner.Tables.{with_route}
use Rattle.http_paths.proofs.Inserting.{inserted}
use Rattle.http_paths.proofs.add_action.Goals as goal

pub returns : goal.returns
unfolding with_route
returns c = inserted (parse_route c.args.path.now) c.args.action _ _ _ c.insert.ensures
