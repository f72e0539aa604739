use Rattle.http_pages.proofs.Grammar.{rosters_are_safe}
use Rattle.http_pages.proofs.laws.rosters_are_safe.Goals as goal

pub returns : goal.returns
returns c = rosters_are_safe
