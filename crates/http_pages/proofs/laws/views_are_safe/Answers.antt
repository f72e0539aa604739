use Rattle.http_pages.proofs.Grammar.{views_are_safe}
use Rattle.http_pages.proofs.laws.views_are_safe.Goals as goal

pub returns : goal.returns
returns c = views_are_safe
