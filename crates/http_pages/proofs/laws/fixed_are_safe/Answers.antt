use Rattle.http_pages.proofs.Grammar.{fixed_are_safe}
use Rattle.http_pages.proofs.laws.fixed_are_safe.Goals as goal

pub returns : goal.returns
returns c = fixed_are_safe
