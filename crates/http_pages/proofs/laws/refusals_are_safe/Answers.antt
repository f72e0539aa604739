use Rattle.http_pages.proofs.Grammar.{refusals_are_safe}
use Rattle.http_pages.proofs.laws.refusals_are_safe.Goals as goal

pub returns : goal.returns
returns c = refusals_are_safe
