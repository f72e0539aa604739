use Rattle.std.proofs.Common.{◌∙◌, arith}
use Rattle.http_paths.proofs.FlatLemmas.{IsText-bytes}
use Rattle.http_paths.proofs.Finding.{finds-actions}
use Rattle.http_paths.proofs.action_named.Goals as goal

pub returns : goal.returns
returns c = c.action_in.ensures ∙ finds-actions c.args.path.now (IsText-bytes c.args.path.now (λ i. omega (arith, c.type_inv.path i)))
