use Rattle.std.proofs.Common.{◌∙◌, arith}
use Rattle.http_paths.proofs.FlatLemmas.{IsText-bytes}
use Rattle.http_paths.proofs.Finding.{finds-pages}
use Rattle.http_paths.proofs.page_named.Goals as goal

pub returns : goal.returns
returns c = c.page_in.ensures ∙ finds-pages c.args.path.now (IsText-bytes c.args.path.now (λ i. omega (arith, c.type_inv.path i)))
