use Rattle.http_heads.proofs.Cutting.{cut-last, cut-at}
use Rattle.http_heads.proofs.parts.cut.Goals as goal

pub returns-in_default-clause-parts : goal.returns-in_default-clause-parts
returns-in_default-clause-parts c = cut-last _ c.args.bytes.now c.in_default.ensures

pub returns-clause-parts : goal.returns-clause-parts
returns-clause-parts c = cut-at _ c.args.bytes.now _ _ _ c.in-Some.ensures c.split_at.ensures.front c.split_at.ensures.back
