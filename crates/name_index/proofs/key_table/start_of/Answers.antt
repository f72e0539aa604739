use Rattle.std.proofs.Common.{arith}
use Rattle.std.proofs.lemmas.List.{get_or_default}
use Rattle.name_index.proofs.Buckets.{start_is}
use Rattle.name_index.proofs.key_table.start_of.Goals as goal

pub returns-else-bucket_of-bucket : goal.returns-else-bucket_of-bucket
returns-else-bucket_of-bucket c =
    start_is _ _ _ c.requires.rising c.loop-start.invariant.inside c.loop-start.invariant.before
    (λ d inside. rw (get_or_default c.args.keys.now c.loop-start.start d 0 inside) (omega (arith, c.bucket_of.ensures.is)))
