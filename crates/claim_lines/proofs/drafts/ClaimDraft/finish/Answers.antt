use Rattle.std.proofs.Common.{refl}
use Rattle.claim_lines.proofs.Parting.{parts_of, parts_among}
use Rattle.claim_lines.proofs.drafts.ClaimDraft.finish.Goals as goal

pub returns-clause-parts : goal.returns-clause-parts
returns-clause-parts c = λ n k is. parts_of n c.args.self k _ (record { is = is; lines = c.in_ok-flow.ensures.all; rises = c.in_ok-flow.ensures.rises; pass = refl; full = refl })

pub returns-clause-among : goal.returns-clause-among
returns-clause-among c = λ n k is. parts_among n c.args.self k _ (record { is = is; lines = c.in_ok-flow.ensures.all; rises = c.in_ok-flow.ensures.rises; pass = refl; full = refl })
