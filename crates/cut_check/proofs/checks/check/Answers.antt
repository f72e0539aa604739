use Rattle.std.proofs.Common.{subst}
use Rattle.cut_check.specs.Check.{IsVerdictOn}
use Rattle.cut_check.proofs.Most.{serves_most}
use Rattle.cut_check.proofs.checks.check.Goals as goal

pub returns-clause-greatest : goal.returns-clause-greatest
returns-clause-greatest c =
    let proof = c.args.proof.now in λ n is. serves_most proof proof.root n (subst (IsVerdictOn proof) is c.judge.ensures.verdict)
