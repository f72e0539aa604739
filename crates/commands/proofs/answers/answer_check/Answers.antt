use Rattle.std.proofs.Common.{sym, subst}
use Rattle.std.proofs.lemmas.Result.{IfOk-weaker}
use Rattle.site_text.specs.Site.{proof}
use Rattle.commands.specs.Answers.{AnswersProof, IsJudged}
use Rattle.commands.proofs.answers.answer_check.Goals as goal

pub returns-in-Ok : goal.returns-in-Ok
returns-in-Ok c =
    let read = c.in-Ok.ensures in
    IfOk-weaker c.judge.result (IsJudged c.in-Ok.proof) (AnswersProof (proof c.args.bytes.items))
    (λ answer is. subst (λ (said : _). AnswersProof said answer) (sym read.1) (c.in-Ok.proof, read.2, is)) c.judge.ensures
