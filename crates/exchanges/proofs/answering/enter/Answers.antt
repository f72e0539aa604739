use Rattle.std.proofs.Common.{ℕ, ◌-◌, ap, subst}
use Rattle.site_history.specs.declared.replies.Refusal.{Refusal}
use Rattle.site_history.specs.declared.replies.Refusal.TheVariants.{HistoryFull, TextFull}
use Rattle.site_history.specs.Answers.{Refuses}
use Rattle.exchanges.proofs.Deciding.{entered, refused}
use Rattle.exchanges.proofs.answering.enter.Goals as goal

pub returns-in-Ok-clause-ok : goal.returns-in-Ok-clause-ok
returns-in-Ok-clause-ok g c = λ q token held site is_act.
    let added = c.in-Ok.ensures.reply in
    (entered _ _ q token c.args.moment c.args.act c.in-Ok.reply added.0 _ added.1 added.2 site is_act (ap (λ (n : ℕ). n - 1) c.length-long.ensures), tt)

pub returns-in-HistoryFull-clause-ok : goal.returns-in-HistoryFull-clause-ok
returns-in-HistoryFull-clause-ok g c = λ q token held site is_act.
    (refused _ _ q token c.args.moment _ c.args.act HistoryFull c.in-Err.ensures.same (subst (λ (why : Refusal). Refuses c.submit.new.seat.seen c.args.act why) c.in-HistoryFull.is c.in-Err.ensures.refused) (λ e. cc) site is_act c.length-total.ensures, tt)

pub returns-in-TextFull-clause-ok : goal.returns-in-TextFull-clause-ok
returns-in-TextFull-clause-ok g c = λ q token held site is_act.
    (refused _ _ q token c.args.moment _ c.args.act (TextFull c.in-TextFull.bytes) c.in-Err.ensures.same (subst (λ (why : Refusal). Refuses c.submit.new.seat.seen c.args.act why) c.in-TextFull.is c.in-Err.ensures.refused) (λ e. cc) site is_act c.length-total.ensures, tt)
