use Rattle.std.proofs.Common.{sym, subst}
use Rattle.http_pages.specs.Views.{AreDated}
use Rattle.site_history.specs.Views.{Shown}
use Rattle.exchanges.proofs.Dating.{shown_dated}
use Rattle.exchanges.proofs.Deciding.{viewed}
use Rattle.exchanges.proofs.answering.look.Goals as goal

pub returns-in-Ok-clause-ok : goal.returns-in-Ok-clause-ok
returns-in-Ok-clause-ok g c = λ q token moment held site asks. (
  viewed _ _ q token moment _ c.args.query.now _ c.in-Ok.ensures.looks c.in-Ok.ensures.view site asks c.length-long.ensures,
  subst (λ (v : Shown). AreDated v) (sym c.in-Ok.ensures.view) (shown_dated _ c.args.query.now c.in-Ok.ensures.looks.legal),
)
