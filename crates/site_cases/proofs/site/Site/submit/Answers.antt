use Rattle.site_history.specs.Answers.{entry_of}
use Rattle.site_cases.proofs.Later.{kept_after}
use Rattle.site_cases.proofs.site.Site.submit.Goals as goal

pub invariant_of-self : goal.invariant_of-self
invariant_of-self c =
    let s = c.self.inside in
    kept_after s.book.history c.submit.new.self.history (λ reply. entry_of 1 c.args.act reply c.length-moment.result) c.submit.result s.frozen c.submit.ensures.entry c.submit.ensures.same c.self.invariant
