use Rattle.std.proofs.Common.{sym, ap, ◌∙◌, ◌%◌}
use Rattle.frozen.specs.Parts.{Part, degree_in}
use Rattle.cert_book.proofs.Reading.{given_long}
use Rattle.cert_book.proofs.book.CertBook.given_count.Goals as goal

pub returns : goal.returns
returns c =
    let below = rw (← c.self.view_is) at c.requires in
    let read = rw c.account.view_is at c.degree.ensures in
    rw (← c.self.view_is) (read ∙ ap (λ (p : Part). degree_in p (c.args.account % 64)) c.block.ensures.part ∙ sym (given_long _ c.args.account c.block.ensures.parts below))
