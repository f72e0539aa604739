use Rattle.cert_book.specs.Books.{book}
use Rattle.site_state.specs.inner.Parts.{site_in}
use Rattle.site_state.proofs.Listing.{is_name}
use Rattle.site_state.proofs.Showing.{diary_is}
use Rattle.site_state.proofs.parts.Parts.diary.Goals as goal

pub returns : goal.returns
returns c =
    diary_is (site_in c.args.self.now) c.args.word.now c.in-Some.account (record { name = c.name.result; posts = c.in_ok-entries.field-0 }) c.in-Some.ensures.number
    (is_name (book c.args.self.now.certs).names c.in-Some.account c.name.result c.name.ensures) c.in_ok-entries.ensures
