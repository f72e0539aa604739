use Rattle.std.proofs.Common.{length, sym}
use Rattle.cert_book.specs.Books.{book}
use Rattle.site_state.specs.inner.Parts.{IsPostedBy}
use Rattle.site_state.proofs.Listing.{first_found}
use Rattle.site_state.proofs.parts.Parts.project.Goals as goal

pub post-requires : goal.post-requires
post-requires c = first_found (IsPostedBy (length (book c.args.self.now.certs).names)) _ c.args.self.now.posts.posts _ c.requires (sym c.in-Some-project.ensures)
