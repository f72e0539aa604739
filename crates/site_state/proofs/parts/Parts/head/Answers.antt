use Rattle.std.proofs.Common.{length}
use Rattle.trust_types.specs.Kept.{is_article}
use Rattle.cert_book.specs.Books.{book}
use Rattle.site_state.specs.inner.Parts.{IsPostedBy}
use Rattle.site_state.proofs.Listing.{among}
use Rattle.site_state.proofs.parts.Parts.head.Goals as goal

pub author-requires : goal.author-requires
author-requires c = among (IsPostedBy (length (book c.args.self.now.certs).names)) is_article c.args.self.now.posts.posts c.args.no c.article-entry.result.now c.requires.posts c.article-entry.ensures
