use Rattle.std.proofs.Common.{◌∙◌, sym, ap, subst}
use Rattle.frozen.specs.Sites.{AreParts, shared_parts}
use Rattle.frozen.specs.Revision.{revision_of}
use Rattle.cert_book.proofs.Adding.{frozen_records, if_ok}
use Rattle.cert_book.proofs.book.CertBook.freeze.Goals as goal

pub of_blocks-requires : goal.of_blocks-requires
of_blocks-requires g c = subst AreParts (sym (ap shared_parts c.deref.ensures.value ∙ c.in_ok-blocks.ensures.shared)) c.share.ensures.parts

pub returns-clause-records : goal.returns-clause-records
returns-clause-records g c =
    rw (← c.self.view_is) (if_ok c.of_blocks.result
    (λ f is. frozen_records c.self.inside.revision c.self.inside.caps c.self.inside.blocks.parts f.value (is ∙ ap (revision_of c.self.inside.revision c.self.inside.caps) (ap shared_parts c.deref.ensures.value ∙ c.in_ok-blocks.ensures.shared)))
    c.of_blocks.ensures.frozen)
