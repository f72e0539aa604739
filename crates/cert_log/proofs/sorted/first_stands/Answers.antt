use Rattle.std.proofs.Common.{arith}
use Rattle.std.proofs.lemmas.Grind.{common_steps}
use Rattle.cert_log.proofs.Listing.{grade_is}
use Rattle.cert_log.proofs.Moving.{first_by}
use Rattle.cert_log.proofs.sorted.first_stands.Goals as goal

pub returns-then-is_grade : goal.returns-then-is_grade
returns-then-is_grade c =
    first_by c.args.certs.now _ c.cert-item.result c.begins_with.result c.requires (omega arith) c.cert-item.is (grind (arith, common_steps)) c.begins_with.ensures
    (grade_is c.cert-item.result.level (c.is_grade.ensures.0 c.if-is_grade.true))
