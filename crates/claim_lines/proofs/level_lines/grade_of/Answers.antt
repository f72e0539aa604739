use Rattle.std.proofs.Common.{◌≡◌, true}
use Rattle.trust_types.specs.Levels.{IsGrade}
use Rattle.trust_types.specs.Tables.{has_level}
use Rattle.claim_lines.proofs.Grading.{grade_in-ok}
use Rattle.claim_lines.proofs.level_lines.grade_of.Goals as goal

pub returns-clause-grade : goal.returns-clause-grade
returns-clause-grade c = grade_in-ok IsGrade c.args.table.now c.in_ok-one.field-0.now c.grade_in.result (λ level has grade. grade) c.grade_in.ensures

pub returns-clause-has : goal.returns-clause-has
returns-clause-has c = grade_in-ok (λ level. has_level c.args.table.now level ≡ true) c.args.table.now c.in_ok-one.field-0.now c.grade_in.result (λ level has grade. has) c.grade_in.ensures
