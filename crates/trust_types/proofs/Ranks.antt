-- A level is told by its place in the order.
use Rattle.std.proofs.Common.{ℕ, ◌≡◌, ◌<◌, true, refl, sym, ◌∙◌, ap, arith}
use Rattle.std.specs.Prelude.{slice_index_or}
use Rattle.trust_types.specs.declared.levels.Level.{Level}
use Rattle.trust_types.specs.declared.levels.Level.TheVariants.{Observer, Apprentice, Journeyer, Master, Fellow, Warden, Elder}
use Rattle.trust_types.specs.Levels.{rank, is_grade, levels}

abbrev level_at : ℕ → Level
level_at place = slice_index_or levels place Observer

level_at-rank : (level : Level) → level_at (rank level) ≡ level
level_at-rank Observer = refl
level_at-rank Apprentice = refl
level_at-rank Journeyer = refl
level_at-rank Master = refl
level_at-rank Fellow = refl
level_at-rank Warden = refl
level_at-rank Elder = refl

-- levels of the same rank are the same
pub same_from_ranks : (one other : Level) → rank one ≡ rank other → one ≡ other
same_from_ranks one other same = sym (level_at-rank one) ∙ ap level_at same ∙ level_at-rank other

-- a grade has a rank above 0
pub grade_rank : (level : Level) → is_grade level ≡ true → 0 < rank level
grade_rank Observer grade = absurd (cc)
grade_rank Apprentice grade = omega arith
grade_rank Journeyer grade = omega arith
grade_rank Master grade = omega arith
grade_rank Fellow grade = omega arith
grade_rank Warden grade = omega arith
grade_rank Elder grade = omega arith
