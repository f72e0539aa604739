-- What stands in a grade's place is a grade, and the table has it.
use Rattle.std.proofs.Common.{◌≡◌, ℕ, Bool, true, false, List, Option, Some, None, Result, Ok, IfOk, refl}
use Rattle.std.specs.Option.{ok_or}
use Rattle.trust_types.specs.declared.levels.Level.{Level}
use Rattle.trust_types.specs.declared.levels.Level.TheVariants.{Observer, Apprentice, Journeyer, Master, Fellow, Warden, Elder}
use Rattle.trust_types.specs.Levels.{is_grade, IsGrade, level_of}
use Rattle.trust_types.specs.Tables.{Table, has_level}
use Rattle.text_lines.specs.declared.faults.TextKind.{TextKind}
use Rattle.text_lines.specs.declared.faults.TextKind.TheVariants.{BadLevel}
use Rattle.text_lines.specs.Steps.{◌>>=◌, fault_unless}
use Rattle.text_lines.specs.Places.{grade_in}

of_grade : (P : Level → Type 0) (level : Level) → (IsGrade level → P level) → IfOk (fault_unless (is_grade level) BadLevel >>= λ _. Ok level) P
of_grade P Observer each = tt
of_grade P Apprentice each = each (λ e. cc)
of_grade P Journeyer each = each (λ e. cc)
of_grade P Master each = each (λ e. cc)
of_grade P Fellow each = each (λ e. cc)
of_grade P Warden each = each (λ e. cc)
of_grade P Elder each = each (λ e. cc)

of_level : (P : Level → Type 0) (level : Level) (has : Bool) → (has ≡ true → IsGrade level → P level) →
    IfOk ((fault_unless has BadLevel >>= λ _. Ok level) >>= λ l. fault_unless (is_grade l) BadLevel >>= λ _. Ok l) P
of_level P level true each = of_grade P level (each refl)
of_level P level false each = tt

of_found : (P : Level → Type 0) (table : Table) (found : Option Level) → ((level : Level) → has_level table level ≡ true → IsGrade level → P level) →
    IfOk ((ok_or found BadLevel >>= λ level. fault_unless (has_level table level) BadLevel >>= λ _. Ok level) >>= λ level. fault_unless (is_grade level) BadLevel >>= λ _. Ok level) P
of_found P table None each = tt
of_found P table (Some level) each = of_level P level (has_level table level) (each level)

pub grade_in-ok : (P : Level → Type 0) (table : Table) (word : List ℕ) (r : Result Level TextKind) → ((level : Level) → has_level table level ≡ true → IsGrade level → P level) →
    r ≡ grade_in table word → IfOk r P
grade_in-ok P table word r each e = rw e (of_found P table (level_of word) each)
