-- The first level that a test takes, going down, is the highest that it takes.
use Rattle.std.proofs.Common.{ℕ, Bool, true, false, ◌≡◌, ◌≤◌, arith}
use Rattle.std.proofs.lemmas.Bool.{false≢true}
use Rattle.std.specs.Prelude.{Option, Some, None, find, unwrap_or, if◌then◌else◌}
use Rattle.trust_types.specs.declared.levels.Level.{Level}
use Rattle.trust_types.specs.declared.levels.Level.TheVariants.{Observer, Apprentice, Journeyer, Master, Fellow, Warden, Elder}
use Rattle.trust_types.specs.Levels.{rank, grades_down}

abbrev held : Option Level → ℕ
held found = rank (unwrap_or found Observer)

-- a level that is taken stands in the way of those below
taken : (takes : Bool) (level : Level) (below : Option Level) → takes ≡ true → rank level ≤ held (if takes then Some level else below)
taken true level below it = omega arith
taken false level below it = absurd (false≢true it)

-- a higher one that is taken is found in place of it
above : (n : ℕ) (takes : Bool) (higher : Level) (below : Option Level) → n ≤ rank higher → n ≤ held below →
    n ≤ held (if takes then Some higher else below)
above n true higher below less least = less
above n false higher below less least = least

pub first_is_highest : (takes : Level → Bool) (level : Level) → takes level ≡ true → rank level ≤ rank (unwrap_or (find takes grades_down) Observer)
first_is_highest takes Observer it = omega arith
first_is_highest takes Apprentice it =
    above 1 (takes Elder) Elder _ (omega arith) (above 1 (takes Warden) Warden _ (omega arith) (above 1 (takes Fellow) Fellow _ (omega arith)
    (above 1 (takes Master) Master _ (omega arith) (above 1 (takes Journeyer) Journeyer _ (omega arith) (taken (takes Apprentice) Apprentice None it)))))
first_is_highest takes Journeyer it =
    above 2 (takes Elder) Elder _ (omega arith) (above 2 (takes Warden) Warden _ (omega arith) (above 2 (takes Fellow) Fellow _ (omega arith)
    (above 2 (takes Master) Master _ (omega arith) (taken (takes Journeyer) Journeyer _ it))))
first_is_highest takes Master it =
    above 3 (takes Elder) Elder _ (omega arith) (above 3 (takes Warden) Warden _ (omega arith) (above 3 (takes Fellow) Fellow _ (omega arith)
    (taken (takes Master) Master _ it)))
first_is_highest takes Fellow it =
    above 4 (takes Elder) Elder _ (omega arith) (above 4 (takes Warden) Warden _ (omega arith) (taken (takes Fellow) Fellow _ it))
first_is_highest takes Warden it = above 5 (takes Elder) Elder _ (omega arith) (taken (takes Warden) Warden _ it)
first_is_highest takes Elder it = taken (takes Elder) Elder _ it
