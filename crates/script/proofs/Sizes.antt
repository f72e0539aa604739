-- How long words are.
use Rattle.std.proofs.Common.{◌≤◌, length, arith}
use Rattle.trust_types.specs.declared.levels.Level.{Level}
use Rattle.trust_types.specs.declared.levels.Level.TheVariants.{Observer, Apprentice, Journeyer, Master, Fellow, Warden, Elder}
use Rattle.trust_types.specs.Levels.{level_name}

pub level_short : (level : Level) → length (level_name level) ≤ 10
level_short Observer = omega arith
level_short Apprentice = omega arith
level_short Journeyer = omega arith
level_short Master = omega arith
level_short Fellow = omega arith
level_short Warden = omega arith
level_short Elder = omega arith
