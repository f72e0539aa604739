-- Which level a post needs, and whom it admits. Advogato let observers keep a diary and certified members post.
use Rattle.std.specs.Prelude.{Bool, nat_le}
use Rattle.trust_types.specs.declared.levels.Level.{Level}
use Rattle.trust_types.specs.declared.levels.Level.TheVariants.{Observer, Apprentice, Journeyer}
use Rattle.trust_types.specs.Levels.{rank}
use Rattle.posting_policy.specs.declared.PostKind.{PostKind}
use Rattle.posting_policy.specs.declared.PostKind.TheVariants.{Diary, Reply, Project, Article}

-- The lowest level that may post.
abbrev pub needs : PostKind → Level
needs Diary = Observer
needs Reply = Apprentice
needs Project = Apprentice
needs Article = Journeyer

-- Whether a level is enough.
abbrev pub admits : PostKind → Level → Bool
admits kind held = nat_le (rank (needs kind)) (rank held)
