-- Rosters of the lowest grades, and one of the next grade.
use Rattle.std.proofs.Common.{ℕ, ◌≡◌, ◌<◌, ◌+◌, List, [], ◌∷◌, ◌++◌, length, get_or, inl, inr, sym, subst, ap, ◌∙◌, arith}
use Rattle.std.specs.Prelude.{Some}
use Rattle.std.proofs.lemmas.Bool.{cases_lt}
use Rattle.std.proofs.lemmas.List.{get_or_append_left, get_or_push, length_push}
use Rattle.std.proofs.lemmas.Option.{slice_get_within, slice_get-get_or, get_or_from_slice_get}
use Rattle.trust_types.specs.declared.levels.Level.{Level}
use Rattle.trust_types.specs.Levels.{rank}
use Rattle.frozen.specs.Revision.{Revision}
use Rattle.roster_form.specs.declared.level_rosters.LevelRoster.{LevelRoster}
use Rattle.roster_form.specs.Candidates.{IsRosterFor, AreLowest}

pub none_lowest : (f : Revision) → AreLowest f []
none_lowest f i r is = absurd (omega (arith, slice_get_within [] i r is))

pub lowest-push : (f : Revision) (rosters : List LevelRoster) (r : LevelRoster) (level : Level) →
    AreLowest f rosters → rank level ≡ length rosters + 1 → IsRosterFor f level r → AreLowest f (rosters ++ r ∷ [])
lowest-push f rosters r level lowest next is i other at =
    let within : i < length (rosters ++ r ∷ []) = slice_get_within (rosters ++ r ∷ []) i other at in
    let longer : length (rosters ++ r ∷ []) ≡ length rosters + 1 = length_push rosters r in
    elim (cases_lt i (length rosters)) [
      | inl before ↦
          let same : get_or rosters i other ≡ other =
          sym (get_or_append_left rosters (r ∷ []) other i before) ∙ get_or_from_slice_get (rosters ++ r ∷ []) i other other at in
          lowest i other (slice_get-get_or rosters i other before ∙ ap Some same)
      | inr past ↦
          let here : length rosters ≡ i = omega (arith, within, longer) in
          let same : r ≡ other = sym (get_or_push rosters r other i here) ∙ get_or_from_slice_get (rosters ++ r ∷ []) i other other at in
          let own : IsRosterFor f r.level r = subst (λ (l : Level). IsRosterFor f l r) (sym is.grade) is in
          subst (λ (x : LevelRoster). (rank x.level ≡ i + 1) × IsRosterFor f x.level x) same (ap rank is.grade ∙ next ∙ ap (λ (n : ℕ). n + 1) here, own)
    ]
