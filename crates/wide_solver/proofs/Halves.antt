-- A workspace's room, and rosters of grades that follow one another, out of two parts.
use Rattle.std.proofs.Common.{ℕ, ◌≡◌, ◌<◌, ◌+◌, ◌-◌, List, ◌++◌, length, get_or, length-append, inl, inr, refl, sym, subst, ap, ◌∙◌, arith}
use Rattle.std.specs.Prelude.{Some}
use Rattle.std.proofs.lemmas.Bool.{cases_lt}
use Rattle.std.proofs.lemmas.List.{get_or_append_left, get_or-append_right}
use Rattle.std.proofs.lemmas.Option.{slice_get_within, slice_get-get_or, get_or_from_slice_get}
use Rattle.trust_types.specs.Levels.{rank}
use Rattle.frozen.specs.Revision.{Revision, certificates}
use Rattle.frozen.specs.Sites.{certs}
use Rattle.split_graph.specs.Network.{Fits, Room}
use Rattle.roster_form.specs.declared.level_rosters.LevelRoster.{LevelRoster}
use Rattle.roster_form.specs.Candidates.{IsRosterFor}
use Rattle.wide_solver.specs.inner.Halves.{AreRostersFrom}

-- a room for a graph's own accounts and certificates
pub fits_exactly : (f : Revision) (room : Room) (accounts n : ℕ) → room ≡ record { accounts = accounts; certs = n } → accounts ≡ (certificates f).accounts → n ≡ certs f.parts → Fits f room
fits_exactly f room accounts n is own all = subst (Fits f) (sym is) (record { accounts = omega (arith, own); certs = omega (arith, all) })

pub both_rosters : (f : Revision) (low middle : ℕ) (xs ys : List LevelRoster) → AreRostersFrom f low xs → AreRostersFrom f middle ys → middle ≡ low + length xs → AreRostersFrom f low (xs ++ ys)
both_rosters f low middle xs ys lower upper is i other at =
    let within : i < length (xs ++ ys) = slice_get_within (xs ++ ys) i other at in
    let given : get_or (xs ++ ys) i other ≡ other = get_or_from_slice_get (xs ++ ys) i other other at in
    elim (cases_lt i (length xs)) [
      | inl before ↦
          let same : get_or xs i other ≡ other = sym (get_or_append_left xs ys other i before) ∙ given in
          lower i other (slice_get-get_or xs i other before ∙ ap Some same)
      | inr past ↦
          let same : get_or ys (i - length xs) other ≡ other = sym (get_or-append_right xs ys (length xs) i other refl past) ∙ given in
          let here : i - length xs < length ys = omega (arith, within, past, length-append xs ys) in
          let found : (rank other.level ≡ i - length xs + middle) × IsRosterFor f other.level other = upper (i - length xs) other (slice_get-get_or ys (i - length xs) other here ∙ ap Some same) in
          (omega (arith, found.0, is, past), found.1)
    ]
