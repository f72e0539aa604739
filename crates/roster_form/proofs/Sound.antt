-- What is known of proven rosters, and which accounts they have.
use Rattle.std.proofs.Common.{Bor, ℕ, Bool, true, false, ◌≡◌, ◌<◌, ◌≤◌, ◌==◌, ◌↔◌, List, length, get_or, Result, Ok, Err, is_ok, AllPairs, Contains, inl, inr, refl, sym, subst, ap, ◌∙◌, arith}
use Rattle.std.specs.Option.{option_copied}
use Rattle.std.specs.List.Sorted.{IsStrictlyIncreasing, IsBinarySearchResult}
use Rattle.std.specs.Ordering.{nat_cmp}
use Rattle.std.proofs.lemmas.Bool.{cases_lt, eqb-true, eq-eqb, false≢true, false_from_ne_true}
use Rattle.std.specs.Prelude.{Option, Some, None, IfSome, slice_get, option_map, map, ◌+◌, ◌-◌, cond}
use Rattle.std.proofs.lemmas.List.{get_or_default, length-map}
use Rattle.std.proofs.lemmas.Option.{slice_get-map}
use Rattle.std.proofs.lemmas.List.Folds.{Any-from_list_any, list_any-from_Any}
use Rattle.std.proofs.lemmas.List.Sorted.{searched}
use Rattle.trust_types.specs.declared.levels.Level.{Level}
use Rattle.trust_types.specs.Levels.{rank, is_grade}
use Rattle.trust_types.specs.Proven.{Lists, IsProven}
use Rattle.trust_types.proofs.ProvenRosters.{proven_is_roster}
use Rattle.trust_types.proofs.Ranks.{same_from_ranks, grade_rank}
use Rattle.frozen.specs.Revision.{Revision, certificates}
use Rattle.roster_form.specs.Bounded.{is_accepted}
use Rattle.roster_form.specs.declared.level_rosters.LevelRoster.{LevelRoster}
use Rattle.roster_form.specs.LevelRosters.{lists_of, AreAmong}
use Rattle.roster_form.specs.Candidates.{IsSound, AreSound, AreLowest, AreRostersFor}
use Rattle.roster_form.proofs.Bounded.{all_rise, proven_is_bounded}

pub sound : (f : Revision) (level : Level) (r : Lists) → IsProven (certificates f) level f.caps r → AreAmong (certificates f).accounts r → IsSound f level r
sound f level r proven among = record {
  proven = proven;
  roster = proven_is_roster (certificates f) level f.caps r proven;
  bounded = proven_is_bounded (certificates f) level f.caps r proven;
  among = among;
}

rises_weakly : (xs : List ℕ) → AllPairs (λ x y. x < y) xs → (i j : ℕ) → i ≤ j → j < length xs → get_or xs i 0 ≤ get_or xs j 0
rises_weakly xs rises i j order within = elim (cases_lt i j) [
  | inl less ↦ omega (arith, rises i j 0 less within)
  | inr same ↦ let here : i ≡ j = omega arith in let is : get_or xs i 0 ≡ get_or xs j 0 = ap (λ (k : ℕ). get_or xs k 0) here in omega (arith, is)
]

contains_by_search : (xs : List ℕ) (x : ℕ) (r : Result ℕ ℕ) → AllPairs (λ y z. y < z) xs → IsBinarySearchResult (λ y. nat_cmp y x) xs r → (is_ok r ≡ true) ↔ Contains xs x
contains_by_search xs x (Ok i) rises found =
    let at = searched xs x (Ok i) found (rises_weakly xs rises) in
    (λ yes. (i, at.0, get_or_default xs i x 0 at.0 ∙ at.1), λ has. refl)
contains_by_search xs x (Err i) rises found =
    let at = searched xs x (Err i) found (rises_weakly xs rises) in (
      λ yes. absurd (false≢true yes),
      λ (k, within, is).
          let here : get_or xs k 0 ≡ x = get_or_default xs k 0 x within ∙ is in
          absurd (elim (cases_lt k i) [
            | inl before ↦ omega (arith, at.1 k before, here)
            | inr behind ↦ omega (arith, at.2 k behind within, here)
          ]),
    )

accepted_by : (xs : List ℕ) (x : ℕ) (found : Bool) → (found ≡ true) ↔ Contains xs x → found ≡ is_accepted xs x
accepted_by xs x true both =
    let has = both.0 refl in
    sym (list_any-from_Any (λ (a : ℕ). a == x) xs (has.0, x, has.1, has.2, eq-eqb x x refl))
accepted_by xs x false both = sym (false_from_ne_true (is_accepted xs x) (λ yes.
    let any = Any-from_list_any (λ (a : ℕ). a == x) xs yes in
    let same : any.1 ≡ x = eqb-true any.1 x any.4 in
    false≢true (both.1 (any.0, any.2, get_or_default xs any.0 x any.1 any.2 ∙ any.3 ∙ same))))

-- what a binary search says of numbers in rising order
pub found_accepted : (xs : List ℕ) (x : ℕ) (r : Result ℕ ℕ) (found : Bool) → IsStrictlyIncreasing xs → IsBinarySearchResult (λ y. nat_cmp y x) xs r → found ≡ is_ok r →
    (found ≡ is_accepted xs x) × ((found ≡ true) ↔ Contains xs x)
found_accepted xs x r found rises is says =
    let both : (found ≡ true) ↔ Contains xs x = subst (λ (b : Bool). (b ≡ true) ↔ Contains xs x) (sym says) (contains_by_search xs x r (all_rise xs rises) is) in
    (accepted_by xs x found both, both)

-- the roster at a grade's place is sound at that grade
sound_at_place : (f : Revision) (rosters : List LevelRoster) (level : Level) → AreLowest f rosters → 0 < rank level → (found : Option LevelRoster) →
    slice_get rosters (rank level - 1) ≡ found → IfSome found (λ r. (r.level ≡ level) × IsSound f level (lists_of r))
sound_at_place f rosters level lowest grade None is = tt
sound_at_place f rosters level lowest grade (Some r) is =
    let at = lowest (rank level - 1) r is in
    let same : r.level ≡ level = same_from_ranks r.level level (omega (arith, at.0)) in
    (same, subst (λ (l : Level). IsSound f l (lists_of r)) same (sound f r.level (lists_of r) at.1.proven at.1.among))

-- what is found at a grade's place is the grade's roster, and sound
pub found_sound : (f : Revision) (rosters : List LevelRoster) (level : Level) → AreLowest f rosters → 0 < rank level →
    IfSome (slice_get rosters (rank level - 1)) (λ r. (r.level ≡ level) × IsSound f level (lists_of r))
found_sound f rosters level lowest grade = sound_at_place f rosters level lowest grade (slice_get rosters (rank level - 1)) refl

mapped_some : (P : Lists → Type 0) (Q : LevelRoster → Type 0) (found : Option LevelRoster) → IfSome found (λ r. Q r × P (lists_of r)) → IfSome (option_map lists_of found) P
mapped_some P Q None each = tt
mapped_some P Q (Some r) each = each.1

sound_each : (f : Revision) (rosters : List LevelRoster) (level : Level) → AreLowest f rosters → (grade : Bool) → is_grade level ≡ grade →
    IfSome (cond grade (slice_get (map lists_of rosters) (rank level - 1)) None) (IsSound f level)
sound_each f rosters level lowest false is = tt
sound_each f rosters level lowest true is =
    rw (slice_get-map lists_of rosters (rank level - 1))
    (mapped_some (IsSound f level) (λ r. r.level ≡ level) (slice_get rosters (rank level - 1)) (found_sound f rosters level lowest (grade_rank level is)))

-- rosters of all grades, each proven, are sound
pub all_sound : (f : Revision) (rosters : List LevelRoster) → AreRostersFor f rosters → AreSound (record { graph = f; grades = map lists_of rosters })
all_sound f rosters are = record {
  count = ap (λ (n : ℕ). n + 1) (length-map rosters lists_of) ∙ are.count;
  each = λ level. sound_each f rosters level are.lowest (is_grade level) refl;
}

-- what holds of what a reference points to
pub at_reference : (P : LevelRoster → Type 0) (found : Option (Bor LevelRoster)) → IfSome (option_copied found) P → IfSome found (λ r. P r.now)
at_reference P None each = tt
at_reference P (Some r) each = each

pub some_weaker : {X : Type 0} {P Q : X → Type 0} (found : Option X) → ((x : X) → P x → Q x) → IfSome found P → IfSome found Q
some_weaker None weaker each = tt
some_weaker (Some x) weaker each = weaker x each
