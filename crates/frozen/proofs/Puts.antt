-- One certificate more in a row, one less, or one of another level.
use Rattle.std.proofs.Common.{ℕ, suc, [], ◌∷◌, ◌++◌, false, ◌==◌, ◌&&◌, ◌≡◌, ◌≢◌, ◌≤◌, ◌<◌, ◌+◌, ◌-◌, ◌^◌, ◌⊎◌, inl, inr, refl, arith, sym, ap, subst, ◌∙◌, length, slice_index, slice_index_or, get_or, set, List, if◌then◌else◌, length-set}
use Rattle.std.specs.List.{insert, remove}
use Rattle.std.proofs.lemmas.Bool.{cases_eq, cases_lt}
use Rattle.std.proofs.lemmas.Bool.Decides.{nat_tests}
use Rattle.std.proofs.lemmas.List.{get_or_default, get_or-set_same, get_or-set_other, get_or_append_left, get_or_push, length_push}
use Rattle.std.proofs.lemmas.List.Edits.{length-insert, get_or-insert_below, get_or-insert_at, get_or-insert_above, length-remove, get_or-remove_below, get_or-remove_above}
use Rattle.trust_types.specs.declared.levels.Level.{Level}
use Rattle.trust_types.specs.declared.levels.Level.TheVariants.{Observer, Apprentice, Journeyer, Master, Fellow, Warden, Elder}
use Rattle.trust_types.specs.Levels.{IsGrade}
use Rattle.frozen.specs.Parts.{Part, count, degree_in, taker_in, level_in, standing_in, among, IsPart}
use Rattle.frozen.specs.Writes.{IsWritten, graded, with_account}
use Rattle.frozen.specs.inner.Rows.{IsRaised, IsPlace, IsFound}
use Rattle.frozen.proofs.Among.{among-same, among-none, among-at, among-other}
use Rattle.frozen.proofs.Shifts.{start_in, start_le, standing_past, place_within, IsOneMore, Grown, one_more, standing_elsewhere, standing_others}

-- the two tests of a pair
here_by : (r row b to : ℕ) (x y : Level) → r ≡ row → b ≡ to → (if (r == row) && (b == to) then x else y) ≡ x
here_by r row b to x y same is = grind (arith, nat_tests)

elsewhere_by : (r row b to : ℕ) (x y : Level) → r ≢ row → (if (r == row) && (b == to) then x else y) ≡ y
elsewhere_by r row b to x y apart = grind (arith, nat_tests)

others_by : (r row b to : ℕ) (x y : Level) → b ≢ to → (if (r == row) && (b == to) then x else y) ≡ y
others_by r row b to x y apart = grind (arith, nat_tests)

pub graded_grade : (level : Level) → IsGrade level → graded level ≡ 1
graded_grade Observer is = absurd (is refl)
graded_grade Apprentice is = refl
graded_grade Journeyer is = refl
graded_grade Master is = refl
graded_grade Fellow is = refl
graded_grade Warden is = refl
graded_grade Elder is = refl

-- what is said of each pair, from what is said at one and at all others
standing_by : (old new : Part) (row to : ℕ) (level : Level) → ((r b : ℕ) → r ≢ row → standing_in new r b ≡ standing_in old r b)
    → ((b : ℕ) → to ≢ b → standing_in new row b ≡ standing_in old row b) → standing_in new row to ≡ level
    → (r b : ℕ) → standing_in new r b ≡ (if (r == row) && (b == to) then level else standing_in old r b)
standing_by old new row to level elsewhere others here r b =
    elim (cases_eq r row) [
      | inr apart ↦ elsewhere r b apart ∙ sym (elsewhere_by r row b to level (standing_in old r b) apart)
      | inl same ↦ elim (cases_eq b to) [
        | inl is ↦
            ap (λ (x : ℕ). standing_in new x b) same ∙ ap (standing_in new row) is ∙ here
            ∙ sym (here_by r row b to level (standing_in old r b) same is)
        | inr other ↦
            ap (λ (x : ℕ). standing_in new x b) same ∙ others b (λ e. other (sym e)) ∙ ap (λ (x : ℕ). standing_in old x b) (sym same)
            ∙ sym (others_by r row b to level (standing_in old r b) other)
      ]
    ]

-- who has a place in a row and isn't there is no taker
absent : (p : Part) (row to place : ℕ) → IsPlace p row to place → standing_in p row to ≡ Observer
absent p row to place at = among-none (taker_in p row) (level_in p row) to (degree_in p row) (λ i lt is. elim (cases_lt i place) [
  | inl before ↦ absurd (omega (arith, at.before i before, is))
  | inr behind ↦ absurd (omega (arith, at.behind i behind lt, is))
])

present : (p : Part) (row place : ℕ) → IsPart p → row < count p → place < degree_in p row → standing_in p row (taker_in p row place) ≡ level_in p row place
present p row place is below within = among-at (taker_in p row) (level_in p row) place (degree_in p row) (λ j k before lt. is.rises row j k below before lt) within

-- The premises of an insertion.
pub record Insertion : Type 0 where
  pub old : Part
  pub new : Part
  pub row : ℕ
  pub place : ℕ
  pub to : ℕ
  pub level : Level
  pub is : IsPart old
  pub below : row < count old
  pub at : IsPlace old row to place
  pub grade : IsGrade level
  pub room : length old.takers + 1 < 2 ^ 32
  pub names : new.names ≡ old.names
  pub seeds : new.seeds ≡ old.seeds
  pub givers : new.givers ≡ old.givers
  pub starts : IsRaised old.starts new.starts (row + 1)
  pub takers : new.takers ≡ insert old.takers (start_in old row + place) to
  pub levels : new.levels ≡ insert old.levels (start_in old row + place) level

place_le : (m : Insertion) → start_in m.old m.row + m.place ≤ length m.old.takers
place_le m = omega (arith, m.at.within, m.is.within (m.row + 1) (omega (arith, m.below)), m.is.follow m.row m.below)

level_le : (m : Insertion) → start_in m.old m.row + m.place ≤ length m.old.levels
level_le m = omega (arith, place_le m, m.is.levels)

grown : (m : Insertion) → Grown
grown m = record {
  small = m.old;
  large = m.new;
  row = m.row;
  place = m.place;
  below = m.below;
  counts = ap length m.names;
  within = m.at.within;
  starts = m.starts;
  length_of = m.is.starts;
  rise = start_le m.old m.is;
  takers_below = λ k lt. ap (λ (xs : List ℕ). slice_index xs k) m.takers ∙ get_or-insert_below m.old.takers (start_in m.old m.row + m.place) m.to 0 k lt (place_le m);
  takers_above = λ k le. ap (λ (xs : List ℕ). slice_index xs (k + 1)) m.takers ∙ get_or-insert_above m.old.takers (start_in m.old m.row + m.place) m.to 0 k le (place_le m);
  levels_below = λ k lt. ap (λ (xs : List Level). slice_index_or xs k Observer) m.levels ∙ get_or-insert_below m.old.levels (start_in m.old m.row + m.place) m.level Observer k lt (level_le m);
  levels_above = λ k le. ap (λ (xs : List Level). slice_index_or xs (k + 1) Observer) m.levels ∙ get_or-insert_above m.old.levels (start_in m.old m.row + m.place) m.level Observer k le (level_le m);
}

more : (m : Insertion) → IsOneMore m.old m.new m.row m.place
unfolding grown
more m = one_more (grown m)

start_is : (m : Insertion) → start_in m.new m.row ≡ start_in m.old m.row
start_is m = m.starts.before m.row (omega arith)

taker_here : (m : Insertion) → taker_in m.new m.row m.place ≡ m.to
taker_here m = ap (λ (k : ℕ). slice_index m.new.takers (k + m.place)) (start_is m) ∙ ap (λ (xs : List ℕ). slice_index xs (start_in m.old m.row + m.place)) m.takers ∙ get_or-insert_at m.old.takers (start_in m.old m.row + m.place) m.to 0 (place_le m)

level_here : (m : Insertion) → level_in m.new m.row m.place ≡ m.level
level_here m = ap (λ (k : ℕ). slice_index_or m.new.levels (k + m.place) Observer) (start_is m) ∙ ap (λ (xs : List Level). slice_index_or xs (start_in m.old m.row + m.place) Observer) m.levels ∙ get_or-insert_at m.old.levels (start_in m.old m.row + m.place) m.level Observer (level_le m)

length_takers : (m : Insertion) → length m.new.takers ≡ length m.old.takers + 1
length_takers m = ap length m.takers ∙ length-insert m.old.takers (start_in m.old m.row + m.place) m.to (place_le m)

length_levels : (m : Insertion) → length m.new.levels ≡ length m.old.takers + 1
length_levels m = ap length m.levels ∙ length-insert m.old.levels (start_in m.old m.row + m.place) m.level (level_le m) ∙ ap (λ (k : ℕ). k + 1) m.is.levels

-- where an index of the row comes from
abbrev Comes : (m : Insertion) (i : ℕ) → Type 0
Comes m i = ((i < m.place) × (taker_in m.new m.row i ≡ taker_in m.old m.row i) × (level_in m.new m.row i ≡ level_in m.old m.row i))
    ⊎ ((i ≡ m.place) × (taker_in m.new m.row i ≡ m.to) × (level_in m.new m.row i ≡ m.level))
    ⊎ ((m.place < i) × (taker_in m.new m.row i ≡ taker_in m.old m.row (i - 1)) × (level_in m.new m.row i ≡ level_in m.old m.row (i - 1)))

comes : (m : Insertion) (i : ℕ) → i < suc (degree_in m.old m.row) → Comes m i
comes m i lt =
    elim (cases_lt i m.place) [
      | inl before ↦ inl (before, (more m).before i before, (more m).before_level i before)
      | inr from ↦ elim (cases_eq i m.place) [
        | inl same ↦ inr (inl (same, ap (taker_in m.new m.row) same ∙ taker_here m, ap (level_in m.new m.row) same ∙ level_here m))
        | inr apart ↦
            let e : i ≡ suc (i - 1) = omega (arith, apart) in
            inr (inr (omega (arith, apart), ap (taker_in m.new m.row) e ∙ (more m).behind (i - 1) (omega (arith, apart)) (omega (arith, apart)), ap (level_in m.new m.row) e ∙ (more m).behind_level (i - 1) (omega (arith, apart)) (omega (arith, apart))))
      ]
    ]

grade_row : (m : Insertion) (i : ℕ) → i < suc (degree_in m.old m.row) → IsGrade (level_in m.new m.row i)
grade_row m i lt =
    elim (comes m i lt) [
      | inl h ↦ subst IsGrade (sym h.2) (m.is.grade m.row i m.below (omega (arith, h.0, m.at.within)))
      | inr o ↦ elim o [
        | inl h ↦ subst IsGrade (sym h.2) m.grade
        | inr h ↦ subst IsGrade (sym h.2) (m.is.grade m.row (i - 1) m.below (omega (arith, h.0)))
      ]
    ]

rises_row : (m : Insertion) (i j : ℕ) → i < j → j < suc (degree_in m.old m.row) → taker_in m.new m.row i < taker_in m.new m.row j
rises_row m i j before lt =
    elim (comes m i (omega arith)) [
      | inl h ↦ elim (comes m j lt) [
        | inl k ↦ omega (arith, h.1, k.1, m.is.rises m.row i j m.below before (omega (arith, k.0, m.at.within)))
        | inr o ↦ elim o [
          | inl k ↦ omega (arith, h.1, k.1, m.at.before i h.0)
          | inr k ↦ omega (arith, h.1, k.1, m.is.rises m.row i (j - 1) m.below (omega (arith, h.0, k.0)) (omega (arith, k.0)))
        ]
      ]
      | inr q ↦ elim q [
        | inl h ↦ elim (comes m j lt) [
          | inl k ↦ absurd (omega (arith, h.0, k.0))
          | inr o ↦ elim o [
            | inl k ↦ absurd (omega (arith, h.0, k.0))
            | inr k ↦ omega (arith, h.1, k.1, m.at.behind (j - 1) (omega (arith, k.0)) (omega (arith, k.0)))
          ]
        ]
        | inr h ↦ elim (comes m j lt) [
          | inl k ↦ absurd (omega (arith, h.0, k.0))
          | inr o ↦ elim o [
            | inl k ↦ absurd (omega (arith, h.0, k.0))
            | inr k ↦ omega (arith, h.1, k.1, m.is.rises m.row (i - 1) (j - 1) m.below (omega (arith, h.0, k.0)) (omega (arith, k.0)))
          ]
        ]
      ]
    ]

start_new : (m : Insertion) (r : ℕ) → r ≤ count m.old → ((r ≤ m.row) × (start_in m.new r ≡ start_in m.old r)) ⊎ ((m.row < r) × (start_in m.new r ≡ start_in m.old r + 1))
start_new m r le =
    elim (cases_lt m.row r) [
      | inl behind ↦ inr (behind, m.starts.behind r (omega arith) (omega (arith, m.is.starts)))
      | inr before ↦ inl (before, m.starts.before r (omega arith))
    ]

follow_new : (m : Insertion) (r : ℕ) → r < count m.old → start_in m.new r ≤ start_in m.new (r + 1)
follow_new m r lt =
    elim (start_new m r (omega arith)) [
      | inl h ↦ elim (start_new m (r + 1) (omega arith)) [
        | inl k ↦ omega (arith, h.1, k.1, m.is.follow r lt)
        | inr k ↦ omega (arith, h.1, k.1, m.is.follow r lt)
      ]
      | inr h ↦ elim (start_new m (r + 1) (omega arith)) [
        | inl k ↦ absurd (omega (arith, h.0, k.0))
        | inr k ↦ omega (arith, h.1, k.1, m.is.follow r lt)
      ]
    ]

within_new : (m : Insertion) (r : ℕ) → r ≤ count m.old → start_in m.new r ≤ length m.new.takers
within_new m r le =
    elim (start_new m r le) [
      | inl h ↦ omega (arith, h.1, m.is.within r le, length_takers m)
      | inr h ↦ omega (arith, h.1, m.is.within r le, length_takers m)
    ]

pub inserted_part : (m : Insertion) → IsPart m.new
inserted_part m =
    let counts : count m.new ≡ count m.old = ap length m.names in
    record {
      few = omega (arith, counts, m.is.few);
      seeds = ap length m.seeds ∙ m.is.seeds ∙ sym counts;
      givers = ap length m.givers ∙ m.is.givers ∙ sym counts;
      starts = m.starts.long ∙ m.is.starts ∙ ap (λ (k : ℕ). k + 1) (sym counts);
      begins = m.starts.before 0 (omega arith) ∙ m.is.begins;
      ends = ap (start_in m.new) counts ∙ m.starts.behind (count m.old) (omega (arith, m.below)) (omega (arith, m.is.starts)) ∙ ap (λ (k : ℕ). k + 1) m.is.ends ∙ sym (length_takers m);
      follow = λ r lt. follow_new m r (omega (arith, counts));
      within = λ r le. within_new m r (omega (arith, counts));
      short = omega (arith, m.room, length_takers m);
      levels = length_levels m ∙ sym (length_takers m);
      grade = λ r i lt within. elim (cases_eq r m.row) [
        | inl same ↦ subst (λ (x : ℕ). i < degree_in m.new x → IsGrade (level_in m.new x i)) (sym same) (λ k. grade_row m i (omega (arith, (more m).degree))) within
        | inr apart ↦
            let inside : i < degree_in m.old r = omega (arith, (more m).degrees r apart) in
            subst IsGrade (sym ((more m).levels r i apart inside)) (m.is.grade r i (omega (arith, counts)) inside)
      ];
      rises = λ r i j lt before within. elim (cases_eq r m.row) [
        | inl same ↦ subst (λ (x : ℕ). j < degree_in m.new x → taker_in m.new x i < taker_in m.new x j) (sym same) (λ k. rises_row m i j before (omega (arith, (more m).degree))) within
        | inr apart ↦
            let inside : j < degree_in m.old r = omega (arith, (more m).degrees r apart) in
            omega (arith, (more m).takers r i apart (omega arith), (more m).takers r j apart inside, m.is.rises r i j (omega (arith, counts)) before inside)
      ];
    }

pub inserted : (m : Insertion) → IsWritten m.old m.new m.row m.to m.level
inserted m =
    let to : taker_in m.new m.row m.place ≡ m.to = taker_here m in
    let within : m.place < degree_in m.new m.row = omega (arith, (more m).degree, m.at.within) in
    let here : standing_in m.new m.row m.to ≡ m.level =
    ap (standing_in m.new m.row) (sym to) ∙ present m.new m.row m.place (inserted_part m) (omega (arith, m.below, ap length m.names)) within ∙ level_here m in
    record {
      names = m.names;
      seeds = m.seeds;
      givers = m.givers;
      standing = standing_by m.old m.new m.row m.to m.level (λ r b apart. standing_elsewhere m.old m.new m.row m.place (more m) r b apart) (λ b apart. standing_others m.old m.new m.row m.place (more m) b (λ e. apart (sym to ∙ e))) here;
      certs = ap (λ (l : Level). length m.new.takers + graded l) (absent m.old m.row m.to m.place m.at) ∙ omega (arith, length_takers m, graded_grade m.level m.grade);
    }

-- The premises of a removal.
pub record Removal : Type 0 where
  pub old : Part
  pub new : Part
  pub row : ℕ
  pub place : ℕ
  pub to : ℕ
  pub level : Level
  pub is : IsPart old
  pub below : row < count old
  pub at : IsFound old row to place
  pub none : level ≡ Observer
  pub names : new.names ≡ old.names
  pub seeds : new.seeds ≡ old.seeds
  pub givers : new.givers ≡ old.givers
  pub starts : IsRaised new.starts old.starts (row + 1)
  pub takers : new.takers ≡ remove old.takers (start_in old row + place)
  pub levels : new.levels ≡ remove old.levels (start_in old row + place)

counts_less : (m : Removal) → count m.new ≡ count m.old
counts_less m = ap length m.names

long_starts : (m : Removal) → length m.new.starts ≡ count m.new + 1
long_starts m = omega (arith, m.starts.long, m.is.starts, counts_less m)

start_less : (m : Removal) (r : ℕ) → r ≤ count m.old → ((r ≤ m.row) × (start_in m.old r ≡ start_in m.new r)) ⊎ ((m.row < r) × (start_in m.old r ≡ start_in m.new r + 1))
start_less m r le =
    elim (cases_lt m.row r) [
      | inl behind ↦ inr (behind, m.starts.behind r (omega arith) (omega (arith, long_starts m, counts_less m)))
      | inr before ↦ inl (before, m.starts.before r (omega arith))
    ]

some_here : (m : Removal) → start_in m.old m.row + 1 ≤ start_in m.old (m.row + 1)
some_here m = omega (arith, m.at.0)

rise_less : (m : Removal) (i k : ℕ) → i ≤ k → k ≤ count m.old → start_in m.new i ≤ start_in m.new k
rise_less m i k le within =
    elim (start_less m i (omega arith)) [
      | inl h ↦ elim (start_less m k within) [
        | inl j ↦ omega (arith, h.1, j.1, start_le m.old m.is i k le within)
        | inr j ↦ omega (arith, h.1, j.1, start_le m.old m.is i m.row h.0 (omega (arith, m.below)), some_here m, start_le m.old m.is (m.row + 1) k (omega (arith, j.0)) within)
      ]
      | inr h ↦ elim (start_less m k within) [
        | inl j ↦ absurd (omega (arith, h.0, j.0))
        | inr j ↦ omega (arith, h.1, j.1, start_le m.old m.is i k le within)
      ]
    ]

place_lt : (m : Removal) → start_in m.old m.row + m.place < length m.old.takers
place_lt m = place_within m.old m.is m.row m.place m.below m.at.0

level_lt : (m : Removal) → start_in m.old m.row + m.place < length m.old.levels
level_lt m = omega (arith, place_lt m, m.is.levels)

start_same : (m : Removal) → start_in m.new m.row + m.place ≡ start_in m.old m.row + m.place
start_same m = ap (λ (k : ℕ). k + m.place) (sym (m.starts.before m.row (omega arith)))

shrunk : (m : Removal) → Grown
shrunk m =
    let at : start_in m.new m.row + m.place ≡ start_in m.old m.row + m.place = start_same m in
    record {
      small = m.new;
      large = m.old;
      row = m.row;
      place = m.place;
      below = omega (arith, m.below, counts_less m);
      counts = sym (counts_less m);
      within = omega (arith, m.at.0, m.starts.before m.row (omega arith), m.starts.behind (m.row + 1) (omega arith) (omega (arith, long_starts m, counts_less m, m.below)));
      starts = m.starts;
      length_of = long_starts m;
      rise = λ i k le within. rise_less m i k le (omega (arith, counts_less m));
      takers_below = λ k lt. sym (ap (λ (xs : List ℕ). slice_index xs k) m.takers ∙ get_or-remove_below m.old.takers (start_in m.old m.row + m.place) 0 k (omega (arith, at)) (place_lt m));
      takers_above = λ k le. sym (ap (λ (xs : List ℕ). slice_index xs k) m.takers ∙ get_or-remove_above m.old.takers (start_in m.old m.row + m.place) 0 k (omega (arith, at)) (place_lt m));
      levels_below = λ k lt. sym (ap (λ (xs : List Level). slice_index_or xs k Observer) m.levels ∙ get_or-remove_below m.old.levels (start_in m.old m.row + m.place) Observer k (omega (arith, at)) (level_lt m));
      levels_above = λ k le. sym (ap (λ (xs : List Level). slice_index_or xs k Observer) m.levels ∙ get_or-remove_above m.old.levels (start_in m.old m.row + m.place) Observer k (omega (arith, at)) (level_lt m));
    }

less : (m : Removal) → IsOneMore m.new m.old m.row m.place
unfolding shrunk
less m = one_more (shrunk m)

takers_less : (m : Removal) → length m.new.takers + 1 ≡ length m.old.takers
takers_less m = ap (λ (xs : List ℕ). length xs + 1) m.takers ∙ length-remove m.old.takers (start_in m.old m.row + m.place) (place_lt m)

levels_less : (m : Removal) → length m.new.levels + 1 ≡ length m.old.takers
levels_less m = ap (λ (xs : List Level). length xs + 1) m.levels ∙ length-remove m.old.levels (start_in m.old m.row + m.place) (level_lt m) ∙ m.is.levels

-- where an index of the row went
abbrev Stays : (m : Removal) (i : ℕ) → Type 0
Stays m i = ((i < m.place) × (taker_in m.old m.row i ≡ taker_in m.new m.row i) × (level_in m.old m.row i ≡ level_in m.new m.row i))
    ⊎ ((m.place ≤ i) × (taker_in m.old m.row (suc i) ≡ taker_in m.new m.row i) × (level_in m.old m.row (suc i) ≡ level_in m.new m.row i))

stays : (m : Removal) (i : ℕ) → i < degree_in m.new m.row → Stays m i
stays m i lt =
    elim (cases_lt i m.place) [
      | inl before ↦ inl (before, (less m).before i before, (less m).before_level i before)
      | inr behind ↦ inr (behind, (less m).behind i behind lt, (less m).behind_level i behind lt)
    ]

grade_less : (m : Removal) (i : ℕ) → i < degree_in m.new m.row → IsGrade (level_in m.new m.row i)
grade_less m i lt =
    elim (stays m i lt) [
      | inl h ↦ subst IsGrade h.2 (m.is.grade m.row i m.below (omega (arith, (less m).degree)))
      | inr h ↦ subst IsGrade h.2 (m.is.grade m.row (suc i) m.below (omega (arith, (less m).degree)))
    ]

rises_less : (m : Removal) (i j : ℕ) → i < j → j < degree_in m.new m.row → taker_in m.new m.row i < taker_in m.new m.row j
rises_less m i j before lt =
    elim (stays m i (omega arith)) [
      | inl h ↦ elim (stays m j lt) [
        | inl k ↦ omega (arith, h.1, k.1, m.is.rises m.row i j m.below before (omega (arith, (less m).degree)))
        | inr k ↦ omega (arith, h.1, k.1, m.is.rises m.row i (suc j) m.below (omega arith) (omega (arith, (less m).degree)))
      ]
      | inr h ↦ elim (stays m j lt) [
        | inl k ↦ absurd (omega (arith, h.0, k.0))
        | inr k ↦ omega (arith, h.1, k.1, m.is.rises m.row (suc i) (suc j) m.below (omega arith) (omega (arith, (less m).degree)))
      ]
    ]

-- the taker stands nowhere else
taker_gone : (m : Removal) (i : ℕ) → i < degree_in m.new m.row → taker_in m.new m.row i ≢ m.to
taker_gone m i lt is =
    elim (stays m i lt) [
      | inl h ↦ omega (arith, is, h.1, m.at.1, m.is.rises m.row i m.place m.below h.0 m.at.0)
      | inr h ↦ omega (arith, is, h.1, m.at.1, m.is.rises m.row m.place (suc i) m.below (omega (arith, h.0)) (omega (arith, (less m).degree)))
    ]

within_less : (m : Removal) (r : ℕ) → r ≤ count m.old → start_in m.new r ≤ length m.new.takers
within_less m r le =
    elim (start_less m r le) [
      | inl h ↦ omega (arith, h.1, start_le m.old m.is r m.row h.0 (omega (arith, m.below)), place_lt m, takers_less m)
      | inr h ↦ omega (arith, h.1, m.is.within r le, takers_less m)
    ]

pub removed_part : (m : Removal) → IsPart m.new
removed_part m =
    let counts : count m.new ≡ count m.old = counts_less m in
    record {
      few = omega (arith, counts, m.is.few);
      seeds = ap length m.seeds ∙ m.is.seeds ∙ sym counts;
      givers = ap length m.givers ∙ m.is.givers ∙ sym counts;
      starts = long_starts m;
      begins = sym (m.starts.before 0 (omega arith)) ∙ m.is.begins;
      ends = ap (start_in m.new) counts ∙ omega (arith, m.starts.behind (count m.old) (omega (arith, m.below)) (omega (arith, long_starts m, counts)), m.is.ends, takers_less m);
      follow = λ r lt. rise_less m r (r + 1) (omega arith) (omega (arith, counts));
      within = λ r le. within_less m r (omega (arith, counts));
      short = omega (arith, m.is.short, takers_less m);
      levels = omega (arith, levels_less m, takers_less m);
      grade = λ r i lt within. elim (cases_eq r m.row) [
        | inl same ↦ subst (λ (x : ℕ). i < degree_in m.new x → IsGrade (level_in m.new x i)) (sym same) (λ k. grade_less m i k) within
        | inr apart ↦
            subst IsGrade ((less m).levels r i apart within) (m.is.grade r i (omega (arith, counts)) (omega (arith, (less m).degrees r apart)))
      ];
      rises = λ r i j lt before within. elim (cases_eq r m.row) [
        | inl same ↦ subst (λ (x : ℕ). j < degree_in m.new x → taker_in m.new x i < taker_in m.new x j) (sym same) (λ k. rises_less m i j before k) within
        | inr apart ↦
            omega (arith, (less m).takers r i apart (omega arith), (less m).takers r j apart within, m.is.rises r i j (omega (arith, counts)) before (omega (arith, (less m).degrees r apart)))
      ];
    }

pub removed : (m : Removal) → IsWritten m.old m.new m.row m.to m.level
removed m =
    let here : standing_in m.new m.row m.to ≡ m.level = among-none (taker_in m.new m.row) (level_in m.new m.row) m.to (degree_in m.new m.row) (taker_gone m) ∙ sym m.none in
    let was : standing_in m.old m.row m.to ≡ level_in m.old m.row m.place =
    ap (standing_in m.old m.row) (sym m.at.1) ∙ present m.old m.row m.place m.is m.below m.at.0 in
    let one : graded (standing_in m.old m.row m.to) ≡ 1 = ap graded was ∙ graded_grade (level_in m.old m.row m.place) (m.is.grade m.row m.place m.below m.at.0) in
    record {
      names = m.names;
      seeds = m.seeds;
      givers = m.givers;
      standing = standing_by m.old m.new m.row m.to m.level (λ r b apart. sym (standing_elsewhere m.new m.old m.row m.place (less m) r b apart)) (λ b apart. sym (standing_others m.new m.old m.row m.place (less m) b (λ e. apart (sym m.at.1 ∙ e)))) here;
      certs = omega (arith, one, takers_less m, ap graded m.none);
    }

-- The premises of a replacement.
pub record Replacement : Type 0 where
  pub old : Part
  pub new : Part
  pub row : ℕ
  pub place : ℕ
  pub to : ℕ
  pub level : Level
  pub is : IsPart old
  pub below : row < count old
  pub at : IsFound old row to place
  pub grade : IsGrade level
  pub same : new ≡ record old { levels = set old.levels (start_in old row + place) level }

-- the levels once one was replaced
abbrev replaced_levels : (m : Replacement) → List Level
replaced_levels m = set m.old.levels (start_in m.old m.row + m.place) m.level

abbrev replaced_by : (m : Replacement) → Part
replaced_by m = record m.old { levels = replaced_levels m }

-- places of different rows differ
apart_places : (p : Part) → IsPart p → (r s i j : ℕ) → r < count p → s < count p → r ≢ s → i < degree_in p r → j < degree_in p s → start_in p r + i ≢ start_in p s + j
apart_places p is r s i j below_r below_s apart lt_i lt_j e =
    elim (cases_lt r s) [
      | inl before ↦ omega (arith, e, start_le p is (r + 1) s (omega arith) (omega arith))
      | inr behind ↦ omega (arith, e, start_le p is (s + 1) r (omega (arith, apart)) (omega arith))
    ]

level_kept : (m : Replacement) (r i : ℕ) → start_in m.old r + i ≢ start_in m.old m.row + m.place → level_in (replaced_by m) r i ≡ level_in m.old r i
level_kept m r i apart = get_or-set_other m.old.levels (start_in m.old m.row + m.place) (start_in m.old r + i) m.level Observer apart

level_set : (m : Replacement) → level_in (replaced_by m) m.row m.place ≡ m.level
level_set m = get_or-set_same m.old.levels (start_in m.old m.row + m.place) m.level Observer (omega (arith, place_within m.old m.is m.row m.place m.below m.at.0, m.is.levels))

grade_set : (m : Replacement) (r i : ℕ) → r < count m.old → i < degree_in m.old r → IsGrade (level_in (replaced_by m) r i)
grade_set m r i below within =
    elim (cases_eq (start_in m.old r + i) (start_in m.old m.row + m.place)) [
      | inl same ↦ subst IsGrade (sym (ap (λ (k : ℕ). slice_index_or (replaced_levels m) k Observer) same ∙ level_set m)) m.grade
      | inr apart ↦ subst IsGrade (sym (level_kept m r i apart)) (m.is.grade r i below within)
    ]

part_set : (m : Replacement) → IsPart (replaced_by m)
part_set m = record {
  few = m.is.few;
  seeds = m.is.seeds;
  givers = m.is.givers;
  starts = m.is.starts;
  begins = m.is.begins;
  ends = m.is.ends;
  follow = m.is.follow;
  within = m.is.within;
  short = m.is.short;
  levels = length-set m.old.levels (start_in m.old m.row + m.place) m.level ∙ m.is.levels;
  grade = grade_set m;
  rises = m.is.rises;
}

pub replaced_part : (m : Replacement) → IsPart m.new
replaced_part m = subst IsPart (sym m.same) (part_set m)

elsewhere_set : (m : Replacement) (r b : ℕ) → r ≢ m.row → standing_in (replaced_by m) r b ≡ standing_in m.old r b
elsewhere_set m r b apart =
    elim (cases_lt r (count m.old)) [
      | inl below ↦ among-same (taker_in m.old r) (taker_in m.old r) (level_in m.old r) (level_in (replaced_by m) r) b (degree_in m.old r) (λ i lt. refl) (λ i lt. level_kept m r i (apart_places m.old m.is r m.row i m.place below m.below apart lt m.at.0))
      | inr past ↦ standing_past (replaced_by m) (part_set m) r b past ∙ sym (standing_past m.old m.is r b past)
    ]

pub replaced : (m : Replacement) → IsWritten m.old m.new m.row m.to m.level
replaced m =
    let others : (b : ℕ) → m.to ≢ b → standing_in (replaced_by m) m.row b ≡ standing_in m.old m.row b = λ b apart.
    among-other (taker_in m.old m.row) (level_in m.old m.row) (level_in (replaced_by m) m.row) b (degree_in m.old m.row) m.place (λ i other. level_kept m m.row i (λ e. other (omega (arith, e)))) (λ e. apart (sym m.at.1 ∙ e)) in
    let here : standing_in (replaced_by m) m.row m.to ≡ m.level =
    ap (standing_in (replaced_by m) m.row) (sym m.at.1) ∙ present (replaced_by m) m.row m.place (part_set m) m.below m.at.0 ∙ level_set m in
    let was : standing_in m.old m.row m.to ≡ level_in m.old m.row m.place =
    ap (standing_in m.old m.row) (sym m.at.1) ∙ present m.old m.row m.place m.is m.below m.at.0 in
    let one : graded (standing_in m.old m.row m.to) ≡ 1 = ap graded was ∙ graded_grade (level_in m.old m.row m.place) (m.is.grade m.row m.place m.below m.at.0) in
    let whole : IsWritten m.old (replaced_by m) m.row m.to m.level = record {
      names = refl;
      seeds = refl;
      givers = refl;
      standing = standing_by m.old (replaced_by m) m.row m.to m.level (elsewhere_set m) others here;
      certs = omega (arith, one, graded_grade m.level m.grade);
    } in
    subst (λ (p : Part). IsWritten m.old p m.row m.to m.level) (sym m.same) whole

-- nothing stands for the taker, and nothing is to stand
pub left : (p : Part) (row place to : ℕ) (level : Level) → IsPlace p row to place → level ≡ Observer → IsWritten p p row to level
left p row place to level at none = record {
  names = refl;
  seeds = refl;
  givers = refl;
  standing = standing_by p p row to level (λ r b apart. refl) (λ b apart. refl) (absent p row to place at ∙ sym none);
  certs = ap (λ (l : Level). length p.takers + graded l) (absent p row to place at ∙ sym none);
}

-- a part with other rows
abbrev pub changed : Part → List ℕ → List ℕ → List Level → Part
changed p starts takers levels = record { names = p.names; seeds = p.seeds; givers = p.givers; starts = starts; takers = takers; levels = levels }

pub insert_facts : (old : Part) (row place to at : ℕ) (level : Level) (written starts takers : List ℕ) (levels : List Level)
    → IsPart old → row < count old → IsPlace old row to place → IsGrade level → length old.takers + 1 < 2 ^ 32
    → IsRaised old.starts starts (row + 1) → written ≡ starts → at ≡ start_in old row + place → takers ≡ insert old.takers at to → levels ≡ insert old.levels at level
    → IsPart (changed old written takers levels) × IsWritten old (changed old written takers levels) row to level
insert_facts old row place to at level written starts takers levels is below place_is grade room raised same at_is takers_are levels_are =
    let m : Insertion = record {
      old = old;
      new = changed old written takers levels;
      row = row;
      place = place;
      to = to;
      level = level;
      is = is;
      below = below;
      at = place_is;
      grade = grade;
      room = room;
      names = refl;
      seeds = refl;
      givers = refl;
      starts = subst (λ (s : List ℕ). IsRaised old.starts s (row + 1)) (sym same) raised;
      takers = takers_are ∙ ap (λ (k : ℕ). insert old.takers k to) at_is;
      levels = levels_are ∙ ap (λ (k : ℕ). insert old.levels k level) at_is;
    } in
    (inserted_part m, inserted m)

pub remove_facts : (old : Part) (row place to at : ℕ) (level : Level) (written starts takers : List ℕ) (levels : List Level)
    → IsPart old → row < count old → IsFound old row to place → level ≡ Observer
    → IsRaised starts old.starts (row + 1) → written ≡ starts → at ≡ start_in old row + place → takers ≡ remove old.takers at → levels ≡ remove old.levels at
    → IsPart (changed old written takers levels) × IsWritten old (changed old written takers levels) row to level
remove_facts old row place to at level written starts takers levels is below found none raised same at_is takers_are levels_are =
    let m : Removal = record {
      old = old;
      new = changed old written takers levels;
      row = row;
      place = place;
      to = to;
      level = level;
      is = is;
      below = below;
      at = found;
      none = none;
      names = refl;
      seeds = refl;
      givers = refl;
      starts = subst (λ (s : List ℕ). IsRaised s old.starts (row + 1)) (sym same) raised;
      takers = takers_are ∙ ap (remove old.takers) at_is;
      levels = levels_are ∙ ap (remove old.levels) at_is;
    } in
    (removed_part m, removed m)

pub replace_facts : (old : Part) (row place to at : ℕ) (level : Level) (levels : List Level) → IsPart old → row < count old → IsFound old row to place → IsGrade level
    → at ≡ start_in old row + place → levels ≡ set old.levels at level
    → IsPart (changed old old.starts old.takers levels) × IsWritten old (changed old old.starts old.takers levels) row to level
replace_facts old row place to at level levels is below found grade at_is levels_are =
    let m : Replacement = record {
      old = old;
      new = changed old old.starts old.takers levels;
      row = row;
      place = place;
      to = to;
      level = level;
      is = is;
      below = below;
      at = found;
      grade = grade;
      same = ap (changed old old.starts old.takers) (levels_are ∙ ap (λ (k : ℕ). set old.levels k level) at_is);
    } in
    (replaced_part m, replaced m)

-- the numbers from a place on that are above the row's first are some
pub some_behind : (p : Part) → IsPart p → (row place to k : ℕ) → row < count p → IsFound p row to place → row + 1 ≤ k → k < length p.starts → 0 < start_in p k
some_behind p is row place to k below found le lt = omega (arith, found.0, start_le p is (row + 1) k le (omega (arith, is.starts)))

pub small_starts : (p : Part) → IsPart p → (k : ℕ) → length p.takers + 1 < 2 ^ 32 → k < length p.starts → start_in p k + 1 < 2 ^ 32
small_starts p is k room lt = omega (arith, room, is.within k (omega (arith, is.starts)))

-- what a row's items say of a taker
pub standing_found : (p : Part) (row to i : ℕ) → IsPart p → row < count p → IsFound p row to i → standing_in p row to ≡ level_in p row i
standing_found p row to i is below found = ap (standing_in p row) (sym found.1) ∙ present p row i is below found.0

pub standing_none : (p : Part) (row to place : ℕ) → IsPlace p row to place → standing_in p row to ≡ Observer
standing_none p row to place at = absent p row to place at

-- where a row begins, as it is read
pub read_start : (p : Part) (row start : ℕ) → IsPart p → row ≤ count p → start ≡ get_or p.starts row start → start ≡ start_in p row
read_start p row start is le read = read ∙ get_or_default p.starts row start 0 (omega (arith, is.starts))

pub read_level : (p : Part) (row i start : ℕ) (level : Level) → IsPart p → row < count p → i < degree_in p row → start ≡ get_or p.starts row start → level ≡ get_or p.levels (start + i) level → level ≡ level_in p row i
read_level p row i start level is below within start_is read =
    let at : start ≡ start_in p row = read_start p row start is (omega arith) start_is in
    read ∙ ap (λ (k : ℕ). get_or p.levels (k + i) level) at ∙ get_or_default p.levels (start_in p row + i) level Observer (omega (arith, place_within p is row i below within, is.levels))

-- one account more keeps the part in order
pub account_part : (p : Part) (name : List ℕ) → IsPart p → count p < 64 → IsPart (with_account p name)
account_part p name is few =
    let n : ℕ = count p in
    let old : (r : ℕ) → r ≤ n → slice_index (p.starts ++ length p.takers ∷ []) r ≡ start_in p r = λ r le. get_or_append_left p.starts (length p.takers ∷ []) 0 r (omega (arith, is.starts)) in
    let last : slice_index (p.starts ++ length p.takers ∷ []) (n + 1) ≡ length p.takers = get_or_push p.starts (length p.takers) 0 (n + 1) is.starts in
    let counts : count (with_account p name) ≡ n + 1 = length_push p.names name in
    let whole : (r : ℕ) → r < n + 1 → (r < n) ⊎ (r ≡ n) = λ r lt. elim (cases_eq r n) [ inl same ↦ inr same | inr apart ↦ inl (omega (arith, apart)) ] in
    let none : degree_in (with_account p name) n ≡ 0 = omega (arith, last, old n (omega arith), is.ends) in
    let degree : (r : ℕ) → r < n → degree_in (with_account p name) r ≡ degree_in p r = λ r lt. omega (arith, old r (omega arith), old (r + 1) (omega arith)) in
    let taker : (r i : ℕ) → r < n → taker_in (with_account p name) r i ≡ taker_in p r i = λ r i lt. ap (λ (k : ℕ). slice_index p.takers (k + i)) (old r (omega arith)) in
    let level : (r i : ℕ) → r < n → level_in (with_account p name) r i ≡ level_in p r i = λ r i lt. ap (λ (k : ℕ). slice_index_or p.levels (k + i) Observer) (old r (omega arith)) in
    record {
      few = omega (arith, counts);
      seeds = length_push p.seeds false ∙ ap (λ (k : ℕ). k + 1) is.seeds ∙ sym counts;
      givers = length_push p.givers 0 ∙ ap (λ (k : ℕ). k + 1) is.givers ∙ sym counts;
      starts = length_push p.starts (length p.takers) ∙ ap (λ (k : ℕ). k + 1) (is.starts ∙ sym counts);
      begins = old 0 (omega arith) ∙ is.begins;
      ends = ap (slice_index (p.starts ++ length p.takers ∷ [])) counts ∙ last;
      follow = λ r lt. elim (whole r (omega (arith, counts))) [
        | inl lesser ↦ omega (arith, old r (omega arith), old (r + 1) (omega arith), is.follow r lesser)
        | inr same ↦
            let e : slice_index (p.starts ++ length p.takers ∷ []) r ≡ start_in p r = old r (omega arith) in
            let f : slice_index (p.starts ++ length p.takers ∷ []) (r + 1) ≡ length p.takers = ap (λ (k : ℕ). slice_index (p.starts ++ length p.takers ∷ []) (k + 1)) same ∙ last in
            omega (arith, e, f, is.within r (omega arith))
      ];
      within = λ r le. elim (cases_eq r (n + 1)) [
        | inl same ↦ let e : slice_index (p.starts ++ length p.takers ∷ []) r ≡ length p.takers = ap (slice_index (p.starts ++ length p.takers ∷ [])) same ∙ last in omega (arith, e)
        | inr apart ↦ omega (arith, old r (omega (arith, apart, counts)), is.within r (omega (arith, apart, counts)))
      ];
      short = is.short;
      levels = is.levels;
      grade = λ r i lt within. elim (whole r (omega (arith, counts))) [
        | inl lesser ↦ subst IsGrade (sym (level r i lesser)) (is.grade r i lesser (omega (arith, degree r lesser)))
        | inr same ↦ let e : degree_in (with_account p name) r ≡ 0 = ap (degree_in (with_account p name)) same ∙ none in absurd (omega (arith, e))
      ];
      rises = λ r i j lt before within. elim (whole r (omega (arith, counts))) [
        | inl lesser ↦ omega (arith, taker r i lesser, taker r j lesser, is.rises r i j lesser before (omega (arith, degree r lesser)))
        | inr same ↦ let e : degree_in (with_account p name) r ≡ 0 = ap (degree_in (with_account p name)) same ∙ none in absurd (omega (arith, e))
      ];
    }

-- and says of each pair what it said
pub account_standing : (p : Part) (name : List ℕ) → IsPart p → count p < 64 → (row b : ℕ) → standing_in (with_account p name) row b ≡ standing_in p row b
account_standing p name is few row b =
    let n : ℕ = count p in
    let new : IsPart (with_account p name) = account_part p name is few in
    let counts : count (with_account p name) ≡ n + 1 = length_push p.names name in
    let old : (r : ℕ) → r ≤ n → slice_index (p.starts ++ length p.takers ∷ []) r ≡ start_in p r = λ r le. get_or_append_left p.starts (length p.takers ∷ []) 0 r (omega (arith, is.starts)) in
    let last : slice_index (p.starts ++ length p.takers ∷ []) (n + 1) ≡ length p.takers = get_or_push p.starts (length p.takers) 0 (n + 1) is.starts in
    elim (cases_lt row n) [
      | inl lesser ↦
          ap (among (taker_in (with_account p name) row) (level_in (with_account p name) row) b) (let e : degree_in (with_account p name) row ≡ degree_in p row = omega (arith, old row (omega arith), old (row + 1) (omega arith)) in e)
          ∙ among-same (taker_in p row) (taker_in (with_account p name) row) (level_in p row) (level_in (with_account p name) row) b (degree_in p row)
          (λ i lt. ap (λ (k : ℕ). slice_index p.takers (k + i)) (old row (omega arith)))
          (λ i lt. ap (λ (k : ℕ). slice_index_or p.levels (k + i) Observer) (old row (omega arith)))
      | inr past ↦ elim (cases_eq row n) [
        | inl same ↦
            let none : degree_in (with_account p name) row ≡ 0 = ap (degree_in (with_account p name)) same ∙ omega (arith, last, old n (omega arith), is.ends) in
            ap (among (taker_in (with_account p name) row) (level_in (with_account p name) row) b) none ∙ sym (standing_past p is row b past)
        | inr apart ↦ standing_past (with_account p name) new row b (omega (arith, counts, apart)) ∙ sym (standing_past p is row b past)
      ]
    ]
