-- Parts of a site where one row has one certificate more.
use Rattle.std.proofs.Common.{ℕ, zero, suc, ◌≡◌, ◌≢◌, ◌≤◌, ◌<◌, ◌+◌, ◌-◌, ◌⊎◌, inl, inr, arith, ap, ◌∙◌, length, slice_index, slice_index_or}
use Rattle.std.proofs.lemmas.Bool.{cases_lt}
use Rattle.std.proofs.lemmas.List.{get_or_past}
use Rattle.trust_types.specs.declared.levels.Level.TheVariants.{Observer}
use Rattle.frozen.specs.Parts.{Part, count, degree_in, taker_in, level_in, standing_in, among, IsPart}
use Rattle.frozen.specs.inner.Rows.{IsRaised}
use Rattle.frozen.proofs.Among.{among-same, among-more}

-- where a row begins
abbrev pub start_in : Part → ℕ → ℕ
start_in p row = slice_index p.starts row

pub starts_rise : (p : Part) → IsPart p → (i k : ℕ) → i + k ≤ count p → start_in p i ≤ start_in p (i + k)
starts_rise p is i zero within = let e : start_in p (i + 0) ≡ start_in p i = ap (start_in p) (omega arith) in omega (arith, e)
starts_rise p is i (suc k) within =
    let e : start_in p (i + suc k) ≡ start_in p (i + k + 1) = ap (start_in p) (omega arith) in
    omega (arith, e, starts_rise p is i k (omega arith), is.follow (i + k) (omega arith))

pub start_le : (p : Part) → IsPart p → (i k : ℕ) → i ≤ k → k ≤ count p → start_in p i ≤ start_in p k
start_le p is i k le within =
    let e : start_in p (i + (k - i)) ≡ start_in p k = ap (start_in p) (omega arith) in
    omega (arith, e, starts_rise p is i (k - i) (omega arith))

-- past the accounts a row is empty
pub degree_past : (p : Part) → IsPart p → (row : ℕ) → count p ≤ row → degree_in p row ≡ 0
degree_past p is row past = omega (arith, get_or_past p.starts (row + 1) 0 (omega (arith, is.starts)))

pub standing_past : (p : Part) → IsPart p → (row b : ℕ) → count p ≤ row → standing_in p row b ≡ Observer
standing_past p is row b past = ap (among (taker_in p row) (level_in p row) b) (degree_past p is row past)

pub place_within : (p : Part) → IsPart p → (row i : ℕ) → row < count p → i < degree_in p row → start_in p row + i < length p.takers
place_within p is row i below within = omega (arith, is.within (row + 1) (omega arith))

-- A row of the large part has one certificate more, at a place, and the others are the same.
pub record IsOneMore (small large : Part) (row place : ℕ) : Type 0 where
  pub within : place ≤ degree_in small row
  pub degree : degree_in large row ≡ suc (degree_in small row)
  pub degrees : (r : ℕ) → r ≢ row → degree_in large r ≡ degree_in small r
  pub takers : (r i : ℕ) → r ≢ row → i < degree_in small r → taker_in large r i ≡ taker_in small r i
  pub levels : (r i : ℕ) → r ≢ row → i < degree_in small r → level_in large r i ≡ level_in small r i
  pub before : (i : ℕ) → i < place → taker_in large row i ≡ taker_in small row i
  pub before_level : (i : ℕ) → i < place → level_in large row i ≡ level_in small row i
  pub behind : (i : ℕ) → place ≤ i → i < degree_in small row → taker_in large row (suc i) ≡ taker_in small row i
  pub behind_level : (i : ℕ) → place ≤ i → i < degree_in small row → level_in large row (suc i) ≡ level_in small row i

pub standing_elsewhere : (small large : Part) (row place : ℕ) → IsOneMore small large row place → (r b : ℕ) → r ≢ row → standing_in large r b ≡ standing_in small r b
standing_elsewhere small large row place more r b apart =
    ap (among (taker_in large r) (level_in large r) b) (more.degrees r apart)
    ∙ among-same (taker_in small r) (taker_in large r) (level_in small r) (level_in large r) b (degree_in small r) (λ i lt. more.takers r i apart lt) (λ i lt. more.levels r i apart lt)

pub standing_others : (small large : Part) (row place : ℕ) → IsOneMore small large row place → (b : ℕ) → taker_in large row place ≢ b → standing_in large row b ≡ standing_in small row b
standing_others small large row place more b apart =
    ap (among (taker_in large row) (level_in large row) b) more.degree
    ∙ among-more (taker_in small row) (taker_in large row) (level_in small row) (level_in large row) b (degree_in small row) place more.within more.before more.before_level apart more.behind more.behind_level

-- The premises of both ways: lists of which the large one's have one item more.
pub record Grown : Type 0 where
  pub small : Part
  pub large : Part
  pub row : ℕ
  pub place : ℕ
  pub below : row < count small
  pub counts : count large ≡ count small
  pub within : place ≤ degree_in small row
  pub starts : IsRaised small.starts large.starts (row + 1)
  pub length_of : length small.starts ≡ count small + 1
  pub rise : (i k : ℕ) → i ≤ k → k ≤ count small → start_in small i ≤ start_in small k
  pub takers_below : (k : ℕ) → k < start_in small row + place → slice_index large.takers k ≡ slice_index small.takers k
  pub takers_above : (k : ℕ) → start_in small row + place ≤ k → slice_index large.takers (k + 1) ≡ slice_index small.takers k
  pub levels_below : (k : ℕ) → k < start_in small row + place → slice_index_or large.levels k Observer ≡ slice_index_or small.levels k Observer
  pub levels_above : (k : ℕ) → start_in small row + place ≤ k → slice_index_or large.levels (k + 1) Observer ≡ slice_index_or small.levels k Observer

start_before : (g : Grown) (r : ℕ) → r ≤ g.row → start_in g.large r ≡ start_in g.small r
start_before g r le = g.starts.before r (omega arith)

start_behind : (g : Grown) (r : ℕ) → g.row < r → r ≤ count g.small → start_in g.large r ≡ start_in g.small r + 1
start_behind g r lt le = g.starts.behind r (omega arith) (omega (arith, g.length_of))

degree_here : (g : Grown) → degree_in g.large g.row ≡ suc (degree_in g.small g.row)
degree_here g = omega (arith, start_before g g.row (omega arith), start_behind g (g.row + 1) (omega arith) (omega (arith, g.below)), g.rise g.row (g.row + 1) (omega arith) (omega (arith, g.below)))

degree_there : (g : Grown) (r : ℕ) → r ≢ g.row → degree_in g.large r ≡ degree_in g.small r
degree_there g r apart =
    elim (cases_lt r g.row) [
      | inl lesser ↦ omega (arith, start_before g r (omega arith), start_before g (r + 1) (omega arith))
      | inr le ↦ elim (cases_lt r (count g.small)) [
        | inl inside ↦ omega (arith, start_behind g r (omega (arith, apart)) (omega arith), start_behind g (r + 1) (omega arith) (omega arith))
        | inr past ↦ omega (arith, get_or_past g.small.starts (r + 1) 0 (omega (arith, g.length_of)), get_or_past g.large.starts (r + 1) 0 (omega (arith, g.length_of, g.starts.long)))
      ]
    ]

-- a place in another row is before the new one's or behind it
abbrev Moves : (g : Grown) (r i : ℕ) → Type 0
Moves g r i = ((start_in g.large r + i ≡ start_in g.small r + i) × (start_in g.small r + i < start_in g.small g.row + g.place))
    ⊎ ((start_in g.large r + i ≡ start_in g.small r + i + 1) × (start_in g.small g.row + g.place ≤ start_in g.small r + i))

moves : (g : Grown) (r i : ℕ) → r ≢ g.row → i < degree_in g.small r → Moves g r i
moves g r i apart lt =
    elim (cases_lt r g.row) [
      | inl lesser ↦ inl (omega (arith, start_before g r (omega arith)), omega (arith, g.rise (r + 1) g.row (omega arith) (omega (arith, g.below))))
      | inr le ↦ elim (cases_lt r (count g.small)) [
        | inl inside ↦ inr (
          omega (arith, start_behind g r (omega (arith, apart)) (omega arith)),
          omega (arith, g.within, g.rise (g.row + 1) r (omega (arith, apart)) (omega arith), g.rise g.row (g.row + 1) (omega arith) (omega (arith, g.below))),
        )
        | inr past ↦ absurd (omega (arith, get_or_past g.small.starts (r + 1) 0 (omega (arith, g.length_of))))
      ]
    ]

taker_there : (g : Grown) (r i : ℕ) → r ≢ g.row → i < degree_in g.small r → taker_in g.large r i ≡ taker_in g.small r i
taker_there g r i apart lt =
    elim (moves g r i apart lt) [
      | inl h ↦ ap (slice_index g.large.takers) h.0 ∙ g.takers_below (start_in g.small r + i) h.1
      | inr h ↦ ap (slice_index g.large.takers) h.0 ∙ g.takers_above (start_in g.small r + i) h.1
    ]

level_there : (g : Grown) (r i : ℕ) → r ≢ g.row → i < degree_in g.small r → level_in g.large r i ≡ level_in g.small r i
level_there g r i apart lt =
    elim (moves g r i apart lt) [
      | inl h ↦ ap (λ (k : ℕ). slice_index_or g.large.levels k Observer) h.0 ∙ g.levels_below (start_in g.small r + i) h.1
      | inr h ↦ ap (λ (k : ℕ). slice_index_or g.large.levels k Observer) h.0 ∙ g.levels_above (start_in g.small r + i) h.1
    ]

pub one_more : (g : Grown) → IsOneMore g.small g.large g.row g.place
one_more g =
    let here : start_in g.large g.row ≡ start_in g.small g.row = start_before g g.row (omega arith) in
    record {
      within = g.within;
      degree = degree_here g;
      degrees = degree_there g;
      takers = taker_there g;
      levels = level_there g;
      before = λ i lt. ap (λ (k : ℕ). slice_index g.large.takers (k + i)) here ∙ g.takers_below (start_in g.small g.row + i) (omega arith);
      before_level = λ i lt. ap (λ (k : ℕ). slice_index_or g.large.levels (k + i) Observer) here ∙ g.levels_below (start_in g.small g.row + i) (omega arith);
      behind = λ i from lt. let at : start_in g.large g.row + suc i ≡ start_in g.small g.row + i + 1 = omega (arith, here) in ap (slice_index g.large.takers) at ∙ g.takers_above (start_in g.small g.row + i) (omega arith);
      behind_level = λ i from lt. let at : start_in g.large g.row + suc i ≡ start_in g.small g.row + i + 1 = omega (arith, here) in ap (λ (k : ℕ). slice_index_or g.large.levels k Observer) at ∙ g.levels_above (start_in g.small g.row + i) (omega arith);
    }
