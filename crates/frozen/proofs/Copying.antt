-- What a part is into which the rows of a graph were copied.
use Rattle.std.proofs.Common.{ℕ, zero, suc, Bool, false, ◌≡◌, ◌≤◌, ◌<◌, ◌+◌, ◌-◌, ◌==◌, if◌then◌else◌, refl, arith, sym, ap, subst, ◌∙◌, List, length, slice_index, slice_index_or}
use Rattle.std.specs.List.{between}
use Rattle.std.proofs.lemmas.List.Edits.{length-between, get_or-between}
use Rattle.trust_types.specs.declared.levels.Level.{Level}
use Rattle.trust_types.specs.declared.levels.Level.TheVariants.{Observer}
use Rattle.trust_types.specs.Levels.{IsGrade}
use Rattle.trust_types.specs.Layout.{Rows, AreRows, accounts, degree, taker, level_given, row_standing}
use Rattle.frozen.specs.Parts.{Part, count, degree_in, taker_in, level_in, among, IsPart}
use Rattle.frozen.specs.inner.Copies.{IsCopy, AreFrom, AreLowered}
use Rattle.frozen.proofs.Shifts.{start_in}

abbrev start_of : Rows → ℕ → ℕ
start_of r a = slice_index r.starts a

starts_rise : (r : Rows) → AreRows r → (i k : ℕ) → i + k ≤ accounts r → start_of r i ≤ start_of r (i + k)
starts_rise r are i zero within = let e : start_of r (i + 0) ≡ start_of r i = ap (start_of r) (omega arith) in omega (arith, e)
starts_rise r are i (suc k) within =
    let e : start_of r (i + suc k) ≡ start_of r (i + k + 1) = ap (start_of r) (omega arith) in
    omega (arith, e, starts_rise r are i k (omega arith), are.follow (i + k) (omega arith))

pub start_le : (r : Rows) → AreRows r → (i k : ℕ) → i ≤ k → k ≤ accounts r → start_of r i ≤ start_of r k
start_le r are i k le within =
    let e : start_of r (i + (k - i)) ≡ start_of r k = ap (start_of r) (omega arith) in
    omega (arith, e, starts_rise r are i (k - i) (omega arith))

-- a row of a graph says what a row of a part says
pub row_among : (r : Rows) (a b n : ℕ) → row_standing r a b n ≡ among (taker r a) (level_given r a) b n
row_among r a b zero = refl
row_among r a b (suc n) = ap (λ (x : Level). if taker r a n == b then level_given r a n else x) (row_among r a b n)

-- What was copied, and into what.
pub record Copy : Type 0 where
  pub r : Rows
  pub named : List (List ℕ)
  pub first : ℕ
  pub end : ℕ
  pub p : Part
  pub are : AreRows r
  pub size : length named ≡ accounts r
  pub ordered : first ≤ end
  pub few : end ≤ first + 64
  pub within : end ≤ accounts r
  pub names : p.names ≡ between first end named
  pub seeds : p.seeds ≡ between first end r.seeds
  pub givers : AreFrom p.givers first (end - first)
  pub starts : AreLowered (between first (end + 1) r.starts) p.starts (start_of r first)
  pub takers : p.takers ≡ between (start_of r first) (start_of r end) r.takers
  pub levels : p.levels ≡ between (start_of r first) (start_of r end) r.levels

long_starts : (c : Copy) → length (between c.first (c.end + 1) c.r.starts) ≡ c.end + 1 - c.first
long_starts c = length-between c.r.starts c.first (c.end + 1) (omega (arith, c.are.starts, c.within))

counts : (c : Copy) → count c.p ≡ c.end - c.first
counts c = ap length c.names ∙ length-between c.named c.first c.end (omega (arith, c.size, c.within))

-- where a row begins
start_copied : (c : Copy) (k : ℕ) → k ≤ c.end - c.first → start_in c.p k + start_of c.r c.first ≡ start_of c.r (c.first + k)
start_copied c k le =
    c.starts.each k (omega (arith, long_starts c, c.ordered))
    ∙ get_or-between c.r.starts c.first (c.end + 1) k 0 (omega (arith, c.ordered))

end_below : (c : Copy) → start_of c.r c.end ≤ length c.r.takers
end_below c = c.are.within c.end c.within

long_takers : (c : Copy) → length c.p.takers ≡ start_of c.r c.end - start_of c.r c.first
long_takers c = ap length c.takers ∙ length-between c.r.takers (start_of c.r c.first) (start_of c.r c.end) (end_below c)

long_levels : (c : Copy) → length c.p.levels ≡ start_of c.r c.end - start_of c.r c.first
long_levels c = ap length c.levels ∙ length-between c.r.levels (start_of c.r c.first) (start_of c.r c.end) (omega (arith, end_below c, c.are.levels))

degree_copied : (c : Copy) (row : ℕ) → row < c.end - c.first → degree_in c.p row ≡ degree c.r (c.first + row)
degree_copied c row lt =
    let next : start_of c.r (c.first + (row + 1)) ≡ start_of c.r (c.first + row + 1) = ap (start_of c.r) (omega arith) in
    omega (arith, start_copied c row (omega arith), start_copied c (row + 1) (omega arith), next)

-- a place in a row is one of the graph's
place_copied : (c : Copy) (row i : ℕ) → row < c.end - c.first → i < degree c.r (c.first + row) →
    (start_of c.r c.first + (start_in c.p row + i) ≡ start_of c.r (c.first + row) + i) × (start_in c.p row + i < start_of c.r c.end - start_of c.r c.first)
place_copied c row i lt within = (
  omega (arith, start_copied c row (omega arith)),
  omega (arith, start_copied c row (omega arith), start_le c.r c.are (c.first + row + 1) c.end (omega (arith, c.ordered)) c.within, start_le c.r c.are c.first (c.first + row) (omega arith) (omega (arith, c.within))),
)

taker_copied : (c : Copy) (row i : ℕ) → row < c.end - c.first → i < degree c.r (c.first + row) → taker_in c.p row i ≡ taker c.r (c.first + row) i
taker_copied c row i lt within =
    let place = place_copied c row i lt within in
    ap (λ (xs : List ℕ). slice_index xs (start_in c.p row + i)) c.takers
    ∙ get_or-between c.r.takers (start_of c.r c.first) (start_of c.r c.end) (start_in c.p row + i) 0 (omega (arith, place.1))
    ∙ ap (slice_index c.r.takers) place.0

level_copied : (c : Copy) (row i : ℕ) → row < c.end - c.first → i < degree c.r (c.first + row) → level_in c.p row i ≡ level_given c.r (c.first + row) i
level_copied c row i lt within =
    let place = place_copied c row i lt within in
    ap (λ (xs : List Level). slice_index_or xs (start_in c.p row + i) Observer) c.levels
    ∙ get_or-between c.r.levels (start_of c.r c.first) (start_of c.r c.end) (start_in c.p row + i) Observer (omega (arith, place.1))
    ∙ ap (λ (k : ℕ). slice_index_or c.r.levels k Observer) place.0

pub copied_part : (c : Copy) → IsPart c.p
copied_part c =
    let n : count c.p ≡ c.end - c.first = counts c in
    let at : (k : ℕ) → k ≤ c.end - c.first → start_in c.p k + start_of c.r c.first ≡ start_of c.r (c.first + k) = start_copied c in
    let last : start_of c.r (c.first + (c.end - c.first)) ≡ start_of c.r c.end = ap (start_of c.r) (omega (arith, c.ordered)) in
    let begin : start_of c.r (c.first + 0) ≡ start_of c.r c.first = ap (start_of c.r) (omega arith) in
    record {
      few = omega (arith, n, c.few, c.ordered);
      seeds = ap length c.seeds ∙ length-between c.r.seeds c.first c.end c.within ∙ sym n;
      givers = c.givers.long ∙ sym n;
      starts = omega (arith, c.starts.long, long_starts c, n, c.ordered);
      begins = omega (arith, at 0 (omega arith), begin);
      ends = ap (start_in c.p) n ∙ omega (arith, at (c.end - c.first) (omega arith), last, long_takers c);
      follow = λ row lt.
          let next : start_of c.r (c.first + (row + 1)) ≡ start_of c.r (c.first + row + 1) = ap (start_of c.r) (omega arith) in
          omega (arith, at row (omega (arith, n)), at (row + 1) (omega (arith, n)), next, c.are.follow (c.first + row) (omega (arith, n, c.within)));
      within = λ row le. omega (arith, at row (omega (arith, n)), start_le c.r c.are (c.first + row) c.end (omega (arith, n, c.ordered)) c.within, start_le c.r c.are c.first c.end c.ordered c.within, long_takers c);
      short = omega (arith, long_takers c, end_below c, c.are.takers);
      levels = long_levels c ∙ sym (long_takers c);
      grade = λ row i lt within.
          let inside : i < degree c.r (c.first + row) = omega (arith, degree_copied c row (omega (arith, n))) in
          subst IsGrade (sym (level_copied c row i (omega (arith, n)) inside)) (c.are.grade (c.first + row) i (omega (arith, n, c.within)) inside);
      rises = λ row i j lt before within.
          let inside : j < degree c.r (c.first + row) = omega (arith, degree_copied c row (omega (arith, n))) in
          omega (arith, taker_copied c row i (omega (arith, n)) (omega (arith, inside)), taker_copied c row j (omega (arith, n)) inside, c.are.rises (c.first + row) i j (omega (arith, n, c.within)) before inside);
    }

pub is_copy : (c : Copy) → IsCopy c.r c.named c.first c.end c.p
is_copy c = record {
  is = copied_part c;
  size = counts c;
  names = c.names;
  seeds = λ row lt. ap (λ (bs : List Bool). slice_index_or bs row false) c.seeds ∙ get_or-between c.r.seeds c.first c.end row false (omega (arith, lt));
  giver = λ row lt. c.givers.each row lt;
  degrees = degree_copied c;
  takers = taker_copied c;
  levels = level_copied c;
  certs = omega (arith, long_takers c, start_le c.r c.are c.first c.end c.ordered c.within);
}

-- the same, by what is at hand where a block is made
pub copy_facts : (r : Rows) (named : List (List ℕ)) (first end begin stop : ℕ) (p : Part) → AreRows r → length named ≡ accounts r → first ≤ end → end ≤ first + 64 → end ≤ accounts r
    → begin ≡ start_of r first → stop ≡ start_of r end
    → p.names ≡ between first end named → p.seeds ≡ between first end r.seeds → AreFrom p.givers first (end - first) → AreLowered (between first (end + 1) r.starts) p.starts begin
    → p.takers ≡ between begin stop r.takers → p.levels ≡ between begin stop r.levels → IsPart p × IsCopy r named first end p
copy_facts r named first end begin stop p are size ordered few within begins stops names seeds givers starts takers levels =
    let c : Copy = record {
      r = r;
      named = named;
      first = first;
      end = end;
      p = p;
      are = are;
      size = size;
      ordered = ordered;
      few = few;
      within = within;
      names = names;
      seeds = seeds;
      givers = givers;
      starts = subst (λ (n : ℕ). AreLowered (between first (end + 1) r.starts) p.starts n) begins starts;
      takers = takers ∙ ap (λ (n : ℕ). between n stop r.takers) begins ∙ ap (λ (n : ℕ). between (start_of r first) n r.takers) stops;
      levels = levels ∙ ap (λ (n : ℕ). between n stop r.levels) begins ∙ ap (λ (n : ℕ). between (start_of r first) n r.levels) stops;
    } in
    (copied_part c, is_copy c)

-- no row begins before the first
pub none_before : (r : Rows) (first end begin : ℕ) → AreRows r → first ≤ end → end ≤ accounts r → begin ≡ start_of r first → (k : ℕ) → k < length (between first (end + 1) r.starts) → begin ≤ slice_index (between first (end + 1) r.starts) k
none_before r first end begin are ordered within begins k lt =
    let long : length (between first (end + 1) r.starts) ≡ end + 1 - first = length-between r.starts first (end + 1) (omega (arith, are.starts)) in
    let read : slice_index (between first (end + 1) r.starts) k ≡ start_of r (first + k) = get_or-between r.starts first (end + 1) k 0 (omega (arith, long)) in
    omega (arith, read, begins, start_le r are first (first + k) (omega arith) (omega (arith, long)))
