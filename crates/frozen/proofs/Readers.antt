-- The readers of parts give each standing certificate once.
use Rattle.std.proofs.Common.{ℕ, zero, suc, ◌≡◌, ◌≤◌, ◌<◌, ◌/◌, ◌%◌, inl, inr, refl, arith, sym, ap, subst, ◌∙◌, List, length, false, slice_index, slice_get, get_or}
use Rattle.std.proofs.lemmas.Bool.{cases_lt}
use Rattle.std.proofs.lemmas.List.{get_or_past, length-map, get_or-map}
use Rattle.trust_types.specs.declared.levels.Level.{Level}
use Rattle.trust_types.specs.declared.graphs.Cert.{Cert}
use Rattle.trust_types.specs.declared.levels.Level.TheVariants.{Observer}
use Rattle.trust_types.specs.Rows.{GivesEachOnce}
use Rattle.frozen.specs.Parts.{Part, PartWithRoom, no_part, count, degree_in, giver_in, taker_in, level_in, given_in, IsPart}
use Rattle.std.specs.declared.sync.Arc.{Arc}
use Rattle.frozen.specs.Sites.{shared_part, shared_parts, names, part_at, part_of, accounts, degree, is_seed, given, standing, certificates_of, AreParts}
use Rattle.frozen.proofs.Among.{among-at, among-found}
use Rattle.frozen.proofs.Shifts.{standing_past}
use Rattle.frozen.proofs.Numbering.{AreFull, row_within, row_outside, part_within, name_at}

first_start : (row : ℕ) → row ≡ 0 → slice_index no_part.starts row ≤ 0
first_start zero is = omega arith
first_start (suc row) is = absurd (omega (arith, is))

pub no_part_is : IsPart no_part
no_part_is = record {
  few = omega arith;
  seeds = refl;
  givers = refl;
  starts = refl;
  begins = refl;
  ends = refl;
  follow = λ row lt. absurd (omega arith);
  within = λ row le. first_start row (omega arith);
  short = omega arith;
  levels = refl;
  grade = λ row i lt within. absurd (omega arith);
  rises = λ row i j lt before within. absurd (omega arith);
}

pub part_is : (ps : List Part) → AreParts ps → (k : ℕ) → IsPart (part_at ps k)
part_is ps are k =
    elim (cases_lt k (length ps)) [
      | inl inside ↦ are.parts k inside
      | inr past ↦ subst IsPart (sym (get_or_past ps k no_part past)) no_part_is
    ]

pub are_full : (ps : List Part) → AreParts ps → AreFull ps
are_full ps are = record { full = are.full; few = λ k lt. (are.parts k lt).few }

pub gives_each_once : (ps : List Part) → AreParts ps → GivesEachOnce (certificates_of ps) (degree ps) (given ps)
gives_each_once ps are =
    let row : (a : ℕ) → a < accounts ps → a % 64 < count (part_of ps a) = row_within ps (are_full ps are) in
    record {
      giver = λ a i lt within. refl;
      taker = are.below;
      others = are.others;
      grade = λ a i lt within. (part_is ps are (a / 64)).grade (a % 64) i (row a lt) within;
      rises = λ a i j lt before within. (part_is ps are (a / 64)).rises (a % 64) i j (row a lt) before within;
      stands = λ a i lt within. among-at (taker_in (part_of ps a) (a % 64)) (level_in (part_of ps a) (a % 64)) i (degree ps a) (λ j k before inside. (part_is ps are (a / 64)).rises (a % 64) j k (row a lt) before inside) within;
      complete = λ a b lt_a lt_b some. among-found (taker_in (part_of ps a) (a % 64)) (level_in (part_of ps a) (a % 64)) b (degree ps a) some;
    }

pub outside : (ps : List Part) → AreParts ps → (a b : ℕ) → accounts ps ≤ a → standing ps a b ≡ Observer
outside ps are a b past = standing_past (part_of ps a) (part_is ps are (a / 64)) (a % 64) b (row_outside ps (are_full ps are) a past)

pub no_seeds : (ps : List Part) → AreParts ps → (a : ℕ) → accounts ps ≤ a → is_seed ps a ≡ false
no_seeds ps are a past =
    get_or_past (part_of ps a).seeds (a % 64) false (omega (arith, row_outside ps (are_full ps are) a past, (part_is ps are (a / 64)).seeds))

abbrev cert : ℕ → ℕ → Level → Cert
cert from to level = record { from = from; to = to; level = level }

-- a certificate of a part's row is its account's
pub given_is : (ps : List Part) (a i : ℕ) (p : Part) → p ≡ part_of ps a → giver_in p (a % 64) ≡ a → given_in p (a % 64) i ≡ given ps a i
given_is ps a i p is own =
    ap (λ (from : ℕ). cert from (taker_in p (a % 64) i) (level_in p (a % 64) i)) own
    ∙ ap (λ (q : Part). cert a (taker_in q (a % 64) i) (level_in q (a % 64) i)) is

pub own_in : (ps : List Part) (a : ℕ) (p : Part) → AreParts ps → a < accounts ps → p ≡ part_of ps a → 0 < degree_in p (a % 64) → giver_in p (a % 64) ≡ a
own_in ps a p are below is = subst (λ (q : Part). 0 < degree_in q (a % 64) → giver_in q (a % 64) ≡ a) (sym is) (are.giver a below)

-- the block that is read for an account has its part
pub block_part : {Z : Type 0} (blocks : List (Arc PartWithRoom Z)) (a : ℕ) (b : Arc PartWithRoom Z) (h : PartWithRoom) → AreParts (shared_parts blocks) → a < accounts (shared_parts blocks) → b ≡ get_or blocks (a / 64) b → h ≡ b.value → h.part ≡ part_of (shared_parts blocks) a
block_part blocks a b h are below read is =
    let inside : a / 64 < length blocks = omega (arith, length-map blocks shared_part, part_within (shared_parts blocks) (are_full (shared_parts blocks) are) a below) in
    ap (λ (x : PartWithRoom). x.part) is ∙ ap shared_part read ∙ sym (get_or-map shared_part blocks (a / 64) b no_part inside)

pub row_in : (ps : List Part) (a : ℕ) (p : Part) → AreParts ps → a < accounts ps → p ≡ part_of ps a → a % 64 < count p
row_in ps a p are below is = subst (λ (q : Part). a % 64 < count q) (sym is) (row_within ps (are_full ps are) a below)

pub name_in : (ps : List Part) (a : ℕ) (p : Part) → AreParts ps → p ≡ part_of ps a → slice_get (names ps) a ≡ slice_get p.names (a % 64)
name_in ps a p are is = name_at ps (are_full ps are) a ∙ ap (λ (q : Part). slice_get q.names (a % 64)) (sym is)
