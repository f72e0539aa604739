-- The seed mark of one account is set.
use Rattle.std.proofs.Common.{ℕ, Bool, true, false, ◌==◌, ◌≡◌, ◌≢◌, ◌<◌, ◌/◌, ◌%◌, inl, inr, refl, arith, sym, ap, subst, ◌∙◌, List, length, get_or, set, if◌then◌else◌, length-set}
use Rattle.std.proofs.lemmas.Bool.{cases_eq}
use Rattle.std.proofs.lemmas.Bool.Decides.{nat_tests}
use Rattle.std.proofs.lemmas.List.{get_or-set_same, get_or-set_other, append-nil}
use Rattle.trust_types.specs.Changes.{Seeded, Unseeded}
use Rattle.trust_types.specs.NameLists.{AreApart}
use Rattle.frozen.specs.Parts.{Part, count, marks_seed, degree_in, giver_in, taker_in, standing_in, IsPart}
use Rattle.frozen.specs.Writes.{with_seed}
use Rattle.frozen.specs.Sites.{part_at, part_of, names, accounts, is_seed, degree, taker, standing, certs, AreParts}
use Rattle.frozen.proofs.Numbering.{row_within, part_within}
use Rattle.frozen.proofs.Readers.{part_is, are_full}
use Rattle.cert_book.specs.declared.slots.Slot.{Slot}
use Rattle.cert_book.specs.declared.slots.Slot.TheVariants.{Moved}
use Rattle.cert_book.specs.inner.Slots.{slot_part, slot_parts, slot_at, HasBlock, IsReady}
use Rattle.cert_book.specs.inner.Blocks.{AreSlots, IsAfter}
use Rattle.cert_book.proofs.Sharing.{slots_same}
use Rattle.cert_book.proofs.Lists.{map-set, map-set_same, all_set}
use Rattle.cert_book.proofs.Putting.{names_set, certs_set, part_here, part_there}
use Rattle.cert_book.proofs.Entering.{slot_inside, slot_read}

-- what doesn't change of the part that is written changes of none
pub same_by : {X : Type 0} (f : Part → X) (ps : List Part) (k : ℕ) (p : Part) → k < length ps → f p ≡ f (part_at ps k) → (j : ℕ) → f (part_at (set ps k p) j) ≡ f (part_at ps j)
same_by f ps k p lt same j =
    elim (cases_eq j k) [
      | inl is ↦ ap (λ (n : ℕ). f (part_at (set ps k p) n)) is ∙ ap f (part_here ps k p lt) ∙ same ∙ ap (λ (n : ℕ). f (part_at ps n)) (sym is)
      | inr apart ↦ ap f (part_there ps k j p apart)
    ]

seed_part : (p : Part) (row : ℕ) (seed : Bool) → IsPart p → IsPart (with_seed p row seed)
seed_part p row seed is = record {
  few = is.few;
  seeds = length-set p.seeds row seed ∙ is.seeds;
  givers = is.givers;
  starts = is.starts;
  begins = is.begins;
  ends = is.ends;
  follow = is.follow;
  within = is.within;
  short = is.short;
  levels = is.levels;
  grade = is.grade;
  rises = is.rises;
}

abbrev marked : List Part → ℕ → Bool → List Part
marked ps a seed = set ps (a / 64) (with_seed (part_of ps a) (a % 64) seed)

pub mark_names : (ps : List Part) (a : ℕ) (seed : Bool) → a / 64 < length ps → names (marked ps a seed) ≡ names ps
mark_names ps a seed inside = names_set ps (a / 64) (with_seed (part_of ps a) (a % 64) seed) inside refl

pub mark_standing : (ps : List Part) (a : ℕ) (seed : Bool) → a / 64 < length ps → (x b : ℕ) → standing (marked ps a seed) x b ≡ standing ps x b
mark_standing ps a seed inside x b = same_by (λ p. standing_in p (x % 64) b) ps (a / 64) (with_seed (part_of ps a) (a % 64) seed) inside refl (x / 64)

pub mark_certs : (ps : List Part) (a : ℕ) (seed : Bool) → a / 64 < length ps → certs (marked ps a seed) ≡ certs ps
mark_certs ps a seed inside = omega (arith, certs_set ps (a / 64) (with_seed (part_of ps a) (a % 64) seed) inside)

if_same : (x a : ℕ) (s t : Bool) → x ≡ a → (if x == a then s else t) ≡ s
if_same x a s t is = grind (arith, nat_tests)

if_other : (x a : ℕ) (s t : Bool) → x ≢ a → (if x == a then s else t) ≡ t
if_other x a s t apart = grind (arith, nat_tests)

pub mark_seeds : (ps : List Part) (a : ℕ) (seed : Bool) → AreParts ps → a < accounts ps → (x : ℕ) → is_seed (marked ps a seed) x ≡ (if x == a then seed else is_seed ps x)
mark_seeds ps a seed are below x =
    let inside : a / 64 < length ps = part_within ps (are_full ps are) a below in
    let row : a % 64 < length (part_of ps a).seeds = omega (arith, (part_is ps are (a / 64)).seeds, row_within ps (are_full ps are) a below) in
    elim (cases_eq (x / 64) (a / 64)) [
      | inr apart ↦
          ap (λ (p : Part). marks_seed p (x % 64)) (part_there ps (a / 64) (x / 64) (with_seed (part_of ps a) (a % 64) seed) apart)
          ∙ sym (if_other x a seed (is_seed ps x) (λ e. apart (ap (λ (n : ℕ). n / 64) e)))
      | inl same ↦
          let now : is_seed (marked ps a seed) x ≡ get_or (set (part_of ps a).seeds (a % 64) seed) (x % 64) false =
          ap (λ (k : ℕ). marks_seed (part_at (marked ps a seed) k) (x % 64)) same
          ∙ ap (λ (p : Part). marks_seed p (x % 64)) (part_here ps (a / 64) (with_seed (part_of ps a) (a % 64) seed) inside) in
          elim (cases_eq (x % 64) (a % 64)) [
            | inl is ↦
                now ∙ ap (λ (r : ℕ). get_or (set (part_of ps a).seeds (a % 64) seed) r false) is ∙ get_or-set_same (part_of ps a).seeds (a % 64) seed false row
                ∙ sym (if_same x a seed (is_seed ps x) (omega (arith, same, is)))
            | inr other ↦
                now ∙ get_or-set_other (part_of ps a).seeds (a % 64) (x % 64) seed false other ∙ ap (λ (k : ℕ). marks_seed (part_at ps k) (x % 64)) (sym same)
                ∙ sym (if_other x a seed (is_seed ps x) (λ e. other (ap (λ (n : ℕ). n % 64) e)))
          ]
    ]

pub mark_parts : (ps : List Part) (a : ℕ) (seed : Bool) → AreParts ps → a < accounts ps → AreParts (marked ps a seed)
mark_parts ps a seed are below =
    let inside : a / 64 < length ps = part_within ps (are_full ps are) a below in
    let p : Part = with_seed (part_of ps a) (a % 64) seed in
    let n : accounts (marked ps a seed) ≡ accounts ps = ap length (mark_names ps a seed inside) in
    let degrees : (x : ℕ) → degree (marked ps a seed) x ≡ degree ps x = λ x. same_by (λ q. degree_in q (x % 64)) ps (a / 64) p inside refl (x / 64) in
    let takers : (x i : ℕ) → taker (marked ps a seed) x i ≡ taker ps x i = λ x i. same_by (λ q. taker_in q (x % 64) i) ps (a / 64) p inside refl (x / 64) in
    record {
      parts = λ k lt. elim (cases_eq k (a / 64)) [
        | inl same ↦ subst (λ (j : ℕ). IsPart (part_at (marked ps a seed) j)) (sym same) (subst IsPart (sym (part_here ps (a / 64) p inside)) (seed_part (part_of ps a) (a % 64) seed (part_is ps are (a / 64))))
        | inr apart ↦ subst IsPart (sym (part_there ps (a / 64) k p apart)) (are.parts k (omega (arith, length-set ps (a / 64) p)))
      ];
      full = λ k lt. same_by count ps (a / 64) p inside refl k ∙ are.full k (omega (arith, length-set ps (a / 64) p));
      giver = λ x lt some. same_by (λ q. giver_in q (x % 64)) ps (a / 64) p inside refl (x / 64) ∙ are.giver x (omega (arith, n)) (omega (arith, degrees x));
      below = λ x i lt within. omega (arith, n, takers x i, are.below x i (omega (arith, n)) (omega (arith, degrees x)));
      others = λ x i lt within e. are.others x i (omega (arith, n)) (omega (arith, degrees x)) (sym (takers x i) ∙ e);
      few = omega (arith, n, are.few);
      few_certs = omega (arith, mark_certs ps a seed inside, are.few_certs);
      apart = subst (λ (ns : List (List ℕ)). AreApart ns) (sym (mark_names ps a seed inside)) are.apart;
    }

-- the slots, once a seed mark was set
pub marked_slots : (slots : List Slot) (a c x : ℕ) (s t : Slot) (seed : Bool) → AreSlots slots a c → x < accounts (slot_parts slots) → s ≡ get_or slots (x / 64) s → slot_part t ≡ with_seed (slot_part s) (x % 64) seed
    → slot_parts (set slots (x / 64) t) ≡ marked (slot_parts slots) x seed
marked_slots slots a c x s t seed is below read set_is =
    map-set slot_part slots (x / 64) t
    ∙ ap (set (slot_parts slots) (x / 64)) (set_is ∙ ap (λ (p : Part). with_seed p (x % 64) seed) (sym (slot_read slots (x / 64) s (slot_inside slots a c x is below) read)))

pub marked_book : (slots : List Slot) (a c x : ℕ) (s t : Slot) (seed : Bool) → AreSlots slots a c → x < accounts (slot_parts slots) → s ≡ get_or slots (x / 64) s → slot_part t ≡ with_seed (slot_part s) (x % 64) seed → HasBlock t
    → AreSlots (set slots (x / 64) t) a c
marked_book slots a c x s t seed is below read set_is held =
    let e : slot_parts (set slots (x / 64) t) ≡ marked (slot_parts slots) x seed = marked_slots slots a c x s t seed is below read set_is in
    let inside : x / 64 < length (slot_parts slots) = part_within (slot_parts slots) (are_full (slot_parts slots) is.parts) x below in
    record {
      parts = subst AreParts (sym e) (mark_parts (slot_parts slots) x seed is.parts below);
      held = all_set HasBlock slots (x / 64) t is.held held;
      used = λ k lt. subst (λ (ps : List Part). 0 < count (part_at ps k)) (sym e) (subst (λ (n : ℕ). 0 < n) (sym (same_by count (slot_parts slots) (x / 64) (with_seed (part_of (slot_parts slots) x) (x % 64) seed) inside refl k)) (is.used k (omega (arith, length-set slots (x / 64) t))));
      counts_accounts = is.counts_accounts ∙ sym (ap accounts e ∙ ap length (mark_names (slot_parts slots) x seed inside));
      counts_certs = is.counts_certs ∙ sym (ap certs e ∙ mark_certs (slot_parts slots) x seed inside);
    }

-- What a seed mark is after a change that sets it.
set_after : (seed : Bool) (x : ℕ) (ps qs : List Part) → names qs ≡ names ps → ((y : ℕ) → is_seed qs y ≡ (if y == x then seed else is_seed ps y)) → ((y b : ℕ) → standing qs y b ≡ standing ps y b)
    → certs qs ≡ certs ps → IsAfter (if seed then Seeded x else Unseeded x) ps qs
set_after true x ps qs named seeds stands count = record { names = named ∙ sym (append-nil (names ps)); seeds = seeds; standing = stands; certs = omega (arith, count) }
set_after false x ps qs named seeds stands count = record { names = named ∙ sym (append-nil (names ps)); seeds = seeds; standing = stands; certs = omega (arith, count) }

pub marked_after : (slots : List Slot) (a c x : ℕ) (s t : Slot) (seed : Bool) → AreSlots slots a c → x < accounts (slot_parts slots) → s ≡ get_or slots (x / 64) s → slot_part t ≡ with_seed (slot_part s) (x % 64) seed
    → IsAfter (if seed then Seeded x else Unseeded x) (slot_parts slots) (slot_parts (set slots (x / 64) t))
marked_after slots a c x s t seed is below read set_is =
    let ps : List Part = slot_parts slots in
    let e : slot_parts (set slots (x / 64) t) ≡ marked ps x seed = marked_slots slots a c x s t seed is below read set_is in
    let inside : x / 64 < length ps = part_within ps (are_full ps is.parts) x below in
    set_after seed x ps (slot_parts (set slots (x / 64) t))
    (ap names e ∙ mark_names ps x seed inside)
    (λ y. ap (λ (qs : List Part). is_seed qs y) e ∙ mark_seeds ps x seed is.parts below y)
    (λ y b. ap (λ (qs : List Part). standing qs y b) e ∙ mark_standing ps x seed inside y b)
    (ap certs e ∙ mark_certs ps x seed inside)

-- a block that was made ready
pub ready_book : (slots : List Slot) (a c k : ℕ) (s t : Slot) → AreSlots slots a c → k < length slots → s ≡ get_or slots k s → slot_part t ≡ slot_part s → HasBlock t → AreSlots (set slots k t) a c
ready_book slots a c k s t is lt read same held = slots_same slots (set slots k t) (set slots k t) a c is (map-set_same slot_part slots k s t lt read same) (all_set HasBlock slots k t is.held held) refl

pub ready_set : (slots : List Slot) (k : ℕ) (t : Slot) → k < length slots → IsReady t → IsReady (slot_at (set slots k t) k)
ready_set slots k t lt ready = subst IsReady (sym (get_or-set_same slots k t Moved lt)) ready
