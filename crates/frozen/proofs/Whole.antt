-- The parts that a graph was copied into.
use Rattle.std.proofs.Common.{ℕ, Bool, false, ◌≡◌, ◌≤◌, ◌<◌, ◌+◌, ◌-◌, ◌*◌, ◌/◌, ◌%◌, ◌↔◌, inl, inr, refl, arith, sym, ap, subst, ◌∙◌, List, [], ◌∷◌, ◌++◌, length, take, IsTrue, Contains, Result, Ok, Err, IfOk, take-add}
use Rattle.std.proofs.lemmas.Bool.{cases_lt}
use Rattle.std.proofs.lemmas.List.{get_or_past, get_or_append_left, get_or_push, length_push, take_all}
use Rattle.trust_types.specs.declared.levels.Level.{Level}
use Rattle.trust_types.specs.declared.levels.Level.TheVariants.{Observer}
use Rattle.trust_types.specs.declared.graphs.Cert.{Cert}
use Rattle.trust_types.specs.declared.limits.TheConstants.{MOST_ACCOUNTS}
use Rattle.trust_types.specs.Levels.{IsGrade}
use Rattle.trust_types.specs.Tables.{Table}
use Rattle.trust_types.specs.NameLists.{AreApart}
use Rattle.trust_types.specs.Certs.{IsMadeOf}
use Rattle.trust_types.specs.Layout.{Rows, AreRows, degree, taker, level_given, row_certificates, accounts as accounts_in}
use Rattle.frozen.specs.Parts.{Part, no_part, count, taker_in, level_in, among, IsPart}
use Rattle.frozen.specs.Sites.{part_at, part_of, names, accounts, is_seed, standing, degree as degree_of, taker as taker_of, AreParts}
use Rattle.frozen.specs.Revision.{Revision, revision_of, Freezes}
use Rattle.frozen.specs.inner.Copies.{IsCopy, AreCopies}
use Rattle.frozen.proofs.Among.{among-same}
use Rattle.frozen.proofs.Shifts.{standing_past}
use Rattle.frozen.proofs.Numbering.{AreFull, names_push, certs_push, row_within, row_outside, part_within}
use Rattle.frozen.proofs.Readers.{no_part_is}
use Rattle.frozen.proofs.Copying.{row_among}

-- none yet
pub no_copies : (r : Rows) (named : List (List ℕ)) → AreRows r → AreCopies r named 0 []
no_copies r named are = record {
  copies = λ k lt. absurd (omega arith);
  full = λ k lt. absurd (omega arith);
  names = refl;
  certs = sym are.begins;
}

-- one part more
pub one_copy_more : (r : Rows) (named : List (List ℕ)) (first end : ℕ) (ps : List Part) (p : Part) → AreCopies r named first ps → first ≡ 64 * length ps → first ≤ end
    → IsCopy r named first end p → ((k : ℕ) → k < length ps → count (part_at ps k) ≡ 64) → AreCopies r named end (ps ++ p ∷ [])
one_copy_more r named first end ps p are at le copy all =
    let long : length (ps ++ p ∷ []) ≡ length ps + 1 = length_push ps p in
    let there : (k : ℕ) → k < length ps → part_at (ps ++ p ∷ []) k ≡ part_at ps k = λ k lt. get_or_append_left ps (p ∷ []) no_part k lt in
    let here : (k : ℕ) → k ≡ length ps → part_at (ps ++ p ∷ []) k ≡ p = λ k is. get_or_push ps p no_part k (sym is) in
    let e : first + (end - first) ≡ end = omega arith in
    record {
      copies = λ k lt. elim (cases_lt k (length ps)) [
        | inl inside ↦ subst (λ (q : Part). IsCopy r named (64 * k) (64 * k + count q) q) (sym (there k inside)) (are.copies k inside)
        | inr past ↦
            let is : k ≡ length ps = omega (arith, long) in
            let f : first ≡ 64 * k = omega (arith, at, is) in
            let g : end ≡ 64 * k + count p = omega (arith, f, copy.size, le) in
            subst (λ (q : Part). IsCopy r named (64 * k) (64 * k + count q) q) (sym (here k is)) (subst (λ (n : ℕ). IsCopy r named (64 * k) n p) g (subst (λ (n : ℕ). IsCopy r named n end p) f copy))
      ];
      full = λ k lt. ap count (there k (omega (arith, long))) ∙ all k (omega (arith, long));
      names = names_push ps p ∙ ap (λ (ns : List (List ℕ)). ns ++ p.names) are.names ∙ ap (λ (ns : List (List ℕ)). take first named ++ ns) copy.names ∙ sym (take-add first (end - first) named) ∙ ap (λ (n : ℕ). take n named) e;
      certs = certs_push ps p ∙ omega (arith, are.certs, copy.certs);
    }

-- where the new part is full, all are
pub all_more : (ps : List Part) (p : Part) → ((k : ℕ) → k < length ps → count (part_at ps k) ≡ 64) → count p ≡ 64 → (k : ℕ) → k < length (ps ++ p ∷ []) → count (part_at (ps ++ p ∷ []) k) ≡ 64
all_more ps p all is k lt =
    elim (cases_lt k (length ps)) [
      | inl inside ↦ ap count (get_or_append_left ps (p ∷ []) no_part k inside) ∙ all k inside
      | inr past ↦ ap count (get_or_push ps p no_part k (omega (arith, length_push ps p))) ∙ is
    ]

-- What was frozen.
pub record Whole : Type 0 where
  pub r : Rows
  pub named : List (List ℕ)
  pub seeds : List ℕ
  pub list : List Cert
  pub ps : List Part
  pub are : AreRows r
  pub size : length named ≡ accounts_in r
  pub few : length named ≤ MOST_ACCOUNTS
  pub apart : AreApart named
  pub made : IsMadeOf (row_certificates r) (length named) seeds list
  pub outside : (a b : ℕ) → accounts_in r ≤ a → (row_certificates r).standing a b ≡ Observer
  pub copies : AreCopies r named (accounts_in r) ps

-- the same, by what is at hand where it is frozen
abbrev pub whole : (r : Rows) (named read : List (List ℕ)) (seeds : List ℕ) (list : List Cert) (ps : List Part) (n there : ℕ) → AreRows r → n ≡ length named → n ≤ MOST_ACCOUNTS
    → AreApart named → IsMadeOf (row_certificates r) n seeds list → there ≡ accounts_in r → ((a b : ℕ) → there ≤ a → (row_certificates r).standing a b ≡ Observer)
    → read ≡ named → AreCopies r read (accounts_in r) ps → Whole
whole r named read seeds list ps n there are long few apart made counted outside same copies =
    let all : IsMadeOf (row_certificates r) (length named) seeds list = subst (λ (k : ℕ). IsMadeOf (row_certificates r) k seeds list) long made in
    record {
      r = r;
      named = named;
      seeds = seeds;
      list = list;
      ps = ps;
      are = are;
      size = sym all.size;
      few = omega (arith, long, few);
      apart = apart;
      made = all;
      outside = λ a b past. outside a b (omega (arith, counted, past));
      copies = subst (λ (ns : List (List ℕ)). AreCopies r ns (accounts_in r) ps) same copies;
    }

names_are : (m : Whole) → names m.ps ≡ m.named
names_are m = m.copies.names ∙ take_all (accounts_in m.r) m.named (omega (arith, m.size))

size_is : (m : Whole) → accounts m.ps ≡ accounts_in m.r
size_is m = ap length (names_are m) ∙ m.size

full : (m : Whole) → AreFull m.ps
full m = record { full = m.copies.full; few = λ k lt. (m.copies.copies k lt).is.few }

any_part : (m : Whole) (k : ℕ) → IsPart (part_at m.ps k)
any_part m k =
    elim (cases_lt k (length m.ps)) [
      | inl inside ↦ (m.copies.copies k inside).is
      | inr past ↦ subst IsPart (sym (get_or_past m.ps k no_part past)) no_part_is
    ]

copy_of : (m : Whole) (a : ℕ) → a < accounts m.ps → IsCopy m.r m.named (64 * (a / 64)) (64 * (a / 64) + count (part_of m.ps a)) (part_of m.ps a)
copy_of m a below = m.copies.copies (a / 64) (part_within m.ps (full m) a below)

number : (a : ℕ) → 64 * (a / 64) + a % 64 ≡ a
number a = omega arith

-- an account's row among the copied ones
row_there : (m : Whole) (a : ℕ) → a < accounts m.ps → a % 64 < 64 * (a / 64) + count (part_of m.ps a) - 64 * (a / 64)
row_there m a below = omega (arith, row_within m.ps (full m) a below)

same_degree : (m : Whole) (a : ℕ) → a < accounts m.ps → degree_of m.ps a ≡ degree m.r a
same_degree m a below = (copy_of m a below).degrees (a % 64) (row_there m a below) ∙ ap (degree m.r) (number a)

same_taker : (m : Whole) (a i : ℕ) → a < accounts m.ps → i < degree m.r a → taker_of m.ps a i ≡ taker m.r a i
same_taker m a i below within =
    (copy_of m a below).takers (a % 64) i (row_there m a below) (subst (λ (x : ℕ). i < degree m.r x) (sym (number a)) within)
    ∙ ap (λ (x : ℕ). taker m.r x i) (number a)

same_level : (m : Whole) (a i : ℕ) → a < accounts m.ps → i < degree m.r a → level_in (part_of m.ps a) (a % 64) i ≡ level_given m.r a i
same_level m a i below within =
    (copy_of m a below).levels (a % 64) i (row_there m a below) (subst (λ (x : ℕ). i < degree m.r x) (sym (number a)) within)
    ∙ ap (λ (x : ℕ). level_given m.r x i) (number a)

same_standing : (m : Whole) (a b : ℕ) → standing m.ps a b ≡ (row_certificates m.r).standing a b
same_standing m a b =
    elim (cases_lt a (accounts m.ps)) [
      | inl below ↦
          ap (among (taker_in (part_of m.ps a) (a % 64)) (level_in (part_of m.ps a) (a % 64)) b) (same_degree m a below)
          ∙ among-same (taker m.r a) (taker_in (part_of m.ps a) (a % 64)) (level_given m.r a) (level_in (part_of m.ps a) (a % 64)) b (degree m.r a) (λ i lt. same_taker m a i below lt) (λ i lt. same_level m a i below lt)
          ∙ sym (row_among m.r a b (degree m.r a))
      | inr past ↦ standing_past (part_of m.ps a) (any_part m (a / 64)) (a % 64) b (row_outside m.ps (full m) a past) ∙ sym (m.outside a b (omega (arith, size_is m)))
    ]

same_seeds : (m : Whole) (a : ℕ) → is_seed m.ps a ≡ (row_certificates m.r).is_seed a
same_seeds m a =
    elim (cases_lt a (accounts m.ps)) [
      | inl below ↦ (copy_of m a below).seeds (a % 64) (row_there m a below) ∙ ap (row_certificates m.r).is_seed (number a)
      | inr past ↦
          get_or_past (part_of m.ps a).seeds (a % 64) false (omega (arith, row_outside m.ps (full m) a past, (any_part m (a / 64)).seeds))
          ∙ sym (get_or_past m.r.seeds a false (omega (arith, size_is m)))
    ]

pub whole_parts : (m : Whole) → AreParts m.ps
whole_parts m = record {
  parts = λ k lt. (m.copies.copies k lt).is;
  full = m.copies.full;
  giver = λ a below some. (copy_of m a below).giver (a % 64) (row_there m a below) ∙ number a;
  below = λ a i below within.
      let inside : i < degree m.r a = omega (arith, same_degree m a below) in
      omega (arith, same_taker m a i below inside, size_is m, m.are.below a i (omega (arith, size_is m)) inside);
  others = λ a i below within e.
      let inside : i < degree m.r a = omega (arith, same_degree m a below) in
      m.are.others a i (omega (arith, size_is m)) inside (sym (same_taker m a i below inside) ∙ e);
  few = omega (arith, ap length (names_are m), m.few);
  few_certs = omega (arith, m.copies.certs, m.are.ends, m.are.takers);
  apart = subst (λ (ns : List (List ℕ)). AreApart ns) (sym (names_are m)) m.apart;
}

pub whole_freezes : (m : Whole) (v : Revision) (number : ℕ) (caps : Table) → v ≡ revision_of number caps m.ps → Freezes v number caps m.named m.seeds m.list
whole_freezes m v number caps is = subst (λ (x : Revision). Freezes x number caps m.named m.seeds m.list) (sym is) (record {
  revision = refl;
  table = refl;
  named = names_are m;
  graph = record {
    size = size_is m ∙ sym m.size;
    seeded = λ a. subst (λ (b : Bool). IsTrue b ↔ Contains m.seeds a) (sym (same_seeds m a)) (m.made.seeded a);
    standing = λ c. subst (λ (l : Level). Contains m.list c ↔ (IsGrade c.level × (l ≡ c.level))) (sym (same_standing m c.from c.to)) (m.made.standing c);
  };
})

pub if_ok : {A E : Type 0} (P Q : A → Type 0) (r : Result A E) → ((x : A) → P x → Q x) → IfOk r P → IfOk r Q
if_ok P Q (Ok x) f h = f x h
if_ok P Q (Err e) f h = tt
