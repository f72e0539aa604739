-- What the book keeps beside its blocks, once a change was added.
use Rattle.std.proofs.Common.{ℕ, zero, suc, Bool, true, false, ◌&&◌, ◌==◌, if◌then◌else◌, ◌≡◌, ◌≢◌, ◌≤◌, ◌<◌, ◌+◌, inl, inr, refl, arith, sym, ap, subst, ◌∙◌, ◌/◌, List, [], ◌∷◌, ◌++◌, length, All, Option, Some, None, IsSome, IfSome}
use Rattle.std.proofs.lemmas.Bool.{cases_eq}
use Rattle.std.proofs.lemmas.Bool.Decides.{nat_tests}
use Rattle.std.proofs.lemmas.List.{length_push, append-nil}
use Rattle.std.proofs.lemmas.List.Elements.{All-push}
use Rattle.trust_types.specs.declared.levels.Level.{Level}
use Rattle.trust_types.specs.declared.levels.Level.TheVariants.{Observer}
use Rattle.trust_types.specs.Levels.{is_grade}
use Rattle.trust_types.specs.Names.{IsName}
use Rattle.trust_types.specs.Changes.{Joined, Seeded, Unseeded, Certified}
use Rattle.trust_types.proofs.Sums.{sum_below-eq}
use Rattle.name_index.specs.Numbers.{Numbers, AreNumbersOf}
use Rattle.frozen.specs.Parts.{Part}
use Rattle.frozen.specs.Sites.{names, accounts, is_seed, standing, AreParts}
use Rattle.frozen.proofs.Numbering.{part_within}
use Rattle.frozen.proofs.Readers.{are_full, outside, no_seeds}
use Rattle.cert_book.specs.inner.Blocks.{IsAfter}
use Rattle.cert_book.specs.inner.Takings.{Takings, givers_of, has}
use Rattle.cert_book.specs.inner.Keeping.{AreKept, seeds_before, written}
use Rattle.cert_book.proofs.Seeding.{one, seeds_added, seeds_removed}

-- Without accounts.
no_parts : AreParts []
no_parts = record {
  parts = λ k lt. absurd (omega arith);
  full = λ k lt. absurd (omega arith);
  giver = λ a lt some. absurd (omega arith);
  below = λ a i lt within. absurd (omega arith);
  others = λ a i lt within. absurd (omega arith);
  few = omega arith;
  few_certs = omega arith;
  apart = λ i j d before lt. absurd (omega arith);
}

pub no_standing : (a b : ℕ) → standing [] a b ≡ Observer
no_standing a b = outside [] no_parts a b (omega arith)

pub no_seed : (a : ℕ) → is_seed [] a ≡ false
no_seed a = no_seeds [] no_parts a (omega arith)

pub kept_new : (index : Numbers) (takings : Takings) → AreNumbersOf [] index.entries → takings.lists ≡ [] → AreKept [] index takings 0
kept_new index takings are none = record {
  named = λ k d lt. absurd (omega arith);
  numbers = are;
  lists = ap length none;
  givers = λ a b. ap (λ lists. has (givers_of (record { lists = lists; room = 0 }) b) a) none ∙ sym (ap is_grade (no_standing a b));
  seeds = refl;
}

-- One account more.
pub kept_join : (ps qs : List Part) (index next : Numbers) (takings given : Takings) (seeds : ℕ) (name : List ℕ) → AreParts ps → IsAfter (Joined name) ps qs → AreKept ps index takings seeds → IsName name
    → AreNumbersOf (names ps ++ name ∷ []) next.entries → length given.lists ≡ length takings.lists + 1 → ((b : ℕ) → givers_of given b ≡ givers_of takings b) → AreKept qs next given seeds
kept_join ps qs index next takings given seeds name are after kept is numbers long same =
    let n : accounts qs ≡ suc (accounts ps) = ap length after.names ∙ length_push (names ps) name ∙ omega arith in
    let front : seeds_before (is_seed qs) (accounts ps) ≡ seeds_before (is_seed ps) (accounts ps) =
    sum_below-eq (accounts ps) (λ a. one (is_seed qs a)) (λ a. one (is_seed ps a)) (λ a lt. ap one (after.seeds a)) in
    let last : one (is_seed qs (accounts ps)) ≡ 0 = ap one (after.seeds (accounts ps) ∙ no_seeds ps are (accounts ps) (omega arith)) in
    let whole : seeds_before (is_seed qs) (accounts qs) ≡ seeds_before (is_seed qs) (suc (accounts ps)) = ap (seeds_before (is_seed qs)) n in
    record {
      named = subst (All IsName) (sym after.names) (All-push IsName (names ps) name kept.named is);
      numbers = subst (λ (ns : List (List ℕ)). AreNumbersOf ns next.entries) (sym after.names) numbers;
      lists = omega (arith, long, kept.lists, n);
      givers = λ a b. ap (λ xs. has xs a) (same b) ∙ kept.givers a b ∙ ap is_grade (sym (after.standing a b));
      seeds = omega (arith, kept.seeds, front, last, whole);
    }

-- A seed more, or one less.
pub kept_seed : (ps qs : List Part) (index : Numbers) (takings : Takings) (seeds x : ℕ) → IsAfter (Seeded x) ps qs → AreKept ps index takings seeds → x < accounts ps → is_seed ps x ≡ false
    → AreKept qs index takings (seeds + 1)
kept_seed ps qs index takings seeds x after kept below none =
    let named : names qs ≡ names ps = after.names ∙ append-nil (names ps) in
    record {
      named = subst (All IsName) (sym named) kept.named;
      numbers = subst (λ (ns : List (List ℕ)). AreNumbersOf ns index.entries) (sym named) kept.numbers;
      lists = kept.lists ∙ ap length (sym named);
      givers = λ a b. kept.givers a b ∙ ap is_grade (sym (after.standing a b));
      seeds = omega (arith, kept.seeds, seeds_added (is_seed ps) (is_seed qs) x (accounts ps) after.seeds none below, ap (λ (ns : List (List ℕ)). seeds_before (is_seed qs) (length ns)) named);
    }

pub kept_unseed : (ps qs : List Part) (index : Numbers) (takings : Takings) (seeds less x : ℕ) → IsAfter (Unseeded x) ps qs → AreKept ps index takings seeds → x < accounts ps → is_seed ps x ≡ true
    → less + 1 ≡ seeds → AreKept qs index takings less
kept_unseed ps qs index takings seeds less x after kept below is one =
    let named : names qs ≡ names ps = after.names ∙ append-nil (names ps) in
    record {
      named = subst (All IsName) (sym named) kept.named;
      numbers = subst (λ (ns : List (List ℕ)). AreNumbersOf ns index.entries) (sym named) kept.numbers;
      lists = kept.lists ∙ ap length (sym named);
      givers = λ a b. kept.givers a b ∙ ap is_grade (sym (after.standing a b));
      seeds = omega (arith, one, kept.seeds, seeds_removed (is_seed ps) (is_seed qs) x (accounts ps) after.seeds is below, ap (λ (ns : List (List ℕ)). seeds_before (is_seed qs) (length ns)) named);
    }

-- Some are seeds where one is.
pub some_seeds : (ps : List Part) (index : Numbers) (takings : Takings) (seeds x : ℕ) → AreKept ps index takings seeds → x < accounts ps → is_seed ps x ≡ true → 0 < seeds
some_seeds ps index takings seeds x kept below is =
    let less : seeds_before (λ a. if a == x then false else is_seed ps a) (accounts ps) + 1 ≡ seeds_before (is_seed ps) (accounts ps) =
    seeds_removed (is_seed ps) (λ a. if a == x then false else is_seed ps a) x (accounts ps) (λ a. refl) is below in
    omega (arith, less, kept.seeds)

seeds_within : (seed : ℕ → Bool) (n : ℕ) → seeds_before seed n ≤ n
seeds_within seed zero = omega arith
seeds_within seed (suc n) = within (seed n) (seeds_before seed n) n (seeds_within seed n)
  where
    within : (s : Bool) (count m : ℕ) → count ≤ m → count + (if s then 1 else 0) ≤ suc m
    within true count m le = omega arith
    within false count m le = omega arith

-- No more are seeds than there are accounts.
pub few_seeds : (ps : List Part) (index : Numbers) (takings : Takings) (seeds : ℕ) → AreKept ps index takings seeds → seeds ≤ accounts ps
few_seeds ps index takings seeds kept = omega (arith, kept.seeds, seeds_within (is_seed ps) (accounts ps))

graded_there : (a b x y : ℕ) (l s : Level) → a ≡ x → b ≡ y → is_grade (if (a == x) && (b == y) then l else s) ≡ is_grade l
graded_there a b x y l s e h = ap is_grade (there a b x y l s e h)
  where
    there : (a b x y : ℕ) (l s : Level) → a ≡ x → b ≡ y → (if (a == x) && (b == y) then l else s) ≡ l
    there a b x y l s e h = grind (arith, nat_tests)

graded_giver : (a b x y : ℕ) (l s : Level) → a ≢ x → is_grade (if (a == x) && (b == y) then l else s) ≡ is_grade s
graded_giver a b x y l s apart = ap is_grade (elsewhere a b x y l s apart)
  where
    elsewhere : (a b x y : ℕ) (l s : Level) → a ≢ x → (if (a == x) && (b == y) then l else s) ≡ s
    elsewhere a b x y l s apart = grind (arith, nat_tests)

graded_taker : (a b x y : ℕ) (l s : Level) → b ≢ y → is_grade (if (a == x) && (b == y) then l else s) ≡ is_grade s
graded_taker a b x y l s apart = ap is_grade (elsewhere a b x y l s apart)
  where
    elsewhere : (a b x y : ℕ) (l s : Level) → b ≢ y → (if (a == x) && (b == y) then l else s) ≡ s
    elsewhere a b x y l s apart = grind (arith, nat_tests)

set_here : (a x : ℕ) (s t : Bool) → a ≡ x → (if a == x then s else t) ≡ s
set_here a x s t is = grind (arith, nat_tests)

set_other : (a x : ℕ) (s t : Bool) → a ≢ x → (if a == x then s else t) ≡ t
set_other a x s t apart = grind (arith, nat_tests)

-- A certificate.
pub kept_cert : (ps qs : List Part) (index : Numbers) (takings given : Takings) (seeds x y : ℕ) (l : Level) (gives : Bool)
    → IsAfter (Certified (record { from = x; to = y; level = l })) ps qs → AreKept ps index takings seeds → gives ≡ is_grade l → length given.lists ≡ length takings.lists
    → ((a : ℕ) → has (givers_of given y) a ≡ (if a == x then gives else has (givers_of takings y) a)) → ((b : ℕ) → b ≢ y → givers_of given b ≡ givers_of takings b) → AreKept qs index given seeds
kept_cert ps qs index takings given seeds x y l gives after kept is long there others =
    let named : names qs ≡ names ps = after.names ∙ append-nil (names ps) in
    record {
      named = subst (All IsName) (sym named) kept.named;
      numbers = subst (λ (ns : List (List ℕ)). AreNumbersOf ns index.entries) (sym named) kept.numbers;
      lists = long ∙ kept.lists ∙ ap length (sym named);
      givers = λ a b. elim (cases_eq b y) [
        | inr apart ↦ ap (λ xs. has xs a) (others b apart) ∙ kept.givers a b ∙ sym (ap is_grade (after.standing a b) ∙ graded_taker a b x y l (standing ps a b) apart)
        | inl same ↦ ap (λ (k : ℕ). has (givers_of given k) a) same ∙ there a ∙ (elim (cases_eq a x) [
          | inl giver ↦ set_here a x gives (has (givers_of takings y) a) giver ∙ is ∙ sym (ap is_grade (after.standing a b) ∙ graded_there a b x y l (standing ps a b) giver same)
          | inr far ↦
              set_other a x gives (has (givers_of takings y) a) far ∙ kept.givers a y ∙ ap (λ (k : ℕ). is_grade (standing ps a k)) (sym same)
              ∙ sym (ap is_grade (after.standing a b) ∙ graded_giver a b x y l (standing ps a b) far)
        ])
      ];
      seeds = kept.seeds ∙ sym (ap (λ (ns : List (List ℕ)). seeds_before (is_seed qs) (length ns)) named
          ∙ sum_below-eq (accounts ps) (λ a. one (is_seed qs a)) (λ a. one (is_seed ps a)) (λ a lt. ap one (after.seeds a)));
    }

-- Room was made, whatever becomes of it.
pub kept_reserved : (ps qs : List Part) (index next : Numbers) (takings given : Takings) (seeds : ℕ) → qs ≡ ps → AreKept ps index takings seeds
    → ((ns : List (List ℕ)) → AreNumbersOf ns index.entries → AreNumbersOf ns next.entries) → length given.lists ≡ length takings.lists → ((b : ℕ) → givers_of given b ≡ givers_of takings b) → AreKept qs next given seeds
kept_reserved ps qs index next takings given seeds parts kept numbers long same =
    let here : AreKept ps next given seeds = record {
      named = kept.named;
      numbers = numbers (names ps) kept.numbers;
      lists = long ∙ kept.lists;
      givers = λ a b. ap (λ xs. has xs a) (same b) ∙ kept.givers a b;
      seeds = kept.seeds;
    } in
    subst (λ (x : List Part). AreKept x next given seeds) (sym parts) here

-- the account whose block is written, where an account is touched
written_below : (n : ℕ) (author subject : Option ℕ) → IsSome subject → IfSome author (λ a. a < n) → IfSome subject (λ b. b < n) → written n author subject < n
written_below n (Some a) subject some is about = is
written_below n None (Some b) some is about = about
written_below n None None some is about = absurd (cc some)

pub written_inside : (ps : List Part) (author subject : Option ℕ) (account : ℕ) → AreParts ps → IsSome subject → IfSome author (λ a. a < accounts ps) → IfSome subject (λ b. b < accounts ps) →
    account ≡ written (accounts ps) author subject → account / 64 < length ps
written_inside ps author subject account are some is about same =
    part_within ps (are_full ps are) account (subst (λ (n : ℕ). n < accounts ps) (sym same) (written_below (accounts ps) author subject some is about))
