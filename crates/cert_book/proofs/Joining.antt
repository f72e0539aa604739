-- One account joins.
use Rattle.std.proofs.Common.{ℕ, zero, suc, Bool, false, ◌≡◌, ◌≢◌, ◌≤◌, ◌<◌, ◌+◌, ◌-◌, ◌*◌, ◌/◌, ◌%◌, ◌⊎◌, inl, inr, refl, arith, sym, ap, subst, ◌∙◌, List, [], ◌∷◌, ◌++◌, length, get_or, set, None, length-set}
use Rattle.std.proofs.lemmas.Bool.{cases_eq, cases_lt}
use Rattle.std.proofs.lemmas.List.{append-nil, append_assoc, get_or_past, get_or_append_left, get_or_push, length_push}
use Rattle.std.proofs.lemmas.List.Quantifiers.{all_pairs_push}
use Rattle.trust_types.specs.Levels.{IsGrade}
use Rattle.trust_types.specs.NameLists.{AreApart, number_of}
use Rattle.name_index.proofs.Indexing.{differs}
use Rattle.frozen.specs.Parts.{Part, no_part, count, marks_seed, giver_in, taker_in, level_in, standing_in, IsPart}
use Rattle.frozen.specs.Writes.{with_account}
use Rattle.frozen.specs.Sites.{part_at, part_of, names, accounts, is_seed, degree, taker, standing, certs, AreParts}
use Rattle.frozen.proofs.Among.{among-at, among-found}
use Rattle.frozen.proofs.Shifts.{degree_past}
use Rattle.frozen.proofs.Puts.{account_part, account_standing}
use Rattle.frozen.proofs.Numbering.{AreFull, row_within, row_outside, part_within, names_push, certs_push}
use Rattle.frozen.proofs.Readers.{part_is, are_full, no_part_is}
use Rattle.std.proofs.lemmas.List.{length-map, map-append}
use Rattle.cert_book.proofs.Lists.{map-set, all_set}
use Rattle.cert_book.proofs.Entering.{slot_read}
use Rattle.std.proofs.Common.{All}
use Rattle.frozen.specs.Sites.{parts_for}
use Rattle.cert_book.specs.declared.slots.Slot.{Slot}
use Rattle.cert_book.specs.inner.Slots.{slot_part, slot_parts, HasBlock}
use Rattle.cert_book.specs.inner.Blocks.{AreSlots, IsAfter}
use Rattle.trust_types.specs.Changes.{Joined}
use Rattle.trust_types.specs.declared.limits.TheConstants.{MOST_ACCOUNTS}
use Rattle.cert_book.proofs.Sharing.{blocks_le}
use Rattle.cert_book.proofs.Putting.{part_here, part_there, certs_set}

-- The parts with one account more: what is known of them, whether it begins a part or not.
pub record Arrival : Type 0 where
  pub ps : List Part
  pub qs : List Part
  pub name : List ℕ
  pub are : AreParts ps
  pub new : number_of (names ps) name ≡ None
  pub few : accounts ps < MOST_ACCOUNTS
  -- the part that it joins
  pub at : part_of qs (accounts ps) ≡ with_account (part_of ps (accounts ps)) name
  -- all others are as before
  pub there : (j : ℕ) → j ≢ accounts ps / 64 → part_at qs j ≡ part_at ps j
  pub names : names qs ≡ names ps ++ name ∷ []
  pub certs : certs qs ≡ certs ps
  pub long : (k : ℕ) → k < length qs → (k < length ps) ⊎ (k ≡ accounts ps / 64)
  pub full : (k : ℕ) → k + 1 < length qs → count (part_at qs k) ≡ 64

abbrev here : Arrival → Part
here m = part_of m.ps (accounts m.ps)

room_here : (m : Arrival) → count (here m) < 64
room_here m = omega (arith, row_outside m.ps (are_full m.ps m.are) (accounts m.ps) (omega arith))

is_here : (m : Arrival) → IsPart (here m)
is_here m = part_is m.ps m.are (accounts m.ps / 64)

seeds_push : (xs : List Bool) (r : ℕ) → get_or (xs ++ false ∷ []) r false ≡ get_or xs r false
seeds_push [] zero = refl
seeds_push [] (suc r) = refl
seeds_push (x ∷ xs) zero = refl
seeds_push (x ∷ xs) (suc r) = seeds_push xs r

-- a reader of parts that the new account changes nothing of
same_by : {X : Type 0} (f : Part → X) (m : Arrival) → f (with_account (here m) m.name) ≡ f (here m) → (j : ℕ) → f (part_at m.qs j) ≡ f (part_at m.ps j)
same_by f m same j =
    elim (cases_eq j (accounts m.ps / 64)) [
      | inl is ↦ ap (λ (n : ℕ). f (part_at m.qs n)) is ∙ ap f m.at ∙ same ∙ ap (λ (n : ℕ). f (part_at m.ps n)) (sym is)
      | inr apart ↦ ap f (m.there j apart)
    ]

pub join_seeds : (m : Arrival) → (x : ℕ) → is_seed m.qs x ≡ is_seed m.ps x
join_seeds m x = same_by (λ p. marks_seed p (x % 64)) m (seeds_push (here m).seeds (x % 64)) (x / 64)

pub join_standing : (m : Arrival) → (x b : ℕ) → standing m.qs x b ≡ standing m.ps x b
join_standing m x b = same_by (λ p. standing_in p (x % 64) b) m (account_standing (here m) m.name (is_here m) (room_here m) (x % 64) b) (x / 64)

part_new : (m : Arrival) (k : ℕ) → k < length m.qs → IsPart (part_at m.qs k)
part_new m k lt =
    elim (cases_eq k (accounts m.ps / 64)) [
      | inl same ↦ subst (λ (j : ℕ). IsPart (part_at m.qs j)) (sym same) (subst IsPart (sym m.at) (account_part (here m) m.name (is_here m) (room_here m)))
      | inr apart ↦ elim (m.long k lt) [
        | inl inside ↦ subst IsPart (sym (m.there k apart)) (m.are.parts k inside)
        | inr same ↦ absurd (apart same)
      ]
    ]

any_part : (m : Arrival) (k : ℕ) → IsPart (part_at m.qs k)
any_part m k =
    elim (cases_lt k (length m.qs)) [
      | inl inside ↦ part_new m k inside
      | inr past ↦ subst IsPart (sym (get_or_past m.qs k no_part past)) no_part_is
    ]

full_new : (m : Arrival) → AreFull m.qs
full_new m = record { full = m.full; few = λ k lt. (part_new m k lt).few }

-- a certificate of the new parts is one of the old
abbrev Was : (m : Arrival) (x i : ℕ) → Type 0
Was m x i = (j : ℕ) × (j < degree m.ps x) × (taker m.ps x j ≡ taker m.qs x i)

was : (m : Arrival) (x i : ℕ) → x < accounts m.qs → i < degree m.qs x → Was m x i
was m x i below within =
    let row : x % 64 < count (part_of m.qs x) = row_within m.qs (full_new m) x below in
    let is : IsPart (part_of m.qs x) = any_part m (x / 64) in
    let stands : standing m.qs x (taker m.qs x i) ≡ level_in (part_of m.qs x) (x % 64) i = among-at (taker_in (part_of m.qs x) (x % 64)) (level_in (part_of m.qs x) (x % 64)) i (degree m.qs x) (λ j q before lt. is.rises (x % 64) j q row before lt) within in
    let grade : IsGrade (standing m.ps x (taker m.qs x i)) = subst IsGrade (sym stands ∙ join_standing m x (taker m.qs x i)) (is.grade (x % 64) i row within) in
    among-found (taker_in (part_of m.ps x) (x % 64)) (level_in (part_of m.ps x) (x % 64)) (taker m.qs x i) (degree m.ps x) grade

-- an account that certified someone was one before
old_account : (m : Arrival) (x j : ℕ) → j < degree m.ps x → x < accounts m.ps
old_account m x j some =
    elim (cases_lt x (accounts m.ps)) [
      | inl below ↦ below
      | inr past ↦ absurd (omega (arith, degree_past (part_of m.ps x) (part_is m.ps m.are (x / 64)) (x % 64) (row_outside m.ps (are_full m.ps m.are) x past)))
    ]

giver_same : (m : Arrival) (x : ℕ) → x < accounts m.ps → giver_in (part_of m.qs x) (x % 64) ≡ giver_in (part_of m.ps x) (x % 64)
giver_same m x below =
    elim (cases_eq (x / 64) (accounts m.ps / 64)) [
      | inr apart ↦ ap (λ (p : Part). giver_in p (x % 64)) (m.there (x / 64) apart)
      | inl same ↦
          let row : x % 64 < count (part_of m.ps x) = row_within m.ps (are_full m.ps m.are) x below in
          let e : part_of m.ps x ≡ here m = ap (part_at m.ps) same in
          ap (λ (n : ℕ). giver_in (part_at m.qs n) (x % 64)) same
          ∙ ap (λ (p : Part). giver_in p (x % 64)) m.at
          ∙ get_or_append_left (here m).givers (0 ∷ []) 0 (x % 64) (omega (arith, row, ap count e, (is_here m).givers))
          ∙ ap (λ (p : Part). giver_in p (x % 64)) (sym e)
    ]

pub join_parts : (m : Arrival) → AreParts m.qs
join_parts m =
    let n : accounts m.qs ≡ accounts m.ps + 1 = ap length m.names ∙ length_push (names m.ps) m.name in
    record {
      parts = part_new m;
      full = m.full;
      giver = λ x lt some. let w = was m x 0 lt some in let below : x < accounts m.ps = old_account m x w.0 w.1 in giver_same m x below ∙ m.are.giver x below (omega (arith, w.1));
      below = λ x i lt within. let w = was m x i lt within in omega (arith, n, w.2, m.are.below x w.0 (old_account m x w.0 w.1) w.1);
      others = λ x i lt within e. let w = was m x i lt within in m.are.others x w.0 (old_account m x w.0 w.1) w.1 (w.2 ∙ e);
      few = omega (arith, n, m.few);
      few_certs = omega (arith, m.certs, m.are.few_certs);
      apart = subst (λ (ns : List (List ℕ)). AreApart ns) (sym m.names) (all_pairs_push (λ a b. a ≢ b) (names m.ps) m.name m.are.apart (differs (names m.ps) m.name m.new));
    }

pub names_last : (ps : List Part) (k : ℕ) (p : Part) (name : List ℕ) → k + 1 ≡ length ps → p.names ≡ (part_at ps k).names ++ name ∷ [] → names (set ps k p) ≡ names ps ++ name ∷ []
names_last [] k p name last is = absurd (omega (arith, last))
names_last (q ∷ []) zero p name last is = append-nil p.names ∙ is ∙ ap (λ (xs : List (List ℕ)). xs ++ name ∷ []) (sym (append-nil q.names))
names_last (q ∷ r ∷ ps) zero p name last is = absurd (omega (arith, last))
names_last (q ∷ ps) (suc k) p name last is = ap (λ (xs : List (List ℕ)). q.names ++ xs) (names_last ps k p name (omega (arith, last)) is) ∙ sym (append_assoc q.names (names ps) (name ∷ []))

pub part_count : (ps : List Part) (k j : ℕ) (p : Part) → k + 1 ≡ length ps → j + 1 < length ps → count (part_at (set ps k p) j) ≡ count (part_at ps j)
part_count ps k j p last lt = ap count (part_there ps k j p (λ e. omega (arith, e, last)))

-- where the accounts end with a part, each is full
pub all_full : (ps : List Part) → AreParts ps → length ps ≡ accounts ps / 64 → (j : ℕ) → j < length ps → count (part_at ps j) ≡ 64
all_full ps are end j lt =
    elim (cases_eq (j + 1) (length ps)) [
      | inr apart ↦ are.full j (omega (arith, apart))
      | inl same ↦
          let a : ℕ = 64 * j + 63 in
          let part : a / 64 ≡ j = omega arith in
          let row : a % 64 ≡ 63 = omega arith in
          let below : a < accounts ps = omega (arith, same, end) in
          let some : a % 64 < count (part_of ps a) = row_within ps (are_full ps are) a below in
          let e : count (part_of ps a) ≡ count (part_at ps j) = ap (λ (n : ℕ). count (part_at ps n)) part in
          omega (arith, some, row, e, (are.parts j lt).few)
    ]

-- it joins the last part
abbrev pub joined_last : (ps : List Part) (name : List ℕ) → AreParts ps → number_of (names ps) name ≡ None → accounts ps < MOST_ACCOUNTS → accounts ps / 64 + 1 ≡ length ps → Arrival
joined_last ps name are new few last =
    let k : ℕ = accounts ps / 64 in
    let p : Part = with_account (part_at ps k) name in
    let inside : k < length ps = omega (arith, last) in
    let long : length (set ps k p) ≡ length ps = length-set ps k p in
    record {
      ps = ps;
      qs = set ps k p;
      name = name;
      are = are;
      new = new;
      few = few;
      at = part_here ps k p inside;
      there = λ j apart. part_there ps k j p apart;
      names = names_last ps k p name last refl;
      certs = omega (arith, certs_set ps k p inside);
      long = λ j lt. inl (omega (arith, long));
      full = λ j lt. part_count ps k j p last (omega (arith, long)) ∙ are.full j (omega (arith, long));
    }

-- where all parts are full, it begins one
abbrev pub joined_next : (ps : List Part) (name : List ℕ) → AreParts ps → number_of (names ps) name ≡ None → accounts ps < MOST_ACCOUNTS → length ps ≡ accounts ps / 64 → Arrival
joined_next ps name are new few end =
    let p : Part = with_account no_part name in
    let long : length (ps ++ p ∷ []) ≡ length ps + 1 = length_push ps p in
    let none : part_of ps (accounts ps) ≡ no_part = get_or_past ps (accounts ps / 64) no_part (omega (arith, end)) in
    record {
      ps = ps;
      qs = ps ++ p ∷ [];
      name = name;
      are = are;
      new = new;
      few = few;
      at = get_or_push ps p no_part (accounts ps / 64) end ∙ ap (λ (q : Part). with_account q name) (sym none);
      there = λ j apart. elim (cases_lt j (length ps)) [
        | inl inside ↦ get_or_append_left ps (p ∷ []) no_part j inside
        | inr past ↦ get_or_past (ps ++ p ∷ []) j no_part (omega (arith, long, end, apart)) ∙ sym (get_or_past ps j no_part past)
      ];
      names = names_push ps p;
      certs = certs_push ps p ∙ omega arith;
      long = λ j lt. elim (cases_lt j (length ps)) [ inl inside ↦ inl inside | inr past ↦ inr (omega (arith, long, end)) ];
      full = λ j lt. ap count (get_or_append_left ps (p ∷ []) no_part j (omega (arith, long))) ∙ all_full ps are end j (omega (arith, long));
    }

-- What the code has, and what it needs.
pub last_part : (slots : List Slot) (a c : ℕ) → AreSlots slots a c → a / 64 < length slots → accounts (slot_parts slots) / 64 + 1 ≡ length (slot_parts slots)
last_part slots a c is inside =
    let n : length (slot_parts slots) ≡ length slots = length-map slots slot_part in
    let most : length slots ≤ parts_for (accounts (slot_parts slots)) = blocks_le slots a c is in
    omega (arith, n, most, is.counts_accounts)

abbrev pub last_joined : (slots : List Slot) (a c : ℕ) (name : List ℕ) → AreSlots slots a c → a / 64 < length slots → number_of (names (slot_parts slots)) name ≡ None → accounts (slot_parts slots) < MOST_ACCOUNTS → Arrival
last_joined slots a c name is inside new few = joined_last (slot_parts slots) name is.parts new few (last_part slots a c is inside)

pub end_part : (slots : List Slot) (a c : ℕ) → AreSlots slots a c → length slots ≤ a / 64 → length (slot_parts slots) ≡ accounts (slot_parts slots) / 64
end_part slots a c is past =
    let n : length (slot_parts slots) ≡ length slots = length-map slots slot_part in
    elim (cases_eq (accounts (slot_parts slots)) 0) [
      | inl none ↦ omega (arith, n, is.counts_accounts, none)
      | inr some ↦ omega (arith, n, is.counts_accounts, part_within (slot_parts slots) (are_full (slot_parts slots) is.parts) (accounts (slot_parts slots) - 1) (omega (arith, some)))
    ]

abbrev pub next_joined : (slots : List Slot) (a c : ℕ) (name : List ℕ) → AreSlots slots a c → length slots ≤ a / 64 → number_of (names (slot_parts slots)) name ≡ None → accounts (slot_parts slots) < MOST_ACCOUNTS → Arrival
next_joined slots a c name is past new few = joined_next (slot_parts slots) name is.parts new few (end_part slots a c is past)

pub joined_book : (m : Arrival) (slots others : List Slot) (a c : ℕ) → AreSlots slots a c → slot_parts slots ≡ m.ps → slot_parts others ≡ m.qs → All HasBlock others → ((k : ℕ) → k < length others → 0 < count (part_at m.qs k)) → AreSlots others (a + 1) c
joined_book m slots others a c is before after held used = record {
  parts = subst AreParts (sym after) (join_parts m);
  held = held;
  used = λ k lt. subst (λ (ps : List Part). 0 < count (part_at ps k)) (sym after) (used k lt);
  counts_accounts = omega (arith, is.counts_accounts, ap accounts before, ap accounts after, ap length m.names, length_push (names m.ps) m.name);
  counts_certs = is.counts_certs ∙ ap certs before ∙ sym m.certs ∙ sym (ap certs after);
}

pub joined_after : (m : Arrival) → IsAfter (Joined m.name) m.ps m.qs
joined_after m = record {
  names = m.names;
  seeds = join_seeds m;
  standing = join_standing m;
  certs = omega (arith, m.certs);
}

used_new : (m : Arrival) → ((k : ℕ) → k < length m.ps → 0 < count (part_at m.ps k)) → (k : ℕ) → k < length m.qs → 0 < count (part_at m.qs k)
used_new m used k lt =
    elim (cases_eq k (accounts m.ps / 64)) [
      | inl same ↦ omega (arith, ap (λ (j : ℕ). count (part_at m.qs j)) same, ap count m.at, length_push (here m).names m.name)
      | inr apart ↦ elim (m.long k lt) [
        | inl inside ↦ omega (arith, ap count (m.there k apart), used k inside)
        | inr same ↦ absurd (apart same)
      ]
    ]

used_slots : (m : Arrival) (slots others : List Slot) (a c : ℕ) → AreSlots slots a c → slot_parts slots ≡ m.ps → slot_parts others ≡ m.qs → (k : ℕ) → k < length others → 0 < count (part_at m.qs k)
used_slots m slots others a c is before after k lt =
    let old : (j : ℕ) → j < length m.ps → 0 < count (part_at m.ps j) = λ j inside. subst (λ (ps : List Part). 0 < count (part_at ps j)) before (is.used j (omega (arith, length-map slots slot_part, ap length before))) in
    used_new m old k (omega (arith, length-map others slot_part, ap length after))

last_after : (slots : List Slot) (a c : ℕ) (name : List ℕ) (s t : Slot) → AreSlots slots a c → a / 64 < length slots → s ≡ get_or slots (a / 64) s → slot_part t ≡ with_account (slot_part s) name
    → slot_parts (set slots (a / 64) t) ≡ set (slot_parts slots) (accounts (slot_parts slots) / 64) (with_account (part_at (slot_parts slots) (accounts (slot_parts slots) / 64)) name)
last_after slots a c name s t is lt read added =
    let ps : List Part = slot_parts slots in
    map-set slot_part slots (a / 64) t
    ∙ ap (set ps (a / 64)) (added ∙ ap (λ (p : Part). with_account p name) (sym (slot_read slots (a / 64) s lt read)))
    ∙ ap (λ (n : ℕ). set ps (n / 64) (with_account (part_at ps (n / 64)) name)) is.counts_accounts

pub last_book : (slots : List Slot) (a c : ℕ) (name : List ℕ) (s t : Slot) → AreSlots slots a c → a / 64 < length slots → number_of (names (slot_parts slots)) name ≡ None → accounts (slot_parts slots) < MOST_ACCOUNTS
    → s ≡ get_or slots (a / 64) s → slot_part t ≡ with_account (slot_part s) name → HasBlock t → AreSlots (set slots (a / 64) t) (a + 1) c
last_book slots a c name s t is lt new few read added held =
    let m : Arrival = last_joined slots a c name is lt new few in
    let after : slot_parts (set slots (a / 64) t) ≡ m.qs = last_after slots a c name s t is lt read added in
    joined_book m slots (set slots (a / 64) t) a c is refl after (all_set HasBlock slots (a / 64) t is.held held) (used_slots m slots (set slots (a / 64) t) a c is refl after)

pub last_joins : (slots : List Slot) (a c : ℕ) (name : List ℕ) (s t : Slot) → AreSlots slots a c → a / 64 < length slots → number_of (names (slot_parts slots)) name ≡ None → accounts (slot_parts slots) < MOST_ACCOUNTS
    → s ≡ get_or slots (a / 64) s → slot_part t ≡ with_account (slot_part s) name → IsAfter (Joined name) (slot_parts slots) (slot_parts (set slots (a / 64) t))
last_joins slots a c name s t is lt none few read added =
    subst (λ (qs : List Part). IsAfter (Joined name) (slot_parts slots) qs) (sym (last_after slots a c name s t is lt read added)) (joined_after (last_joined slots a c name is lt none few))

next_after : (slots : List Slot) (t : Slot) (name : List ℕ) → slot_part t ≡ with_account no_part name → slot_parts (slots ++ t ∷ []) ≡ slot_parts slots ++ with_account no_part name ∷ []
next_after slots t name added = map-append slot_part slots (t ∷ []) ∙ ap (λ (p : Part). slot_parts slots ++ p ∷ []) added

held_push : (slots : List Slot) (t : Slot) → All HasBlock slots → HasBlock t → All HasBlock (slots ++ t ∷ [])
held_push slots t all held = λ k d lt. elim (cases_lt k (length slots)) [
  | inl inside ↦ subst HasBlock (sym (get_or_append_left slots (t ∷ []) d k inside)) (all k d inside)
  | inr past ↦ subst HasBlock (sym (get_or_push slots t d k (omega (arith, length_push slots t)))) held
]

pub next_book : (slots written : List Slot) (a c : ℕ) (name : List ℕ) (t : Slot) → AreSlots slots a c → length slots ≤ a / 64 → number_of (names (slot_parts slots)) name ≡ None → accounts (slot_parts slots) < MOST_ACCOUNTS
    → written ≡ slots ++ t ∷ [] → slot_part t ≡ with_account no_part name → HasBlock t → AreSlots written (a + 1) c
next_book slots written a c name t is past new few pushed added held =
    let m : Arrival = next_joined slots a c name is past new few in
    let after : slot_parts (slots ++ t ∷ []) ≡ m.qs = next_after slots t name added in
    subst (λ (s : List Slot). AreSlots s (a + 1) c) (sym pushed) (joined_book m slots (slots ++ t ∷ []) a c is refl after (held_push slots t is.held held) (used_slots m slots (slots ++ t ∷ []) a c is refl after))

pub next_joins : (slots written : List Slot) (a c : ℕ) (name : List ℕ) (t : Slot) → AreSlots slots a c → length slots ≤ a / 64 → number_of (names (slot_parts slots)) name ≡ None → accounts (slot_parts slots) < MOST_ACCOUNTS
    → written ≡ slots ++ t ∷ [] → slot_part t ≡ with_account no_part name → IsAfter (Joined name) (slot_parts slots) (slot_parts written)
next_joins slots written a c name t is past none few pushed added =
    subst (λ (qs : List Part). IsAfter (Joined name) (slot_parts slots) qs) (sym (ap slot_parts pushed ∙ next_after slots t name added)) (joined_after (next_joined slots a c name is past none few))

-- there is a spare block where one is begun
pub count_last : (slots : List Slot) (a c : ℕ) (s : Slot) → AreSlots slots a c → a / 64 < length slots → s ≡ get_or slots (a / 64) s → count (slot_part s) < 64
count_last slots a c s is lt read =
    let e : part_of (slot_parts slots) (accounts (slot_parts slots)) ≡ slot_part s = ap (λ (n : ℕ). part_of (slot_parts slots) n) (sym is.counts_accounts) ∙ slot_read slots (a / 64) s lt read in
    omega (arith, ap count e, row_outside (slot_parts slots) (are_full (slot_parts slots) is.parts) (accounts (slot_parts slots)) (omega arith))

pub end_slot : (slots : List Slot) (a c : ℕ) → AreSlots slots a c → length slots ≤ a / 64 → a / 64 ≡ length slots
end_slot slots a c is past = omega (arith, end_part slots a c is past, length-map slots slot_part, is.counts_accounts)
