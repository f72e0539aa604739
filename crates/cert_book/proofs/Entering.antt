-- One certificate is entered into the book.
use Rattle.std.proofs.Common.{ℕ, ◌≡◌, ◌≢◌, ◌≤◌, ◌<◌, ◌+◌, ◌/◌, arith, sym, ap, subst, ◌∙◌, List, length, get_or, set}
use Rattle.std.proofs.lemmas.List.{length-map, get_or-map, length-set}
use Rattle.std.proofs.lemmas.List.{get_or_default, append-nil}
use Rattle.trust_types.specs.declared.levels.Level.{Level}
use Rattle.trust_types.specs.declared.limits.TheConstants.{MOST_CERTS}
use Rattle.trust_types.specs.Changes.{Certified}
use Rattle.frozen.specs.Parts.{Part, no_part, count, degree_in, giver_in, IsPart}
use Rattle.frozen.specs.Writes.{graded, row_of, IsPut}
use Rattle.frozen.specs.Sites.{part_at, part_of, names, accounts, is_seed, standing, certs, AreParts}
use Rattle.frozen.proofs.Numbering.{row_within, part_within}
use Rattle.frozen.proofs.Readers.{are_full}
use Rattle.cert_book.specs.declared.slots.Slot.{Slot}
use Rattle.cert_book.specs.declared.slots.Slot.TheVariants.{Own, Shared, Moved}
use Rattle.cert_book.specs.inner.Slots.{slot_part, slot_parts, slot_at, HasBlock, IsOwn, IsReady}
use Rattle.cert_book.specs.inner.Blocks.{AreSlots, IsAfter}
use Rattle.cert_book.proofs.Lists.{map-set, all_set}
use Rattle.cert_book.proofs.Putting.{certs_set, Putting, put_names, put_seeds, put_standing, put_certs, put_parts, count_new}

pub slot_inside : (slots : List Slot) (a c x : ℕ) → AreSlots slots a c → x < accounts (slot_parts slots) → x / 64 < length slots
slot_inside slots a c x is below = omega (arith, length-map slots slot_part, part_within (slot_parts slots) (are_full (slot_parts slots) is.parts) x below)

-- the part of a slot that was read
pub slot_read : (slots : List Slot) (k : ℕ) (s : Slot) → k < length slots → s ≡ get_or slots k s → part_at (slot_parts slots) k ≡ slot_part s
slot_read slots k s lt is = get_or-map slot_part slots k s no_part lt ∙ ap slot_part (sym is)

pub has_block : (slots : List Slot) (a c k : ℕ) (s : Slot) → AreSlots slots a c → k < length slots → s ≡ get_or slots k s → HasBlock s
has_block slots a c k s is lt read = subst HasBlock (sym read) (is.held k s lt)

pub ready_read : (slots : List Slot) (k : ℕ) (s : Slot) → k < length slots → s ≡ get_or slots k s → IsReady (slot_at slots k) → IsReady s
ready_read slots k s lt read ready = subst IsReady (get_or_default slots k Moved s lt ∙ sym read) ready

-- a block that can be written is the book's own
pub own_if_ready : (s : Slot) → IsReady s → IsOwn s
own_if_ready (Own block) ready = tt
own_if_ready (Shared block) ready = ready
own_if_ready Moved ready = ready

-- The premises, as the code has them.
pub record Entry : Type 0 where
  pub slots : List Slot
  pub account_count : ℕ
  pub cert_count : ℕ
  pub after : ℕ
  pub old : Slot
  pub slot : Slot
  pub author : ℕ
  pub subject : ℕ
  pub level : Level
  pub is : AreSlots slots account_count cert_count
  pub giver : author < accounts (slot_parts slots)
  pub taker : subject < accounts (slot_parts slots)
  pub others : author ≢ subject
  pub fits : certs (slot_parts slots) + graded level ≤ MOST_CERTS + graded (standing (slot_parts slots) author subject)
  pub read : old ≡ get_or slots (author / 64) old
  pub put : IsPut (slot_part old) (slot_part slot) (record { from = author; to = subject; level = level })
  pub part : IsPart (slot_part slot)
  pub held : HasBlock slot

abbrev pub entered : Entry → List Slot
entered m = set m.slots (m.author / 64) m.slot

read_part : (m : Entry) → part_of (slot_parts m.slots) m.author ≡ slot_part m.old
read_part m = slot_read m.slots (m.author / 64) m.old (slot_inside m.slots m.account_count m.cert_count m.author m.is m.giver) m.read

abbrev putting : Entry → Putting
putting m = record {
  ps = slot_parts m.slots;
  part = slot_part m.slot;
  cert = record { from = m.author; to = m.subject; level = m.level };
  are = m.is.parts;
  giver = m.giver;
  taker = m.taker;
  others = m.others;
  put = subst (λ (p : Part). IsPut p (slot_part m.slot) (record { from = m.author; to = m.subject; level = m.level })) (sym (read_part m)) m.put;
  is = m.part;
  fits = m.fits;
}

parts_are : (m : Entry) → slot_parts (entered m) ≡ set (slot_parts m.slots) (m.author / 64) (slot_part m.slot)
parts_are m = map-set slot_part m.slots (m.author / 64) m.slot

-- a grade that stands is counted
pub entry_counts : (m : Entry) → graded (standing (slot_parts m.slots) m.author m.subject) ≤ m.cert_count + graded m.level
entry_counts m = omega (arith, m.is.counts_certs, put_certs (putting m))

pub entry_book : (m : Entry) → m.after + graded (standing (slot_parts m.slots) m.author m.subject) ≡ m.cert_count + graded m.level → AreSlots (entered m) m.account_count m.after
entry_book m counts =
    let e : slot_parts (entered m) ≡ set (slot_parts m.slots) (m.author / 64) (slot_part m.slot) = parts_are m in
    record {
      parts = subst AreParts (sym e) (put_parts (putting m));
      held = all_set HasBlock m.slots (m.author / 64) m.slot m.is.held m.held;
      used = λ k lt. subst (λ (ps : List Part). 0 < count (part_at ps k)) (sym e) (omega (arith, count_new (putting m) k, m.is.used k (omega (arith, length-set m.slots (m.author / 64) m.slot))));
      counts_accounts = m.is.counts_accounts ∙ sym (ap accounts e ∙ ap length (put_names (putting m)));
      counts_certs = omega (arith, counts, m.is.counts_certs, put_certs (putting m), ap certs e);
    }

pub entry_after : (m : Entry) → IsAfter (Certified (record { from = m.author; to = m.subject; level = m.level })) (slot_parts m.slots) (slot_parts (entered m))
entry_after m =
    let e : slot_parts (entered m) ≡ set (slot_parts m.slots) (m.author / 64) (slot_part m.slot) = parts_are m in
    record {
      names = ap names e ∙ put_names (putting m) ∙ sym (append-nil (names (slot_parts m.slots)));
      seeds = λ x. ap (λ (ps : List Part). is_seed ps x) e ∙ put_seeds (putting m) x;
      standing = λ x b. ap (λ (ps : List Part). standing ps x b) e ∙ put_standing (putting m) x b;
      certs = omega (arith, ap certs e, put_certs (putting m));
    }

-- what a part asks of a certificate that is put
pub row_here : (slots : List Slot) (a c x : ℕ) (s : Slot) → AreSlots slots a c → x < accounts (slot_parts slots) → s ≡ get_or slots (x / 64) s → row_of x < count (slot_part s)
row_here slots a c x s is below read =
    subst (λ (p : Part). row_of x < count p) (slot_read slots (x / 64) s (slot_inside slots a c x is below) read) (row_within (slot_parts slots) (are_full (slot_parts slots) is.parts) x below)

pub own_here : (slots : List Slot) (a c x : ℕ) (s : Slot) → AreSlots slots a c → x < accounts (slot_parts slots) → s ≡ get_or slots (x / 64) s → 0 < degree_in (slot_part s) (row_of x) → giver_in (slot_part s) (row_of x) ≡ x
own_here slots a c x s is below read =
    subst (λ (p : Part). 0 < degree_in p (row_of x) → giver_in p (row_of x) ≡ x) (slot_read slots (x / 64) s (slot_inside slots a c x is below) read) (is.parts.giver x below)

part_le : (ps : List Part) (k : ℕ) → k < length ps → length (part_at ps k).takers ≤ certs ps
part_le ps k lt = omega (arith, certs_set ps k no_part lt)

-- What the copy of one block takes.
pub copy_le : (slots : List Slot) (a c k : ℕ) (s : Slot) → AreSlots slots a c → k < length slots → s ≡ get_or slots k s → 1 + count (slot_part s) + length (slot_part s).takers ≤ 65 + certs (slot_parts slots)
copy_le slots a c k s is lt read =
    let inside : k < length (slot_parts slots) = omega (arith, lt, length-map slots slot_part) in
    let few : count (slot_part s) ≤ 64 = subst (λ (p : Part). count p ≤ 64) (slot_read slots k s lt read) (is.parts.parts k inside).few in
    let taken : length (slot_part s).takers ≤ certs (slot_parts slots) = subst (λ (p : Part). length p.takers ≤ certs (slot_parts slots)) (slot_read slots k s lt read) (part_le (slot_parts slots) k inside) in
    omega (arith, few, taken)
