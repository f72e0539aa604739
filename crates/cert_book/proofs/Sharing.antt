-- The book, and how many blocks it has.
use Rattle.std.proofs.Common.{ℕ, ◌≡◌, ◌≤◌, ◌<◌, ◌+◌, ◌-◌, ◌*◌, inl, inr, arith, sym, ap, subst, ◌∙◌, List, length, All}
use Rattle.std.proofs.lemmas.Bool.{cases_eq}
use Rattle.std.proofs.lemmas.List.{length-map}
use Rattle.std.specs.declared.sync.Arc.{Arc}
use Rattle.frozen.specs.Parts.{Part, PartWithRoom, count}
use Rattle.frozen.specs.Sites.{AreParts, part_at, accounts, certs, parts_for, shared_part, shared_parts}
use Rattle.frozen.proofs.Numbering.{account_within}
use Rattle.frozen.proofs.Readers.{are_full}
use Rattle.cert_book.specs.declared.slots.Slot.{Slot}
use Rattle.cert_book.specs.inner.Slots.{slot_part, slot_parts, HasBlock}
use Rattle.cert_book.specs.inner.Blocks.{AreSlots}

rounded : (n accounts : ℕ) → 64 * n + 0 < accounts → n + 1 ≤ parts_for accounts
rounded n accounts lt = omega arith

-- No block is without accounts, so there are as few as can be.
pub blocks_le : (slots : List Slot) (a c : ℕ) → AreSlots slots a c → length slots ≤ parts_for (accounts (slot_parts slots))
blocks_le slots a c is =
    elim (cases_eq (length slots) 0) [
      | inl none ↦ omega (arith, none)
      | inr some ↦
          let last : ℕ = length slots - 1 in
          let inside : last < length (slot_parts slots) = omega (arith, some, length-map slots slot_part) in
          omega (arith, some, rounded last (accounts (slot_parts slots)) (account_within (slot_parts slots) (are_full (slot_parts slots) is.parts) last 0 inside (is.used last (omega (arith, some)))))
    ]

-- Other slots with the same parts are as good.
pub slots_same : (slots others written : List Slot) (a c : ℕ) → AreSlots slots a c → slot_parts others ≡ slot_parts slots → All HasBlock others → written ≡ others → AreSlots written a c
slots_same slots others written a c is same held e =
    let long : length others ≡ length slots = sym (length-map others slot_part) ∙ ap length same ∙ length-map slots slot_part in
    let made : AreSlots others a c = record {
      parts = subst (λ (ps : List Part). AreParts ps) (sym same) is.parts;
      held = held;
      used = λ k lt. subst (λ (ps : List Part). 0 < count (part_at ps k)) (sym same) (is.used k (omega (arith, long)));
      counts_accounts = is.counts_accounts ∙ ap accounts (sym same);
      counts_certs = is.counts_certs ∙ ap certs (sym same);
    } in
    subst (λ (s : List Slot). AreSlots s a c) (sym e) made

pub shared_long : {Z : Type 0} (blocks : List (Arc PartWithRoom Z)) (slots : List Slot) → shared_parts blocks ≡ slot_parts slots → length blocks ≡ length slots
shared_long blocks slots same = sym (length-map blocks shared_part) ∙ ap length same ∙ length-map slots slot_part
