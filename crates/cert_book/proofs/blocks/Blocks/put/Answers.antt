use Rattle.std.proofs.Common.{◌≡◌, arith, rules, length}
use Rattle.std.specs.Vec.{vec_len}
use Rattle.cert_book.proofs.Entering.{Entry, entry_counts, entry_book, entry_after, slot_inside, row_here, own_here, ready_read}
use Rattle.cert_book.proofs.blocks.Blocks.put.Goals as goal

pub index_mut-requires : goal.index_mut-requires
index_mut-requires g c =
    let below = rw (← c.self.view_is, ← c.author.view_is) at c.requires.giver in
    let n : length c.self.inside.slots.items ≡ vec_len c.self.inside.slots = search rules in
    omega (arith, n, slot_inside _ _ _ _ c.self.invariant.0 below)

pub put_slot-requires-clause-ready : goal.put_slot-requires-clause-ready
put_slot-requires-clause-ready g c =
    let below = rw (← c.self.view_is) at c.requires.giver in
    let room = rw (← c.self.view_is) at c.requires.ready in
    let ready = rw room at c.self.invariant.1 in
    ready_read _ _ _ (slot_inside _ _ _ _ c.self.invariant.0 below) (rw c.author.view_is at c.index_mut.ensures.value) (ready.0 (slot_inside _ _ _ _ c.self.invariant.0 below))

pub put_slot-requires-clause-row : goal.put_slot-requires-clause-row
put_slot-requires-clause-row g c =
    let below = rw (← c.self.view_is) at c.requires.giver in
    row_here _ _ _ _ _ c.self.invariant.0 below (rw c.author.view_is at c.index_mut.ensures.value)

pub put_slot-requires-clause-own : goal.put_slot-requires-clause-own
put_slot-requires-clause-own g c =
    let below = rw (← c.self.view_is) at c.requires.giver in
    own_here _ _ _ _ _ c.self.invariant.0 below (rw c.author.view_is at c.index_mut.ensures.value)

pub counted-self-inside-requires-clause-some : goal.counted-self-inside-requires-clause-some
counted-self-inside-requires-clause-some g c =
    let entry : Entry = record {
      slots = c.self.inside.slots.items;
      account_count = c.self.inside.account_count;
      cert_count = c.self.inside.cert_count;
      after = 0;
      old = c.index_mut.result.now;
      slot = c.put_slot.new.slot;
      author = c.args.author;
      subject = c.args.subject;
      level = c.args.level;
      is = c.self.invariant.0;
      giver = rw (← c.self.view_is) at c.requires.giver;
      taker = rw (← c.self.view_is) at c.requires.taker;
      others = c.requires.others;
      fits = rw (← c.self.view_is) at c.requires.fits;
      read = rw c.author.view_is at c.index_mut.ensures.value;
      put = c.put_slot.ensures.put;
      part = c.put_slot.ensures.part;
      held = c.put_slot.ensures.held;
    } in
    let before = rw (← c.self.view_is) at c.standing-before.ensures in
    rw before (entry_counts entry)

pub invariant_of-self : goal.invariant_of-self
invariant_of-self g c =
    let entry : Entry = record {
      slots = c.self.inside.slots.items;
      account_count = c.self.inside.account_count;
      cert_count = c.self.inside.cert_count;
      after = c.counted-self-inside.result;
      old = c.index_mut.result.now;
      slot = c.put_slot.new.slot;
      author = c.args.author;
      subject = c.args.subject;
      level = c.args.level;
      is = c.self.invariant.0;
      giver = rw (← c.self.view_is) at c.requires.giver;
      taker = rw (← c.self.view_is) at c.requires.taker;
      others = c.requires.others;
      fits = rw (← c.self.view_is) at c.requires.fits;
      read = rw c.author.view_is at c.index_mut.ensures.value;
      put = c.put_slot.ensures.put;
      part = c.put_slot.ensures.part;
      held = c.put_slot.ensures.held;
    } in
    let before = rw (← c.self.view_is) at c.standing-before.ensures in
    rw c.author.view_is (entry_book entry (rw before at c.counted-self-inside.ensures), tt)

pub returns-clause-put : goal.returns-clause-put
returns-clause-put g c =
    let entry : Entry = record {
      slots = c.self.inside.slots.items;
      account_count = c.self.inside.account_count;
      cert_count = c.self.inside.cert_count;
      after = c.counted-self-inside.result;
      old = c.index_mut.result.now;
      slot = c.put_slot.new.slot;
      author = c.args.author;
      subject = c.args.subject;
      level = c.args.level;
      is = c.self.invariant.0;
      giver = rw (← c.self.view_is) at c.requires.giver;
      taker = rw (← c.self.view_is) at c.requires.taker;
      others = c.requires.others;
      fits = rw (← c.self.view_is) at c.requires.fits;
      read = rw c.author.view_is at c.index_mut.ensures.value;
      put = c.put_slot.ensures.put;
      part = c.put_slot.ensures.part;
      held = c.put_slot.ensures.held;
    } in
    rw (← c.self.view_is, c.author.view_is) (entry_after entry)
