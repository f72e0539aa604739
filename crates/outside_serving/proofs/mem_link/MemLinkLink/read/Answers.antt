use Rattle.std.proofs.Common.{rules, ◌≡◌, ◌≤◌, ◌+◌, ◌-◌, ◌==◌, if◌then◌else◌, length, take, arith, ap, sym, ◌∙◌, Some, drop, length-drop, take_all}
use Rattle.std.proofs.lemmas.List.{drop-drop}
use Rattle.outside.specs.Calls.{with_served}
use Rattle.outside.specs.Causes.{one_more}
use Rattle.outside.proofs.Copies.{take-copied}
use Rattle.outside_serving.specs.Memory.{Peer, after_read}
use Rattle.outside_serving.proofs.mem_link.MemLinkLink.read.Goals as goal

pub returns-else-n-eq0-clause-took : goal.returns-else-n-eq0-clause-took
returns-else-n-eq0-clause-took g c =
    let at = c.self.inside.at in
    let bytes = c.self.inside.bytes.items in
    let n = c.min-n.result in
    let before = sym c.self.view_is in
    let size = length-drop at bytes in
    let rest : take (length c.deref.result.now - at) (drop at c.deref.result.now) ≡ drop at bytes =
    rw c.deref.ensures.value (take_all _ _ (omega (arith, size))) in
    let given : n ≤ length (drop at bytes) = omega (arith, ap length rest) in
    record {
      bytes = ap Some (ap (λ (p : Peer). p.left) before
          ∙ take-copied bytes c.args.into.now c.copy_from_slice.new.self at n given (c.copy_from_slice.ensures.after ∙ ap (take n) rest));
      written = ap (λ (p : Peer). Some p.written) c.self.view_is;
      faults = search rules;
      ended = search rules;
      ends = λ some. ap (λ (p : Peer). p.ends) c.self.view_is;
    }

pub returns-else-n-eq0-clause-ok : goal.returns-else-n-eq0-clause-ok
returns-else-n-eq0-clause-ok g c =
    let at = c.self.inside.at in
    let bytes = c.self.inside.bytes.items in
    let n = c.min-n.result in
    let left : drop (at + n) bytes ≡ drop n (drop at bytes) = sym (drop-drop n at bytes) in
    let calls : c.count.new.self ≡ with_served c.self.inside.calls = search rules in
    let ends : c.self.inside.ends ≡ (if n == 0 then one_more c.self.inside.ends else c.self.inside.ends) = search rules in
    (λ i. record { left = left i; written = c.self.inside.written.items; room = c.self.inside.room; piece = c.self.inside.piece; calls = calls i; ends = ends i })
    ∙ ap (λ (p : Peer). after_read p n) c.self.view_is
