use Rattle.std.proofs.Common.{◌≡◌, ◌≤◌, ◌-◌, length, take, arith, ap, sym, ◌∙◌, Some, drop, length-drop, take_all}
use Rattle.outside.specs.Memory.{Feed}
use Rattle.outside.proofs.Copies.{take-copied}
use Rattle.outside.proofs.mem_source.MemSourceSource.read.Goals as goal

pub returns-else-n-eq0-clause-bytes : goal.returns-else-n-eq0-clause-bytes
returns-else-n-eq0-clause-bytes c =
    let at = c.self.inside.at in
    let bytes = c.self.inside.bytes.items in
    let size = length-drop at bytes in
    let rest : take (length c.deref.result.now - at) (drop at c.deref.result.now) ≡ drop at bytes =
    rw c.deref.ensures.value (take_all _ _ (omega (arith, size))) in
    let given : c.min-n.result ≤ length (drop at bytes) = omega (arith, ap length rest) in
    ap Some (ap (λ (f : Feed). f.left) (sym c.self.view_is)
    ∙ take-copied bytes c.args.into.now c.copy_from_slice.new.self at c.min-n.result given (c.copy_from_slice.ensures.after ∙ ap (take c.min-n.result) rest))
