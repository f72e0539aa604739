use Rattle.std.proofs.Common.{ℕ, List, length, ◌++◌, ◌+◌, ◌-◌, ◌≡◌, ◌≤◌, rules, sym, ap, subst, ◌∙◌, arith, drop, take}
use borrow.Rule.Slice.PartMut.{post_of}
use Rattle.std.specs.Vec.{with_items}
use Rattle.std.proofs.lemmas.List.{with_items_is, places}
use Rattle.conversation.specs.inner.Hearing.{Got}
use Rattle.conversation.proofs.Bytes.{got}
use Rattle.conversation.proofs.buffer.Buffer.read_from.Goals as goal

pub returns-in-Ok : goal.returns-in-Ok
returns-in-Ok g c =
    let s = c.self.inside.start in
    let e = c.self.inside.end in
    let xs = c.deref_mut.result.now in
    let post = post_of e (s + 81920 - e) xs in
    let ws = take e xs ++ (c.read.new.into ++ post) in
    let all : length xs ≡ 163840 = search rules in
    let within : e ≤ length xs = omega (arith, c.self.invariant.1, c.self.invariant.2) in
    let part : length c.read.new.into ≤ s + 81920 - e = search (rules, places) in
    let is : (with_items c.self.inside.bytes ws).items ≡ ws = with_items_is c.self.inside.bytes ws (search (rules, places)) in
    subst (λ (z : List ℕ). Got (g.L.Link.line c.args.link.now) (g.L.Link.line c.read.new.self) c.args.self.now (drop s (take (e + c.in-Ok.n) z)) c.in-Ok.n) (sym is)
    (got _ _ xs c.read.new.into post c.args.self.now s e c.in-Ok.n
    c.self.invariant.0
    within
    c.self.invariant.1
    part
    (ap (λ z. drop s (take e z)) c.deref_mut.ensures.value ∙ c.self.view_is)
    c.in-Ok.ensures.bound
    c.in-Ok.ensures.took)
