use Rattle.std.proofs.Common.{ℕ, List, length, take, drop, ◌-◌, ◌≡◌, rules, arith, subst, length-drop, take_all}
use Rattle.outside_serving.specs.Links.{Put}
use Rattle.conversation.proofs.Bytes.{put_more}
use Rattle.conversation.proofs.saying.say.Goals as goal

pub loop-at-preserved : goal.loop-at-preserved
loop-at-preserved g c =
    let piece = c.args.piece.now in
    let at = c.loop-at.at in
    let long : length (drop at piece) ≡ length piece - at = length-drop at piece in
    let e : take (length piece - at) (drop at piece) ≡ drop at piece = take_all (length piece - at) (drop at piece) (omega arith) in
    record {
      within = search rules;
      put = put_more _ _ _ _ _ _ c.loop-at.invariant.put (subst (λ (z : List ℕ). Put (g.L.Link.line c.loop-at.link) (g.L.Link.line c.write.new.self) (take c.in-Ok.n z)) e c.in-Ok.ensures.put);
    }
