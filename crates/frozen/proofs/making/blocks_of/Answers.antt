use Rattle.std.proofs.Common.{◌≡◌, ◌≤◌, ◌<◌, ◌+◌, ◌-◌, ◌*◌, ◌∙◌, ◌++◌, ◌∷◌, [], ℕ, List, ap, sym, subst, arith, length}
use Rattle.std.proofs.lemmas.List.{length-map, map-append, length_push}
use Rattle.frozen.specs.Parts.{Part, count}
use Rattle.frozen.specs.Sites.{shared_part, shared_parts, part_at}
use Rattle.frozen.specs.inner.Copies.{AreCopies}
use Rattle.frozen.proofs.Whole.{one_copy_more, all_more}
use Rattle.frozen.proofs.Copying.{start_le}
use Rattle.frozen.proofs.making.blocks_of.Goals as goal

pub loop-first-preserved : goal.loop-first-preserved
loop-first-preserved g c =
    let pushed : shared_parts c.push.new.self.items ≡ shared_parts c.loop-first.blocks.items ++ shared_part c.in_ok-block.block ∷ [] = ap shared_parts c.in_ok-push.ensures.items ∙ map-append shared_part c.loop-first.blocks.items (c.in_ok-block.block ∷ []) in
    let lt : c.loop-first.first < c.accounts-accounts.result = c.loop-first-test.true in
    let n : length (shared_parts c.loop-first.blocks.items) ≡ length c.loop-first.blocks.items = length-map c.loop-first.blocks.items shared_part in
    let at : c.loop-first.first ≡ 64 * length (shared_parts c.loop-first.blocks.items) = omega (arith, n, c.loop-first.invariant.at lt) in
    let le : c.loop-first.first ≤ c.min-end.result = omega (arith, c.min-end.ensures, lt) in
    let long : length c.push.new.self.items ≡ length c.loop-first.blocks.items + 1 = ap length c.in_ok-push.ensures.items ∙ length_push c.loop-first.blocks.items c.in_ok-block.block in
    let copied : AreCopies c.args.graph.now c.args.names.now c.min-end.result (shared_parts c.loop-first.blocks.items ++ shared_part c.in_ok-block.block ∷ []) = one_copy_more _ _ _ _ _ _ c.loop-first.invariant.copied at le c.in_ok-block.ensures.copied (c.loop-first.invariant.all lt) in
    let size : count (shared_part c.in_ok-block.block) ≡ c.min-end.result - c.loop-first.first = c.in_ok-block.ensures.copied.size in
    record {
      copied = subst (λ (ps : List Part). AreCopies c.args.graph.now c.args.names.now c.min-end.result ps) (sym pushed) copied;
      within = omega (arith, c.min-end.ensures);
      at = λ less. omega (arith, c.min-end.ensures, less, long, c.loop-first.invariant.at lt);
      all = λ less. subst (λ (ps : List Part). (k : ℕ) → k < length ps → count (part_at ps k) ≡ 64) (sym pushed) (all_more _ _ (c.loop-first.invariant.all lt) (omega (arith, size, c.min-end.ensures, less)));
      count = omega (arith, long, n, at, lt, c.min-end.ensures);
      steps = omega (arith, long, le, c.in_ok-block.ensures.steps, c.loop-first.invariant.steps, start_le _ c.requires.rows c.loop-first.first c.min-end.result le (omega (arith, c.min-end.ensures, c.accounts-accounts.ensures.value)));
    }
