use Rattle.std.proofs.Common.{◌∙◌, ap, sym, arith, length, take, List, [], ◌∷◌, ◌++◌, rules}
use Rattle.std.proofs.lemmas.List.{map-append}
use Rattle.frozen.specs.Parts.{Part, PartWithRoom, count}
use Rattle.frozen.specs.Sites.{shared_part, shared_parts}
use Rattle.frozen.proofs.Numbering.{parts_more, accounts_more, certs_more, accounts_so_far, certs_so_far}
use Rattle.frozen.proofs.frozen_graph.Frozen.of_blocks.Goals as goal

pub overflow_add-accounts : goal.overflow_add-accounts
overflow_add-accounts g c = omega (
  arith,
  c.loop-block.invariant.accounts,
  c.accounts.ensures.value,
  ap (λ (h : PartWithRoom). count h.part) c.deref.ensures,
  accounts_so_far shared_part c.args.blocks.now c.loop-block.block-index c.block-item.result c.loop-block-test.true c.block-item.is,
  c.requires.few,
)

pub overflow_add-certs : goal.overflow_add-certs
overflow_add-certs g c = omega (
  arith,
  c.loop-block.invariant.certs,
  c.certs.ensures,
  ap (λ (h : PartWithRoom). length h.part.takers) c.deref-in-loop-block.ensures,
  certs_so_far shared_part c.args.blocks.now c.loop-block.block-index c.block-item.result c.loop-block-test.true c.block-item.is,
  c.requires.few_certs,
)

pub loop-block-preserved : goal.loop-block-preserved
loop-block-preserved g c = record {
  accounts = omega (
    arith,
    c.loop-block.invariant.accounts,
    c.accounts.ensures.value,
    ap (λ (h : PartWithRoom). count h.part) c.deref.ensures,
    accounts_more shared_part c.args.blocks.now c.loop-block.block-index c.block-item.result c.loop-block-test.true c.block-item.is,
  );
  certs = omega (
    arith,
    c.loop-block.invariant.certs,
    c.certs.ensures,
    ap (λ (h : PartWithRoom). length h.part.takers) c.deref-in-loop-block.ensures,
    certs_more shared_part c.args.blocks.now c.loop-block.block-index c.block-item.result c.loop-block-test.true c.block-item.is,
  );
  shared =
      ap shared_parts c.push_reserved.ensures.items
      ∙ map-append shared_part c.loop-block.shared.items (c.in_ok-clone.field-0 ∷ [])
      ∙ ap (λ (ps : List Part). ps ++ shared_part c.in_ok-clone.field-0 ∷ []) c.loop-block.invariant.shared
      ∙ ap (λ (h : PartWithRoom). shared_parts (take c.loop-block.block-index c.args.blocks.now) ++ h.part ∷ []) c.in_ok-clone.ensures.cases
      ∙ sym (parts_more shared_part c.args.blocks.now c.loop-block.block-index c.block-item.result c.loop-block-test.true c.block-item.is);
  count = search rules;
  room = search rules;
  steps = search rules;
}
