use Rattle.std.proofs.Common.{◌≡◌, ◌∙◌, sym, ap, arith, rules, length, vec_len}
use Rattle.frozen.specs.Sites.{shared_parts}
use Rattle.frozen.specs.Revision.{revision_of}
use Rattle.frozen.proofs.Whole.{Whole, whole, whole_parts, whole_freezes, if_ok}
use Rattle.frozen.proofs.frozen_graph.Frozen.of.Goals as goal

pub of_blocks-requires : goal.of_blocks-requires
of_blocks-requires g c =
    let n : length c.args.names.items ≡ vec_len c.args.names = search rules in
    let m : Whole = whole c.in_ok-graph.graph c.args.names.items c.deref.result.now c.args.seeds.items c.args.certs.items (shared_parts c.in_ok-blocks.blocks.items) c.len.result c.accounts-accounts.result
    c.certs-certs.ensures.rows (c.len.ensures ∙ sym n) (omega (arith, c.len.ensures, c.requires.few)) c.requires.apart c.in_ok-graph.ensures.made c.accounts-accounts.ensures.value c.accounts-accounts.ensures.outside
    c.deref.ensures.value c.in_ok-blocks.ensures.copied in
    rw c.deref-2.ensures.value (whole_parts m)

pub returns-clause-frozen : goal.returns-clause-frozen
returns-clause-frozen g c =
    let n : length c.args.names.items ≡ vec_len c.args.names = search rules in
    let m : Whole = whole c.in_ok-graph.graph c.args.names.items c.deref.result.now c.args.seeds.items c.args.certs.items (shared_parts c.in_ok-blocks.blocks.items) c.len.result c.accounts-accounts.result
    c.certs-certs.ensures.rows (c.len.ensures ∙ sym n) (omega (arith, c.len.ensures, c.requires.few)) c.requires.apart c.in_ok-graph.ensures.made c.accounts-accounts.ensures.value c.accounts-accounts.ensures.outside
    c.deref.ensures.value c.in_ok-blocks.ensures.copied in
    if_ok _ _ c.of_blocks.result (λ f is. whole_freezes m f.value c.args.revision c.args.caps (is ∙ ap (λ bs. revision_of c.args.revision c.args.caps (shared_parts bs)) c.deref-2.ensures.value)) c.of_blocks.ensures.frozen
