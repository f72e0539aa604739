use Rattle.std.proofs.Common.{ℕ, List, Bool, ◌≡◌, ◌+◌, ◌∙◌, ap, subst, false, true}
use Rattle.std.specs.List.{between}
use Rattle.trust_types.specs.declared.levels.Level.{Level}
use Rattle.frozen.specs.inner.Copies.{AreLowered}
use Rattle.frozen.proofs.Copying.{copy_facts, none_before}
use Rattle.frozen.proofs.blocks.Block.of_rows.Goals as goal

pub lowered-requires : goal.lowered-requires
lowered-requires g c =
    rw c.starts.ensures (none_before _ c.args.first c.args.end _ c.requires.rows c.requires.ordered c.requires.within c.certs_between-begin.ensures.begin)

pub invariant_of-result : goal.invariant_of-result
invariant_of-result g c = (
  (copy_facts c.args.graph.now c.args.names.now c.args.first c.args.end c.certs_between-begin.result.0 c.certs_between-begin.result.1 _ c.requires.rows c.requires.names c.requires.ordered c.requires.few c.requires.within
      c.certs_between-begin.ensures.begin c.certs_between-begin.ensures.end c.in_ok-from_slice.ensures.items
      (c.in_ok-from_slice-2.ensures.items ∙ ap (λ (xs : List Bool). between c.args.first c.args.end xs) c.seeds.ensures)
      c.in_ok-numbers_from.ensures
      (subst (λ (xs : List ℕ). AreLowered (between c.args.first (c.args.end + 1) xs) c.in_ok-lowered.field-0.items c.certs_between-begin.result.0) c.starts.ensures c.in_ok-lowered.ensures)
      (c.in_ok-from_slice-3.ensures.items ∙ ap (λ (xs : List ℕ). between c.certs_between-begin.result.0 c.certs_between-begin.result.1 xs) c.takers.ensures)
      (c.in_ok-from_slice-4.ensures.items ∙ ap (λ (xs : List Level). between c.certs_between-begin.result.0 c.certs_between-begin.result.1 xs) c.levels.ensures)).0,
  λ (h : false ≡ true). cc,
)

pub returns-clause-copied : goal.returns-clause-copied
returns-clause-copied g c =
    (copy_facts c.args.graph.now c.args.names.now c.args.first c.args.end c.certs_between-begin.result.0 c.certs_between-begin.result.1 _ c.requires.rows c.requires.names c.requires.ordered c.requires.few c.requires.within
    c.certs_between-begin.ensures.begin c.certs_between-begin.ensures.end c.in_ok-from_slice.ensures.items
    (c.in_ok-from_slice-2.ensures.items ∙ ap (λ (xs : List Bool). between c.args.first c.args.end xs) c.seeds.ensures)
    c.in_ok-numbers_from.ensures
    (subst (λ (xs : List ℕ). AreLowered (between c.args.first (c.args.end + 1) xs) c.in_ok-lowered.field-0.items c.certs_between-begin.result.0) c.starts.ensures c.in_ok-lowered.ensures)
    (c.in_ok-from_slice-3.ensures.items ∙ ap (λ (xs : List ℕ). between c.certs_between-begin.result.0 c.certs_between-begin.result.1 xs) c.takers.ensures)
    (c.in_ok-from_slice-4.ensures.items ∙ ap (λ (xs : List Level). between c.certs_between-begin.result.0 c.certs_between-begin.result.1 xs) c.levels.ensures)).1
