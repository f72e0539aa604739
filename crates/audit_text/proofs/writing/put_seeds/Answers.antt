use Rattle.std.proofs.Common.{◌∙◌, ap, sym, ◌++◌, refl}
use Rattle.frozen.specs.Revision.{certificates}
use Rattle.audit_text.specs.Canonical.{seed_words}
use Rattle.audit_text.specs.inner.Writing.{lines_for}
use Rattle.audit_text.proofs.Written.{seeds_step, same_seeds}
use Rattle.audit_text.proofs.writing.put_seeds.Goals as goal
use Rattle.audit_text.proofs.writing.put_seeds.Goals.{then-is_seed+in_ok-put_seed, else-is_seed}

pub loop-number-preserved : goal.loop-number-preserved
loop-number-preserved c =
    elim c.if-is_seed.branch [
      | then-is_seed+in_ok-put_seed w ↦
          ap (λ text. text.items) w.text-is
          ∙ seeds_step c.args.frozen.now.names _ c.args.text.now.items _ _ (certificates c.args.frozen.now) c.loop-number.number (sym c.is_seed.ensures ∙ w.if-is_seed.true) refl
          c.loop-number.invariant w.in_ok-put_seed.ensures
      | else-is_seed w ↦
          ap (λ text. text.items) w.text-is ∙ c.loop-number.invariant
          ∙ ap (λ seeds. c.args.text.now.items ++ lines_for (seed_words c.args.frozen.now.names) seeds)
          (sym (same_seeds (certificates c.args.frozen.now) c.loop-number.number (sym c.is_seed.ensures ∙ w.if-is_seed.false)))
    ]
