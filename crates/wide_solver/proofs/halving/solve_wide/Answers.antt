use Rattle.std.proofs.Common.{ℕ, ◌+◌, ◌∙◌, length, sym, subst, ap}
use Rattle.frozen.specs.Revision.{Revision}
use Rattle.wide_solver.specs.inner.Halves.{AreRostersFrom}
use Rattle.wide_solver.proofs.halving.solve_wide.Goals as goal

pub of-requires : goal.of-requires
of-requires g c =
    let first = c.deref.ensures ∙ sym c.in_ok-shared.ensures in
    let second = c.deref-2.ensures ∙ sym c.in_ok-shared.ensures in
    record {
      count = ap (λ (n : ℕ). n + 1) (c.in_ok-rosters.ensures.count ∙ ap length c.deref_mut.ensures.value) ∙ (c.in_ok-workspaces.ensures.count ∙ ap (λ (f : Revision). f.caps.levels) first);
      lowest = subst (λ (f : Revision). AreRostersFrom f 1 c.in_ok-rosters.rosters.items) second c.in_ok-rosters.ensures.from;
    }
