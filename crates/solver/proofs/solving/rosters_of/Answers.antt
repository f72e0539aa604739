use Rattle.std.proofs.Common.{ℕ, ◌≡◌, ◌∙◌, ◌+◌, List, [], ◌∷◌, ◌++◌, length, sym, subst, ap, arith}
use Rattle.trust_types.specs.Tables.{Table}
use Rattle.trust_types.specs.declared.levels.Level.TheVariants.{Apprentice}
use Rattle.roster_form.specs.declared.level_rosters.LevelRoster.{LevelRoster}
use Rattle.roster_form.specs.Candidates.{AreLowest}
use Rattle.roster_form.proofs.Lowest.{none_lowest, lowest-push}
use Rattle.solver.proofs.solving.rosters_of.Goals as goal

pub loop-rank-init : goal.loop-rank-init
loop-rank-init g c =
    let none : c.in_ok-rosters.rosters.items ≡ [] = c.in_ok-rosters.ensures.items in
    let items : c.push_reserved.new.self.items ≡ c.in_ok-solve_level.field-0 ∷ [] =
    c.push_reserved.ensures.items ∙ ap (λ (xs : List LevelRoster). xs ++ c.in_ok-solve_level.field-0 ∷ []) none in
    record {
      graph = c.solve_level.ensures.graph;
      lowest = subst (AreLowest c.args.frozen.now) (sym items) (lowest-push c.args.frozen.now [] c.in_ok-solve_level.field-0 Apprentice (none_lowest c.args.frozen.now) (omega arith) c.in_ok-solve_level.ensures.roster);
      count = omega (arith, ap length items);
      room = omega (arith, c.push_reserved.ensures.capacity, c.in_ok-rosters.ensures.capacity);
    }

pub solve_level_again-requires-clause-graph : goal.solve_level_again-requires-clause-graph
solve_level_again-requires-clause-graph g c = c.loop-rank.invariant.graph

pub push_reserved-requires-in-loop-rank : goal.push_reserved-requires-in-loop-rank
push_reserved-requires-in-loop-rank g c = omega (arith, c.loop-rank.invariant.count, c.loop-rank.invariant.room, c.loop-rank-test.true)

pub loop-rank-preserved : goal.loop-rank-preserved
loop-rank-preserved g c =
    let before = c.loop-rank.invariant in
    record {
      graph = c.solve_level_again.ensures.graph;
      lowest = subst (AreLowest c.args.frozen.now) (sym c.push_reserved-in-loop-rank.ensures.items)
          (lowest-push c.args.frozen.now c.loop-rank.rosters.items c.in_ok-solve_level_again.field-0 c.of_rank-level.result before.lowest
          (c.of_rank-level.ensures ∙ sym before.count) c.in_ok-solve_level_again.ensures.roster);
      count = omega (arith, before.count, c.push_reserved-in-loop-rank.ensures.len);
      room = omega (arith, before.room, c.push_reserved-in-loop-rank.ensures.capacity);
    }

pub returns : goal.returns
returns g c =
    let table : c.levels-levels.result ≡ c.args.frozen.now.caps.levels = c.levels-levels.ensures.value ∙ ap (λ (table : Table). table.levels) c.caps.ensures in
    record {
      count = omega (arith, c.loop-rank.invariant.count, table, c.loop-rank-test.false, c.loop-rank.auto.rank-end c.levels-levels.ensures.within.0);
      lowest = c.loop-rank.invariant.lowest;
    }
