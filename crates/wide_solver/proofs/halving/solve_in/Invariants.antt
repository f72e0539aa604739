use Rattle.wide_solver.proofs.halving.solve_in.Given as goal

abbrev pub ghosts-solve_counted : goal.ghosts-solve_counted
ghosts-solve_counted a = record { name = a.blank.name; parts = a.blank.parts }
