use Rattle.solver.proofs.solving.solve_one.Given as goal

abbrev pub ghosts-solve_once : goal.ghosts-solve_once
ghosts-solve_once a = record { name = a.blank.name; parts = a.blank.parts }
