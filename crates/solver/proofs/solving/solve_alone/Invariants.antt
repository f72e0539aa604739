use Rattle.solver.proofs.solving.solve_alone.Given as goal

abbrev pub ghosts-solve_grades : goal.ghosts-solve_grades
ghosts-solve_grades a = record { name = a.blank.name; parts = a.blank.parts }
