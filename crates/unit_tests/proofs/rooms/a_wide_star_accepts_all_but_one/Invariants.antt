use Rattle.unit_tests.proofs.rooms.a_wide_star_accepts_all_but_one.Given as goal

abbrev pub ghosts-solve_at_master : goal.ghosts-solve_at_master
ghosts-solve_at_master g a = record { name = a.blank.name; parts = a.blank.parts }
