use Rattle.unit_tests.proofs.rooms.a_workspace_may_have_more_room_than_a_site_needs.Given as goal

abbrev pub ghosts-solve_at_master : goal.ghosts-solve_at_master
ghosts-solve_at_master g a = record { name = a.blank.name; parts = a.blank.parts }
