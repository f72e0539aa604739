use Rattle.drill.proofs.sites.drill_site.Given as goal

abbrev pub ghosts-freeze : goal.ghosts-freeze
ghosts-freeze a = record { name = a.blank.name; parts = a.blank.parts }
