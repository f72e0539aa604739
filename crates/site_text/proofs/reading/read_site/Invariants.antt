use Rattle.site_text.proofs.reading.read_site.Given as goal

abbrev pub ghosts-freeze : goal.ghosts-freeze
ghosts-freeze a = record { name = a.blank.name; parts = a.blank.parts }
