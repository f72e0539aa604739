use Rattle.turn_book.proofs.site.Site.freeze.Given as goal

abbrev pub ghosts-freeze_counted : goal.ghosts-freeze_counted
ghosts-freeze_counted g a = record { name = a.blank.name; parts = a.blank.parts }
