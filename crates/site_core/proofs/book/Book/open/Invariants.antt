use Rattle.site_core.proofs.book.Book.open.Given as goal

abbrev pub ghosts-read_rows : goal.ghosts-read_rows
ghosts-read_rows g a = record { name = a.blank.name; parts = a.blank.parts }
