use Rattle.gl_search_rows.proofs.shelf.Shelf.search.Given as goal

abbrev pub ghosts-searched : goal.ghosts-searched
ghosts-searched a = record { name = a.blank.name; parts = 1 }
