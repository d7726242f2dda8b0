use Rattle.gl_parts_tests.proofs.index_sets.live.Given as goal

abbrev pub ghosts-live_from : goal.ghosts-live_from
ghosts-live_from a = record { name = a.blank.name; parts = a.blank.parts }
