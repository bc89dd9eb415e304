use Rattle.pe_base.proofs.tests.steps_are_counted.Given as goal

abbrev pub ghosts-count_from_start : goal.ghosts-count_from_start
ghosts-count_from_start a = record { name = a.blank.name; parts = a.blank.parts }
