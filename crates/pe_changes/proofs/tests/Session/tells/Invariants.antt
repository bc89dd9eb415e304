-- The ledger of the counted steps is the one of the blank that is handed in.
use Rattle.pe_changes.proofs.tests.Session.tells.Given as goal

abbrev pub ghosts-answer : goal.ghosts-answer
ghosts-answer a = record { name = a.blank.name; parts = a.blank.parts }
