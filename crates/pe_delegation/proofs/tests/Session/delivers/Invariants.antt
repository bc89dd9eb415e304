-- The ledger of the counted steps is the one of the blank that is handed in.
use Rattle.pe_delegation.proofs.tests.Session.delivers.Given as goal

abbrev pub ghosts-deliver : goal.ghosts-deliver
ghosts-deliver a = record { name = a.blank.name; parts = a.blank.parts }
