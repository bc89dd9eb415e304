-- The ledger of the counted steps is the one of the blank that is handed in.
use Rattle.pe_store.proofs.tests.Session.stored.Given as goal

abbrev pub ghosts-state_of : goal.ghosts-state_of
ghosts-state_of a = record { name = a.blank.name; parts = a.blank.parts }
