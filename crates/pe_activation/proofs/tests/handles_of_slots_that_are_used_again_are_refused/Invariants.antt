-- The ledger of the counted steps is the one of the blank that is handed in.
use Rattle.pe_activation.proofs.tests.handles_of_slots_that_are_used_again_are_refused.Given as goal

abbrev pub ghosts-are_refused : goal.ghosts-are_refused
ghosts-are_refused g a = record { name = a.blank.name; parts = a.blank.parts }
