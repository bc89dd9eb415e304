-- The ledger of the counted steps is the one of the blank that is handed in.
use Rattle.pe_activation.proofs.tests.inputs_on_a_page_of_two_origins.Given as goal

abbrev pub ghosts-notifies : goal.ghosts-notifies
ghosts-notifies g a = record { name = a.blank.name; parts = a.blank.parts }
