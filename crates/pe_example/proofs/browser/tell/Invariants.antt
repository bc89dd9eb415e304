-- The ledger of the counted steps is the one of the blank that is handed in.
use Rattle.pe_example.proofs.browser.tell.Given as goal

abbrev pub ghosts-step : goal.ghosts-step
ghosts-step a = record { name = a.blank.name; parts = a.blank.parts }
