-- The ledger of the counted steps is the one of the blank that is handed in.
use Rattle.pe_example.proofs.browser.may.Given as goal

abbrev pub ghosts-decide : goal.ghosts-decide
ghosts-decide a = record { name = a.blank.name; parts = a.blank.parts }
