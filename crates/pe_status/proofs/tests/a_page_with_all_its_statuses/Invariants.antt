-- The ledger of the counted steps is the one of the blank that is handed in.
use Rattle.pe_status.proofs.tests.a_page_with_all_its_statuses.Given as goal

abbrev pub ghosts-first_failing : goal.ghosts-first_failing
ghosts-first_failing g a = record { name = a.blank.name; parts = a.blank.parts }
