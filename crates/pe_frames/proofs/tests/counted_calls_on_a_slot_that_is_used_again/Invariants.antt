-- The ledger of the counted steps is the one of the blank that is handed in.
use Rattle.pe_frames.proofs.tests.counted_calls_on_a_slot_that_is_used_again.Given as goal

abbrev pub ghosts-reached : goal.ghosts-reached
ghosts-reached g a = record { name = a.blank.name; parts = a.blank.parts }
