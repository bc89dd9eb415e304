-- The ledger of the counted steps is the one of the blank that is handed in.
use Rattle.pe_session.proofs.judging.judge_event.Given as goal

abbrev pub ghosts-reply : goal.ghosts-reply
ghosts-reply a = record { name = a.blank.name; parts = a.blank.parts }
