-- The ledger of the counted steps is the one of the blank that is handed in.
use Rattle.pe_bench.proofs.messages.capabilities_put.Given as goal

abbrev pub ghosts-exchange : goal.ghosts-exchange
ghosts-exchange a = record { name = a.blank.name; parts = a.blank.parts }
