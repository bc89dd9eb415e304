use Rattle.pe_status.proofs.index.enter.Goals as goal

pub returns-in-Ok-clause-with : goal.returns-in-Ok-clause-with
returns-in-Ok-clause-with c = record { pairs = c.in_ok-group.ensures.ok; put = c.in-Ok.ensures.ok }
