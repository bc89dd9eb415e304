use Rattle.pe_engine.proofs.engine.Engine.exceeds_by.Goals as goal

pub returns-in-Some-clause-room : goal.returns-in-Some-clause-room
returns-in-Some-clause-room g c = λ x to later is lapsed full. c.exceeds_store.ensures.room to later lapsed full
