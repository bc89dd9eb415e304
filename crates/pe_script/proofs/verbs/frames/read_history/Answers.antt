use Rattle.pe_events.specs.declared.event.Event.TheVariants as event
use Rattle.pe_script.proofs.verbs.frames.read_history.Goals as goal

pub returns : goal.returns
returns c = c.in-Some.ensures event.History
