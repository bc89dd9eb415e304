use Rattle.std.proofs.Common.{None, Some, ap, option_map}
use Rattle.pe_events.specs.declared.event.Event.TheVariants as event
use Rattle.pe_script.proofs.Takes.{by_none, by_some, drop_of, drop_left}
use Rattle.pe_script.proofs.verbs.permissions.read_drop.Goals as goal

pub returns-in_default : goal.returns-in_default
returns-in_default c = by_none _ _ drop_of (drop_left _) c.in_default.ensures

pub returns-in_default-object : goal.returns-in_default-object
returns-in_default-object c = by_some _ None _ drop_of c.in-Some.status (drop_left _) c.in-Some.ensures (ap (option_map event.DropStatus) c.in_default-object.ensures)

pub returns : goal.returns
returns c = by_some _ (Some (event.DropStatus c.in-Some-object.status)) _ drop_of c.in-Some.status (drop_left _) c.in-Some.ensures (ap (option_map event.DropStatus) c.in-Some-object.ensures)
