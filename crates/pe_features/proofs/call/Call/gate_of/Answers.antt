-- The gate is a row of the table, and so keeps the rules of every row.
use Rattle.pe_features.proofs.GateRows.{IsSound-gate_of}
use Rattle.pe_features.proofs.call.Call.gate_of.Goals as goal

pub returns-clause-powerful : goal.returns-clause-powerful
returns-clause-powerful c = rw (c.wants_permission.ensures, c.feature.ensures) ((IsSound-gate_of c.args.self).powerful)

pub returns-clause-consuming : goal.returns-clause-consuming
returns-clause-consuming c = rw (c.consumes.ensures, c.need.ensures) ((IsSound-gate_of c.args.self).consuming)

pub returns-clause-delegated : goal.returns-clause-delegated
returns-clause-delegated c = rw (c.capability.ensures, c.feature.ensures) ((IsSound-gate_of c.args.self).delegated)

pub returns-clause-stands_in : goal.returns-clause-stands_in
returns-clause-stands_in c = rw (c.capability.ensures, c.need.ensures) ((IsSound-gate_of c.args.self).stands_in)
