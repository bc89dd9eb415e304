use Rattle.pe_status.proofs.Seen.{order, first-seen}
use Rattle.pe_status.proofs.statuses.Statuses.first_of.Goals as goal

pub returns-clause-order : goal.returns-clause-order
returns-clause-order c = order c.self.inside.given.items c.self.inside.index c.self.invariant c.args.self.now c.self.view_is

pub returns-clause-one : goal.returns-clause-one
returns-clause-one c = first-seen c.self.inside.given.items c.self.inside.index c.self.invariant c.args.self.now c.self.view_is c.args.doc c.first_of.result c.first_of.ensures
