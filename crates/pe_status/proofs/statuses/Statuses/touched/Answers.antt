use Rattle.pe_status.proofs.Walking.{touched-first}
use Rattle.pe_status.proofs.statuses.Statuses.touched.Goals as goal

pub returns-clause-value : goal.returns-clause-value
returns-clause-value g c =
    touched-first (c.args.feature, c.args.key.now) c.args.after c.args.self.now.live c.next.result c.walk.result c.next.new.self c.walk.ensures.value c.next.ensures.steps
