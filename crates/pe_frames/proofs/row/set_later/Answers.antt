use Rattle.pe_frames.specs.Neighbours.{with_later}
use Rattle.pe_frames.proofs.Writes.{Rewrites-some}
use Rattle.pe_frames.proofs.row.set_later.Goals as goal

pub returns-in-Some : goal.returns-in-Some
returns-in-Some g c = Rewrites-some c.args.rows.now c.later_at.new.rows c.args.h c.in-Some.h (with_later c.args.later) c.in-Some.is c.requires c.later_at.ensures.alone c.later_at.ensures.written
