use Rattle.pe_frames.specs.Neighbours.{with_last}
use Rattle.pe_frames.proofs.Writes.{Rewrites-some}
use Rattle.pe_frames.proofs.row.set_last.Goals as goal

pub returns-in-Some : goal.returns-in-Some
returns-in-Some g c = Rewrites-some c.args.rows.now c.last_at.new.rows c.args.h c.in-Some.h (with_last c.args.last) c.in-Some.is c.requires c.last_at.ensures.alone c.last_at.ensures.written
