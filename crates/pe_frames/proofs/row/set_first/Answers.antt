use Rattle.pe_frames.specs.Neighbours.{with_first}
use Rattle.pe_frames.proofs.Writes.{Rewrites-some}
use Rattle.pe_frames.proofs.row.set_first.Goals as goal

pub returns-in-Some : goal.returns-in-Some
returns-in-Some g c = Rewrites-some c.args.rows.now c.first_at.new.rows c.args.h c.in-Some.h (with_first c.args.first) c.in-Some.is c.requires c.first_at.ensures.alone c.first_at.ensures.written
