use Rattle.pe_frames.specs.Neighbours.{with_earlier}
use Rattle.pe_frames.proofs.Writes.{Rewrites-some}
use Rattle.pe_frames.proofs.row.set_earlier.Goals as goal

pub returns-in-Some : goal.returns-in-Some
returns-in-Some g c = Rewrites-some c.args.rows.now c.earlier_at.new.rows c.args.h c.in-Some.h (with_earlier c.args.earlier) c.in-Some.is c.requires c.earlier_at.ensures.alone c.earlier_at.ensures.written
