use Rattle.pe_frames.specs.Neighbours.{with_fewer_frames}
use Rattle.pe_frames.proofs.Writes.{Rewrites-some}
use Rattle.pe_frames.proofs.removal.shrink_page.Goals as goal

pub returns-in-Some : goal.returns-in-Some
returns-in-Some g c = Rewrites-some c.args.rows.now c.shrink_at.new.rows c.args.top c.in-Some.top (with_fewer_frames c.args.count) c.in-Some.is c.requires.live c.shrink_at.ensures.alone c.shrink_at.ensures.written
