use Rattle.std.proofs.Common.{[], refl}
use Rattle.pe_lines.specs.Lines.{ended_lines_or_too_long, ended_lines}
use Rattle.pe_output.specs.OutputText.{refuses_from}
use Rattle.pe_rules.specs.Replies.{replied}
use Rattle.pe_session.proofs.Stretches.{Cuts-none}
use Rattle.pe_session.proofs.session.Session.new.Goals as goal

pub returns : goal.returns
unfolding ended_lines_or_too_long ended_lines refuses_from replied
returns c = record {
  cuts = rw c.new.ensures.bytes (Cuts-none []);
  none = rw c.new.ensures.bytes refl;
  open_still = c.new.ensures.open;
  number = refl;
  stands = record { lasts = c.new-2.ensures.duration; engine_stands = c.new-2.ensures.stands };
  refused_is = refl;
  empty = c.new-3.ensures.items;
}
