use Rattle.pe_lines.proofs.Parts.{ended-grows, lines-grows}
use Rattle.pe_lines.proofs.laws.ended_lines_stay.Goals as goal

pub returns : goal.returns
returns c = record { ended = ended-grows; all = lines-grows }
