use Rattle.pe_long_rows.proofs.MostFrames.{row_MostFrames}
use Rattle.pe_long_rows.proofs.most_frames.row_most_frames.Goals as goal

pub returns : goal.returns
returns c = row_MostFrames c.history_laws.ensures
