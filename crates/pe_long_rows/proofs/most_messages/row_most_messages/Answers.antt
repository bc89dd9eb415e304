use Rattle.pe_long_rows.proofs.MostMessages.{row_MostMessages}
use Rattle.pe_long_rows.proofs.most_messages.row_most_messages.Goals as goal

pub returns : goal.returns
returns c = row_MostMessages c.history_laws.ensures
