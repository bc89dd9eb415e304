use Rattle.pe_long_rows.proofs.MostStatuses.{row_MostStatuses}
use Rattle.pe_long_rows.proofs.most_statuses.row_most_statuses.Goals as goal

pub returns : goal.returns
returns c = row_MostStatuses c.history_laws.ensures
