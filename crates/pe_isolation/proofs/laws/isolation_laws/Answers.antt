use Rattle.pe_isolation.proofs.Isolated.{regular, reply, page-cause, page-answer, unmuted-cause, unmuted-answer, unmuted-told, told, before, after}
use Rattle.pe_isolation.proofs.laws.isolation_laws.Goals as goal

pub returns : goal.returns
returns c = let laws = c.history_laws.ensures in record {
  regular = regular laws;
  reply = reply laws;
  cause = page-cause laws;
  answer = page-answer laws;
  unmuted_cause = unmuted-cause laws;
  unmuted_answer = unmuted-answer laws;
  unmuted_told = unmuted-told laws;
  told = told laws;
  before = before laws;
  after = after laws;
}
