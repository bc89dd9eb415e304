use Rattle.pe_requests.proofs.Faults.{refusal, named-cause}
use Rattle.pe_requests.proofs.Pairs.{joins, joins-by-request, counted, exceeds, requests, asks}
use Rattle.pe_requests.proofs.Reading.{below, below-told, below-answered, asked, settles}
use Rattle.pe_requests.proofs.Going.{start, quiet, answered}
use Rattle.pe_requests.proofs.Asking.{stated, told}
use Rattle.pe_requests.proofs.Leaving.{ended, ends-frame}
use Rattle.pe_requests.proofs.Shown.{page-shown}
use Rattle.pe_requests.proofs.steps.prompt_steps.Goals as goal

pub returns : goal.returns
returns c = let laws = c.history_laws.ensures in record {
  start = start;
  refusal = refusal laws;
  named_cause = named-cause laws;
  joins = joins;
  joins_by_request = joins-by-request;
  counted = counted;
  exceeds = exceeds;
  below = below laws;
  below_told = below-told;
  below_answered = below-answered;
  asked = asked;
  page_shown = page-shown laws;
  settles = settles;
  requests = requests;
  asks = asks;
  quiet = quiet laws;
  stated = stated laws;
  told = told laws;
  answered = answered laws;
  ended = ended laws;
  ends_frame = ends-frame laws;
}
