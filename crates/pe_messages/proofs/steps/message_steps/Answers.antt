use Rattle.pe_messages.proofs.Addressed.{shown, addressed-quiet, addressed-posted, addressed-delivered}
use Rattle.pe_messages.proofs.Naming.{named}
use Rattle.pe_messages.proofs.Deliveries.{fault, refused, counted, limit, below, beyond, found, answered, handed}
use Rattle.pe_messages.proofs.Following.{start, quiet, posted, delivered}
use Rattle.pe_messages.proofs.steps.message_steps.Goals as goal

pub returns : goal.returns
returns c = let laws = c.history_laws.ensures in record {
  start = start;
  fault = fault;
  refused = refused;
  counted = counted;
  limit = limit;
  below = below laws;
  beyond = beyond laws;
  found = found;
  answered = answered;
  handed = handed;
  named = named;
  quiet = quiet laws;
  posted = posted laws;
  delivered = delivered laws;
  shown = shown;
  addressed_quiet = addressed-quiet laws;
  addressed_posted = addressed-posted laws;
  addressed_delivered = addressed-delivered laws;
}
