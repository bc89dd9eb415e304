use Rattle.pe_laws.proofs.Messages.{message-older, message-newest, message-made, message-kept, left-told, message-stays, settled-step, settled-stays, settled-made, waiting-are, waiting-made, waiting-delivered, waiting-stay}
use Rattle.pe_laws.proofs.Delegated.{has-delegated-is, delegated-step, delegated-newest, delegated-beyond, delegated-stays, has-delegated-stays}
use Rattle.pe_laws.proofs.objects.delegation_laws.Goals as goal

pub returns : goal.returns
returns c = record {
  message_older = message-older;
  message_newest = message-newest;
  message_within = message-made;
  is_message_kept = message-kept;
  told_left = left-told;
  is_message_stays = message-stays;
  settled_step = settled-step;
  settled_stays = settled-stays;
  settled_made = settled-made;
  waiting_are = waiting-are;
  waiting_made = waiting-made;
  waiting_delivered = waiting-delivered;
  waiting_stay = waiting-stay;
  has_delegated_is = has-delegated-is;
  delegated_step = delegated-step;
  delegated_newest = delegated-newest;
  delegated_beyond = delegated-beyond;
  delegated_stays = delegated-stays;
  has_delegated_stays = has-delegated-stays;
}
