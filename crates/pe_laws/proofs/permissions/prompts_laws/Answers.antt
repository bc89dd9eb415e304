use Rattle.pe_laws.proofs.PendingPrompts.{prompt-pair-older, prompt-page-older, prompt-pair-newest, prompt-page-newest, settled-stays, gone-prompt, one-per-pair, requests-step}
use Rattle.pe_laws.proofs.PromptSteps.{no-requests, requests-told, requests-other, requests-stay, requests-made, asker-current, settled-step, settled-left, waiting-step, waiting-left, waiting-stay}
use Rattle.pe_laws.proofs.PendingSteps.{requests-unmade, settled-made, prompt-stays, prompt-left, told-left, number-told, joins-pending, pending-are, pending-made, pending-answered, pending-left, pending-unmade, pending-stay}
use Rattle.pe_laws.proofs.permissions.prompts_laws.Goals as goal

pub returns : goal.returns
returns c = record {
  pair_older = prompt-pair-older;
  page_older = prompt-page-older;
  pair_newest = prompt-pair-newest;
  page_newest = prompt-page-newest;
  settled_stays = settled-stays;
  gone_stays_gone = gone-prompt;
  one_per_pair = one-per-pair c.same_pairs_are_one.ensures;
  requests_start = no-requests;
  requests_step = requests-step;
  requests_told = requests-told;
  requests_other = requests-other;
  requests_stay = requests-stay;
  requests_within = requests-made;
  asker_current = asker-current;
  requests_unmade = requests-unmade;
  settled_step = settled-step;
  settled_left = settled-left;
  settled_made = settled-made;
  waiting_step = waiting-step;
  waiting_left = waiting-left;
  waiting_stay = waiting-stay;
  prompt_stays = prompt-stays;
  prompt_left = prompt-left;
  told_left = told-left;
  told_number = number-told;
  told_pending = joins-pending;
  pending_are = pending-are;
  pending_made = pending-made;
  pending_answered = pending-answered;
  pending_left = pending-left;
  pending_unmade = pending-unmade;
  pending_stay = pending-stay;
}
