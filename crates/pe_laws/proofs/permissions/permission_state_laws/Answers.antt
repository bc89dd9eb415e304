use Rattle.pe_laws.proofs.States.{blocked-older, blocked-stays, state-by-entry, state-blocked, state-unpaired, state-of-pair, state-older, state-same-entry, state-same-setting, state-stays}
use Rattle.pe_laws.proofs.permissions.permission_state_laws.Goals as goal

pub returns : goal.returns
returns c = record {
  blocked_older = blocked-older;
  blocked_stays = blocked-stays;
  state_by_entry = state-by-entry;
  state_blocked = state-blocked;
  state_unpaired = state-unpaired;
  state_of_pair = state-of-pair;
  state_older = state-older;
  state_by_same_entry = state-same-entry;
  state_by_same_setting = state-same-setting c.same_pairs_are_one.ensures;
  state_stays = state-stays c.same_pairs_are_one.ensures;
}
