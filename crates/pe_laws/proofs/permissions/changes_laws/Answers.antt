use Rattle.pe_laws.proofs.Lapses.{changes-at-lapse, walk-due}
use Rattle.pe_laws.proofs.Spans.{stored-before-lapse, stored-lapsed, stored-between, state-between, change-lapses, change-is, none-between, none-after, none-unless-stored, none-blocked, between-of-pair, none-after-unset}
use Rattle.pe_laws.proofs.LiveAfter.{after-live}
use Rattle.pe_laws.proofs.permissions.changes_laws.Goals as goal

pub returns : goal.returns
returns c = let pairs = c.same_pairs_are_one.ensures in record {
  state_changes_where_a_life_ends = changes-at-lapse;
  changes_are_those_of_due_moments = walk-due pairs;
  stored_before_lapse = stored-before-lapse;
  stored_lapsed = stored-lapsed;
  stored_between = stored-between;
  state_between = state-between;
  change_lapses = change-lapses;
  change_is = change-is;
  none_between = none-between pairs;
  none_after = none-after pairs;
  none_between_unless_stored = none-unless-stored;
  none_between_blocked = none-blocked;
  between_of_pair = between-of-pair;
  none_after_unset = none-after-unset pairs;
  after_live = after-live;
}
