use Rattle.pe_laws.proofs.Settings.{last-setting-step}
use Rattle.pe_laws.proofs.Standings.{standing-step, dismissals-step, standing-set, standing-beside, standing-undismissed, dismissals-below, setting-dismissed, embargo-is}
use Rattle.pe_laws.proofs.Lives.{key-older, pair-older, pair-feature, life-current, life-within, last-within, last-pair, holds-step, holds-older, ended-later, stored-sooner, stored-by-standing, entry-by-standing, stored-older, stored-set}
use Rattle.pe_laws.proofs.InForce.{stored-in-force, in-force-step, in-force-later}
use Rattle.pe_laws.proofs.NewSettings.{page-decides, set-holds, set-alone}
use Rattle.pe_laws.proofs.Tops.{life-top}
use Rattle.pe_laws.proofs.permissions.settings_laws.Goals as goal

pub returns : goal.returns
returns c = let pairs = c.same_pairs_are_one.ensures in record {
  last_setting_step = last-setting-step pairs;
  standing_step = standing-step pairs;
  dismissals_step = dismissals-step pairs;
  standing_set = standing-set pairs;
  standing_beside = standing-beside pairs;
  standing_undismissed = standing-undismissed pairs;
  dismissals_below = dismissals-below;
  setting_dismissed = setting-dismissed;
  embargo_is = embargo-is;
  key_older = key-older;
  pair_older = pair-older;
  pair_feature = pair-feature;
  life_current = life-current;
  life_within = life-within;
  last_life_within = last-within pairs;
  last_pair = last-pair pairs;
  holds_step = holds-step;
  holds_older = holds-older;
  ended_later = ended-later;
  stored_sooner = stored-sooner;
  stored_by_standing = stored-by-standing;
  entry_by_standing = entry-by-standing;
  stored_older = stored-older pairs;
  stored_set = stored-set pairs;
  stored_in_force = stored-in-force;
  in_force_step = in-force-step pairs;
  in_force_later = in-force-later;
  page_life_decides = page-decides;
  set_holds = set-holds;
  set_alone = set-alone;
  life_top = life-top;
}
