use Rattle.pe_laws.proofs.Statuses.{made-start, made-step, live-of-made, live-start, made-rise, live-rise, made-kept, live-kept, status-older, status-at-newest, status-known, live-number, is-live-older, live-step, live-query, live-drop, live-ended, is-status-stays, made-stay, status-stays, live-stay, page-query, page-drop, page-ended, page-stay}
use Rattle.pe_laws.proofs.objects.statuses_laws.Goals as goal

pub returns : goal.returns
returns c = record {
  made_start = made-start;
  made_step = made-step;
  live_of_made = live-of-made;
  live_start = live-start;
  made_rise = made-rise;
  live_rise = live-rise;
  made_kept = made-kept;
  live_kept = live-kept;
  status_older = status-older;
  status_newest = status-at-newest;
  status_known = status-known;
  live_number = live-number;
  is_live_older = is-live-older;
  live_step = live-step;
  live_query = live-query;
  live_drop = live-drop;
  live_ended = live-ended;
  is_status_stays = is-status-stays;
  made_stay = made-stay;
  status_stays = status-stays;
  live_stay = live-stay;
  page_query = page-query;
  page_drop = page-drop;
  page_ended = page-ended;
  page_stay = page-stay;
}
