use Rattle.pe_laws.proofs.Effects.{no-end, is-frame-stays, frames-made-stay, parent-frame-stays, documents-made-stay, last-document-stays, making-stays, frame-of-stays, chain-stays, top-stays, page-stays, page-of-frame-stays, depth-stays, frames-above-stay, origin-stays, flag-stays, secure-stays, declared-stay, container-stay, links-stay, why-stays, attribute-left, attributes-left, older-current, older-last, older-document-in, older-live, older-page-of-frame, older-depth, live-pages-grow, live-frames-grow, current-stays, document-in-stays, live-stays, live-pages-stay, live-frames-stay}
use Rattle.pe_laws.proofs.Quiet.{activates-none, consumes-none, stamp-stays, transient-stays, sticky-stays, history-none, second-stays, history-active-stays, dismissed-none, setting-none, standing-stays, last-setting-stays, dismissals-stay}
use Rattle.pe_laws.proofs.positions.effects_laws.Goals as goal

pub returns : goal.returns
returns c = record {
  is_frame_stays = is-frame-stays;
  frames_made_stay = frames-made-stay;
  parent_frame_stays = parent-frame-stays;
  documents_made_stay = documents-made-stay;
  last_document_stays = last-document-stays;
  making_stays = making-stays;
  frame_of_stays = frame-of-stays;
  chain_stays = chain-stays;
  top_document_stays = top-stays;
  page_stays = page-stays;
  page_of_frame_stays = page-of-frame-stays;
  depth_stays = depth-stays;
  frames_above_stay = frames-above-stay;
  origin_of_stays = origin-stays;
  sandbox_flag_stays = flag-stays;
  is_secure_stays = secure-stays;
  declared_stay = declared-stay;
  container_stay = container-stay;
  links_stay = links-stay;
  why_denied_stays = why-stays;
  attribute_stays = attribute-left;
  attributes_stay = attributes-left;
  activates_none = activates-none;
  consumes_none = consumes-none;
  stamp_of_stays = stamp-stays;
  has_transient_stays = transient-stays;
  has_sticky_stays = sticky-stays;
  consumes_history_none = history-none;
  second_stamp_stays = second-stays;
  history_activation_stays = history-active-stays;
  dismissed_none = dismissed-none;
  setting_none = setting-none;
  standing_stays = standing-stays;
  last_setting_stays = last-setting-stays;
  dismissals_stay = dismissals-stay;
  older_current_stays = older-current;
  older_last_document_stays = older-last;
  older_document_in_stays = older-document-in;
  older_live_stays = older-live;
  older_page_of_frame_stays = older-page-of-frame;
  older_depth_stays = older-depth;
  live_pages_grow = live-pages-grow;
  live_frames_grow = live-frames-grow;
  is_current_stays = current-stays;
  document_in_stays = document-in-stays;
  is_live_stays = live-stays;
  live_pages_stay = live-pages-stay;
  live_frames_stay = live-frames-stay;
  ends_none = λ s frames h. no-end s.event s.item frames h;
}
