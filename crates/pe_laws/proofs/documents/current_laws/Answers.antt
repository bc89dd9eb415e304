use Rattle.pe_laws.proofs.Current.{frames-older, current-older, current-newest, current-within, gone-stays, gone-stays-along, document-in-made, document-in-beside, document-in-other, document-in-frame}
use Rattle.pe_laws.proofs.Shown.{shown-in-frame, live-framed, live-made}
use Rattle.pe_laws.proofs.documents.current_laws.Goals as goal

pub returns : goal.returns
returns c = record {
  frames_above_older = frames-older;
  is_current_older = current-older;
  is_current_newest = current-newest;
  is_current_within = current-within;
  gone_at_step = gone-stays;
  gone_for_good = gone-stays-along;
  document_in_made = document-in-made;
  document_in_beside = document-in-beside;
  document_in_other = document-in-other;
  document_in_frame = document-in-frame;
  shown_in_frame = shown-in-frame;
  live_is_frame = live-framed;
  live_frame_made = live-made;
}
