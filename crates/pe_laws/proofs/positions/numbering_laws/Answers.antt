use Rattle.pe_laws.proofs.Making.{last-within}
use Rattle.pe_laws.proofs.Numbering.{frame-other, frame-newest, frame-within, frames-step, frames-are, parent-other, parent-newest, documents-step, document-within, status-other, status-newest, status-within, prompt-other, prompt-newest, prompt-within, message-other, message-newest, message-within}
use Rattle.pe_laws.proofs.Older.{last-document-step}
use Rattle.pe_laws.proofs.positions.numbering_laws.Goals as goal

pub returns : goal.returns
returns c = record {
  is_frame_older = frame-other;
  is_status_older = status-other;
  is_prompt_older = prompt-other;
  is_message_older = message-other;
  is_frame_newest = frame-newest;
  is_status_newest = status-newest;
  is_prompt_newest = prompt-newest;
  is_message_newest = message-newest;
  frame_within = frame-within;
  status_within = status-within;
  prompt_within = prompt-within;
  message_within = message-within;
  frames_step = frames-step;
  documents_step = documents-step;
  frames_are = frames-are;
  document_within = document-within;
  last_document_step = last-document-step;
  last_document_within = last-within;
  parent_frame_older = parent-other;
  parent_frame_newest = parent-newest;
}
