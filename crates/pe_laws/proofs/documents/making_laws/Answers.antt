use Rattle.pe_laws.proofs.Making.{making-other, making-newest, making-within, documents-are, made-in-frame, makes-in-frame, frame-of-other, frame-of-newest, last-made, embedder-older}
use Rattle.pe_laws.proofs.documents.making_laws.Goals as goal

pub returns : goal.returns
returns c = record {
  making_older = making-other;
  making_newest = making-newest;
  making_within = making-within;
  documents_are = documents-are;
  made_in_frame = made-in-frame;
  makes_in_frame = makes-in-frame;
  frame_of_older = frame-of-other;
  frame_of_newest = frame-of-newest;
  last_document_made = last-made;
  embedder_older = embedder-older;
}
