-- Laws of the making of documents: it is settled by the document's own position, and an embedder is older.
use Rattle.std.specs.Prelude.{◌≡◌, ◌≢◌, ℕ, ◌<◌, ◌≤◌, IsTrue, ◌∷◌, length, Some, is_some}
use Rattle.pe_rules.specs.History.{Step, RepliedHistory}
use Rattle.pe_rules.specs.Numbering.{document_frame, documents_made, last_document}
use Rattle.pe_rules.specs.Making.{Making, making_by, making, frame_of}
use Rattle.pe_rules.specs.Activation.{is_one_of}

-- what holds of the making of documents
pub record MakingLaws : Type 0 where
  pub making_older : (s : Step) (T : RepliedHistory) (d : ℕ) → d ≢ length (s ∷ T) → making (s ∷ T) d ≡ making T d
  pub making_newest : (s : Step) (T : RepliedHistory) → making (s ∷ T) (length (s ∷ T)) ≡ making_by s.event T
  -- a document that was made is a position of the history
  pub making_within : (T : RepliedHistory) (d : ℕ) → IsTrue (is_some (making T d)) → (1 ≤ d) × (d ≤ length T)
  -- the documents that were made are those with a making
  pub documents_are : (T : RepliedHistory) (d : ℕ) → is_one_of (documents_made T) d ≡ is_some (making T d)
  -- an event that makes a document makes it in the frame of its making
  pub made_in_frame : (s : Step) (T : RepliedHistory) (m : Making) → making_by s.event T ≡ Some m → document_frame s.event (length (s ∷ T)) ≡ Some m.frame
  pub makes_in_frame : (s : Step) (T : RepliedHistory) (f : ℕ) → document_frame s.event (length (s ∷ T)) ≡ Some f → (m : Making) × (making_by s.event T ≡ Some m) × (m.frame ≡ f)
  pub frame_of_older : (s : Step) (T : RepliedHistory) (d : ℕ) → d ≢ length (s ∷ T) → frame_of (s ∷ T) d ≡ frame_of T d
  pub frame_of_newest : (s : Step) (T : RepliedHistory) (f : ℕ) → document_frame s.event (length (s ∷ T)) ≡ Some f → frame_of (s ∷ T) (length (s ∷ T)) ≡ f
  -- the last document of a frame was made there
  pub last_document_made : (T : RepliedHistory) (f d : ℕ) → last_document T f ≡ Some d → (m : Making) × (making T d ≡ Some m) × (m.frame ≡ f)
  -- an embedder was made, and is older than what is made in it
  pub embedder_older : (T : RepliedHistory) (d : ℕ) (m : Making) (p : ℕ) → making T d ≡ Some m → m.embedder ≡ Some p → (p < d) × IsTrue (is_some (making T p))
