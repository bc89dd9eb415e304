-- Laws of the numbering: of an older number everything stays, and what one step adds.
use Rattle.std.specs.Prelude.{◌≡◌, ◌≢◌, ℕ, ◌≤◌, ◌==◌, IsTrue, ◌∷◌, ◌++◌, length, Some, is_some, option_and_then, option_to_list}
use Rattle.std.specs.Option.{option_or}
use Rattle.pe_rules.specs.History.{Step, RepliedHistory, some_if}
use Rattle.pe_rules.specs.Numbering.{makes_frame, document_frame, makes_status, makes_prompt, makes_message, is_frame, is_status, is_prompt, is_message, frames_made, documents_made, last_document, parent_by, parent_frame}
use Rattle.pe_rules.specs.Activation.{is_one_of}

-- what holds of the numbers that events make
pub record NumberingLaws : Type 0 where
  -- whether a number is that of a frame, a status, a prompt or a message is settled by its own position
  pub is_frame_older : (s : Step) (T : RepliedHistory) (k : ℕ) → k ≢ length (s ∷ T) → is_frame (s ∷ T) k ≡ is_frame T k
  pub is_status_older : (s : Step) (T : RepliedHistory) (k : ℕ) → k ≢ length (s ∷ T) → is_status (s ∷ T) k ≡ is_status T k
  pub is_prompt_older : (s : Step) (T : RepliedHistory) (k : ℕ) → k ≢ length (s ∷ T) → is_prompt (s ∷ T) k ≡ is_prompt T k
  pub is_message_older : (s : Step) (T : RepliedHistory) (k : ℕ) → k ≢ length (s ∷ T) → is_message (s ∷ T) k ≡ is_message T k
  pub is_frame_newest : (s : Step) (T : RepliedHistory) → is_frame (s ∷ T) (length (s ∷ T)) ≡ makes_frame s.event
  pub is_status_newest : (s : Step) (T : RepliedHistory) → is_status (s ∷ T) (length (s ∷ T)) ≡ makes_status s.event
  pub is_prompt_newest : (s : Step) (T : RepliedHistory) → is_prompt (s ∷ T) (length (s ∷ T)) ≡ makes_prompt s.item
  pub is_message_newest : (s : Step) (T : RepliedHistory) → is_message (s ∷ T) (length (s ∷ T)) ≡ makes_message s.item
  -- numbers that were made are positions of the history
  pub frame_within : (T : RepliedHistory) (k : ℕ) → IsTrue (is_frame T k) → (1 ≤ k) × (k ≤ length T)
  pub status_within : (T : RepliedHistory) (k : ℕ) → IsTrue (is_status T k) → (1 ≤ k) × (k ≤ length T)
  pub prompt_within : (T : RepliedHistory) (k : ℕ) → IsTrue (is_prompt T k) → (1 ≤ k) × (k ≤ length T)
  pub message_within : (T : RepliedHistory) (k : ℕ) → IsTrue (is_message T k) → (1 ≤ k) × (k ≤ length T)
  -- one step adds the frame and the document that it makes, in front
  pub frames_step : (s : Step) (T : RepliedHistory) → frames_made (s ∷ T) ≡ option_to_list (some_if (makes_frame s.event) (length (s ∷ T))) ++ frames_made T
  pub documents_step : (s : Step) (T : RepliedHistory) → documents_made (s ∷ T) ≡ option_to_list (some_if (is_some (document_frame s.event 0)) (length (s ∷ T))) ++ documents_made T
  -- the frames that were made are the numbers of frames
  pub frames_are : (T : RepliedHistory) (k : ℕ) → is_one_of (frames_made T) k ≡ is_frame T k
  -- the documents that were made are positions of the history
  pub document_within : (T : RepliedHistory) (d : ℕ) → IsTrue (is_one_of (documents_made T) d) → (1 ≤ d) × (d ≤ length T)
  -- the last document of a frame after a step: the one that it makes there, else the one before
  pub last_document_step : (s : Step) (T : RepliedHistory) (f : ℕ)
      → last_document (s ∷ T) f ≡ option_or (option_and_then (λ g. some_if (g == f) (length (s ∷ T))) (document_frame s.event (length (s ∷ T)))) (last_document T f)
  pub last_document_within : (T : RepliedHistory) (f d : ℕ) → last_document T f ≡ Some d → (1 ≤ d) × (d ≤ length T)
  -- the parent of a frame is settled by its own position
  pub parent_frame_older : (s : Step) (T : RepliedHistory) (f : ℕ) → f ≢ length (s ∷ T) → parent_frame (s ∷ T) f ≡ parent_frame T f
  pub parent_frame_newest : (s : Step) (T : RepliedHistory) → parent_frame (s ∷ T) (length (s ∷ T)) ≡ parent_by s.event
