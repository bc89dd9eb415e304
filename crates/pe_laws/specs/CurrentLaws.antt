-- Laws of current documents and live frames: what one step leaves, and what is gone stays gone.
use Rattle.std.specs.Prelude.{◌≡◌, ◌≢◌, ℕ, ◌≤◌, false, not, ◌&&◌, IsTrue, ◌∷◌, ◌++◌, length, Option, Some, None, is_some, option_and_then}
use Rattle.pe_rules.specs.History.{Step, RepliedHistory, History, some_if}
use Rattle.pe_rules.specs.Numbering.{is_frame, document_frame}
use Rattle.pe_rules.specs.Making.{making_by, frame_of}
use Rattle.pe_rules.specs.Current.{ends, frames_above, is_current, document_in, is_live}
use Rattle.pe_rules.specs.Replies.{replied, is_regular}

-- the document that stays in a frame, where the event does not end it
abbrev pub left_in : Step → RepliedHistory → Option ℕ → Option ℕ
left_in s T o = option_and_then (λ d. some_if (not (ends (frames_above T d) s.event)) d) o

-- what holds of current documents and live frames
pub record CurrentLaws : Type 0 where
  pub frames_above_older : (s : Step) (T : RepliedHistory) (d : ℕ) → d ≤ length T → frames_above (s ∷ T) d ≡ frames_above T d
  -- a document is current after a step where it was, and the event ends none of the frames of its chain
  pub is_current_older : (s : Step) (T : RepliedHistory) (d : ℕ) → d ≤ length T → is_current (s ∷ T) d ≡ (is_current T d && not (ends (frames_above T d) s.event))
  -- a document that the step makes is current
  pub is_current_newest : (s : Step) (T : RepliedHistory) → is_current (s ∷ T) (length (s ∷ T)) ≡ is_some (making_by s.event T)
  -- a current document is a position of the history
  pub is_current_within : (T : RepliedHistory) (d : ℕ) → IsTrue (is_current T d) → (1 ≤ d) × (d ≤ length T)
  -- a document that was there before an event and was not current is not current after it
  pub gone_at_step : (s : Step) (T : RepliedHistory) (d : ℕ) → d ≤ length T → is_current T d ≡ false → is_current (s ∷ T) d ≡ false
  -- nor ever again, however the history goes on
  pub gone_for_good : (newer T : RepliedHistory) (d : ℕ) → d ≤ length T → is_current T d ≡ false → is_current (newer ++ T) d ≡ false
  -- the document of a frame in which the step makes one, of another frame, and where it makes none
  pub document_in_made : (s : Step) (T : RepliedHistory) (f : ℕ) → document_frame s.event (length (s ∷ T)) ≡ Some f → document_in (s ∷ T) f ≡ Some (length (s ∷ T))
  pub document_in_beside : (s : Step) (T : RepliedHistory) (f g : ℕ) → document_frame s.event (length (s ∷ T)) ≡ Some g → g ≢ f → document_in (s ∷ T) f ≡ left_in s T (document_in T f)
  pub document_in_other : (s : Step) (T : RepliedHistory) (f : ℕ) → document_frame s.event (length (s ∷ T)) ≡ None → document_in (s ∷ T) f ≡ left_in s T (document_in T f)
  -- the document of a frame is current, and was made there
  pub document_in_frame : (T : RepliedHistory) (f d : ℕ) → document_in T f ≡ Some d → IsTrue (is_current T d) × (frame_of T d ≡ f) × (1 ≤ d) × (d ≤ length T)
  -- in a regular history a current document is the one of its frame
  pub shown_in_frame : (duration : ℕ) (H : History) (d : ℕ) → IsTrue (is_regular duration H)
      → IsTrue (is_current (replied duration H) d) → document_in (replied duration H) (frame_of (replied duration H) d) ≡ Some d
  -- in a regular history a live frame was made, and its number is that of a frame
  pub live_is_frame : (duration : ℕ) (H : History) (f : ℕ) → IsTrue (is_regular duration H)
      → IsTrue (is_live (replied duration H) f) → IsTrue (is_frame (replied duration H) f)
  pub live_frame_made : (duration : ℕ) (H : History) (f : ℕ) → IsTrue (is_regular duration H)
      → IsTrue (is_live (replied duration H) f) → (1 ≤ f) × (f ≤ length (replied duration H))
