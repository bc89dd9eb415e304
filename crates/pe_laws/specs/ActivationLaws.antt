-- Laws of user activation: the stamp of a document step by step, what the stamp says, and how many documents an event activates.
use Rattle.std.specs.Prelude.{◌≡◌, ℕ, ◌<◌, ◌≤◌, Bool, false, IsTrue, [], ◌∷◌, length, filter, None, unwrap_or, option_map, if◌then◌else◌}
use Rattle.pe_base.specs.declared.input.Stamp.{Stamp}
use Rattle.pe_base.specs.declared.input.Stamp.TheVariants as stamp
use Rattle.pe_base.specs.Activation.{is_sticky, is_transient}
use Rattle.pe_rules.specs.History.{Step, RepliedHistory, History, clock}
use Rattle.pe_rules.specs.Numbering.{frames_made}
use Rattle.pe_rules.specs.Making.{making}
use Rattle.pe_rules.specs.Embedders.{page}
use Rattle.pe_rules.specs.Current.{is_current, document_in, is_live}
use Rattle.pe_rules.specs.Replies.{replied, is_regular}
use Rattle.pe_rules.specs.Activation.{activates, activated_count, consumes, has_sticky, has_transient, stamp_of}
use Rattle.pe_events.specs.declared.event.Event.{Event}

-- what consuming leaves of a stamp: never stays never
abbrev pub consumed_stamp : Stamp → Stamp
consumed_stamp stamp.Never = stamp.Never
consumed_stamp other = stamp.Consumed

-- the stamp of a document after a step, by the one before: the time where the step activates it, else consumed where it consumes
abbrev pub stamp_after : Step → RepliedHistory → ℕ → Stamp → Stamp
stamp_after s T d before = if activates s.event T d then stamp.At s.time else if consumes s T (page T d) then consumed_stamp before else before

-- the event, after these steps, activates the document that the frame shows
abbrev pub activates_in : Event → RepliedHistory → ℕ → Bool
activates_in e T f = unwrap_or (option_map (activates e T) (document_in T f)) false

-- what holds of user activation
pub record ActivationLaws : Type 0 where
  -- an event activates documents that are current, and so were made before it
  pub activates_current : (e : Event) (T : RepliedHistory) (d : ℕ) → IsTrue (activates e T d) → IsTrue (is_current T d)
  pub activates_within : (e : Event) (T : RepliedHistory) (d : ℕ) → length T < d → activates e T d ≡ false
  -- no document has a stamp at first
  pub stamp_start : (d : ℕ) → stamp_of [] d ≡ stamp.Never
  -- the stamp of any number after a step, by the one before
  pub stamp_step : (s : Step) (T : RepliedHistory) (d : ℕ) → stamp_of (s ∷ T) d ≡ stamp_after s T d (stamp_of T d)
  -- a document that the step makes has none, since nothing activates what was not made
  pub stamp_newest : (s : Step) (T : RepliedHistory) → stamp_of (s ∷ T) (length (s ∷ T)) ≡ stamp.Never
  -- nor has a number beyond the history, or one that is not of a document
  pub stamp_beyond : (T : RepliedHistory) (d : ℕ) → length T < d → stamp_of T d ≡ stamp.Never
  pub stamp_unmade : (T : RepliedHistory) (d : ℕ) → making T d ≡ None → stamp_of T d ≡ stamp.Never
  -- sticky activation is what the stamp says
  pub sticky_by_stamp : (T : RepliedHistory) (d : ℕ) → has_sticky T d ≡ is_sticky (stamp_of T d)
  -- transient activation is what the stamp says
  pub transient_by_stamp : (duration : ℕ) (T : RepliedHistory) (now d : ℕ) → has_transient duration T now d ≡ is_transient duration now (stamp_of T d)
  -- in a regular history the time of a stamp is at most the clock
  pub stamp_time : (duration : ℕ) (H : History) (d time : ℕ) → IsTrue (is_regular duration H) → stamp_of (replied duration H) d ≡ stamp.At time → time ≤ clock (replied duration H)
  -- in a regular history an event activates as many documents as there are live frames that show one that it activates
  pub activated_in_frames : (duration : ℕ) (H : History) (e : Event) → IsTrue (is_regular duration H)
      → activated_count e (replied duration H) ≡ length (filter (activates_in e (replied duration H)) (filter (is_live (replied duration H)) (frames_made (replied duration H))))
