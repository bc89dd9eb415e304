-- Laws of the history: its positions, its clock, and that what was told of it stays.
use Rattle.std.specs.Prelude.{◌≡◌, ◌≢◌, ℕ, ◌≤◌, IsTrue, [], ◌∷◌, ◌++◌, length, Some}
use Rattle.pe_events.specs.Timed.{Timed}
use Rattle.pe_rules.specs.History.{Step, RepliedHistory, History, clock, step_at, steps_since}
use Rattle.pe_rules.specs.Replies.{step_answer, replied, is_regular, accepts}
use Rattle.pe_laws.specs.Continued.{IsContinued, IsAnsweredOn}

-- what holds of the steps of a history
pub record StepLaws : Type 0 where
  -- as a history goes on, the steps of the longer one end, newest first, with those of the shorter one
  pub continued : (duration : ℕ) (newer H : History) → IsContinued (replied duration (newer ++ H)) (replied duration H) (length newer)
  -- and what was told, oldest first, begins with what was told of the shorter one, with one answer more for each event more
  pub answered_on : (duration : ℕ) (newer H : History) → IsAnsweredOn (replied duration (newer ++ H)) (replied duration H) (length newer)
  -- nothing was told at first
  pub told_start : (duration : ℕ) → replied duration [] ≡ []
  -- of one more event its answer is told after the steps before it
  pub told_step : (duration : ℕ) (e : Timed) (H : History)
      → replied duration (e ∷ H) ≡ record { time = e.time; event = e.event; item = step_answer duration (replied duration H) e.time e.event } ∷ replied duration H
  -- as much was told as happened
  pub told_length : (duration : ℕ) (H : History) → length (replied duration H) ≡ length H
  -- the clock is 0 at first
  pub clock_start : clock [] ≡ 0
  -- the clock is the time of the last event
  pub clock_step : (s : Step) (T : RepliedHistory) → clock (s ∷ T) ≡ s.time
  -- the step at an older position stays
  pub step_at_older : (s : Step) (T : RepliedHistory) (k : ℕ) → k ≢ length (s ∷ T) → step_at (s ∷ T) k ≡ step_at T k
  -- the newest position has the newest step
  pub step_at_newest : (s : Step) (T : RepliedHistory) → step_at (s ∷ T) (length (s ∷ T)) ≡ Some (s, T)
  -- a step stands at the position that counts it and those before it
  pub step_at_position : (T : RepliedHistory) (k : ℕ) (a : Step × RepliedHistory) → step_at T k ≡ Some a → (length (a.0 ∷ a.1) ≡ k) × (k ≤ length T)
  -- no step is after the last position
  pub since_newest : (T : RepliedHistory) (k : ℕ) → length T ≤ k → steps_since T k ≡ []
  -- the newest step is after each older position
  pub since_older : (s : Step) (T : RepliedHistory) (k : ℕ) → k ≤ length T → steps_since (s ∷ T) k ≡ s ∷ steps_since T k
  -- what went before the last event of a regular history is regular, and the event is accepted after it
  pub regular_step : (duration : ℕ) (e : Timed) (H : History)
      → IsTrue (is_regular duration (e ∷ H)) → IsTrue (is_regular duration H) × IsTrue (accepts duration H e)
