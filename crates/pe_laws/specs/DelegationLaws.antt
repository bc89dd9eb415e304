-- Laws of delegating messages, and of the capabilities that documents hold by them: what one step makes of them.
use Rattle.std.specs.Prelude.{◌≡◌, ℕ, ◌+◌, ◌<◌, ◌≤◌, true, false, not, ◌&&◌, ◌||◌, ◌==◌, nat_lt, IsTrue, ◌∷◌, ◌++◌, length, filter, Option, Some, None, unwrap_or, option_map, option_and_then, option_to_list, if◌then◌else◌}
use Rattle.pe_features.specs.declared.capability.Capability.{Capability}
use Rattle.pe_events.specs.Timed.{Timed}
use Rattle.pe_events.specs.declared.event.Event.TheVariants as event
use Rattle.pe_rules.specs.History.{Step, RepliedHistory, History, some_if}
use Rattle.pe_rules.specs.Numbering.{makes_message, is_message}
use Rattle.pe_rules.specs.Making.{frame_of}
use Rattle.pe_rules.specs.Activation.{is_one_of}
use Rattle.pe_rules.specs.Delegation.{Message, message_by, message, is_delivery_of, is_message_settled, is_waiting_in, waiting_messages, hands_over, spends, last_delivery, is_spent_since, has_delegated}
use Rattle.pe_rules.specs.Replies.{replied, is_regular}
use Rattle.pe_laws.specs.EffectsLaws.{effects_of}
use Rattle.pe_laws.specs.PromptsLaws.{step_of}

-- the time of the last delivery of the capability to document d, where it was not spent since
unfoldable pub delegated_at : RepliedHistory → ℕ → Capability → Option ℕ
delegated_at T d capability = option_and_then (λ last. some_if (not (is_spent_since T last.0 (frame_of T d) capability)) last.1) (last_delivery T d capability)

-- what holds of messages and of delegated capabilities
pub record DelegationLaws : Type 0 where
  -- a message that was there before a step stays, and the newest position has the one that the step posts
  pub message_older : (s : Step) (T : RepliedHistory) (m : ℕ) → m ≤ length T → message (s ∷ T) m ≡ message T m
  pub message_newest : (s : Step) (T : RepliedHistory) → message (s ∷ T) (length (s ∷ T)) ≡ message_by s.event T
  -- a message and its target document are positions of the history
  pub message_within : (T : RepliedHistory) (m : ℕ) (x : Message) → message T m ≡ Some x → (1 ≤ m) × (m ≤ length T) × (1 ≤ x.target) × (x.target < m)
  -- a number that was that of a message stays one, and a step that posts nothing makes none
  pub is_message_kept : (s : Step) (T : RepliedHistory) (m : ℕ) → is_message T m ≡ true → is_message (s ∷ T) m ≡ true
  pub told_left : (duration : ℕ) (H : History) (e : Timed) → (effects_of (step_of duration H e)).posts ≡ false → makes_message (step_of duration H e).item ≡ false
  pub is_message_stays : (duration : ℕ) (H : History) (e : Timed) (m : ℕ) → (effects_of (step_of duration H e)).posts ≡ false
      → is_message (replied duration (e ∷ H)) m ≡ is_message (replied duration H) m
  -- a step settles exactly the message that its delivery names
  pub settled_step : (s : Step) (T : RepliedHistory) (m : ℕ) → is_message_settled (s ∷ T) m ≡ (is_delivery_of s.event m || is_message_settled T m)
  pub settled_stays : (s : Step) (T : RepliedHistory) (m : ℕ) → (effects_of s).settles_message ≡ false → is_message_settled (s ∷ T) m ≡ is_message_settled T m
  -- in a regular history a settled message was made
  pub settled_made : (duration : ℕ) (H : History) (m : ℕ) → IsTrue (is_regular duration H) → is_message_settled (replied duration H) m ≡ true → is_message (replied duration H) m ≡ true
  -- the waiting messages of a page are the messages that wait in it
  pub waiting_are : (T : RepliedHistory) (top m : ℕ) → is_one_of (waiting_messages T top) m ≡ (is_message T m && is_waiting_in T top m)
  -- in a regular history a new message comes last among the waiting ones of the page of its sender
  pub waiting_made : (duration : ℕ) (H : History) (e : Timed) (top : ℕ) → IsTrue (is_regular duration H) → makes_message (step_of duration H e).item ≡ true
      → waiting_messages (replied duration (e ∷ H)) top ≡ waiting_messages (replied duration H) top
      ++ option_to_list (some_if (unwrap_or (option_map (λ x. x.page == top) (message_by e.event (replied duration H))) false) (length (replied duration (e ∷ H))))
  -- a delivery removes exactly the message that it names, whatever was told
  pub waiting_delivered : (duration : ℕ) (H : History) (e : Timed) (m top : ℕ) → e.event ≡ event.Deliver m
      → waiting_messages (replied duration (e ∷ H)) top ≡ filter (λ j. not (m == j)) (waiting_messages (replied duration H) top)
  -- where the table of effects says no, they stay
  pub waiting_stay : (duration : ℕ) (H : History) (e : Timed) (top : ℕ) → (effects_of (step_of duration H e)).posts ≡ false → (effects_of (step_of duration H e)).settles_message ≡ false
      → waiting_messages (replied duration (e ∷ H)) top ≡ waiting_messages (replied duration H) top
  -- a document holds a capability where its last delivery that was not spent since is younger than the duration
  pub has_delegated_is : (duration : ℕ) (T : RepliedHistory) (now d : ℕ) (capability : Capability)
      → has_delegated duration T now d capability ≡ unwrap_or (option_map (λ time. nat_lt now (time + duration)) (delegated_at T d capability)) false
  -- after a step, of a document that was there: a delivery sets the time, a use that was met by the capability in the document's frame spends it, else it is as before
  pub delegated_step : (s : Step) (T : RepliedHistory) (d : ℕ) (capability : Capability) → d ≤ length T
      → delegated_at (s ∷ T) d capability
      ≡ (if hands_over s.event s.item T d capability then Some s.time else (if spends s.event s.item (frame_of T d) capability then None else delegated_at T d capability))
  -- the newest position holds none, nor does a number beyond it
  pub delegated_newest : (s : Step) (T : RepliedHistory) (capability : Capability) → delegated_at (s ∷ T) (length (s ∷ T)) capability ≡ None
  pub delegated_beyond : (T : RepliedHistory) (d : ℕ) (capability : Capability) → length T ≤ d → delegated_at T d capability ≡ None
  -- where the table of effects says no, all stay
  pub delegated_stays : (s : Step) (T : RepliedHistory) (d : ℕ) (capability : Capability) → (effects_of s).delivers ≡ false → (effects_of s).spends ≡ false
      → delegated_at (s ∷ T) d capability ≡ delegated_at T d capability
  pub has_delegated_stays : (duration : ℕ) (s : Step) (T : RepliedHistory) (now d : ℕ) (capability : Capability) → (effects_of s).delivers ≡ false → (effects_of s).spends ≡ false
      → has_delegated duration (s ∷ T) now d capability ≡ has_delegated duration T now d capability
