-- For what delegating messages stand after a step, and what they say of the events that name them.
-- HTML Standard, "window post message steps", with Capability Delegation in outline.
use Rattle.std.specs.Prelude.{◌≡◌, ℕ, ◌+◌, ◌<◌, ◌≤◌, Bool, true, false, nat_le, nat_lt, IsTrue, List, [], ◌∷◌, ◌++◌, length, Option, Some, None, option_map, if◌then◌else◌}
use Rattle.std.specs.Option.{option_or}
use Rattle.pe_base.specs.declared.limits.TheConstants.{EVENT_LIMIT, MESSAGE_LIMIT}
use Rattle.pe_arena.specs.declared.handle.DocRef.{DocRef}
use Rattle.pe_arena.specs.declared.handle.Handle.{Handle}
use Rattle.pe_features.specs.declared.capability.Capability.{Capability}
use Rattle.pe_origin.specs.declared.origin.Origin.{Origin}
use Rattle.pe_delegation.specs.declared.delivery.Delivery.{Delivery}
use Rattle.pe_delegation.specs.declared.message.DeliverFault.TheVariants.{Unknown, Settled}
use Rattle.pe_delegation.specs.declared.message.Message.{Message}
use Rattle.pe_delegation.specs.Posted.{Posted, message_of, was_given, deliver_fault, waiting_count, without, delivery_to}
use Rattle.pe_events.specs.Timed.{Timed}
use Rattle.pe_events.specs.declared.answer.Answer.TheVariants as answer
use Rattle.pe_events.specs.declared.cause.Cause.{Cause}
use Rattle.pe_events.specs.declared.cause.Cause.TheVariants as cause
use Rattle.pe_events.specs.declared.event.Event.TheVariants as event
use Rattle.pe_rules.specs.History.{Replied, Step, RepliedHistory, History, some_if, clock}
use Rattle.pe_rules.specs.Numbering.{is_message}
use Rattle.pe_rules.specs.Embedders.{page_of_frame}
use Rattle.pe_rules.specs.Current.{document_in}
use Rattle.pe_rules.specs.Delegation as rules
use Rattle.pe_rules.specs.Delegation.{message_by, is_message_settled, waiting_messages, hands_over}
use Rattle.pe_rules.specs.Causes.{names_unknown, names_settled, exceeds_pending, first_some, cause_of}
use Rattle.pe_rules.specs.Replies.{answer_of, replied, is_regular}
use Rattle.pe_laws.specs.EffectsLaws.{effects_of}
use Rattle.pe_laws.specs.PromptsLaws.{step_of}
use Rattle.pe_messages.specs.Parts.{message_of_row, IsMessages, IsPost, AreAddressed, ShowsCurrent, AreShown, cause_of_fault, answer_by_delivery, is_put}

-- a frame that has a handle before has it afterwards
abbrev pub AreHandlesKept : (ℕ → Option Handle) → (ℕ → Option Handle) → Type 0
AreHandlesKept before after = (f : ℕ) (h : Handle) → before f ≡ Some h → after f ≡ Some h

-- what holds of messages that stand for steps
pub record MessageSteps : Type 0 where
  -- no messages stand for no steps
  pub start : IsMessages [] (record { waiting = []; given = [] })
  -- a delivery has a fault where its cause applies, the first of the two
  pub fault : (T : RepliedHistory) (posted : Posted) (m : ℕ) → IsMessages T posted
      → deliver_fault posted m ≡ (if names_unknown T (event.Deliver m) then Some Unknown else (if names_settled T (event.Deliver m) then Some Settled else None))
  -- so it is refused for the number of events, for the time, or else for that fault
  pub refused : (T : RepliedHistory) (posted : Posted) (now m : ℕ) → IsMessages T posted
      → cause_of T now (event.Deliver m)
      ≡ option_or (first_some (λ (x : Cause × Bool). some_if x.1 x.0) ((cause.LimitEvents, nat_le EVENT_LIMIT (length T)) ∷ (cause.TimeBack, nat_lt now (clock T)) ∷ []))
      (option_map cause_of_fault (deliver_fault posted m))
  -- as many messages of a page wait as the definitions say
  pub counted : (T : RepliedHistory) (posted : Posted) (page : ℕ) → IsMessages T posted → waiting_count page posted.waiting ≡ length (waiting_messages T page)
  -- so a post exceeds the limit where so many of the page of its sender wait
  pub limit : (T : RepliedHistory) (posted : Posted) (now sender target page : ℕ) (named : Option (List ℕ)) (capability : List ℕ) → IsMessages T posted → page_of_frame T sender ≡ Some page
      → exceeds_pending T now (event.Post sender target named capability) ≡ nat_le MESSAGE_LIMIT (waiting_count page posted.waiting)
  -- the numbers that were given are below the next position
  pub below : (T : RepliedHistory) (posted : Posted) (k : ℕ) → IsMessages T posted → was_given posted.given k ≡ true → k < length T + 1
  -- so a number that is no position of the history is unknown
  pub beyond : (T : RepliedHistory) (posted : Posted) (m : ℕ) → IsMessages T posted → (1 ≤ m → length T < m) → deliver_fault posted m ≡ Some Unknown
  -- a waiting message is the history's, and is not settled
  pub found : (T : RepliedHistory) (posted : Posted) (m : ℕ) (x : Message) → IsMessages T posted → message_of posted.waiting m ≡ Some x
      → (rules.message T m ≡ Some (message_of_row x)) × (is_message T m ≡ true) × (is_message_settled T m ≡ false)
  -- a delivery is answered by what comes of it
  pub answered : (duration : ℕ) (T : RepliedHistory) (posted : Posted) (now m : ℕ) (shown : DocRef → Option Origin) (delivery : Delivery) → IsMessages T posted → AreShown T shown posted.waiting
      → Some delivery ≡ option_map (λ x. delivery_to x (shown x.target)) (message_of posted.waiting m) → answer_of duration T now (event.Deliver m) ≡ answer_by_delivery delivery
  -- and gives a capability to a document where that comes of it
  pub handed : (duration : ℕ) (T : RepliedHistory) (posted : Posted) (now m d : ℕ) (capability : Capability) (shown : DocRef → Option Origin) (delivery : Delivery) → IsMessages T posted → AreShown T shown posted.waiting
      → Some delivery ≡ option_map (λ x. delivery_to x (shown x.target)) (message_of posted.waiting m)
      → hands_over (event.Deliver m) (Replied (answer_of duration T now (event.Deliver m))) T d capability ≡ is_put delivery d capability
  -- what a post posts is the message of these parts
  pub named : (T : RepliedHistory) (sender target : ℕ) (named : Option (List ℕ)) (capability : List ℕ) (x : Message) → IsPost T sender target named capability x
      → message_by (event.Post sender target named capability) T ≡ Some (message_of_row x)
  -- a step that posts nothing and settles no message leaves them
  pub quiet : (duration : ℕ) (H : History) (e : Timed) (posted : Posted) → (effects_of (step_of duration H e)).posts ≡ false → (effects_of (step_of duration H e)).settles_message ≡ false
      → IsMessages (replied duration H) posted → IsMessages (step_of duration H e ∷ replied duration H) posted
  -- after a post that made a message
  pub posted : (duration : ℕ) (H : History) (e : Timed) (sender target : ℕ) (named : Option (List ℕ)) (capability : List ℕ) (no : ℕ) (x : Message) (old new : Posted) → IsTrue (is_regular duration H)
      → e.event ≡ event.Post sender target named capability → IsPost (replied duration H) sender target named capability x
      → answer_of duration (replied duration H) e.time e.event ≡ answer.MessageMade no
      → IsMessages (replied duration H) old → new.waiting ≡ old.waiting ++ (no, x) ∷ [] → new.given ≡ old.given ++ no ∷ [] → IsMessages (step_of duration H e ∷ replied duration H) new
  -- after a delivery, whatever came of it
  pub delivered : (duration : ℕ) (H : History) (e : Timed) (m : ℕ) (old new : Posted) → e.event ≡ event.Deliver m
      → IsMessages (replied duration H) old → new.waiting ≡ without m old.waiting → new.given ≡ old.given → IsMessages (step_of duration H e ∷ replied duration H) new
  -- frames that show each document under the handle of its frame show those to which messages were posted
  pub shown : (T : RepliedHistory) (handle_of : ℕ → Option Handle) (shown : DocRef → Option Origin) (waiting : List (ℕ × Message)) → ShowsCurrent T handle_of shown → AreAddressed T handle_of waiting → AreShown T shown waiting
  -- the handles of those documents stay, however many frames have one afterwards: after a step that leaves the messages, after a post to the document of a frame, and after a delivery
  pub addressed_quiet : (s : Step) (T : RepliedHistory) (before after : ℕ → Option Handle) (posted : Posted) → IsMessages T posted → AreHandlesKept before after
      → AreAddressed T before posted.waiting → AreAddressed (s ∷ T) after posted.waiting
  pub addressed_posted : (s : Step) (T : RepliedHistory) (before after : ℕ → Option Handle) (target no : ℕ) (x : Message) (old new : Posted) → IsMessages T old → AreHandlesKept before after
      → document_in T target ≡ Some x.target.doc → before target ≡ Some x.target.at
      → AreAddressed T before old.waiting → new.waiting ≡ old.waiting ++ (no, x) ∷ [] → AreAddressed (s ∷ T) after new.waiting
  pub addressed_delivered : (s : Step) (T : RepliedHistory) (before after : ℕ → Option Handle) (m : ℕ) (old new : Posted) → IsMessages T old → AreHandlesKept before after
      → AreAddressed T before old.waiting → new.waiting ≡ without m old.waiting → AreAddressed (s ∷ T) after new.waiting
