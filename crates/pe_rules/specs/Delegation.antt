-- Delegating messages, and the capabilities that documents hold by them.
-- HTML Standard, "window post message steps", with Capability Delegation in outline.
-- The tests and their order, and that a capability lasts for the duration until a use spends it, are this project's own.
use Rattle.std.specs.Prelude.{ℕ, ◌+◌, Bool, true, false, not, ◌&&◌, ◌==◌, nat_lt, List, ◌∷◌, length, filter, Option, None, is_some, unwrap_or, option_map, option_and_then}
use Rattle.pe_features.specs.declared.capability.Capability.{Capability}
use Rattle.pe_features.specs.Calls.{call_named, gate_of}
use Rattle.pe_features.specs.Capabilities.{capability_named, feature_of}
use Rattle.pe_features.specs.Features.{same_feature}
use Rattle.pe_origin.specs.declared.origin.Origin.{Origin}
use Rattle.pe_events.specs.declared.answer.Answer.TheVariants as answer
use Rattle.pe_events.specs.declared.event.Event.{Event}
use Rattle.pe_events.specs.declared.event.Event.TheVariants as event
use Rattle.pe_events.specs.declared.reason.Verdict.TheVariants as verdict
use Rattle.pe_events.specs.declared.reason.Via.TheVariants as via
use Rattle.pe_rules.specs.History.{StepAnswer, Replied, Judged, RepliedHistory, some_if, newest_answer, step_at}
use Rattle.pe_rules.specs.Numbering.{numbers_made, makes_message}
use Rattle.pe_rules.specs.Making.{frame_of}
use Rattle.pe_rules.specs.Embedders.{page_of_frame}
use Rattle.pe_rules.specs.Current.{document_in}
use Rattle.pe_rules.specs.Settings.{word_origin}

-- a message: the page in which it was posted, its target document, the origin that it names, its capability
pub record Message : Type 0 where
  pub page : ℕ
  pub target : ℕ
  pub origin : Option Origin
  pub capability : Capability

-- the two capabilities are one
abbrev pub is_same_capability : Capability → Capability → Bool
is_same_capability a b = same_feature (feature_of a) (feature_of b)

-- the message that the event posts after these steps
abbrev pub message_by : Event → RepliedHistory → Option Message
message_by (event.Post sender target named capability) B =
    option_and_then (λ d. option_and_then (λ p. option_map (λ c. record { page = p; target = d; origin = option_and_then word_origin named; capability = c }) (capability_named capability)) (page_of_frame B sender)) (document_in B target)
message_by e B = None

-- the message of a number
unfoldable pub message : RepliedHistory → ℕ → Option Message
message T m = option_and_then (λ a. message_by a.0.event a.1) (step_at T m)

-- the event is a delivery of the message, whatever comes of it
abbrev pub is_delivery_of : Event → ℕ → Bool
is_delivery_of (event.Deliver message) m = message == m
is_delivery_of e m = false

-- the message is settled: a delivery names it, whatever was told
unfoldable pub is_message_settled : RepliedHistory → ℕ → Bool
is_message_settled T m = is_some (newest_answer (λ s B. some_if (is_delivery_of s.event m) m) T)

-- the message is one of the page that is not settled
abbrev pub is_waiting_in : RepliedHistory → ℕ → ℕ → Bool
is_waiting_in T top m = not (is_message_settled T m) && unwrap_or (option_map (λ x. x.page == top) (message T m)) false

-- the messages of a page that are not settled
unfoldable pub waiting_messages : RepliedHistory → ℕ → List ℕ
waiting_messages T top = filter (is_waiting_in T top) (numbers_made (λ s. makes_message s.item) T)

-- what was told is that a message was delivered
abbrev pub is_delivered : StepAnswer → Bool
is_delivered (Replied answer.Delivered) = true
is_delivered item = false

-- the message is for document d and has this capability
abbrev pub is_message_for : RepliedHistory → ℕ → ℕ → Capability → Bool
is_message_for B m d capability = unwrap_or (option_map (λ x. x.target == d && is_same_capability x.capability capability) (message B m)) false

-- the event, of which this was told, delivers the capability to document d
abbrev pub hands_over : Event → StepAnswer → RepliedHistory → ℕ → Capability → Bool
hands_over (event.Deliver m) item B d capability = is_delivered item && is_message_for B m d capability
hands_over e item B d capability = false

-- what was told is that a use was met by a delegated capability
abbrev pub is_by_delegated : StepAnswer → Bool
is_by_delegated (Judged (verdict.Allowed via.Delegated)) = true
is_by_delegated item = false

-- a call of this name may be met by the capability
abbrev pub is_call_of : List ℕ → Capability → Bool
is_call_of name capability = unwrap_or (option_map (is_same_capability capability) (option_and_then (λ call. (gate_of call).capability) (call_named name))) false

-- the event, of which this was told, spends the capability of the frame's document; the frame is enough, since a document that is current is that of its frame from its making on
abbrev pub spends : Event → StepAnswer → ℕ → Capability → Bool
spends (event.UseCall frame call) item f capability = is_by_delegated item && frame == f && is_call_of call capability
spends e item f capability = false

-- the last delivery of the capability to document d: its position and its time
unfoldable pub last_delivery : RepliedHistory → ℕ → Capability → Option (ℕ × ℕ)
last_delivery T d capability = newest_answer (λ s B. some_if (hands_over s.event s.item B d capability) (length (s ∷ B), s.time)) T

-- the capability was spent in the frame after a position
unfoldable pub is_spent_since : RepliedHistory → ℕ → ℕ → Capability → Bool
is_spent_since T position f capability = is_some (newest_answer (λ s B. some_if (nat_lt position (length (s ∷ B)) && spends s.event s.item f capability) position) T)

-- document d holds the capability: its last delivery is younger than the duration, and it was not spent since
unfoldable pub has_delegated : ℕ → RepliedHistory → ℕ → ℕ → Capability → Bool
has_delegated duration T now d capability =
    unwrap_or (option_map (λ last. nat_lt now (last.1 + duration) && not (is_spent_since T last.0 (frame_of T d) capability)) (last_delivery T d capability)) false
