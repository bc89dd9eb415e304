-- What delegating messages stand for, and what a delivery tells.
-- HTML Standard, "window post message steps", with Capability Delegation in outline.
-- This project's own: a part of the one relation between an engine and the list of accepted events.
use Rattle.std.specs.Prelude.{◌≡◌, ℕ, Bool, false, not, ◌&&◌, ◌==◌, List, filter, Option, Some, is_some, option_and_then}
use Rattle.std.specs.Map.{keys_of}
use Rattle.pe_arena.specs.declared.handle.DocRef.{DocRef}
use Rattle.pe_arena.specs.declared.handle.Handle.{Handle}
use Rattle.pe_features.specs.declared.capability.Capability.{Capability}
use Rattle.pe_features.specs.Capabilities.{capability_named}
use Rattle.pe_origin.specs.declared.origin.Origin.{Origin}
use Rattle.pe_delegation.specs.declared.delivery.Delivery.{Delivery}
use Rattle.pe_delegation.specs.declared.delivery.Delivery.TheVariants.{Put, Gone, OtherOrigin}
use Rattle.pe_delegation.specs.declared.message.DeliverFault.{DeliverFault}
use Rattle.pe_delegation.specs.declared.message.DeliverFault.TheVariants.{Unknown, Settled}
use Rattle.pe_delegation.specs.declared.message.Message.{Message}
use Rattle.pe_delegation.specs.Posted.{Posted, message_of, was_given}
use Rattle.pe_events.specs.declared.answer.Answer.{Answer}
use Rattle.pe_events.specs.declared.answer.Answer.TheVariants as answer
use Rattle.pe_events.specs.declared.cause.Cause.{Cause}
use Rattle.pe_events.specs.declared.cause.Cause.TheVariants as cause
use Rattle.pe_rules.specs.History.{RepliedHistory, some_if}
use Rattle.pe_rules.specs.Numbering.{is_message}
use Rattle.pe_rules.specs.Making.{frame_of}
use Rattle.pe_rules.specs.Embedders.{page_of_frame}
use Rattle.pe_rules.specs.Current.{is_current, document_in}
use Rattle.pe_rules.specs.Origins.{origin_of}
use Rattle.pe_rules.specs.Settings.{word_origin}
use Rattle.pe_rules.specs.Delegation as rules
use Rattle.pe_rules.specs.Delegation.{is_same_capability, is_message_settled, waiting_messages}
use Rattle.pe_laws.specs.StatusesLaws.{Each}

-- ---- the messages

-- a waiting message as the history has it; a message that was made always names an origin
abbrev pub message_of_row : Message → rules.Message
message_of_row x = record { page = x.page; target = x.target.doc; origin = Some x.origin; capability = x.capability }

-- the numbers of the messages of a page, in their order
abbrev pub numbers_of_page : ℕ → List (ℕ × Message) → List ℕ
numbers_of_page top es = keys_of (filter (λ e. e.1.page == top) es)

-- the messages stand for these steps: the numbers are those of messages, each that waits is the history's of its number, a number waits where it is that of a message that is not settled, and those of a page are its waiting ones in order
pub record IsMessages (T : RepliedHistory) (posted : Posted) : Type 0 where
  pub given : (m : ℕ) → was_given posted.given m ≡ is_message T m
  pub kept : Each (λ e. rules.message T e.0 ≡ Some (message_of_row e.1)) posted.waiting
  pub unsettled : (m : ℕ) → is_some (message_of posted.waiting m) ≡ (is_message T m && not (is_message_settled T m))
  pub listed : (top : ℕ) → numbers_of_page top posted.waiting ≡ waiting_messages T top

-- the message is what a post from one frame to another posts: the page of the one, the document of the other, and what the words for the origin and the capability name
pub record IsPost (T : RepliedHistory) (sender target : ℕ) (named : Option (List ℕ)) (capability : List ℕ) (x : Message) : Type 0 where
  pub page : page_of_frame T sender ≡ Some x.page
  pub document : document_in T target ≡ Some x.target.doc
  pub origin : option_and_then word_origin named ≡ Some x.origin
  pub delegated : capability_named capability ≡ Some x.capability

-- ---- the documents to which they are posted

-- each waiting message has the handle of the frame of the document to which it was posted
abbrev pub AreAddressed : RepliedHistory → (ℕ → Option Handle) → List (ℕ × Message) → Type 0
AreAddressed T handle_of waiting = Each (λ e. handle_of (frame_of T e.1.target.doc) ≡ Some e.1.target.at) waiting

-- of each document, under the handle of its frame, this shows the origin while the document is current, and nothing otherwise
abbrev pub ShowsCurrent : RepliedHistory → (ℕ → Option Handle) → (DocRef → Option Origin) → Type 0
ShowsCurrent T handle_of shown = (d : ℕ) (h : Handle) → handle_of (frame_of T d) ≡ Some h → shown (record { at = h; doc = d }) ≡ some_if (is_current T d) (origin_of T d)

-- of each document to which a waiting message was posted this shows the origin while the document is current, and nothing otherwise
abbrev pub AreShown : RepliedHistory → (DocRef → Option Origin) → List (ℕ × Message) → Type 0
AreShown T shown waiting = Each (λ e. shown e.1.target ≡ some_if (is_current T e.1.target.doc) (origin_of T e.1.target.doc)) waiting

-- ---- deliveries

-- the cause for which a delivery is refused
abbrev pub cause_of_fault : DeliverFault → Cause
cause_of_fault Unknown = cause.Unknown
cause_of_fault Settled = cause.Settled

-- the answer to a delivery, by what came of it
abbrev pub answer_by_delivery : Delivery → Answer
answer_by_delivery (Put target capability) = answer.Delivered
answer_by_delivery Gone = answer.DroppedGone
answer_by_delivery OtherOrigin = answer.DroppedOther

-- what came of the delivery gives the capability to document d
abbrev pub is_put : Delivery → ℕ → Capability → Bool
is_put (Put target given) d capability = target.doc == d && is_same_capability given capability
is_put Gone d capability = false
is_put OtherOrigin d capability = false
