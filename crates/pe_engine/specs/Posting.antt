-- What a post looks up and makes, and what a delivery leaves.
-- HTML Standard, "window post message steps", with Capability Delegation in outline.
use Rattle.std.specs.Prelude.{◌≡◌, ℕ, ◌+◌, ◌<◌, ◌≤◌, Bool, true, false, List, [], ◌∷◌, ◌++◌, length, Option, Some, None, Result, Ok, Err, IfSome, IsSome, is_some, option_map, option_and_then}
use Rattle.pe_base.specs.declared.limits.TheConstants.{EVENT_LIMIT}
use Rattle.pe_features.specs.Capabilities.{capability_named}
use Rattle.pe_frames.specs.Forest.{Forest, entry_of, with_doc}
use Rattle.pe_origin.specs.declared.origin.Origin.{Origin}
use Rattle.pe_delegation.specs.declared.delivery.Delivery.{Delivery}
use Rattle.pe_delegation.specs.declared.delivery.Delivery.TheVariants.{Put, Gone, OtherOrigin}
use Rattle.pe_delegation.specs.declared.message.Message.{Message}
use Rattle.pe_delegation.specs.Posted.{message_of, without, delivery_of}
use Rattle.pe_events.specs.declared.cause.Cause.TheVariants as cause
use Rattle.pe_rules.specs.Causes.{is_no_origin}
use Rattle.pe_rules.specs.Settings.{word_origin}
use Rattle.pe_engine.specs.declared.engine.Made.TheVariants as made
use Rattle.pe_engine.specs.declared.refusal.Refusal.{Refusal}
use Rattle.pe_engine.specs.declared.refusal.Refusal.TheVariants as refusal
use Rattle.pe_engine.specs.declared.row.Row.{Row}
use Rattle.pe_engine.specs.declared.verbs.message.Posting.{Posting}
use Rattle.pe_engine.specs.Objects.{handle_at}
use Rattle.pe_engine.specs.Rows.{with_delivery}
use Rattle.pe_engine.specs.StandsFor.{EngineValue}

-- ---- a post

-- the number of the message, the handle of its sender, which is live, the handle of its target, and what its words name
pub record IsPosting (e : EngineValue) (sender target : ℕ) (named : Option (List ℕ)) (capability : List ℕ) (x : Posting) : Type 0 where
  pub number : x.number ≡ length e.made + 1
  pub few : x.number ≤ EVENT_LIMIT
  pub from : handle_at e.made sender ≡ Some x.at
  pub live : IsSome (entry_of e.frames.entries x.at)
  pub to : handle_at e.made target ≡ Some x.target.at
  pub origin : x.origin ≡ option_and_then word_origin named
  pub worded : is_some x.origin ≡ is_some named
  pub delegated : capability_named capability ≡ Some x.capability

-- it is noted that the event at this time made a message, which waits under this number
pub record HasPosted (old new : EngineValue) (now number : ℕ) (x : Message) : Type 0 where
  pub rest : new ≡ record old { clock = now; made = old.made ++ made.Message ∷ []; messages = new.messages }
  pub waiting : new.messages.waiting ≡ old.messages.waiting ++ (number, x) ∷ []
  pub given : new.messages.given ≡ old.messages.given ++ number ∷ []

-- ---- a delivery

-- what a delivery at a time leaves of the frames: a document that is given a capability has the time in its row
abbrev pub HasReceived : Delivery → ℕ → Forest Row → Forest Row → Type 0
HasReceived (Put target capability) now old new = IfSome (entry_of old.entries target.at) (λ e. new ≡ with_doc old target.at (record e.doc { delivered = with_delivery capability (Some now) e.doc.delivered }))
HasReceived Gone now old new = new ≡ old
HasReceived OtherOrigin now old new = new ≡ old

-- what comes of delivering the message of this number: it waits no longer
pub record HasSettled (old new : EngineValue) (number now : ℕ) (delivery : Delivery) : Type 0 where
  pub rest : new ≡ record old { frames = new.frames; messages = new.messages }
  pub comes : Some delivery ≡ option_map (delivery_of (λ (x : Row). x.doc) (λ (x : Row). x.origin) old.frames.entries) (message_of old.messages.waiting number)
  pub waiting : new.messages.waiting ≡ without number old.messages.waiting
  pub given : new.messages.given ≡ old.messages.given
  pub received : HasReceived delivery now old.frames new.frames
