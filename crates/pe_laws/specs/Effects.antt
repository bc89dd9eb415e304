-- What a step may do, by its event and what was told of it, as a table.
-- The table is this project's own; that a step does no more is proved of each definition.
use Rattle.std.specs.Prelude.{Bool, true, false, not, ◌&&◌, is_some}
use Rattle.pe_base.specs.Activation.{triggers}
use Rattle.pe_events.specs.declared.event.Event.{Event}
use Rattle.pe_events.specs.declared.event.Event.TheVariants as event
use Rattle.pe_events.specs.declared.event.Outcome.{Outcome}
use Rattle.pe_events.specs.declared.event.Outcome.TheVariants as outcome
use Rattle.pe_rules.specs.History.{StepAnswer}
use Rattle.pe_rules.specs.Numbering.{makes_message}
use Rattle.pe_rules.specs.Activation.{is_by_transient, is_consuming_call}
use Rattle.pe_rules.specs.HistoryActivation.{is_allowance}
use Rattle.pe_rules.specs.Prompts.{prompt_replied}
use Rattle.pe_rules.specs.Delegation.{is_by_delegated, is_delivered}

-- which of these a step may do; `sets` is by name, and what is dismissed may set an embargo too
pub record Effects : Type 0 where
  pub makes_frame : Bool
  pub makes_document : Bool
  pub ends_documents : Bool
  pub gives_attribute : Bool
  pub activates : Bool
  pub consumes : Bool
  pub acts_on_history : Bool
  pub makes_status : Bool
  pub drops_status : Bool
  pub requests : Bool
  pub settles_prompt : Bool
  pub sets : Bool
  pub dismisses : Bool
  pub posts : Bool
  pub settles_message : Bool
  pub delivers : Bool
  pub spends : Bool

-- none of them
abbrev pub no_effects : Effects
no_effects = record {
  makes_frame = false;
  makes_document = false;
  ends_documents = false;
  gives_attribute = false;
  activates = false;
  consumes = false;
  acts_on_history = false;
  makes_status = false;
  drops_status = false;
  requests = false;
  settles_prompt = false;
  sets = false;
  dismisses = false;
  posts = false;
  settles_message = false;
  delivers = false;
  spends = false;
}

-- the user dismisses
abbrev pub is_dismissal : Outcome → Bool
is_dismissal outcome.Dismiss = true
is_dismissal other = false

-- what a step of this event, of which this was told, may do
abbrev pub effects : Event → StepAnswer → Effects
effects (event.OpenPage url header) item = record no_effects { makes_frame = true; makes_document = true }
effects (event.Embed parent src place allow sandbox fullscreen srcdoc header) item = record no_effects { makes_frame = true; makes_document = true; gives_attribute = true }
effects (event.Navigate frame url header) item = record no_effects { makes_document = true; ends_documents = true }
effects (event.Attr frame name value) item = record no_effects { gives_attribute = true }
effects (event.Close frame) item = record no_effects { ends_documents = true }
effects (event.Input frame kind) item = record no_effects { activates = triggers kind }
effects (event.Ask frame) item = no_effects
effects (event.History frame) item = record no_effects { acts_on_history = is_allowance item }
effects (event.PolicyOf frame feature) item = no_effects
effects (event.Features frame) item = no_effects
effects (event.UseCall frame call) item = record no_effects { consumes = is_by_transient item && is_consuming_call call; spends = is_by_delegated item }
effects (event.Query frame feature) item = record no_effects { makes_status = true }
effects (event.DropStatus status) item = record no_effects { drops_status = true }
effects (event.Request frame feature) item = record no_effects { requests = is_some (prompt_replied item) }
effects (event.Answered prompt out given) item = record no_effects { settles_prompt = true; sets = not (is_dismissal out); dismisses = is_dismissal out }
effects (event.SetState feature first second state span) item = record no_effects { sets = true }
effects (event.Post sender target named capability) item = record no_effects { posts = makes_message item; consumes = makes_message item }
effects (event.Deliver message) item = record no_effects { settles_message = true; delivers = is_delivered item }
effects event.Tick item = no_effects
