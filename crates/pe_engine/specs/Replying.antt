-- What an event is answered, and what the engine stands for then.
-- This project's own.
-- A refusal leaves everything as it is; an accepted event goes to the history. Of want of memory nothing is said.
use Rattle.std.specs.Prelude.{◌≡◌, ℕ, Bool, true, false, ◌∷◌, Some, None, Result, Ok, Err}
use Rattle.std.specs.Global.{Vec}
use Rattle.pe_events.specs.declared.answer.Answer.{Answer}
use Rattle.pe_events.specs.declared.answer.Change.{Change}
use Rattle.pe_events.specs.declared.cause.Cause.{Cause}
use Rattle.pe_events.specs.declared.event.Event.{Event}
use Rattle.pe_events.specs.declared.event.Event.TheVariants as event
use Rattle.pe_events.specs.Timed.{Timed}
use Rattle.pe_rules.specs.History.{RepliedHistory, History}
use Rattle.pe_rules.specs.Causes.{cause_of}
use Rattle.pe_rules.specs.Changes.{changes_before, changes_after}
use Rattle.pe_rules.specs.Replies.{answer_of, replied}
use Rattle.pe_engine.specs.declared.refusal.Refusal.{Refusal}
use Rattle.pe_engine.specs.declared.refusal.Refusal.TheVariants as refusal
use Rattle.pe_engine.specs.declared.replies.Replies.{Replies}
use Rattle.pe_engine.specs.StandsFor.{EngineValue, StandsForAt, StandsFor}

-- a time and an event
abbrev pub timed : ℕ → Event → Timed
timed time e = record { time = time; event = e }

-- the steps that an engine of this duration answered
abbrev pub steps_of : EngineValue → History → RepliedHistory
steps_of engine H = replied engine.duration H

-- the verb is plain: it sets nothing, touches no status, prompt or message, and ends no document, so that it changes frames and documents at most, and brings no change of a status by itself
abbrev pub is_plain : Event → Bool
is_plain (event.OpenPage url header) = true
is_plain (event.Embed parent src place allow sandbox fullscreen srcdoc header) = true
is_plain (event.Attr frame name value) = true
is_plain (event.Input frame kind) = true
is_plain (event.Ask frame) = true
is_plain (event.History frame) = true
is_plain (event.PolicyOf frame feature) = true
is_plain (event.Features frame) = true
is_plain (event.UseCall frame call) = true
is_plain event.Tick = true
is_plain other = false

-- the event of a plain verb is accepted with this answer; with it the engine stands for the history, and its store still at the time before, since no time has passed for it yet
pub record IsAcceptance (old new : EngineValue) (H : History) (e : Timed) (said : Answer) : Type 0 where
  pub plain : is_plain e.event ≡ true
  pub faultless : cause_of (steps_of old H) e.time e.event ≡ None
  pub says : said ≡ answer_of old.duration (steps_of old H) e.time e.event
  pub duration : new.duration ≡ old.duration
  pub store : new.store ≡ old.store
  pub statuses : new.statuses ≡ old.statuses
  pub stands : StandsForAt new (e ∷ H) old.clock

-- this is the first cause that applies, and the engine is as before
pub record IsRefusal (old new : EngineValue) (H : History) (e : Timed) (why : Cause) : Type 0 where
  pub first : cause_of (steps_of old H) e.time e.event ≡ Some why
  pub kept : new ≡ old

-- the answer to the event of a plain verb after a history, and what the engine is then
abbrev pub IsAnswer : EngineValue → EngineValue → History → Timed → Result Answer Refusal → Type 0
IsAnswer old new H e (Ok said) = IsAcceptance old new H e said
IsAnswer old new H e (Err (refusal.For why)) = IsRefusal old new H e why
IsAnswer old new H e (Err refusal.Memory) = Unit {0}

-- the event is accepted: the answer and both lists of changes are those of the definitions, and the engine stands for the history with it, with the duration as it was
pub record IsAcceptedReply (old new : EngineValue) (H : History) (e : Timed) (reply : Replies) : Type 0 where
  pub says : reply.answer ≡ answer_of old.duration (steps_of old H) e.time e.event
  pub before : reply.before.items ≡ changes_before (steps_of old H) e.time
  pub after : reply.after.items ≡ changes_after (steps_of old H) (steps_of old (e ∷ H)) e.time
  pub duration : new.duration ≡ old.duration
  pub stands : StandsFor new (e ∷ H)

-- the reply to an event after a history, and what the engine is then
abbrev pub IsReplied : EngineValue → EngineValue → History → Timed → Result Replies Refusal → Type 0
IsReplied old new H e (Ok reply) = (cause_of (steps_of old H) e.time e.event ≡ None) × IsAcceptedReply old new H e reply
IsReplied old new H e (Err (refusal.For why)) = IsRefusal old new H e why
IsReplied old new H e (Err refusal.Memory) = Unit {0}

-- the time has passed up to this one: the changes are those that it brought, and the store stands for the history at it
pub record HasPassed (old new : EngineValue) (H : History) (now : ℕ) (changes : Vec Change) : Type 0 where
  pub changes_are : changes.items ≡ changes_before (steps_of old H) now
  pub stands : StandsForAt new H now

-- what was looked up for an event has no cause against it, or the refusal is for the first cause
abbrev pub IsChecked : {A : Type 0} → EngineValue → History → Timed → Result A Refusal → Type 0
IsChecked engine H e (Ok found) = cause_of (steps_of engine H) e.time e.event ≡ None
IsChecked engine H e (Err (refusal.For why)) = cause_of (steps_of engine H) e.time e.event ≡ Some why
IsChecked engine H e (Err refusal.Memory) = Unit {0}
