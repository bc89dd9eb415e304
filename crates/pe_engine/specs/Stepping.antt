-- What a step of the engine replies.
-- This project's own.
use Rattle.std.specs.Prelude.{◌≡◌, [], Option, Some, None}
use Rattle.pe_events.specs.declared.answer.Answer.TheVariants as answer
use Rattle.pe_events.specs.declared.cause.Cause.{Cause}
use Rattle.pe_events.specs.Timed.{Timed}
use Rattle.pe_rules.specs.History.{History}
use Rattle.pe_rules.specs.Causes.{cause_of}
use Rattle.pe_engine.specs.declared.replies.Replies.{Replies}
use Rattle.pe_engine.specs.Replying.{steps_of, IsAcceptedReply}
use Rattle.pe_engine.specs.StandsFor.{EngineValue}

-- the event is refused for this cause, without a change, and the engine is as before
pub record IsRefusedReply (old new : EngineValue) (reply : Replies) (why : Cause) : Type 0 where
  pub says : reply.answer ≡ answer.Refused why
  pub before : reply.before.items ≡ []
  pub after : reply.after.items ≡ []
  pub kept : new ≡ old

-- the reply by the first cause that applies, if one does
abbrev pub IsReplyBy : EngineValue → EngineValue → History → Timed → Replies → Option Cause → Type 0
IsReplyBy old new H e reply None = IsAcceptedReply old new H e reply
IsReplyBy old new H e reply (Some why) = IsRefusedReply old new reply why

-- the reply to an event after a history, and what the engine is then
abbrev pub IsReply : EngineValue → EngineValue → History → Timed → Replies → Type 0
IsReply old new H e reply = IsReplyBy old new H e reply (cause_of (steps_of old H) e.time e.event)
