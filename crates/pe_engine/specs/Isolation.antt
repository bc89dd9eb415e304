-- What a page is told with the other pages muted.
-- This project's own.
use Rattle.std.specs.Prelude.{◌≡◌, ℕ, [], ◌∷◌, Option, Some, None}
use Rattle.pe_events.specs.declared.answer.Answer.TheVariants as answer
use Rattle.pe_events.specs.declared.cause.Cause.{Cause}
use Rattle.pe_events.specs.Timed.{Timed}
use Rattle.pe_rules.specs.History.{History}
use Rattle.pe_rules.specs.Causes.{cause_of}
use Rattle.pe_rules.specs.Changes.{changes_before, changes_after}
use Rattle.pe_rules.specs.Replies.{answer_of}
use Rattle.pe_isolation.specs.IsolationLaws.{replied_muted}
use Rattle.pe_engine.specs.declared.replies.Replies.{Replies}

-- the event is accepted: the answer and both lists of changes are those of the muted history
pub record IsAcceptedMuted (duration top : ℕ) (H : History) (e : Timed) (reply : Replies) : Type 0 where
  pub says : reply.answer ≡ answer_of duration (replied_muted duration top H) e.time e.event
  pub before : reply.before.items ≡ changes_before (replied_muted duration top H) e.time
  pub after : reply.after.items ≡ changes_after (replied_muted duration top H) (replied_muted duration top (e ∷ H)) e.time

-- the event is refused for this cause, without a change
pub record IsRefusedMuted (reply : Replies) (why : Cause) : Type 0 where
  pub says : reply.answer ≡ answer.Refused why
  pub before : reply.before.items ≡ []
  pub after : reply.after.items ≡ []

-- the reply by the first cause that applies, if one does
abbrev pub IsMutedReplyBy : ℕ → ℕ → History → Timed → Replies → Option Cause → Type 0
IsMutedReplyBy duration top H e reply None = IsAcceptedMuted duration top H e reply
IsMutedReplyBy duration top H e reply (Some why) = IsRefusedMuted reply why

-- the reply is that of the history with the pages muted that are not this one
abbrev pub IsMutedReply : ℕ → ℕ → History → Timed → Replies → Type 0
IsMutedReply duration top H e reply = IsMutedReplyBy duration top H e reply (cause_of (replied_muted duration top H) e.time e.event)
