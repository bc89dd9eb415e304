-- The reply to an event of a page is that of the history with the other pages muted.
use Rattle.std.proofs.Common.{◌≡◌, ℕ, true, Option, Some, None, Result, Ok, Err, IfOk, refl, sym, ap, ◌∙◌, subst}
use Rattle.std.specs.Prelude.{IsTrue, is_none}
use Rattle.pe_events.specs.declared.cause.Cause.{Cause}
use Rattle.pe_events.specs.Timed.{Timed}
use Rattle.pe_rules.specs.History.{History}
use Rattle.pe_rules.specs.Causes.{cause_of}
use Rattle.pe_rules.specs.Replies.{accepts, accepts_in, replied}
use Rattle.pe_isolation.specs.IsolationLaws.{IsolationLaws, replied_muted}
use Rattle.pe_isolation.specs.PageEvents.{is_of_page}
use Rattle.pe_engine.specs.declared.replies.Replies.{Replies}
use Rattle.pe_engine.specs.StandsFor.{EngineValue, StandsFor}
use Rattle.pe_engine.specs.Replying.{steps_of}
use Rattle.pe_engine.specs.Stepping.{IsReplyBy, IsReply}
use Rattle.pe_engine.specs.Isolation.{IsMutedReplyBy, IsMutedReply}

-- an event without a cause against it is accepted
is-accepted : (duration : ℕ) (H : History) (e : Timed) → cause_of (replied duration H) e.time e.event ≡ None → IsTrue (accepts duration H e)
unfolding accepts accepts_in
is-accepted duration H e none = ap is_none none

muted-by : IsolationLaws → (old new : EngineValue) (H : History) (e : Timed) (top : ℕ) (reply : Replies) → StandsFor old H → IsTrue (is_of_page (steps_of old H) top e.event)
    → (why : Option Cause) → cause_of (steps_of old H) e.time e.event ≡ why → IsReplyBy old new H e reply why → IsMutedReplyBy old.duration top H e reply why
muted-by laws old new H e top reply stands own None is said = record {
  says = said.says ∙ laws.answer old.duration top e.time H e.event stands.regular own;
  before = said.before ∙ laws.before old.duration top e.time H stands.regular;
  after = said.after ∙ laws.after old.duration top H e stands.regular (is-accepted old.duration H e is);
}
muted-by laws old new H e top reply stands own (Some why) is said = record {
  says = said.says;
  before = said.before;
  after = said.after;
}

muted-reply : IsolationLaws → (old new : EngineValue) (H : History) (e : Timed) (top : ℕ) (reply : Replies) → StandsFor old H → IsTrue (is_of_page (steps_of old H) top e.event)
    → IsReply old new H e reply → IsMutedReply old.duration top H e reply
muted-reply laws old new H e top reply stands own said =
    subst (IsMutedReplyBy old.duration top H e reply) (laws.cause old.duration top e.time H e.event stands.regular own)
    (muted-by laws old new H e top reply stands own (cause_of (steps_of old H) e.time e.event) refl said)

-- so of what a step answers
pub clause-isolated : {E : Type 0} → IsolationLaws → (r : Result Replies E) (old new : EngineValue) (H : History) (e : Timed) (top : ℕ) → StandsFor old H → IsTrue (is_of_page (steps_of old H) top e.event)
    → IfOk r (IsReply old new H e) → IfOk r (IsMutedReply old.duration top H e)
clause-isolated laws (Ok reply) old new H e top stands own said = muted-reply laws old new H e top reply stands own said
clause-isolated laws (Err fault) old new H e top stands own said = tt
