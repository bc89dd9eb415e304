-- Answers that are refusals.
use Rattle.std.proofs.Common.{◌≡◌, ℕ, List, Some, None, Result, Ok, Err, refl, sym, ◌∙◌, ap, subst}
use Rattle.std.specs.Result.{IsErrAnd}
use Rattle.pe_events.specs.declared.answer.Answer.{Answer}
use Rattle.pe_origin.specs.Places.{place_at}
use Rattle.pe_events.specs.declared.cause.Cause.{Cause}
use Rattle.pe_events.specs.declared.cause.Cause.TheVariants as cause
use Rattle.pe_events.specs.Timed.{Timed}
use Rattle.pe_rules.specs.History.{History}
use Rattle.pe_rules.specs.Causes.{cause_of}
use Rattle.pe_engine.specs.declared.refusal.Refusal.{Refusal}
use Rattle.pe_engine.specs.declared.refusal.Refusal.TheVariants as refusal
use Rattle.pe_engine.specs.declared.replies.Replies.{Replies}
use Rattle.pe_engine.specs.Giving.{GivesPlace}
use Rattle.pe_engine.specs.Replying.{steps_of, IsAnswer, IsReplied, IsChecked}
use Rattle.pe_engine.specs.StandsFor.{EngineValue}

-- a refusal for a cause
pub answer-for : (old : EngineValue) (H : History) (e : Timed) (why : Cause) (r : Result Answer Refusal) → IsErrAnd r (λ x. x ≡ refusal.For why)
    → cause_of (steps_of old H) e.time e.event ≡ Some why → IsAnswer old old H e r
answer-for old H e why (Ok said) is first = absurd is
answer-for old H e why (Err x) is first = subst (λ y. IsAnswer old old H e (Err y)) (sym is) (record { first = first; kept = refl })

-- want of memory
pub answer-memory : (old new : EngineValue) (H : History) (e : Timed) (r : Result Answer Refusal) → IsErrAnd r (λ x. x ≡ refusal.Memory) → IsAnswer old new H e r
answer-memory old new H e (Ok said) is = absurd is
answer-memory old new H e (Err x) is = subst (λ y. IsAnswer old new H e (Err y)) (sym is) tt

-- the same of a reply
pub replied-for : (old : EngineValue) (H : History) (e : Timed) (why : Cause) (r : Result Replies Refusal) → IsErrAnd r (λ x. x ≡ refusal.For why)
    → cause_of (steps_of old H) e.time e.event ≡ Some why → IsReplied old old H e r
replied-for old H e why (Ok reply) is first = absurd is
replied-for old H e why (Err x) is first = subst (λ y. IsReplied old old H e (Err y)) (sym is) (record { first = first; kept = refl })

pub replied-memory : (old new : EngineValue) (H : History) (e : Timed) (r : Result Replies Refusal) → IsErrAnd r (λ x. x ≡ refusal.Memory) → IsReplied old new H e r
replied-memory old new H e (Ok reply) is = absurd is
replied-memory old new H e (Err x) is = subst (λ y. IsReplied old new H e (Err y)) (sym is) tt

-- and of what was looked up
pub checked-for : {A : Type 0} (engine : EngineValue) (H : History) (e : Timed) (why : Cause) (r : Result A Refusal) → IsErrAnd r (λ x. x ≡ refusal.For why)
    → cause_of (steps_of engine H) e.time e.event ≡ Some why → IsChecked {A = A} engine H e r
checked-for engine H e why (Ok found) is first = absurd is
checked-for {A} engine H e why (Err x) is first = subst (λ y. IsChecked {A = A} engine H e (Err y)) (sym is) first

-- a reply to what was refused when it was looked up
pub replied-checked : (A : Type 0) (old : EngineValue) (H : History) (e : Timed) (r : Refusal) → IsChecked {A = A} old H e (Err r) → IsReplied old old H e (Err r)
replied-checked A old H e (refusal.For why) first = record { first = first; kept = refl }
replied-checked A old H e refusal.Memory first = tt

-- a refused word
pub replied-place : (old : EngineValue) (H : History) (e : Timed) (url : List ℕ) (r : Refusal) → GivesPlace url (Err r)
    → (place_at url ≡ None → cause_of (steps_of old H) e.time e.event ≡ Some cause.Url) → IsReplied old old H e (Err r)
replied-place old H e url (refusal.For why) gives first = record { first = first gives.0 ∙ ap Some (sym gives.1); kept = refl }
replied-place old H e url refusal.Memory gives first = tt

-- what is answered to a plain event and is no answer is replied
pub replied-refusal : (old new : EngineValue) (H : History) (e : Timed) (r : Refusal) → IsAnswer old new H e (Err r) → IsReplied old new H e (Err r)
replied-refusal old new H e (refusal.For why) is = is
replied-refusal old new H e refusal.Memory is = tt
