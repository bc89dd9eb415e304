-- For what the prompts stand after a step, and what is read of them before it.
-- Permissions, "request permission to use"; the queue of prompts is this project's own.
use Rattle.std.specs.Prelude.{◌≡◌, ℕ, ◌+◌, ◌<◌, Bool, false, not, ◌&&◌, nat_le, IsTrue, IsSome, List, [], ◌∷◌, length, Option, Some, None, is_none, option_map, option_and_then}
use Rattle.pe_base.specs.declared.limits.TheConstants.{PENDING_LIMIT}
use Rattle.pe_base.specs.declared.state.State.{State}
use Rattle.pe_base.specs.declared.state.State.TheVariants as state
use Rattle.pe_features.specs.Features.{feature_named}
use Rattle.pe_arena.specs.declared.handle.DocRef.{DocRef}
use Rattle.pe_store.specs.Pairs.{Pair}
use Rattle.pe_prompts.specs.declared.fault.AnswerFault.{AnswerFault}
use Rattle.pe_prompts.specs.declared.fault.AnswerFault.TheVariants as fault
use Rattle.pe_prompts.specs.declared.fault.Asked.{Asked}
use Rattle.pe_prompts.specs.declared.fault.Asked.TheVariants.{New, Joined}
use Rattle.pe_prompts.specs.declared.queue.Prompt.{Prompt}
use Rattle.pe_prompts.specs.Pending.{Pending, pair_of, left_by}
use Rattle.pe_prompts.specs.Queues as queue
use Rattle.pe_prompts.specs.Queues.{Queues, HasAsked, HasSettled}
use Rattle.pe_events.specs.Timed.{Timed}
use Rattle.pe_events.specs.declared.answer.Answer.{Answer}
use Rattle.pe_events.specs.declared.answer.Answer.TheVariants as answer
use Rattle.pe_events.specs.declared.cause.Cause.{Cause}
use Rattle.pe_events.specs.declared.cause.Cause.TheVariants as cause
use Rattle.pe_events.specs.declared.event.Event.{Event}
use Rattle.pe_events.specs.declared.event.Event.TheVariants as event
use Rattle.pe_events.specs.declared.event.EventLife.{EventLife}
use Rattle.pe_events.specs.declared.event.Outcome.{Outcome}
use Rattle.pe_rules.specs.History.{RepliedHistory, History, some_if}
use Rattle.pe_rules.specs.Embedders.{page}
use Rattle.pe_rules.specs.Current.{ends, frames_above, is_current, document_in}
use Rattle.pe_rules.specs.Activation.{is_one_of}
use Rattle.pe_rules.specs.Settings.{pair_for}
use Rattle.pe_rules.specs.PermissionState.{permission_state}
use Rattle.pe_rules.specs.Prompts as prompt
use Rattle.pe_rules.specs.Causes.{first_some, names_unknown, names_settled, names_closed, names_not_shown, prompt_to_join, is_prompt_state, exceeds_pending}
use Rattle.pe_rules.specs.Replies.{answer_of_request, state_replied, answer_of, replied, is_regular}
use Rattle.pe_laws.specs.EffectsLaws.{effects_of}
use Rattle.pe_laws.specs.PromptsLaws.{step_of}
use Rattle.pe_requests.specs.Parts.{IsPendingPrompt, IsPrompts}

-- ---- refusals

-- the first fault of the prompt that the event names, by the tests of the causes and in their order
abbrev pub first_named_fault : RepliedHistory → Event → Option AnswerFault
first_named_fault T e = first_some (λ (x : AnswerFault × Bool). some_if x.1 x.0) (
    (fault.Unknown, names_unknown T e)
    ∷ (fault.Settled, names_settled T e)
    ∷ (fault.Closed, names_closed T e)
    ∷ (fault.NotShown, names_not_shown T e)
    ∷ [])

-- the first cause of what the event names
abbrev pub first_named_cause : RepliedHistory → Event → Option Cause
first_named_cause T e = first_some (λ (x : Cause × Bool). some_if x.1 x.0) (
    (cause.Unknown, names_unknown T e)
    ∷ (cause.Settled, names_settled T e)
    ∷ (cause.Closed, names_closed T e)
    ∷ (cause.NotShown, names_not_shown T e)
    ∷ [])

-- the cause of a fault; want of memory is none
abbrev pub cause_of_fault : AnswerFault → Option Cause
cause_of_fault fault.Unknown = Some cause.Unknown
cause_of_fault fault.Settled = Some cause.Settled
cause_of_fault fault.Closed = Some cause.Closed
cause_of_fault fault.NotShown = Some cause.NotShown
cause_of_fault fault.Memory = None

-- ---- requests

-- what a request of the frame asks for the feature of this name: the frame shows this document of the page, for which the feature has this pair
pub record IsAsking (T : RepliedHistory) (frame : ℕ) (name : List ℕ) (document top : ℕ) (pair : Pair) : Type 0 where
  pub shown : document_in T frame ≡ Some document
  pub named : feature_named name ≡ Some pair.0
  pub paged : page T document ≡ top
  pub paired : pair_for T document pair.0 ≡ Some pair

-- the answer to a request that was told this
abbrev pub answer_of_asked : Asked → Answer
answer_of_asked (New number) = answer.PromptMade number
answer_of_asked (Joined number) = answer.PromptJoined number

-- each number that was given is below this one
abbrev pub AreBelow : ℕ → Queues → Type 0
AreBelow number queues = (k : ℕ) → IsSome (queue.given_of queues k) → k < number

-- ---- documents that end

-- of the documents that were current before, these are the ones that are not after
abbrev pub AreEnded : RepliedHistory → RepliedHistory → List ℕ → Type 0
AreEnded before after docs = (d : ℕ) → IsTrue (is_current before d) → is_one_of docs d ≡ not (is_current after d)

-- the prompts, once all requests of each of these documents are dropped, one document after another
abbrev pub left_by_all : List ℕ → Pending → Pending
left_by_all [] ps = ps
left_by_all (doc ∷ docs) ps = left_by_all docs (left_by doc ps)

-- ---- the steps

-- what holds of prompts that stand for steps
pub record PromptSteps : Type 0 where
  -- no prompts stand for no steps
  pub start : IsPrompts [] (record { given = []; pages = [] })
  -- why a prompt is not shown is the first fault of an event that answers it, and gives the first cause of what that names
  pub refusal : (duration : ℕ) (H : History) (queues : Queues) (k : ℕ) (out : Outcome) (life : EventLife) → IsPrompts (replied duration H) queues
      → queue.refusal queues k ≡ first_named_fault (replied duration H) (event.Answered k out life)
  pub named_cause : (duration : ℕ) (H : History) (queues : Queues) (k : ℕ) (out : Outcome) (life : EventLife) → IsPrompts (replied duration H) queues
      → first_named_cause (replied duration H) (event.Answered k out life) ≡ option_and_then cause_of_fault (queue.refusal queues k)
  -- the pending prompt that a request of the pair joins
  pub joins : (T : RepliedHistory) (queues : Queues) (top : ℕ) (pair : Pair) → IsPrompts T queues → queue.pending_of queues top pair ≡ prompt.pending_prompt_of T top pair
  pub joins_by_request : (T : RepliedHistory) (queues : Queues) (frame : ℕ) (name : List ℕ) (document top : ℕ) (pair : Pair) → IsPrompts T queues → IsAsking T frame name document top pair
      → queue.pending_of queues top pair ≡ prompt_to_join T frame name
  -- a page has as many pending ones as the definitions say, and a request goes beyond the limit by that number
  pub counted : (T : RepliedHistory) (queues : Queues) (top : ℕ) → IsPrompts T queues → length (queue.pending queues top) ≡ length (prompt.pending T top)
  pub exceeds : (T : RepliedHistory) (queues : Queues) (now frame : ℕ) (name : List ℕ) (document top : ℕ) (pair : Pair) → IsPrompts T queues → IsAsking T frame name document top pair
      → exceeds_pending T now (event.Request frame name)
      ≡ (is_prompt_state (Some (permission_state T now document pair.0)) && is_none (queue.pending_of queues top pair) && nat_le PENDING_LIMIT (length (queue.pending queues top)))
  -- the numbers that were given are below the next position; whatever the steps, a request gives one number at most, and an answer none
  pub below : (T : RepliedHistory) (queues : Queues) → IsPrompts T queues → AreBelow (length T + 1) queues
  pub below_told : (number next : ℕ) (join : Option ℕ) (asking : Prompt) (asker : DocRef) (said : Asked) (old new : Queues) → said ≡ queue.asked_of number join → HasAsked old new asking asker said
      → number < next → AreBelow number old → AreBelow next new
  pub below_answered : (number k : ℕ) (old new : Queues) → HasSettled old new k → AreBelow number old → AreBelow number new
  -- a pending prompt has the page, the pair and the documents of its number
  pub asked : (T : RepliedHistory) (queues : Queues) (k : ℕ) (p : Prompt) → IsPrompts T queues → queue.prompt_at queues k ≡ Some p → IsPendingPrompt T k p
  -- in a regular history the top frame of its page shows a document
  pub page_shown : (duration : ℕ) (H : History) (queues : Queues) (k : ℕ) (p : Prompt) → IsTrue (is_regular duration H) → IsPrompts (replied duration H) queues
      → queue.prompt_at queues k ≡ Some p → IsSome (document_in (replied duration H) p.page)
  -- an event that answers it is answered with the number of its requests
  pub settles : (duration : ℕ) (T : RepliedHistory) (now : ℕ) (queues : Queues) (k : ℕ) (out : Outcome) (life : EventLife) (requests : List DocRef) → IsPrompts T queues
      → option_map (λ (p : Prompt). p.waiting) (queue.prompt_at queues k) ≡ Some requests
      → answer_of duration T now (event.Answered k out life) ≡ answer.Settled (length requests) (state_replied out)
  -- a request is answered by the state that it finds and by the pending prompt of its pair; where the state is prompt, by what the request is told
  pub requests : (duration : ℕ) (T : RepliedHistory) (queues : Queues) (now frame : ℕ) (name : List ℕ) (document top : ℕ) (pair : Pair) → IsPrompts T queues → IsAsking T frame name document top pair
      → answer_of duration T now (event.Request frame name) ≡ answer_of_request (permission_state T now document pair.0) (length T + 1) (queue.pending_of queues top pair)
  pub asks : (duration : ℕ) (T : RepliedHistory) (queues : Queues) (now frame : ℕ) (name : List ℕ) (document top : ℕ) (pair : Pair) → IsPrompts T queues → IsAsking T frame name document top pair
      → permission_state T now document pair.0 ≡ state.Prompt
      → answer_of duration T now (event.Request frame name) ≡ answer_of_asked (queue.asked_of (length T + 1) (queue.pending_of queues top pair))
  -- a step that requests nothing, settles no prompt and ends no document leaves them
  pub quiet : (duration : ℕ) (H : History) (e : Timed) (queues : Queues) → (effects_of (step_of duration H e)).requests ≡ false → (effects_of (step_of duration H e)).settles_prompt ≡ false
      → (effects_of (step_of duration H e)).ends_documents ≡ false → IsPrompts (replied duration H) queues → IsPrompts (replied duration (e ∷ H)) queues
  -- after a request that finds a state other than prompt
  pub stated : (duration : ℕ) (H : History) (e : Timed) (frame : ℕ) (name : List ℕ) (found : State) (queues : Queues) → e.event ≡ event.Request frame name
      → answer_of duration (replied duration H) e.time e.event ≡ answer.Stated found → IsPrompts (replied duration H) queues → IsPrompts (replied duration (e ∷ H)) queues
  -- after a request that makes a prompt or joins one
  pub told : (duration : ℕ) (H : History) (e : Timed) (frame : ℕ) (name : List ℕ) (asking : Prompt) (asker : DocRef) (said : Asked) (old new : Queues) → IsTrue (is_regular duration H)
      → e.event ≡ event.Request frame name → IsAsking (replied duration H) frame name asker.doc asking.page (pair_of asking) → asking.waiting ≡ asker ∷ []
      → answer_of duration (replied duration H) e.time e.event ≡ answer_of_asked said
      → IsPrompts (replied duration H) old → HasAsked old new asking asker said → IsPrompts (replied duration (e ∷ H)) new
  -- after an answer
  pub answered : (duration : ℕ) (H : History) (e : Timed) (k : ℕ) (out : Outcome) (life : EventLife) (old new : Queues) → e.event ≡ event.Answered k out life
      → IsPrompts (replied duration H) old → HasSettled old new k → IsPrompts (replied duration (e ∷ H)) new
  -- after the end of documents, once the requests of each are dropped; a navigation or a close ends those of the frame and below it
  pub ended : (duration : ℕ) (H : History) (e : Timed) (docs : List ℕ) (old new : Queues) → (effects_of (step_of duration H e)).requests ≡ false → (effects_of (step_of duration H e)).settles_prompt ≡ false
      → AreEnded (replied duration H) (replied duration (e ∷ H)) docs → IsPrompts (replied duration H) old
      → new.given ≡ old.given → ((top : ℕ) → queue.pending new top ≡ left_by_all docs (queue.pending old top)) → IsPrompts (replied duration (e ∷ H)) new
  pub ends_frame : (duration : ℕ) (H : History) (e : Timed) (f : ℕ) (docs : List ℕ) → IsTrue (ends (f ∷ []) e.event)
      → ((d : ℕ) → IsTrue (is_current (replied duration H) d) → is_one_of docs d ≡ is_one_of (frames_above (replied duration H) d) f) → AreEnded (replied duration H) (replied duration (e ∷ H)) docs
