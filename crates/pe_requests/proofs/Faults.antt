-- Why a prompt is not shown, and the first cause of an event that answers it.
use Rattle.std.proofs.Common.{◌≡◌, ℕ, Bool, true, false, not, ◌&&◌, ◌==◌, cond, [], ◌∷◌, length, map, Option, Some, None, is_none, unwrap_or, option_map, option_and_then, refl, sym, ◌∙◌, ap}
use Rattle.pe_prompts.specs.declared.fault.AnswerFault.{AnswerFault}
use Rattle.pe_prompts.specs.declared.fault.AnswerFault.TheVariants as fault
use Rattle.pe_prompts.specs.Pending.{Pending, prompt_in, is_first}
use Rattle.pe_prompts.specs.Queues as queue
use Rattle.pe_prompts.specs.Queues.{Queues}
use Rattle.pe_events.specs.declared.cause.Cause.{Cause}
use Rattle.pe_events.specs.declared.cause.Cause.TheVariants as cause
use Rattle.pe_events.specs.declared.event.Event.TheVariants as event
use Rattle.pe_events.specs.declared.event.EventLife.{EventLife}
use Rattle.pe_events.specs.declared.event.Outcome.{Outcome}
use Rattle.pe_rules.specs.History.{RepliedHistory, History, some_if}
use Rattle.pe_rules.specs.Numbering.{is_prompt}
use Rattle.pe_rules.specs.Activation.{is_one_of}
use Rattle.pe_rules.specs.Settings.{prompt_page}
use Rattle.pe_rules.specs.Prompts.{is_settled, waiting, is_pending, is_prompt_of, pending, first_of, shown_prompt}
use Rattle.pe_rules.specs.Causes.{first_some, names_unknown, names_settled, names_closed, names_not_shown, is_shown}
use Rattle.pe_rules.specs.Replies.{replied}
use Rattle.pe_laws.specs.HistoryLaws.{HistoryLaws}
use Rattle.pe_requests.specs.Parts.{given_by, IsPrompts}
use Rattle.pe_requests.specs.PromptSteps.{first_named_fault, first_named_cause, cause_of_fault}
use Rattle.pe_requests.proofs.Lists.{is-same, swapped}
use Rattle.pe_requests.proofs.Known.{page-none, page-some, has-page}

-- the first fault, and the first cause, by what is so of a prompt
abbrev faults : (made settled closed shown : Bool) → Option AnswerFault
faults made settled closed shown = first_some (λ (x : AnswerFault × Bool). some_if x.1 x.0) ((fault.Unknown, not made) ∷ (fault.Settled, settled) ∷ (fault.Closed, closed) ∷ (fault.NotShown, not shown) ∷ [])

abbrev causes : (made settled closed shown : Bool) → Option Cause
causes made settled closed shown = first_some (λ (x : Cause × Bool). some_if x.1 x.0) ((cause.Unknown, not made) ∷ (cause.Settled, settled) ∷ (cause.Closed, closed) ∷ (cause.NotShown, not shown) ∷ [])

causes-of : (made settled closed shown : Bool) → causes made settled closed shown ≡ option_and_then cause_of_fault (faults made settled closed shown)
causes-of false settled closed shown = refl
causes-of true true closed shown = refl
causes-of true false true shown = refl
causes-of true false false false = refl
causes-of true false false true = refl

first-named-fault-is : (T : RepliedHistory) (k : ℕ) (out : Outcome) (life : EventLife) → first_named_fault T (event.Answered k out life) ≡ faults (is_prompt T k) (is_settled T k) (length (waiting T k) == 0) (is_shown T k)
unfolding names_unknown names_settled names_closed names_not_shown
first-named-fault-is T k out life = refl

first-named-cause-is : (T : RepliedHistory) (k : ℕ) (out : Outcome) (life : EventLife) → first_named_cause T (event.Answered k out life) ≡ causes (is_prompt T k) (is_settled T k) (length (waiting T k) == 0) (is_shown T k)
unfolding names_unknown names_settled names_closed names_not_shown
first-named-cause-is T k out life = refl

-- ---- pending prompts and their numbers

listed : (k : ℕ) (ps : Pending) → is_none (prompt_in k ps) ≡ not (is_one_of (map (λ e. e.0) ps) k)
listed k [] = refl
listed k (e ∷ ps) = by_test (k == e.0) refl (listed k ps)
  where
    by_test : (b : Bool) → (k == e.0) ≡ b → is_none (prompt_in k ps) ≡ not (is_one_of (map (λ e. e.0) ps) k)
        → is_none (cond b (Some e.1) (prompt_in k ps)) ≡ not (is_one_of (map (λ e. e.0) (e ∷ ps)) k)
    by_test true is rest = rw (swapped e.0 k ∙ is) refl
    by_test false is rest = rw (swapped e.0 k ∙ is) rest

first-is : (k : ℕ) (ps : Pending) → is_first k ps ≡ unwrap_or (option_map (λ j. j == k) (first_of (map (λ e. e.0) ps))) false
first-is k [] = refl
first-is k (e ∷ ps) = swapped k e.0

shown-of : (T : RepliedHistory) (k top : ℕ) → prompt_page T k ≡ Some top → is_shown T k ≡ unwrap_or (option_map (λ j. j == k) (first_of (pending T top))) false
unfolding shown_prompt
shown-of T k top paged = rw paged refl

closed-of : (T : RepliedHistory) (k top : ℕ) → is_prompt T k ≡ true → is_settled T k ≡ false → prompt_page T k ≡ Some top
    → not (is_prompt T k && (is_pending T k && is_prompt_of T top k)) ≡ (length (waiting T k) == 0)
unfolding is_pending
closed-of T k top made unsettled paged = rw (made, unsettled, paged, is-same top) (by_count (length (waiting T k) == 0))
  where
    by_count : (b : Bool) → not (not b && true) ≡ b
    by_count true = refl
    by_count false = refl

among : (closed shown : Bool) → cond closed (Some fault.Closed) (cond shown None (Some fault.NotShown)) ≡ faults true false closed shown
among true shown = refl
among false true = refl
among false false = refl

module _ (laws : HistoryLaws) where
  fault-among : (T : RepliedHistory) (queues : Queues) (k top : ℕ) → IsPrompts T queues → is_prompt T k ≡ true → is_settled T k ≡ false → prompt_page T k ≡ Some top
      → queue.fault_among k (queue.pending queues top) ≡ faults true false (length (waiting T k) == 0) (is_shown T k)
  fault-among T queues k top is made unsettled paged =
      let ps = queue.pending queues top in
      let closed : is_none (prompt_in k ps) ≡ (length (waiting T k) == 0) =
      listed k ps ∙ ap (λ ns. not (is_one_of ns k)) (is.pending top) ∙ ap not (laws.prompts.pending_are T top k) ∙ closed-of T k top made unsettled paged in
      let shown : is_first k ps ≡ is_shown T k =
      first-is k ps ∙ ap (λ ns. unwrap_or (option_map (λ j. j == k) (first_of ns)) false) (is.pending top) ∙ sym (shown-of T k top paged) in
      ap (λ b. cond b (Some fault.Closed) (cond (is_first k ps) None (Some fault.NotShown))) closed
      ∙ ap (λ b. cond (length (waiting T k) == 0) (Some fault.Closed) (cond b None (Some fault.NotShown))) shown
      ∙ among (length (waiting T k) == 0) (is_shown T k)

  fault-is : (duration : ℕ) (H : History) (queues : Queues) (k : ℕ) → IsPrompts (replied duration H) queues
      → queue.refusal queues k ≡ faults (is_prompt (replied duration H) k) (is_settled (replied duration H) k) (length (waiting (replied duration H) k) == 0) (is_shown (replied duration H) k)
  fault-is duration H queues k is = by_made (is_prompt T k) refl
    where
      T : RepliedHistory
      T = replied duration H

      by_settled : (top : ℕ) → is_prompt T k ≡ true → prompt_page T k ≡ Some top → (b : Bool) → is_settled T k ≡ b
          → cond b (Some fault.Settled) (queue.fault_among k (queue.pending queues top)) ≡ faults true b (length (waiting T k) == 0) (is_shown T k)
      by_settled top made paged true settled = refl
      by_settled top made paged false unsettled = fault-among T queues k top is made unsettled paged

      by_made : (b : Bool) → is_prompt T k ≡ b → queue.refusal queues k ≡ faults b (is_settled T k) (length (waiting T k) == 0) (is_shown T k)
      by_made false none = ap (queue.fault_of queues k) (is.given k ∙ ap (option_map (given_by (is_settled T k))) (page-none T k none))
      by_made true made =
          let paged = has-page laws duration H k made in
          ap (queue.fault_of queues k) (is.given k ∙ ap (option_map (given_by (is_settled T k))) (page-some T k made ∙ paged.1))
          ∙ by_settled paged.0 made paged.1 (is_settled T k) refl

  pub refusal : (duration : ℕ) (H : History) (queues : Queues) (k : ℕ) (out : Outcome) (life : EventLife) → IsPrompts (replied duration H) queues
      → queue.refusal queues k ≡ first_named_fault (replied duration H) (event.Answered k out life)
  refusal duration H queues k out life is = fault-is duration H queues k is ∙ sym (first-named-fault-is (replied duration H) k out life)

  pub named-cause : (duration : ℕ) (H : History) (queues : Queues) (k : ℕ) (out : Outcome) (life : EventLife) → IsPrompts (replied duration H) queues
      → first_named_cause (replied duration H) (event.Answered k out life) ≡ option_and_then cause_of_fault (queue.refusal queues k)
  named-cause duration H queues k out life is =
      let T = replied duration H in
      first-named-cause-is T k out life ∙ causes-of (is_prompt T k) (is_settled T k) (length (waiting T k) == 0) (is_shown T k)
      ∙ ap (option_and_then cause_of_fault) (sym (fault-is duration H queues k is))
