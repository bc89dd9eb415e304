-- What is read of the prompts: their numbers, and a pending prompt.
use Rattle.std.proofs.Common.{◌≡◌, ℕ, ◌+◌, ◌<◌, ◌≤◌, Bool, true, false, ◌==◌, cond, nat_eq, List, [], ◌∷◌, length, Option, Some, None, is_some, option_map, option_and_then, refl, sym, ◌∙◌, ap, subst, arith}
use Rattle.std.specs.Map.{lookup}
use Rattle.pe_arena.specs.declared.handle.DocRef.{DocRef}
use Rattle.pe_prompts.specs.declared.fault.Asked.{Asked}
use Rattle.pe_prompts.specs.declared.given.Given.{Given}
use Rattle.pe_prompts.specs.declared.queue.Prompt.{Prompt}
use Rattle.pe_prompts.specs.Pending.{Pending, prompt_in}
use Rattle.pe_prompts.specs.Queues as queue
use Rattle.pe_prompts.specs.Queues.{Queues, HasAsked, HasSettled}
use Rattle.pe_events.specs.declared.answer.Answer.TheVariants as answer
use Rattle.pe_events.specs.declared.event.Event.TheVariants as event
use Rattle.pe_events.specs.declared.event.EventLife.{EventLife}
use Rattle.pe_events.specs.declared.event.Outcome.{Outcome}
use Rattle.pe_rules.specs.History.{RepliedHistory}
use Rattle.pe_rules.specs.Numbering.{is_prompt}
use Rattle.pe_rules.specs.Prompts.{is_settled, waiting}
use Rattle.pe_rules.specs.Replies.{state_replied, answer_of}
use Rattle.pe_laws.specs.HistoryLaws.{HistoryLaws}
use Rattle.pe_laws.specs.StatusesLaws.{Each}
use Rattle.pe_requests.specs.PromptSteps.{AreBelow}
use Rattle.pe_requests.specs.Parts.{given_by, IsPendingPrompt, IsPrompts}
use Rattle.pe_requests.proofs.Lists.{length-map, same-numbers, each-unmap}
use Rattle.pe_requests.proofs.Rising.{pending-within}
use Rattle.pe_requests.proofs.Known.{page-none}

-- the pending prompts are positions of the history
pub within : (T : RepliedHistory) (queues : Queues) (top : ℕ) → IsPrompts T queues → Each (λ e. e.0 ≤ length T) (queue.pending queues top)
within T queues top is = each-unmap (λ k. k ≤ length T) (λ (e : ℕ × Prompt). e.0) (queue.pending queues top) (subst (Each (λ k. k ≤ length T)) (sym (is.pending top)) (pending-within T top))

-- what each pending prompt has, the one of a number has
pub at-number : (P : ℕ → Prompt → Type 0) (ps : Pending) (k : ℕ) (p : Prompt) → Each (λ e. P e.0 e.1) ps → prompt_in k ps ≡ Some p → P k p
at-number P [] k p h is = cc
at-number P (e ∷ ps) k p h is = by_test (k == e.0) refl is (at-number P ps k p h.1)
  where
    by_test : (b : Bool) → (k == e.0) ≡ b → cond b (Some e.1) (prompt_in k ps) ≡ Some p → (prompt_in k ps ≡ Some p → P k p) → P k p
    by_test true same is rest =
        let value : e.1 ≡ p = cc in
        subst (λ x. P k x) value (subst (λ n. P n e.1) (sym (same-numbers k e.0 same)) h.0)
    by_test false other is rest = rest is

pub asked : (T : RepliedHistory) (queues : Queues) (k : ℕ) (p : Prompt) → IsPrompts T queues → queue.prompt_at queues k ≡ Some p → IsPendingPrompt T k p
asked T queues k p is h = by_given (queue.given_of queues k) h
  where
    by_given : (o : Option Given) → option_and_then (λ g. prompt_in k (queue.pending queues g.page)) o ≡ Some p → IsPendingPrompt T k p
    by_given None e = cc
    by_given (Some g) e = at-number (IsPendingPrompt T) (queue.pending queues g.page) k p (is.kept g.page) e

answered-is : (duration : ℕ) (T : RepliedHistory) (now k : ℕ) (out : Outcome) (life : EventLife) → answer_of duration T now (event.Answered k out life) ≡ answer.Settled (length (waiting T k)) (state_replied out)
unfolding answer_of
answered-is duration T now k out life = refl

pub settles : (duration : ℕ) (T : RepliedHistory) (now : ℕ) (queues : Queues) (k : ℕ) (out : Outcome) (life : EventLife) (requests : List DocRef) → IsPrompts T queues
    → option_map (λ (p : Prompt). p.waiting) (queue.prompt_at queues k) ≡ Some requests
    → answer_of duration T now (event.Answered k out life) ≡ answer.Settled (length requests) (state_replied out)
settles duration T now queues k out life requests is h = by_prompt (queue.prompt_at queues k) refl h
  where
    by_prompt : (o : Option Prompt) → queue.prompt_at queues k ≡ o → option_map (λ (p : Prompt). p.waiting) o ≡ Some requests → answer_of duration T now (event.Answered k out life) ≡ answer.Settled (length requests) (state_replied out)
    by_prompt None at e = cc
    by_prompt (Some p) at e =
        let pending = asked T queues k p is at in
        let same : p.waiting ≡ requests = cc in
        let count : length (waiting T k) ≡ length requests = ap length (sym pending.documents) ∙ length-map (λ (r : DocRef). r.doc) p.waiting ∙ ap length same in
        answered-is duration T now k out life ∙ ap (λ n. answer.Settled n (state_replied out)) count

-- ---- the numbers that were given

pub below-told : (number next : ℕ) (join : Option ℕ) (asking : Prompt) (asker : DocRef) (said : Asked) (old new : Queues) → said ≡ queue.asked_of number join → HasAsked old new asking asker said
    → number < next → AreBelow number old → AreBelow next new
below-told number next join asking asker said old new is asked more low = by_join join (subst (HasAsked old new asking asker) is asked)
  where
    by_join : (o : Option ℕ) → HasAsked old new asking asker (queue.asked_of number o) → AreBelow next new
    by_join (Some j) has k given = let less : k < number = low k (subst (λ g. is_some (lookup (nat_eq k) g) ≡ true) has.0 given) in omega arith
    by_join None has k given = by_number (number == k) refl (subst (λ o. is_some o ≡ true) (has.0 k) given)
      where
        by_number : (b : Bool) → (number == k) ≡ b → is_some (cond b (Some (record { page = asking.page; settled = false })) (queue.given_of old k)) ≡ true → k < next
        by_number true same e = let here : number ≡ k = same-numbers number k same in omega arith
        by_number false other e = let less : k < number = low k e in omega arith

pub below-answered : (number k : ℕ) (old new : Queues) → HasSettled old new k → AreBelow number old → AreBelow number new
below-answered number k old new settled low j given = by_number (k == j) refl
  where
    known-alike : (a b : Option Given) → option_map (λ (x : Given). x.page) a ≡ option_map (λ (x : Given). x.page) b → is_some a ≡ is_some b
    known-alike None None e = refl
    known-alike None (Some g) e = cc
    known-alike (Some g) None e = cc
    known-alike (Some g) (Some h) e = refl

    by_number : (b : Bool) → (k == j) ≡ b → j < number
    by_number true same =
        let here : k ≡ j = same-numbers k j same in
        low j (ap (λ n. is_some (queue.given_of old n)) (sym here) ∙ sym (known-alike (queue.given_of new k) (queue.given_of old k) settled.page) ∙ ap (λ n. is_some (queue.given_of new n)) here ∙ given)
    by_number false other = low j (ap is_some (sym (settled.others j other)) ∙ given)

module _ (laws : HistoryLaws) where
  pub below : (T : RepliedHistory) (queues : Queues) → IsPrompts T queues → AreBelow (length T + 1) queues
  below T queues is k given = by_made (is_prompt T k) refl
    where
      by_made : (b : Bool) → is_prompt T k ≡ b → k < length T + 1
      by_made true made = let bound : k ≤ length T = (laws.numbering.prompt_within T k made).1 in omega arith
      by_made false none =
          let nothing : queue.given_of queues k ≡ None = is.given k ∙ ap (option_map (given_by (is_settled T k))) (page-none T k none) in
          absurd (apart (sym (ap is_some nothing) ∙ given))
        where
          apart : false ≡ true → ⊥
          apart e = cc
