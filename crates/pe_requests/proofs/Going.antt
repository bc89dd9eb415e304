-- What the prompts stand for after a step that leaves the requests, and after an answer.
use Rattle.std.proofs.Common.{◌≡◌, ℕ, ◌<◌, ◌≤◌, Bool, true, false, not, ◌||◌, ◌==◌, nat_eq, cond, List, [], ◌∷◌, length, map, filter, Option, Some, None, option_map, refl, sym, ◌∙◌, ap, subst, arith}
use Rattle.std.specs.Map.{remove_entry}
use Rattle.pe_prompts.specs.declared.given.Given.{Given}
use Rattle.pe_prompts.specs.declared.queue.Prompt.{Prompt}
use Rattle.pe_prompts.specs.Pending.{Pending}
use Rattle.pe_prompts.specs.Queues as queue
use Rattle.pe_prompts.specs.Queues.{Queues, HasSettled}
use Rattle.pe_events.specs.Timed.{Timed}
use Rattle.pe_events.specs.declared.event.Event.TheVariants as event
use Rattle.pe_events.specs.declared.event.EventLife.{EventLife}
use Rattle.pe_events.specs.declared.event.Outcome.{Outcome}
use Rattle.pe_rules.specs.History.{Step, RepliedHistory, History, newest_answer, all_answers}
use Rattle.pe_rules.specs.Numbering.{is_prompt}
use Rattle.pe_rules.specs.Prompts.{answers, is_settled, waiting, pending}
use Rattle.pe_rules.specs.Replies.{replied}
use Rattle.pe_laws.specs.HistoryLaws.{HistoryLaws}
use Rattle.pe_laws.specs.Effects.{effects}
use Rattle.pe_laws.specs.EffectsLaws.{effects_of}
use Rattle.pe_laws.specs.PromptsLaws.{step_of}
use Rattle.pe_laws.specs.StatusesLaws.{Each}
use Rattle.pe_requests.specs.Parts.{page_of_prompt, given_by, IsPendingPrompt, IsPrompts}
use Rattle.pe_requests.proofs.Lists.{each-weaker, each-both, filter-all, same-numbers, not-same}
use Rattle.pe_requests.proofs.Rising.{AreRising, pending-rising}
use Rattle.pe_requests.proofs.Known.{known, known-same, page-none, page-stays}
use Rattle.pe_requests.proofs.Reading.{within}

-- ---- at first

unknown : (k : ℕ) → is_prompt [] k ≡ false
unfolding is_prompt newest_answer
unknown k = refl

no-pending : (top : ℕ) → pending [] top ≡ []
unfolding pending all_answers
no-pending top = refl

pub start : IsPrompts [] (record { given = []; pages = [] })
start = record {
  given = λ k. sym (ap (option_map (given_by (is_settled [] k))) (page-none [] k (unknown k)));
  pending = λ top. sym (no-pending top);
  kept = λ top. tt;
}

-- ---- prompts without one

-- taking out a number is leaving the others, where no number stands twice
removed-numbers : (k : ℕ) (ps : Pending) → AreRising (map (λ (e : ℕ × Prompt). e.0) ps) → map (λ (e : ℕ × Prompt). e.0) (remove_entry (nat_eq k) ps) ≡ filter (λ j. not (k == j)) (map (λ (e : ℕ × Prompt). e.0) ps)
removed-numbers k [] h = refl
removed-numbers k (e ∷ ps) h = by_test (k == e.0) refl (removed-numbers k ps h.1)
  where
    others : k ≡ e.0 → (ns : List ℕ) → Each (λ j. e.0 < j) ns → Each (λ j. not (k == j) ≡ true) ns
    others same ns above = each-weaker (λ j. e.0 < j) (λ j. not (k == j) ≡ true) ns (λ j lt. ap not (not-same k j (λ q. absurd (omega arith)))) above

    by_test : (b : Bool) → (k == e.0) ≡ b → map (λ (x : ℕ × Prompt). x.0) (remove_entry (nat_eq k) ps) ≡ filter (λ j. not (k == j)) (map (λ (x : ℕ × Prompt). x.0) ps)
        → map (λ (x : ℕ × Prompt). x.0) (cond b ps (e ∷ remove_entry (nat_eq k) ps))
        ≡ cond (not b) (e.0 ∷ filter (λ j. not (k == j)) (map (λ (x : ℕ × Prompt). x.0) ps)) (filter (λ j. not (k == j)) (map (λ (x : ℕ × Prompt). x.0) ps))
    by_test true is rest = sym (filter-all (λ j. not (k == j)) (map (λ (x : ℕ × Prompt). x.0) ps) (others (same-numbers k e.0 is) (map (λ (x : ℕ × Prompt). x.0) ps) h.0))
    by_test false is rest = ap (λ ns. e.0 ∷ ns) rest

each-removed : (P : ℕ × Prompt → Type 0) (k : ℕ) (ps : Pending) → Each P ps → Each P (remove_entry (nat_eq k) ps)
each-removed P k [] h = tt
each-removed P k (e ∷ ps) h = by_test (k == e.0) (each-removed P k ps h.1)
  where
    by_test : (b : Bool) → Each P (remove_entry (nat_eq k) ps) → Each P (cond b ps (e ∷ remove_entry (nat_eq k) ps))
    by_test true rest = h.1
    by_test false rest = (h.0, rest)

module _ (laws : HistoryLaws) where
  -- ---- pending prompts after a step

  -- one that was there, and for which the same documents wait
  pub kept-on : (s : Step) (T : RepliedHistory) (k : ℕ) (p : Prompt) → k ≤ length T → waiting (s ∷ T) k ≡ waiting T k → IsPendingPrompt T k p → IsPendingPrompt (s ∷ T) k p
  kept-on s T k p le same is = record {
    page = laws.prompts.page_older s T k le ∙ is.page;
    pair = laws.prompts.pair_older s T k le ∙ is.pair;
    documents = is.documents ∙ sym same;
  }

  -- all of a page
  pub each-kept-on : (s : Step) (T : RepliedHistory) (queues : Queues) (top : ℕ) → IsPrompts T queues → ((k : ℕ) → waiting (s ∷ T) k ≡ waiting T k)
      → Each (λ e. IsPendingPrompt (s ∷ T) e.0 e.1) (queue.pending queues top)
  each-kept-on s T queues top is same =
      each-weaker (λ e. (e.0 ≤ length T) × IsPendingPrompt T e.0 e.1) (λ e. IsPendingPrompt (s ∷ T) e.0 e.1) (queue.pending queues top)
      (λ e h. kept-on s T e.0 e.1 h.0 (same e.0) h.1)
      (each-both (λ e. e.0 ≤ length T) (λ e. IsPendingPrompt T e.0 e.1) (queue.pending queues top) (within T queues top is) (is.kept top))

  -- ---- a step that leaves the numbers

  pub known-left : (duration : ℕ) (H : History) (e : Timed) (k : ℕ) → (effects_of (step_of duration H e)).requests ≡ false → (effects_of (step_of duration H e)).settles_prompt ≡ false
      → known (replied duration H) k ≡ known (replied duration (e ∷ H)) k
  unfolding replied
  known-left duration H e k requests settles =
      let T = replied duration H in
      let s = step_of duration H e in
      known-same T (s ∷ T) k (laws.prompts.settled_left s T k settles) (page-stays laws s T k (laws.prompts.prompt_left duration H e k requests))

  pub quiet : (duration : ℕ) (H : History) (e : Timed) (queues : Queues) → (effects_of (step_of duration H e)).requests ≡ false → (effects_of (step_of duration H e)).settles_prompt ≡ false
      → (effects_of (step_of duration H e)).ends_documents ≡ false → IsPrompts (replied duration H) queues → IsPrompts (replied duration (e ∷ H)) queues
  unfolding replied
  quiet duration H e queues requests settles ends is =
      let T = replied duration H in
      let s = step_of duration H e in record {
        given = λ k. is.given k ∙ known-left duration H e k requests settles;
        pending = λ top. is.pending top ∙ sym (laws.prompts.pending_stay duration H e top requests settles ends);
        kept = λ top. each-kept-on s T queues top is (λ k. laws.prompts.waiting_stay s T k requests ends);
      }

  -- ---- an answer

  -- what is known of a number after the answer
  known-answered : (s : Step) (T : RepliedHistory) (k : ℕ) (out : Outcome) (life : EventLife) (old new : Queues) → s.event ≡ event.Answered k out life → ((j : ℕ) → is_prompt (s ∷ T) j ≡ is_prompt T j)
      → IsPrompts T old → HasSettled old new k → (j : ℕ) → queue.given_of new j ≡ known (s ∷ T) j
  known-answered s T k out life old new is_answer same is settled j = by_number (k == j) refl
    where
      settles : is_settled (s ∷ T) j ≡ (answers s.event j || is_settled T j)
      settles = laws.prompts.settled_step s T j

      named : answers s.event j ≡ (k == j)
      named = ap (λ x. answers x j) is_answer

      -- a number that is settled, with the page that was known
      settled-known : (g : Option Given) (o : Option ℕ) (b : Bool) → option_map (λ (x : Given). x.settled) g ≡ Some true → option_map (λ (x : Given). x.page) g ≡ option_map (λ (x : Given). x.page) (option_map (given_by b) o)
          → g ≡ option_map (given_by true) o
      settled-known None None b flagged pages = cc
      settled-known None (Some p) b flagged pages = cc
      settled-known (Some g) None b flagged pages = cc
      settled-known (Some g) (Some p) b flagged pages =
          let flag : g.settled ≡ true = cc in
          let place : g.page ≡ p = cc in
          ap (λ f. Some (given_by f g.page)) flag ∙ ap (λ n. Some (given_by true n)) place

      by_number : (b : Bool) → (k == j) ≡ b → queue.given_of new j ≡ known (s ∷ T) j
      by_number false other =
          settled.others j other ∙ is.given j
          ∙ known-same T (s ∷ T) j (settles ∙ ap (λ b. b || is_settled T j) (named ∙ other)) (page-stays laws s T j (same j))
      by_number true here =
          let number : k ≡ j = same-numbers k j here in
          let now : is_settled (s ∷ T) j ≡ true = settles ∙ ap (λ b. b || is_settled T j) (named ∙ here) in
          ap (queue.given_of new) (sym number)
          ∙ settled-known (queue.given_of new k) (page_of_prompt T k) (is_settled T k) settled.settled (settled.page ∙ ap (option_map (λ (x : Given). x.page)) (is.given k))
          ∙ ap (λ n. option_map (given_by true) (page_of_prompt T n)) number
          ∙ ap (option_map (given_by true)) (sym (page-stays laws s T j (same j)))
          ∙ ap (λ b. option_map (given_by b) (page_of_prompt (s ∷ T) j)) (sym now)

  pub answered : (duration : ℕ) (H : History) (e : Timed) (k : ℕ) (out : Outcome) (life : EventLife) (old new : Queues) → e.event ≡ event.Answered k out life
      → IsPrompts (replied duration H) old → HasSettled old new k → IsPrompts (replied duration (e ∷ H)) new
  unfolding replied
  answered duration H e k out life old new is_answer is settled =
      let T = replied duration H in
      let s = step_of duration H e in
      let requests : (effects_of s).requests ≡ false = ap (λ x. (effects x s.item).requests) is_answer in
      let ends : (effects_of s).ends_documents ≡ false = ap (λ x. (effects x s.item).ends_documents) is_answer in record {
        given = known-answered s T k out life old new is_answer (λ j. laws.prompts.prompt_left duration H e j requests) is settled;
        pending = λ top.
            ap (map (λ (x : ℕ × Prompt). x.0)) (settled.pending top)
            ∙ removed-numbers k (queue.pending old top) (subst AreRising (sym (is.pending top)) (pending-rising T top))
            ∙ ap (filter (λ j. not (k == j))) (is.pending top)
            ∙ sym (laws.prompts.pending_answered duration H e k out life top is_answer);
        kept = λ top. subst (Each (λ x. IsPendingPrompt (s ∷ T) x.0 x.1)) (sym (settled.pending top))
            (each-removed (λ x. IsPendingPrompt (s ∷ T) x.0 x.1) k (queue.pending old top) (each-kept-on s T old top is (λ j. laws.prompts.waiting_stay s T j requests ends)));
      }
