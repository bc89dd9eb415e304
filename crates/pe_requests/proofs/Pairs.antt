-- The pending prompt that a request of a pair joins, and the limit of pending prompts.
use Rattle.std.proofs.Common.{◌≡◌, ℕ, ◌+◌, Bool, true, false, ◌&&◌, cond, nat_le, List, [], ◌∷◌, length, map, filter, Option, Some, None, is_none, unwrap_or, option_map, option_and_then, refl, sym, ◌∙◌, ap}
use Rattle.std.specs.List.{find}
use Rattle.pe_base.specs.declared.limits.TheConstants.{PENDING_LIMIT}
use Rattle.pe_base.specs.declared.state.State.TheVariants as state
use Rattle.pe_store.specs.Pairs.{Pair, is_same_pair}
use Rattle.pe_prompts.specs.declared.queue.Prompt.{Prompt}
use Rattle.pe_prompts.specs.Pending.{Pending, pair_of, number_for}
use Rattle.pe_prompts.specs.Queues as queue
use Rattle.pe_prompts.specs.Queues.{Queues}
use Rattle.pe_events.specs.declared.event.Event.TheVariants as event
use Rattle.pe_rules.specs.History.{RepliedHistory, some_if}
use Rattle.pe_rules.specs.Numbering.{last_document}
use Rattle.pe_rules.specs.Embedders.{page, page_of_frame}
use Rattle.pe_rules.specs.Current.{is_current, document_in}
use Rattle.pe_rules.specs.PermissionState.{permission_state}
use Rattle.pe_rules.specs.Prompts.{is_prompt_for, first_of, pending, pending_prompt_of}
use Rattle.pe_rules.specs.Causes.{state_found, prompt_to_join, is_prompt_state, count_in_page, exceeds_pending}
use Rattle.pe_rules.specs.Replies.{answer_of_request, answer_of}
use Rattle.pe_laws.specs.StatusesLaws.{Each}
use Rattle.pe_requests.specs.Parts.{IsPendingPrompt, IsPrompts}
use Rattle.pe_requests.specs.PromptSteps.{IsAsking, answer_of_asked}
use Rattle.pe_requests.proofs.Lists.{length-map}

joins-in : (T : RepliedHistory) (pair : Pair) (ps : Pending) → Each (λ e. IsPendingPrompt T e.0 e.1) ps → number_for pair ps ≡ first_of (filter (is_prompt_for T pair) (map (λ e. e.0) ps))
joins-in T pair [] h = refl
joins-in T pair (e ∷ ps) h =
    by_test (is_same_pair (pair_of e.1) pair) (joins-in T pair ps h.1)
    ∙ ap (λ b. first_of (cond b (e.0 ∷ filter (is_prompt_for T pair) (map (λ x. x.0) ps)) (filter (is_prompt_for T pair) (map (λ x. x.0) ps)))) (sym (ap (λ o. unwrap_or (option_map (λ q. is_same_pair q pair) o) false) h.0.pair))
  where
    by_test : (b : Bool) → number_for pair ps ≡ first_of (filter (is_prompt_for T pair) (map (λ x. x.0) ps))
        → option_map (λ (x : ℕ × Prompt). x.0) (cond b (Some e) (find (λ x. is_same_pair (pair_of x.1) pair) ps))
        ≡ first_of (cond b (e.0 ∷ filter (is_prompt_for T pair) (map (λ x. x.0) ps)) (filter (is_prompt_for T pair) (map (λ x. x.0) ps)))
    by_test true rest = refl
    by_test false rest = rest

pub joins : (T : RepliedHistory) (queues : Queues) (top : ℕ) (pair : Pair) → IsPrompts T queues → queue.pending_of queues top pair ≡ pending_prompt_of T top pair
unfolding pending_prompt_of
joins T queues top pair is = joins-in T pair (queue.pending queues top) (is.kept top) ∙ ap (λ ns. first_of (filter (is_prompt_for T pair) ns)) (is.pending top)

pub to-join : (T : RepliedHistory) (frame : ℕ) (name : List ℕ) (document top : ℕ) (pair : Pair) → IsAsking T frame name document top pair → prompt_to_join T frame name ≡ pending_prompt_of T top pair
unfolding prompt_to_join
to-join T frame name document top pair asks = rw (asks.shown, asks.named, asks.paired, asks.paged) refl

pub joins-by-request : (T : RepliedHistory) (queues : Queues) (frame : ℕ) (name : List ℕ) (document top : ℕ) (pair : Pair) → IsPrompts T queues → IsAsking T frame name document top pair
    → queue.pending_of queues top pair ≡ prompt_to_join T frame name
joins-by-request T queues frame name document top pair is asks = joins T queues top pair is ∙ sym (to-join T frame name document top pair asks)

pub counted : (T : RepliedHistory) (queues : Queues) (top : ℕ) → IsPrompts T queues → length (queue.pending queues top) ≡ length (pending T top)
counted T queues top is = sym (length-map (λ (e : ℕ × Prompt). e.0) (queue.pending queues top)) ∙ ap length (is.pending top)

finds : (T : RepliedHistory) (now frame : ℕ) (name : List ℕ) (document top : ℕ) (pair : Pair) → IsAsking T frame name document top pair → state_found T now frame name ≡ Some (permission_state T now document pair.0)
unfolding state_found
finds T now frame name document top pair asks = rw (asks.shown, asks.named) refl

shown-last : (T : RepliedHistory) (frame d : ℕ) → document_in T frame ≡ Some d → last_document T frame ≡ Some d
unfolding document_in
shown-last T frame d h = by_last (last_document T frame) h
  where
    by_current : (x : ℕ) (b : Bool) → some_if b x ≡ Some d → ◌≡◌ {A = Option ℕ} (Some x) (Some d)
    by_current x true e = e
    by_current x false e = cc

    by_last : (o : Option ℕ) → option_and_then (λ x. some_if (is_current T x) x) o ≡ Some d → o ≡ Some d
    by_last None e = cc
    by_last (Some x) e = by_current x (is_current T x) e

frame-page : (T : RepliedHistory) (frame d : ℕ) → document_in T frame ≡ Some d → page_of_frame T frame ≡ Some (page T d)
unfolding page_of_frame
frame-page T frame d h = ap (option_map (page T)) (shown-last T frame d h)

exceeds-is : (T : RepliedHistory) (now frame : ℕ) (name : List ℕ)
    → exceeds_pending T now (event.Request frame name) ≡ (is_prompt_state (state_found T now frame name) && is_none (prompt_to_join T frame name) && nat_le PENDING_LIMIT (count_in_page T frame (pending T)))
unfolding exceeds_pending
exceeds-is T now frame name = refl

pub exceeds : (T : RepliedHistory) (queues : Queues) (now frame : ℕ) (name : List ℕ) (document top : ℕ) (pair : Pair) → IsPrompts T queues → IsAsking T frame name document top pair
    → exceeds_pending T now (event.Request frame name)
    ≡ (is_prompt_state (Some (permission_state T now document pair.0)) && is_none (queue.pending_of queues top pair) && nat_le PENDING_LIMIT (length (queue.pending queues top)))
exceeds T queues now frame name document top pair is asks =
    let count : count_in_page T frame (pending T) ≡ length (queue.pending queues top) =
    ap (λ o. unwrap_or (option_map (λ top. length (pending T top)) o) 0) (frame-page T frame document asks.shown ∙ ap Some asks.paged) ∙ sym (counted T queues top is) in
    exceeds-is T now frame name
    ∙ ap (λ o. is_prompt_state o && is_none (prompt_to_join T frame name) && nat_le PENDING_LIMIT (count_in_page T frame (pending T))) (finds T now frame name document top pair asks)
    ∙ ap (λ o. is_prompt_state (Some (permission_state T now document pair.0)) && is_none o && nat_le PENDING_LIMIT (count_in_page T frame (pending T))) (sym (joins-by-request T queues frame name document top pair is asks))
    ∙ ap (λ n. is_prompt_state (Some (permission_state T now document pair.0)) && is_none (queue.pending_of queues top pair) && nat_le PENDING_LIMIT n) count

-- ---- the answer to a request

pub request-answer : (duration : ℕ) (T : RepliedHistory) (now frame : ℕ) (name : List ℕ) (document top : ℕ) (pair : Pair) → IsAsking T frame name document top pair
    → answer_of duration T now (event.Request frame name) ≡ answer_of_request (permission_state T now document pair.0) (length T + 1) (prompt_to_join T frame name)
unfolding answer_of
request-answer duration T now frame name document top pair asks = rw (finds T now frame name document top pair asks) refl

pub requests : (duration : ℕ) (T : RepliedHistory) (queues : Queues) (now frame : ℕ) (name : List ℕ) (document top : ℕ) (pair : Pair) → IsPrompts T queues → IsAsking T frame name document top pair
    → answer_of duration T now (event.Request frame name) ≡ answer_of_request (permission_state T now document pair.0) (length T + 1) (queue.pending_of queues top pair)
requests duration T queues now frame name document top pair is asks =
    request-answer duration T now frame name document top pair asks
    ∙ ap (answer_of_request (permission_state T now document pair.0) (length T + 1)) (sym (joins-by-request T queues frame name document top pair is asks))

pub asks : (duration : ℕ) (T : RepliedHistory) (queues : Queues) (now frame : ℕ) (name : List ℕ) (document top : ℕ) (pair : Pair) → IsPrompts T queues → IsAsking T frame name document top pair
    → permission_state T now document pair.0 ≡ state.Prompt
    → answer_of duration T now (event.Request frame name) ≡ answer_of_asked (queue.asked_of (length T + 1) (queue.pending_of queues top pair))
asks duration T queues now frame name document top pair is asking found =
    requests duration T queues now frame name document top pair is asking
    ∙ ap (λ s. answer_of_request s (length T + 1) (queue.pending_of queues top pair)) found
    ∙ by_join (queue.pending_of queues top pair)
  where
    by_join : (o : Option ℕ) → answer_of_request state.Prompt (length T + 1) o ≡ answer_of_asked (queue.asked_of (length T + 1) o)
    by_join None = refl
    by_join (Some k) = refl
