-- What is told of an event is a prompt only where it is a request.
use Rattle.std.proofs.Common.{◌≡◌, ◌⊎◌, inl, inr, ℕ, ◌+◌, true, List, length, Option, Some, None, option_map, refl, sym, ◌∙◌, ap}
use Rattle.pe_base.specs.declared.state.State.{State}
use Rattle.pe_base.specs.declared.state.State.TheVariants as state
use Rattle.pe_events.specs.declared.answer.Answer.TheVariants as answer
use Rattle.pe_events.specs.declared.event.Event.{Event}
use Rattle.pe_events.specs.declared.event.Event.TheVariants as event
use Rattle.pe_events.specs.declared.reason.Reason.{Reason}
use Rattle.pe_rules.specs.History.{StepAnswer, Replied, RepliedHistory}
use Rattle.pe_rules.specs.Numbering.{makes_prompt}
use Rattle.pe_rules.specs.Current.{document_in}
use Rattle.pe_rules.specs.Prompts.{prompt_replied}
use Rattle.pe_rules.specs.Causes.{state_found, prompt_to_join}
use Rattle.pe_laws.proofs.QuietAnswers.{told-quiet}
use Rattle.pe_rules.specs.Replies.{answer_of_request, answer_of_post, post_reason, answer_or_done, answer_of, step_answer}

post-none : {A : Type 0} (give : A → Option Reason) (k : ℕ) (o : Option A) → prompt_replied (Replied (answer_or_done (option_map (λ x. answer_of_post k (give x)) o))) ≡ None
post-none give k None = refl
post-none give k (Some x) = by_reason (give x)
  where
    by_reason : (r : Option Reason) → prompt_replied (Replied (answer_of_post k r)) ≡ None
    by_reason None = refl
    by_reason (Some why) = refl

-- the event is a request that joins this prompt, or makes it where there is none to join
abbrev pub AsksFor : RepliedHistory → Event → ℕ → Type 0
AsksFor T e k = (frame : ℕ) × (feature : List ℕ) × (e ≡ event.Request frame feature) × (((prompt_to_join T frame feature ≡ None) × (k ≡ length T + 1)) ⊎ (prompt_to_join T frame feature ≡ Some k))

asks : (T : RepliedHistory) (frame : ℕ) (feature : List ℕ) (k : ℕ) (o : Option State)
    → prompt_replied (Replied (answer_or_done (option_map (λ s. answer_of_request s (length T + 1) (prompt_to_join T frame feature)) o))) ≡ Some k → AsksFor T (event.Request frame feature) k
asks T frame feature k None h = cc
asks T frame feature k (Some state.Granted) h = cc
asks T frame feature k (Some state.Denied) h = cc
asks T frame feature k (Some state.Prompt) h = by_join (prompt_to_join T frame feature) refl h
  where
    by_join : (j : Option ℕ) → prompt_to_join T frame feature ≡ j → prompt_replied (Replied (answer_of_request state.Prompt (length T + 1) j)) ≡ Some k → AsksFor T (event.Request frame feature) k
    by_join None is e = (frame, feature, refl, inl (is, cc))
    by_join (Some p) is e = (frame, feature, refl, inr (is ∙ e))

no-prompt : {A : Type 0} (o : Option ℕ) (k : ℕ) → o ≡ None → o ≡ Some k → A
no-prompt o k none some = absurd (apart (sym none ∙ some))
  where
    apart : ◌≡◌ {A = Option ℕ} None (Some k) → ⊥
    apart e = cc

post-tells : (duration : ℕ) (T : RepliedHistory) (now sender target : ℕ) (named : Option (List ℕ)) (capability : List ℕ) → prompt_replied (step_answer duration T now (event.Post sender target named capability)) ≡ None
unfolding answer_of
post-tells duration T now sender target named capability = post-none (λ d. post_reason duration T now d named capability) (length T + 1) (document_in T sender)

request-asks : (duration : ℕ) (T : RepliedHistory) (now frame : ℕ) (feature : List ℕ) (k : ℕ) → prompt_replied (step_answer duration T now (event.Request frame feature)) ≡ Some k → AsksFor T (event.Request frame feature) k
unfolding answer_of
request-asks duration T now frame feature k h = asks T frame feature k (state_found T now frame feature) h

-- a prompt is told of requests alone
pub told-asks : (duration : ℕ) (T : RepliedHistory) (now : ℕ) (e : Event) (k : ℕ) → prompt_replied (step_answer duration T now e) ≡ Some k → AsksFor T e k
told-asks duration T now (event.Request frame feature) k h = request-asks duration T now frame feature k h
told-asks duration T now (event.Post sender target named capability) k h = no-prompt _ k (post-tells duration T now sender target named capability) h
told-asks duration T now e k h = no-prompt _ k (told-quiet duration T now e refl).0 h

-- what makes a prompt tells it
pub made-is-told : (i : StepAnswer) → makes_prompt i ≡ true → (k : ℕ) × (i ≡ Replied (answer.PromptMade k))
made-is-told (Replied (answer.PromptMade prompt)) h = (prompt, refl)
made-is-told i h = cc

makes-none : (T : RepliedHistory) (frame : ℕ) (feature : List ℕ) (o : Option State)
    → makes_prompt (Replied (answer_or_done (option_map (λ s. answer_of_request s (length T + 1) (prompt_to_join T frame feature)) o))) ≡ true → prompt_to_join T frame feature ≡ None
makes-none T frame feature None h = cc
makes-none T frame feature (Some state.Granted) h = cc
makes-none T frame feature (Some state.Denied) h = cc
makes-none T frame feature (Some state.Prompt) h = by_join (prompt_to_join T frame feature) h
  where
    by_join : (j : Option ℕ) → makes_prompt (Replied (answer_of_request state.Prompt (length T + 1) j)) ≡ true → j ≡ None
    by_join None e = refl
    by_join (Some p) e = cc

pub makes-by-request : (duration : ℕ) (T : RepliedHistory) (now frame : ℕ) (feature : List ℕ) → makes_prompt (step_answer duration T now (event.Request frame feature)) ≡ true → prompt_to_join T frame feature ≡ None
unfolding answer_of
makes-by-request duration T now frame feature h = makes-none T frame feature (state_found T now frame feature) h

-- the event is a request, and there is no prompt that it joins
abbrev pub MakesFor : RepliedHistory → Event → Type 0
MakesFor T e = (frame : ℕ) × (feature : List ℕ) × (e ≡ event.Request frame feature) × (prompt_to_join T frame feature ≡ None)

-- a prompt is made by a request that has none to join
pub told-makes : (duration : ℕ) (T : RepliedHistory) (now : ℕ) (e : Event) → makes_prompt (step_answer duration T now e) ≡ true → MakesFor T e
told-makes duration T now e h =
    let told = made-is-told (step_answer duration T now e) h in
    let asks = told-asks duration T now e told.0 (ap prompt_replied told.1) in
    (asks.0, asks.1, asks.2, makes-by-request duration T now asks.0 asks.1 (ap (λ x. makes_prompt (step_answer duration T now x)) (sym asks.2) ∙ h))
