-- What requests and the answers to prompts are answered, and what the engine stands for after them.
use Rattle.std.proofs.Common.{◌≡◌, ◌≢◌, ℕ, ◌+◌, ◌≤◌, Bool, true, false, not, ◌&&◌, nat_le, ◌==◌, List, [], ◌∷◌, ◌++◌, length, Option, Some, None, Ok, IsTrue, is_some, is_none, if◌then◌else◌, unwrap_or, option_map, option_and_then, refl, sym, ◌∙◌, ap, subst, arith, true≢false}
use Rattle.std.specs.Prelude.{IfSome}
use Rattle.std.specs.Option.{option_or}
use Rattle.std.specs.Global.{Vec}
use Rattle.std.proofs.lemmas.Bool.Decides.{nat_tests}
use Rattle.pe_base.specs.declared.limits.TheConstants.{TIME_LIMIT, STORE_LIMIT, PENDING_LIMIT, EMBARGO_DISMISSALS, EMBARGO_SPAN}
use Rattle.pe_base.specs.declared.state.State.{State}
use Rattle.pe_base.specs.declared.state.State.TheVariants as state
use Rattle.pe_arena.specs.declared.handle.DocRef.{DocRef}
use Rattle.pe_features.specs.declared.feature.Feature.{Feature}
use Rattle.pe_store.specs.declared.key.Key.{Key}
use Rattle.pe_store.specs.declared.key.Life.{Life}
use Rattle.pe_store.specs.declared.key.Life.TheVariants as lives
use Rattle.pe_store.specs.Entries as store
use Rattle.pe_store.specs.Entries.{StoreValue}
use Rattle.pe_store.specs.Pairs.{Pair}
use Rattle.pe_prompts.specs.declared.queue.Prompt.{Prompt}
use Rattle.pe_prompts.specs.declared.fault.AnswerFault.{AnswerFault}
use Rattle.pe_prompts.specs.declared.fault.AnswerFault.TheVariants as fault
use Rattle.pe_prompts.specs.declared.given.Given.{Given}
use Rattle.pe_prompts.specs.Pending.{Pending, prompt_in, is_first, pair_of}
use Rattle.pe_prompts.specs.Queues as queue
use Rattle.pe_prompts.specs.Queues.{Queues, HasSettled}
use Rattle.pe_events.specs.declared.answer.Answer.{Answer}
use Rattle.pe_events.specs.declared.answer.Change.{Change}
use Rattle.pe_events.specs.declared.cause.Cause.{Cause}
use Rattle.pe_events.specs.declared.cause.Cause.TheVariants as cause
use Rattle.pe_events.specs.declared.event.Event.{Event}
use Rattle.pe_events.specs.declared.event.Event.TheVariants as event
use Rattle.pe_events.specs.declared.event.EventLife.{EventLife}
use Rattle.pe_events.specs.declared.event.EventLife.TheVariants as given
use Rattle.pe_events.specs.declared.event.Outcome.{Outcome}
use Rattle.pe_events.specs.declared.event.Outcome.TheVariants as outcome
use Rattle.pe_events.specs.Fitting.{is_fitting, is_life}
use Rattle.pe_events.specs.Timed.{Timed}
use Rattle.pe_rules.specs.History.{StepAnswer, Step, RepliedHistory, History, some_if, clock}
use Rattle.pe_rules.specs.Numbering.{is_prompt}
use Rattle.pe_rules.specs.Current.{document_in}
use Rattle.pe_rules.specs.Settings.{Setting, prompt_pair, prompt_page, life_of_answer, setting_named, setting_by, holds, is_undecided, counts, embargo, embargo_for, dismissals, stored_state, has_entry}
use Rattle.pe_rules.specs.Causes.{cause_of, entries, lacks_key, is_prompt_state, names_unknown, has_bad_url, has_bad_feature, has_bad_call, has_bad_capability, names_other_page, exceeds_pages, exceeds_depth, exceeds_frames, exceeds_statuses, exceeds_pending, exceeds_store}
use Rattle.pe_rules.specs.Changes.{changes_after}
use Rattle.pe_rules.specs.PermissionState.{permission_state}
use Rattle.pe_rules.specs.Replies.{answer_of_request, answer_of, replied, step_answer}
use Rattle.pe_laws.specs.HistoryLaws.{HistoryLaws}
use Rattle.pe_changes.specs.Parts.{IsStore, IsStatuses, AreGoverned}
use Rattle.pe_changes.specs.StoreSteps.{IsSet, IsDismissed}
use Rattle.pe_messages.specs.Parts.{IsMessages, AreAddressed}
use Rattle.pe_requests.specs.Parts.{IsPrompts}
use Rattle.pe_requests.specs.PromptSteps.{first_named_cause, cause_of_fault, IsAsking, answer_of_asked}
use Rattle.pe_engine.specs.declared.engine.Made.{Made}
use Rattle.pe_engine.specs.declared.engine.Made.TheVariants as made
use Rattle.pe_engine.specs.declared.row.Row.{Row}
use Rattle.pe_engine.specs.Causes.{named_cause, other_cause}
use Rattle.pe_engine.specs.Changing.{HasNoted}
use Rattle.pe_engine.specs.Laws.{EngineLaws}
use Rattle.pe_engine.specs.Objects.{handle_in, handle_at}
use Rattle.pe_engine.specs.Prompting.{made_by_request, asked_by, setting_for, HasAnswered, IsDecided}
use Rattle.pe_engine.specs.Replying.{timed, HasPassed, IsReplied}
use Rattle.pe_engine.specs.Rows.{blocks}
use Rattle.pe_engine.specs.StandsFor.{EngineValue, StandsFor}
use Rattle.pe_engine.specs.Using.{state_at}
use Rattle.pe_engine.proofs.Accepted.{IsQueues, step_of, documents-within, named-stays, messages-left}
use Rattle.pe_engine.proofs.Governing.{all-governed}
use Rattle.pe_engine.proofs.Kept.{kept-silent}
use Rattle.pe_engine.proofs.Passed.{applied-reply}

-- ---- the causes

pub feature-request : (T : RepliedHistory) (now f : ℕ) (name : List ℕ) → lacks_key name ≡ true → other_cause T now (event.Request f name) ≡ Some cause.Feature
unfolding other_cause has_bad_url has_bad_feature
feature-request T now f name none = rw none refl

pub other-request : (T : RepliedHistory) (now f : ℕ) (name : List ℕ) → lacks_key name ≡ false
    → other_cause T now (event.Request f name) ≡ option_or (some_if (exceeds_pending T now (event.Request f name)) cause.LimitPending) None
unfolding other_cause has_bad_url has_bad_feature has_bad_call has_bad_capability names_other_page exceeds_pages exceeds_depth exceeds_frames exceeds_statuses exceeds_store setting_named setting_by
other-request T now f name some = rw some refl

-- the prompt that is named
pub named-is : (T : RepliedHistory) (e : Event) → named_cause T e ≡ first_named_cause T e
unfolding named_cause
named-is T e = refl

pub named-by : (laws : EngineLaws) (duration : ℕ) (H : History) (queues : Queues) (k : ℕ) (out : Outcome) (life : EventLife) (fault : Option AnswerFault) → IsPrompts (replied duration H) queues → queue.refusal queues k ≡ fault
    → named_cause (replied duration H) (event.Answered k out life) ≡ option_and_then cause_of_fault fault
named-by laws duration H queues k out life fault is refused =
    named-is (replied duration H) (event.Answered k out life) ∙ laws.prompts.named_cause duration H queues k out life is ∙ ap (option_and_then cause_of_fault) refused

-- want of memory is no reason why a prompt is not shown
pub never-memory : (queues : Queues) (k : ℕ) → queue.refusal queues k ≡ Some fault.Memory → ⊥
never-memory queues k h = by_given (queue.given_of queues k) h
  where
    among : (a b : Bool) → (if a then Some fault.Closed else (if b then None else Some fault.NotShown)) ≡ Some fault.Memory → ⊥
    among true b e = cc
    among false true e = cc
    among false false e = cc

    by_settled : (b : Bool) (ps : Pending) → (if b then Some fault.Settled else queue.fault_among k ps) ≡ Some fault.Memory → ⊥
    by_settled true ps e = cc
    by_settled false ps e = among (is_none (prompt_in k ps)) (is_first k ps) e

    by_given : (o : Option Given) → queue.fault_of queues k o ≡ Some fault.Memory → ⊥
    by_given None e = cc
    by_given (Some g) e = by_settled g.settled (queue.pending queues g.page) e

unknown-answer : (T : RepliedHistory) (k : ℕ) (out : Outcome) (life : EventLife) → is_prompt T k ≡ false → named_cause T (event.Answered k out life) ≡ Some cause.Unknown
unfolding named_cause names_unknown
unknown-answer T k out life unmade = rw unmade refl

-- then the store
pub other-answer : (T : RepliedHistory) (now k : ℕ) (out : Outcome) (life : EventLife) (pair : Pair) (decided : Option (State × Life)) → setting_by now (event.Answered k out life) T ≡ option_map (setting_for pair) decided
    → other_cause T now (event.Answered k out life) ≡ option_or (some_if (is_some decided && (not (has_entry T pair) && nat_le STORE_LIMIT (length (entries T)))) cause.LimitStore) None
unfolding other_cause has_bad_url has_bad_feature has_bad_call has_bad_capability names_other_page exceeds_pages exceeds_depth exceeds_frames exceeds_statuses exceeds_pending exceeds_store
other-answer T now k out life pair decided is =
    ap (λ (o : Option Setting). option_or (some_if (unwrap_or (option_map (λ (x : Setting). not (has_entry T x.pair) && nat_le STORE_LIMIT (length (entries T))) o) false) cause.LimitStore) None) is ∙ by_decided decided
  where
    by_decided : (o : Option (State × Life))
        → option_or (some_if (unwrap_or (option_map (λ (x : Setting). not (has_entry T x.pair) && nat_le STORE_LIMIT (length (entries T))) (option_map (setting_for pair) o)) false) cause.LimitStore) None
        ≡ option_or (some_if (is_some o && (not (has_entry T pair) && nat_le STORE_LIMIT (length (entries T)))) cause.LimitStore) None
    by_decided None = refl
    by_decided (Some x) = refl

-- ---- what an answer sets

pub life-fits : (life : EventLife) → is_life outcome.Block life ≡ is_life outcome.Allow life
life-fits given.Forever = refl
life-fits given.Once = refl
life-fits (given.For ms) = refl

pub life-lasts : (now : ℕ) (life : EventLife) (top : Option ℕ) → is_life outcome.Allow life ≡ true → is_some top ≡ true → life_of_answer now life top ≢ lives.Until 0
life-lasts now given.Forever top fits some = λ e. cc
life-lasts now given.Once (Some d) fits some = λ e. cc
life-lasts now given.Once None fits some = λ e. cc
life-lasts now (given.For ms) top fits some = λ e. let ended : now + ms ≡ 0 = cc in by_test (nat_le 1 ms) refl fits ended
  where
    by_test : (b : Bool) → nat_le 1 ms ≡ b → (b && nat_le ms TIME_LIMIT) ≡ true → now + ms ≡ 0 → ⊥
    by_test true least h ended = let some : 1 ≤ ms = grind (arith, nat_tests) in absurd (omega (arith, some, ended))
    by_test false least h ended = absurd (true≢false (sym h))

pub allow-sets : (T : RepliedHistory) (now k : ℕ) (life : EventLife) (pair : Pair) (top : ℕ) → prompt_pair T k ≡ Some pair → prompt_page T k ≡ Some top
    → setting_by now (event.Answered k outcome.Allow life) T ≡ Some (setting_for pair (state.Granted, life_of_answer now life (document_in T top)))
unfolding setting_by setting_named
allow-sets T now k life pair top paired paged = rw (paired, paged) refl

pub block-sets : (T : RepliedHistory) (now k : ℕ) (life : EventLife) (pair : Pair) (top : ℕ) → prompt_pair T k ≡ Some pair → prompt_page T k ≡ Some top
    → setting_by now (event.Answered k outcome.Block life) T ≡ Some (setting_for pair (state.Denied, life_of_answer now life (document_in T top)))
unfolding setting_by setting_named
block-sets T now k life pair top paired paged = rw (paired, paged) refl

-- an answer that sets nothing is a dismissal
allow-some : (T : RepliedHistory) (now k : ℕ) (life : EventLife) (pair : Pair) → prompt_pair T k ≡ Some pair → is_some (setting_by now (event.Answered k outcome.Allow life) T) ≡ true
unfolding setting_by setting_named
allow-some T now k life pair paired = rw paired refl

block-some : (T : RepliedHistory) (now k : ℕ) (life : EventLife) (pair : Pair) → prompt_pair T k ≡ Some pair → is_some (setting_by now (event.Answered k outcome.Block life) T) ≡ true
unfolding setting_by setting_named
block-some T now k life pair paired = rw paired refl

only-dismissed : (T : RepliedHistory) (now k : ℕ) (out : Outcome) (life : EventLife) (pair : Pair) → prompt_pair T k ≡ Some pair → setting_by now (event.Answered k out life) T ≡ None → out ≡ outcome.Dismiss
only-dismissed T now k outcome.Allow life pair paired none = absurd (true≢false (sym (allow-some T now k life pair paired) ∙ ap is_some none))
only-dismissed T now k outcome.Block life pair paired none = absurd (true≢false (sym (block-some T now k life pair paired) ∙ ap is_some none))
only-dismissed T now k outcome.Dismiss life pair paired none = refl

some-tested : {A : Type 0} (b : Bool) (x : A) → is_some (some_if b x) ≡ b
some-tested true x = refl
some-tested false x = refl

module _ (laws : HistoryLaws) where
  -- a dismissal is an embargo where nothing or prompt is stored, and it is the last that is wanted
  pub embargo-is : (T : RepliedHistory) (now : ℕ) (pair : Pair) → is_some (embargo_for now T pair) ≡ (is_undecided (stored_state T now pair) && dismissals T pair + 1 == EMBARGO_DISMISSALS)
  unfolding counts
  embargo-is T now pair =
      ap is_some (laws.settings.embargo_is now T pair) ∙ some-tested _ _
      ∙ ap (λ o. is_undecided o && dismissals T pair + 1 == EMBARGO_DISMISSALS) (sym (laws.settings.stored_by_standing T now pair))

  by-embargo : (T : RepliedHistory) (now k : ℕ) (life : EventLife) (pair : Pair) → prompt_pair T k ≡ Some pair → setting_by now (event.Answered k outcome.Dismiss life) T ≡ embargo_for now T pair
  by-embargo T now k life pair paired = laws.settings.setting_dismissed now k life T ∙ ap (option_and_then (embargo_for now T)) paired

  pub dismiss-none : (T : RepliedHistory) (now k : ℕ) (life : EventLife) (pair : Pair) → prompt_pair T k ≡ Some pair → is_some (embargo_for now T pair) ≡ false → setting_by now (event.Answered k outcome.Dismiss life) T ≡ None
  dismiss-none T now k life pair paired none = by-embargo T now k life pair paired ∙ nothing (embargo_for now T pair) none
    where
      nothing : (o : Option Setting) → is_some o ≡ false → o ≡ None
      nothing None h = refl
      nothing (Some x) h = cc

  pub dismiss-sets : (T : RepliedHistory) (now k : ℕ) (life : EventLife) (pair : Pair) → prompt_pair T k ≡ Some pair → is_some (embargo_for now T pair) ≡ true
      → setting_by now (event.Answered k outcome.Dismiss life) T ≡ Some (setting_for pair (state.Denied, lives.Until (now + EMBARGO_SPAN)))
  dismiss-sets T now k life pair paired some = by-embargo T now k life pair paired ∙ something (embargo_for now T pair) _ (laws.settings.embargo_is now T pair) some
    where
      something : (o : Option Setting) (b : Bool) → o ≡ some_if b (embargo now pair) → is_some o ≡ true → o ≡ Some (embargo now pair)
      something o true is h = is
      something None false is h = cc
      something (Some x) false is h = cc

  -- a number that no position of the history has is that of no prompt
  pub beyond-prompts : (e : EngineValue) (H : History) (k : ℕ) (out : Outcome) (life : EventLife) → StandsFor e H → ((1 ≤ k) → (k ≤ length e.made) → ⊥) → named_cause (replied e.duration H) (event.Answered k out life) ≡ Some cause.Unknown
  beyond-prompts e H k out life s none = unknown-answer T k out life (by_test (is_prompt T k) refl)
    where
      T : RepliedHistory
      T = replied e.duration H

      by_test : (b : Bool) → is_prompt T k ≡ b → is_prompt T k ≡ false
      by_test false q = q
      by_test true q = let (least, most) = laws.numbering.prompt_within T k q in absurd (none least (subst (λ n. k ≤ n) (sym s.steps.tree.count) most))

-- what an answer decides, by its outcome
module _ (laws : EngineLaws) where
  pub decided-allow : (e : EngineValue) (H : History) (now k : ℕ) (life : EventLife) (p : Prompt) (lasting : Life) → StandsFor e H → queue.prompt_at e.prompts k ≡ Some p → is_life outcome.Allow life ≡ true
      → lasting ≡ life_of_answer now life (document_in (replied e.duration H) p.page) → IsDecided (replied e.duration H) now k outcome.Allow life (pair_of p) (Some (state.Granted, lasting))
  decided-allow e H now k life p lasting s at fits is =
      let T = replied e.duration H in
      let pending = laws.prompts.asked T e.prompts k p s.steps.prompts at in
      let shown = laws.prompts.page_shown e.duration H e.prompts k p s.regular s.steps.prompts at in record {
        pair_is = pending.pair;
        setting = allow-sets T now k life (pair_of p) p.page pending.pair pending.page ∙ ap (λ l. Some (setting_for (pair_of p) (state.Granted, l))) (sym is);
        lasts = λ q. life-lasts now life (document_in T p.page) fits shown (sym is ∙ q);
      }

  pub decided-block : (e : EngineValue) (H : History) (now k : ℕ) (life : EventLife) (p : Prompt) (lasting : Life) → StandsFor e H → queue.prompt_at e.prompts k ≡ Some p → is_life outcome.Allow life ≡ true
      → lasting ≡ life_of_answer now life (document_in (replied e.duration H) p.page) → IsDecided (replied e.duration H) now k outcome.Block life (pair_of p) (Some (state.Denied, lasting))
  decided-block e H now k life p lasting s at fits is =
      let T = replied e.duration H in
      let pending = laws.prompts.asked T e.prompts k p s.steps.prompts at in
      let shown = laws.prompts.page_shown e.duration H e.prompts k p s.regular s.steps.prompts at in record {
        pair_is = pending.pair;
        setting = block-sets T now k life (pair_of p) p.page pending.pair pending.page ∙ ap (λ l. Some (setting_for (pair_of p) (state.Denied, l))) (sym is);
        lasts = λ q. life-lasts now life (document_in T p.page) fits shown (sym is ∙ q);
      }

  pub decided-none : (e : EngineValue) (H : History) (now k : ℕ) (life : EventLife) (p : Prompt) → StandsFor e H → queue.prompt_at e.prompts k ≡ Some p → is_some (embargo_for now (replied e.duration H) (pair_of p)) ≡ false
      → IsDecided (replied e.duration H) now k outcome.Dismiss life (pair_of p) None
  decided-none e H now k life p s at none =
      let pending = laws.prompts.asked (replied e.duration H) e.prompts k p s.steps.prompts at in record {
        pair_is = pending.pair;
        setting = dismiss-none laws.history (replied e.duration H) now k life (pair_of p) pending.pair none;
        lasts = tt;
      }

  pub decided-embargo : (e : EngineValue) (H : History) (now k : ℕ) (life : EventLife) (p : Prompt) → StandsFor e H → queue.prompt_at e.prompts k ≡ Some p → is_some (embargo_for now (replied e.duration H) (pair_of p)) ≡ true
      → IsDecided (replied e.duration H) now k outcome.Dismiss life (pair_of p) (Some (state.Denied, lives.Until (now + EMBARGO_SPAN)))
  decided-embargo e H now k life p s at some =
      let pending = laws.prompts.asked (replied e.duration H) e.prompts k p s.steps.prompts at in record {
        pair_is = pending.pair;
        setting = dismiss-sets laws.history (replied e.duration H) now k life (pair_of p) pending.pair some;
        lasts = λ q. let ended : now + EMBARGO_SPAN ≡ 0 = cc in absurd (omega (arith, ended));
      }

-- ---- what was applied

-- the engine before, once the time has passed, and once it has this store and these prompts and what the event made is noted
pub record HasApplied (e p u : EngineValue) (now : ℕ) (m : Made) (value : StoreValue) (prompts : Queues) : Type 0 where
  pub noted : HasNoted e u now m
  pub frames_are : u.frames ≡ e.frames
  pub statuses_are : u.statuses ≡ e.statuses
  pub messages_are : u.messages ≡ e.messages
  pub passed_duration : p.duration ≡ e.duration
  pub store_is : u.store ≡ value
  pub prompts_are : u.prompts ≡ prompts

pub has-applied : (e p u : EngineValue) (now : ℕ) (m : Made) (value : StoreValue) (prompts : Queues) → p ≡ record e { store = p.store } → u ≡ record p { clock = now; made = p.made ++ m ∷ []; store = value; prompts = prompts }
    → HasApplied e p u now m value prompts
has-applied e p u now m value prompts p_is u_is = record {
  noted = record {
    duration = ap (λ (x : EngineValue). x.duration) u_is ∙ ap (λ (x : EngineValue). x.duration) p_is;
    failed = ap (λ (x : EngineValue). x.failed) u_is ∙ ap (λ (x : EngineValue). x.failed) p_is;
    clock = ap (λ (x : EngineValue). x.clock) u_is;
    made = ap (λ (x : EngineValue). x.made) u_is ∙ ap (λ (x : EngineValue). x.made ++ m ∷ []) p_is;
  };
  frames_are = ap (λ (x : EngineValue). x.frames) u_is ∙ ap (λ (x : EngineValue). x.frames) p_is;
  statuses_are = ap (λ (x : EngineValue). x.statuses) u_is ∙ ap (λ (x : EngineValue). x.statuses) p_is;
  messages_are = ap (λ (x : EngineValue). x.messages) u_is ∙ ap (λ (x : EngineValue). x.messages) p_is;
  passed_duration = ap (λ (x : EngineValue). x.duration) p_is;
  store_is = ap (λ (x : EngineValue). x.store) u_is;
  prompts_are = ap (λ (x : EngineValue). x.prompts) u_is;
}

module _ (laws : EngineLaws) where
  queues-are : (e p u : EngineValue) (H : History) (x : Timed) (m : Made) (value : StoreValue) (prompts : Queues) → StandsFor e H → HasApplied e p u x.time m value prompts
      → IsPrompts (replied e.duration (x ∷ H)) prompts
      → IsMessages (step_of x (step_answer e.duration (replied e.duration H) x.time x.event) ∷ replied e.duration H) u.messages
      × AreAddressed (step_of x (step_answer e.duration (replied e.duration H) x.time x.event) ∷ replied e.duration H) (handle_at u.made) u.messages.waiting
      → IsQueues u (step_of x (step_answer e.duration (replied e.duration H) x.time x.event) ∷ replied e.duration H)
  queues-are e p u H x m value prompts stands has prompted messages = record {
    prompts = subst (IsPrompts (step_of x (step_answer e.duration (replied e.duration H) x.time x.event) ∷ replied e.duration H)) (sym has.prompts_are)
        (subst (λ U. IsPrompts U prompts) (laws.history.steps.told_step e.duration x H) prompted);
    messages = messages.0;
    addressed = messages.1;
  }

  stored-then : (e p : EngineValue) (H : History) (now : ℕ) (before : Vec Change) → p.duration ≡ e.duration → HasPassed e p H now before → IsStore (replied e.duration H) now p.store
  stored-then e p H now before same passed = subst (λ d. IsStore (replied d H) now p.store) same passed.stands.steps.store

  -- ---- a request

  pub request-reply : (e p u : EngineValue) (H : History) (now f : ℕ) (name : List ℕ) (m : Made) (prompts : Queues) (said : Answer) (before after : Vec Change)
      → StandsFor e H → HasPassed e p H now before → HasApplied e p u now m p.store prompts → handle_in m ≡ None
      → cause_of (replied e.duration H) now (event.Request f name) ≡ None → said ≡ answer_of e.duration (replied e.duration H) now (event.Request f name)
      → IsPrompts (replied e.duration (timed now (event.Request f name) ∷ H)) prompts → after.items ≡ []
      → IsReplied e u H (timed now (event.Request f name)) (Ok (record { before = before; answer = said; after = after }))
  request-reply e p u H now f name m prompts said before after stands passed has frameless none says prompted empty =
      applied-reply laws e p u H x m said before after stands passed none says has.noted (record {
        tree = rw (has.noted.made, has.frames_are) (kept-silent laws.history s T e.made m e.frames frameless refl refl refl refl refl refl refl refl refl stands.steps.tree);
        store = subst (IsStore (s ∷ T) now) (sym has.store_is) (laws.stores.quiet s T now p.store refl refl refl (stored-then e p H now before has.passed_duration passed));
        statuses = subst (IsStatuses (s ∷ T)) (sym has.statuses_are) (laws.statuses.quiet s T e.statuses refl refl refl stands.steps.statuses);
        named = rw (has.statuses_are, has.noted.made) (named-stays laws s T e.made m e.statuses.live (documents-within laws T e.statuses stands.steps.statuses) stands.steps.named);
        queues = queues-are e p u H x m p.store prompts stands has prompted (messages-left laws e u H x m e.clock refl refl stands has.messages_are has.noted.made);
      }) (empty ∙ sym (laws.history.changes.none_after s T now refl refl refl))
    where
      T : RepliedHistory
      T = replied e.duration H

      x : Timed
      x = timed now (event.Request f name)

      s : Step
      s = step_of x (step_answer e.duration T now x.event)

  -- whether it would make a prompt beyond the limit
  pub pending-is : (e : EngineValue) (H : History) (now f : ℕ) (name : List ℕ) (found : State) (page : ℕ) (feature : Feature) (key : Key) (asker : DocRef) → StandsFor e H
      → IsAsking (replied e.duration H) f name asker.doc page (feature, key) → found ≡ permission_state (replied e.duration H) now asker.doc feature
      → exceeds_pending (replied e.duration H) now (event.Request f name)
      ≡ (is_prompt_state (Some found) && is_none (queue.pending_of e.prompts page (feature, key)) && nat_le PENDING_LIMIT (length (queue.pending e.prompts page)))
  pending-is e H now f name found page feature key asker s asks is =
      laws.prompts.exceeds (replied e.duration H) e.prompts now f name asker.doc page (feature, key) s.steps.prompts asks
      ∙ ap (λ x. is_prompt_state (Some x) && is_none (queue.pending_of e.prompts page (feature, key)) && nat_le PENDING_LIMIT (length (queue.pending e.prompts page))) (sym is)

  -- it tells the state that it found, or it is put to a prompt
  frameless : (o : Option ℕ) → handle_in (made_by_request o) ≡ None
  frameless None = refl
  frameless (Some k) = refl

  pub request-told : (e p u : EngineValue) (H : History) (now f : ℕ) (name : List ℕ) (number : ℕ) (found : State) (page : ℕ) (feature : Feature) (key : Key) (asker : DocRef) (said : Answer) (before after : Vec Change)
      → StandsFor e H → HasPassed e p H now before → p ≡ record e { store = p.store } → HasAnswered found p u now number page (feature, key) asker said
      → cause_of (replied e.duration H) now (event.Request f name) ≡ None → IsAsking (replied e.duration H) f name asker.doc page (feature, key) → found ≡ permission_state (replied e.duration H) now asker.doc feature
      → number ≡ length e.made + 1 → after.items ≡ []
      → IsReplied e u H (timed now (event.Request f name)) (Ok (record { before = before; answer = said; after = after }))
  request-told e p u H now f name number found page feature key asker said before after stands passed p_is answered none asks found_is number_is empty = by_state found refl answered
    where
      T : RepliedHistory
      T = replied e.duration H

      prompts : IsPrompts T p.prompts
      prompts = subst (IsPrompts T) (sym (ap (λ (w : EngineValue). w.prompts) p_is)) stands.steps.prompts

      numbered : number ≡ length T + 1
      numbered = number_is ∙ ap (λ n. n + 1) stands.steps.tree.count

      told : (x : State) → found ≡ x → answer_of e.duration T now (event.Request f name) ≡ answer_of_request x (length T + 1) (queue.pending_of p.prompts page (feature, key))
      told x is =
          laws.prompts.requests e.duration T p.prompts now f name asker.doc page (feature, key) prompts asks
          ∙ ap (λ y. answer_of_request y (length T + 1) (queue.pending_of p.prompts page (feature, key))) (sym found_is ∙ is)

      by_state : (x : State) → found ≡ x → HasAnswered x p u now number page (feature, key) asker said → IsReplied e u H (timed now (event.Request f name)) (Ok (record { before = before; answer = said; after = after }))
      by_state state.Granted is has =
          request-reply e p u H now f name made.Nothing p.prompts said before after stands passed (has-applied e p u now made.Nothing p.store p.prompts p_is has.1) refl none (has.0 ∙ sym (told state.Granted is))
          (laws.prompts.stated e.duration H (timed now (event.Request f name)) f name state.Granted p.prompts refl (told state.Granted is) prompts) empty
      by_state state.Denied is has =
          request-reply e p u H now f name made.Nothing p.prompts said before after stands passed (has-applied e p u now made.Nothing p.store p.prompts p_is has.1) refl none (has.0 ∙ sym (told state.Denied is))
          (laws.prompts.stated e.duration H (timed now (event.Request f name)) f name state.Denied p.prompts refl (told state.Denied is) prompts) empty
      by_state state.Prompt is has =
          let join = queue.pending_of p.prompts page (feature, key) in
          let says : answer_of e.duration T now (event.Request f name) ≡ answer_of_asked (queue.asked_of number join) =
          laws.prompts.asks e.duration T p.prompts now f name asker.doc page (feature, key) prompts asks (sym found_is ∙ is) ∙ ap (λ n. answer_of_asked (queue.asked_of n join)) (sym numbered) in
          request-reply e p u H now f name (made_by_request join) u.prompts said before after stands passed (has-applied e p u now (made_by_request join) p.store u.prompts p_is has.rest) (frameless join) none (has.says ∙ sym says)
          (laws.prompts.told e.duration H (timed now (event.Request f name)) f name (asked_by page (feature, key) asker) asker (queue.asked_of number join) p.prompts u.prompts stands.regular refl asks refl says prompts has.asked) empty

  -- ---- an answer

  pub answer-reply : (e p u : EngineValue) (H : History) (now k : ℕ) (out : Outcome) (life : EventLife) (pair : Pair) (decided : Option (State × Life)) (value : StoreValue) (prompts : Queues) (said : Answer) (before after : Vec Change)
      → StandsFor e H → HasPassed e p H now before → p ≡ record e { store = p.store } → HasApplied e p u now made.Nothing value prompts → IsTrue (is_fitting (event.Answered k out life))
      → cause_of (replied e.duration H) now (event.Answered k out life) ≡ None → said ≡ answer_of e.duration (replied e.duration H) now (event.Answered k out life)
      → IsDecided (replied e.duration H) now k out life pair decided → HasSettled e.prompts prompts k
      → ((y : State × Life) → decided ≡ Some y → IsSet (setting_for pair y) p.store value) → (decided ≡ None → IsDismissed pair now p.store value)
      → ((T : RepliedHistory) (s : Step) (y : State × Life) → decided ≡ Some y → setting_by s.time s.event T ≡ Some (setting_for pair y) → IsTrue (holds (s ∷ T) now y.1) → IsStore T now p.store → IsStatuses T p.statuses
      → AreGoverned T (λ (z : Row). z.doc) blocks p.frames.entries p.statuses.live → after.items ≡ changes_after T (s ∷ T) now)
      → (decided ≡ None → after.items ≡ [])
      → IsReplied e u H (timed now (event.Answered k out life)) (Ok (record { before = before; answer = said; after = after }))
  answer-reply e p u H now k out life pair decided value prompts said before after stands passed p_is has fits none says is settled sets dismisses brings empty =
      applied-reply laws e p u H x made.Nothing said before after stands passed none says has.noted (record {
        tree = rw (has.noted.made, has.frames_are) (kept-silent laws.history s T e.made made.Nothing e.frames refl refl refl refl refl refl refl refl refl refl stands.steps.tree);
        store = subst (IsStore (s ∷ T) now) (sym has.store_is) (by_decided decided refl).0;
        statuses = subst (IsStatuses (s ∷ T)) (sym has.statuses_are) (laws.statuses.quiet s T e.statuses refl refl refl stands.steps.statuses);
        named = rw (has.statuses_are, has.noted.made) (named-stays laws s T e.made made.Nothing e.statuses.live (documents-within laws T e.statuses stands.steps.statuses) stands.steps.named);
        queues = queues-are e p u H x made.Nothing value prompts stands has (laws.prompts.answered e.duration H x k out life e.prompts prompts refl stands.steps.prompts settled)
            (messages-left laws e u H x made.Nothing e.clock refl refl stands has.messages_are has.noted.made);
      }) (by_decided decided refl).1
    where
      T : RepliedHistory
      T = replied e.duration H

      x : Timed
      x = timed now (event.Answered k out life)

      s : Step
      s = step_of x (step_answer e.duration T now x.event)

      stored : IsStore T now p.store
      stored = stored-then e p H now before has.passed_duration passed

      statuses : IsStatuses T p.statuses
      statuses = subst (IsStatuses T) (sym (ap (λ (w : EngineValue). w.statuses) p_is)) stands.steps.statuses

      governed : AreGoverned T (λ (z : Row). z.doc) blocks p.frames.entries p.statuses.live
      governed =
          subst (λ (w : EngineValue). AreGoverned T (λ (z : Row). z.doc) blocks w.frames.entries w.statuses.live) (sym p_is)
          (all-governed laws.history e.duration H e.made e.frames e.statuses stands.regular stands.steps.tree stands.steps.statuses stands.steps.named)

      by_decided : (o : Option (State × Life)) → decided ≡ o → IsStore (s ∷ T) now value × (after.items ≡ changes_after T (s ∷ T) now)
      by_decided (Some y) d =
          let setting : setting_by now x.event T ≡ Some (setting_for pair y) = is.setting ∙ ap (option_map (setting_for pair)) d in
          let lasts : y.1 ≢ lives.Until 0 = subst (λ o. IfSome o (λ (z : State × Life). z.1 ≢ lives.Until 0)) d is.lasts in
          let holding = laws.history.settings.set_holds s T (setting_for pair y) fits setting lasts in
          (laws.stores.set e.duration H s now (setting_for pair y) p.store value stands.regular setting holding stored (sets y d), brings T s y d setting holding stored statuses governed)
      by_decided None d =
          let unset : setting_by now x.event T ≡ None = is.setting ∙ ap (option_map (setting_for pair)) d in
          let dismissal : out ≡ outcome.Dismiss = only-dismissed T now k out life pair is.pair_is unset in
          (laws.stores.dismissed s T k life pair p.store value (ap (λ o. event.Answered k o life) dismissal) is.pair_is stored (dismisses d), empty d ∙ sym (laws.history.changes.none_after_unset s T now unset refl))
