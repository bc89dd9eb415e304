-- An event that ends documents.
use Rattle.std.proofs.Common.{◌≡◌, ℕ, Bool, true, false, not, ◌==◌, List, [], ◌∷◌, ◌++◌, Some, None, Ok, IsTrue, refl, sym, ◌∙◌, ap, subst}
use Rattle.std.specs.Prelude.{filter}
use Rattle.std.specs.Global.{Vec}
use Rattle.std.specs.List.{list_any}
use Rattle.std.proofs.lemmas.Bool.Decides.{Decides-eqb}
use Rattle.pe_frames.specs.Forest.{Forest}
use Rattle.pe_status.specs.declared.registered.Registered.{Registered}
use Rattle.pe_status.specs.Registry.{Registry}
use Rattle.pe_prompts.specs.Queues.{Queues, pending}
use Rattle.pe_events.specs.declared.answer.Answer.{Answer}
use Rattle.pe_events.specs.declared.answer.Change.{Change}
use Rattle.pe_events.specs.declared.event.Event.{Event}
use Rattle.pe_events.specs.Timed.{Timed}
use Rattle.pe_rules.specs.History.{StepAnswer, Step, RepliedHistory, History}
use Rattle.pe_rules.specs.Current.{ends, is_current, document_in}
use Rattle.pe_rules.specs.Causes.{cause_of}
use Rattle.pe_rules.specs.Changes.{changes_after}
use Rattle.pe_rules.specs.Replies.{answer_of, replied, step_answer}
use Rattle.pe_laws.specs.Effects.{effects}
use Rattle.pe_laws.specs.StatusesLaws.{Each}
use Rattle.pe_changes.specs.Parts.{IsStore, IsStatuses, AreGoverned}
use Rattle.pe_changes.specs.StoreSteps.{IsEnded}
use Rattle.pe_requests.specs.Parts.{IsPrompts}
use Rattle.pe_requests.specs.PromptSteps.{AreEnded, left_by_all}
use Rattle.pe_messages.specs.Parts.{IsMessages, AreAddressed}
use Rattle.pe_engine.specs.declared.row.Row.{Row}
use Rattle.pe_engine.specs.declared.engine.Made.{Made}
use Rattle.pe_engine.specs.Changing.{HasNoted}
use Rattle.pe_engine.specs.Laws.{EngineLaws}
use Rattle.pe_engine.specs.Leaving.{numbers_of, without_documents}
use Rattle.pe_engine.specs.Replying.{HasPassed, IsReplied}
use Rattle.pe_engine.specs.Rows.{blocks}
use Rattle.pe_engine.specs.StandsFor.{EngineValue, IsNamed, StandsFor}
use Rattle.pe_engine.specs.Objects.{handle_at}
use Rattle.pe_engine.specs.Tree.{IsTree}
use Rattle.pe_engine.proofs.Accepted.{step_of, is_idle, regular-on, documents-within, named-stays, messages-stay}
use Rattle.pe_engine.proofs.Passed.{applied-reply}
use Rattle.pe_engine.proofs.Governing.{statuses-current, all-governed}
use Rattle.pe_engine.proofs.Gone.{is_gone, without-is, gone-turned}
use Rattle.pe_engine.proofs.Lists.{each-kept, each-all}

-- the event ends the document of this frame and those below it, and does no more
pub record IsEndOf (e : Event) (f : ℕ) : Type 0 where
  pub ended : (fs : List ℕ) → ends fs e ≡ list_any (λ g. g == f) fs
  pub makes : (item : StepAnswer) → (effects e item).makes_status ≡ false
  pub drops : (item : StepAnswer) → (effects e item).drops_status ≡ false
  pub idle : is_idle e ≡ true
  pub requests : (item : StepAnswer) → (effects e item).requests ≡ false
  pub settles : (item : StepAnswer) → (effects e item).settles_prompt ≡ false

-- the engine before, once the time has passed, once its frames are these, once what the documents had is gone, and once the event is noted
pub record HasEnded (e p v w u : EngineValue) (now : ℕ) (m : Made) (frames : Forest Row) : Type 0 where
  pub noted : HasNoted e u now m
  pub frames_are : u.frames ≡ frames
  pub passed_duration : p.duration ≡ e.duration
  pub passed : p.statuses ≡ e.statuses
  pub prompts_passed : p.prompts ≡ e.prompts
  pub prompts_before : v.prompts ≡ p.prompts
  pub prompts_after : u.prompts ≡ w.prompts
  pub messages_kept : u.messages ≡ e.messages
  pub store_before : v.store ≡ p.store
  pub statuses_before : v.statuses ≡ p.statuses
  pub store_after : u.store ≡ w.store
  pub statuses_after : u.statuses ≡ w.statuses

pub has-ended : (e p v w u : EngineValue) (now : ℕ) (m : Made) (frames : Forest Row) → p ≡ record e { store = p.store } → v ≡ record p { frames = frames } → w ≡ record v { store = w.store; statuses = w.statuses; prompts = w.prompts }
    → u ≡ record w { clock = now; made = w.made ++ m ∷ [] } → HasEnded e p v w u now m frames
has-ended e p v w u now m frames p_is v_is w_is u_is = record {
  noted = record {
    duration = ap (λ (x : EngineValue). x.duration) u_is ∙ ap (λ (x : EngineValue). x.duration) w_is ∙ ap (λ (x : EngineValue). x.duration) v_is ∙ ap (λ (x : EngineValue). x.duration) p_is;
    failed = ap (λ (x : EngineValue). x.failed) u_is ∙ ap (λ (x : EngineValue). x.failed) w_is ∙ ap (λ (x : EngineValue). x.failed) v_is ∙ ap (λ (x : EngineValue). x.failed) p_is;
    clock = ap (λ (x : EngineValue). x.clock) u_is;
    made = ap (λ (x : EngineValue). x.made) u_is ∙ ap (λ (x : EngineValue). x.made ++ m ∷ []) w_is ∙ ap (λ (x : EngineValue). x.made ++ m ∷ []) v_is ∙ ap (λ (x : EngineValue). x.made ++ m ∷ []) p_is;
  };
  frames_are = ap (λ (x : EngineValue). x.frames) u_is ∙ ap (λ (x : EngineValue). x.frames) w_is ∙ ap (λ (x : EngineValue). x.frames) v_is;
  passed_duration = ap (λ (x : EngineValue). x.duration) p_is;
  passed = ap (λ (x : EngineValue). x.statuses) p_is;
  prompts_passed = ap (λ (x : EngineValue). x.prompts) p_is;
  prompts_before = ap (λ (x : EngineValue). x.prompts) v_is;
  prompts_after = ap (λ (x : EngineValue). x.prompts) u_is;
  messages_kept = ap (λ (x : EngineValue). x.messages) u_is ∙ ap (λ (x : EngineValue). x.messages) w_is ∙ ap (λ (x : EngineValue). x.messages) v_is ∙ ap (λ (x : EngineValue). x.messages) p_is;
  store_before = ap (λ (x : EngineValue). x.store) v_is;
  statuses_before = ap (λ (x : EngineValue). x.statuses) v_is;
  store_after = ap (λ (x : EngineValue). x.store) u_is;
  statuses_after = ap (λ (x : EngineValue). x.statuses) u_is;
}

module _ (laws : EngineLaws) where
  pub ended-reply : (e p v w u : EngineValue) (H : History) (x : Timed) (f first : ℕ) (m : Made) (frames : Forest Row) (gone : List Row) (said : Answer) (before after : Vec Change)
      → StandsFor e H → HasPassed e p H x.time before → HasEnded e p v w u x.time m frames → IsEndOf x.event f
      → cause_of (replied e.duration H) x.time x.event ≡ None → said ≡ answer_of e.duration (replied e.duration H) x.time x.event → document_in (replied e.duration H) f ≡ Some first
      → ((item : StepAnswer) → item ≡ step_answer e.duration (replied e.duration H) x.time x.event → IsTree (step_of x item ∷ replied e.duration H) u.made u.frames)
      → ((item : StepAnswer) (d : ℕ) → is_current (replied e.duration H) d ≡ true → not (is_gone (numbers_of gone) d) ≡ is_current (step_of x item ∷ replied e.duration H) d)
      → w.statuses.live ≡ without_documents (numbers_of gone) v.statuses.live → w.statuses.given ≡ v.statuses.given → w.prompts.given ≡ v.prompts.given → ((page : ℕ) → pending w.prompts page ≡ left_by_all (numbers_of gone) (pending v.prompts page)) → IsEnded first v.store w.store
      → ((s : Step) → IsTrue (ends (f ∷ []) s.event) → IsStore (replied e.duration H) x.time v.store → IsStatuses (s ∷ replied e.duration H) w.statuses
      → AreGoverned (s ∷ replied e.duration H) (λ (y : Row). y.doc) blocks w.frames.entries w.statuses.live → after.items ≡ changes_after (replied e.duration H) (s ∷ replied e.duration H) x.time)
      → w.frames ≡ u.frames
      → IsReplied e u H x (Ok (record { before = before; answer = said; after = after }))
  ended-reply e p v w u H x f first m frames gone said before after stands passed has end none says shown tree are live given prompts left ended changes same =
      applied-reply laws e p u H x m said before after stands passed none says has.noted (record {
        tree = tree item refl;
        store = store-after;
        statuses = statuses-now;
        named = named-now;
        queues = record { prompts = prompts-now; messages = messages-now.0; addressed = messages-now.1 };
      }) (changes s ends-it store-before statuses-after governed)
    where
      T : RepliedHistory
      T = replied e.duration H

      item : StepAnswer
      item = step_answer e.duration T x.time x.event

      s : Step
      s = step_of x item

      stays : Registered → Bool
      stays r = not (is_gone (numbers_of gone) r.doc.doc)

      lasts : p.duration ≡ e.duration
      lasts = has.passed_duration

      ends-it : IsTrue (ends (f ∷ []) x.event)
      ends-it = end.ended (f ∷ []) ∙ rw ((Decides-eqb f f).1 refl) refl

      store-before : IsStore T x.time v.store
      store-before = subst (IsStore T x.time) (sym has.store_before) (subst (λ d. IsStore (replied d H) x.time p.store) lasts passed.stands.steps.store)

      store-after : IsStore (s ∷ T) x.time u.store
      store-after = subst (IsStore (s ∷ T) x.time) (sym has.store_after) (laws.stores.ended e.duration H s x.time f first v.store w.store stands.regular ends-it shown store-before ended)

      before-is : v.statuses ≡ e.statuses
      before-is = has.statuses_before ∙ has.passed

      live-is : w.statuses.live ≡ filter stays e.statuses.live
      live-is = live ∙ without-is (numbers_of gone) v.statuses.live ∙ ap (λ (q : Registry). filter stays q.live) before-is

      told : replied e.duration (x ∷ H) ≡ s ∷ T
      told = laws.history.steps.told_step e.duration x H

      are-left : Each (λ r. stays r ≡ is_current (s ∷ T) r.doc.doc) e.statuses.live
      are-left = each-all (λ r. is_current T r.doc.doc ≡ true) _ e.statuses.live (λ r current. are item r.doc.doc current) (statuses-current laws.history T e.statuses stands.steps.statuses)

      turned : (b c : Bool) → not b ≡ c → b ≡ not c
      turned true c h = ap not h
      turned false c h = ap not h

      ended-docs : AreEnded T (replied e.duration (x ∷ H)) (numbers_of gone)
      ended-docs d current = gone-turned (numbers_of gone) d ∙ turned (is_gone (numbers_of gone) d) (is_current (s ∷ T) d) (are item d current) ∙ ap (λ U. not (is_current U d)) (sym told)

      prompts-are : v.prompts ≡ e.prompts
      prompts-are = has.prompts_before ∙ has.prompts_passed

      prompts-now : IsPrompts (s ∷ T) u.prompts
      prompts-now = subst (IsPrompts (s ∷ T)) (sym has.prompts_after) (subst (λ U. IsPrompts U w.prompts) told
          (laws.prompts.ended e.duration H x (numbers_of gone) e.prompts w.prompts (end.requests item) (end.settles item) ended-docs stands.steps.prompts
          (prompts ∙ ap (λ (q : Queues). q.given) prompts-are) (λ top. left top ∙ ap (λ (q : Queues). left_by_all (numbers_of gone) (pending q top)) prompts-are)))

      messages-now : IsMessages (s ∷ T) u.messages × AreAddressed (s ∷ T) (handle_at u.made) u.messages.waiting
      messages-now = messages-stay laws e u H x m e.clock end.idle stands has.messages_kept has.noted.made

      statuses-after : IsStatuses (s ∷ T) w.statuses
      statuses-after = laws.statuses.ended s T stays e.statuses w.statuses (end.makes item) (end.drops item) stands.steps.statuses are-left live-is (given ∙ ap (λ (q : Registry). q.given) before-is)

      statuses-now : IsStatuses (s ∷ T) u.statuses
      statuses-now = subst (IsStatuses (s ∷ T)) (sym has.statuses_after) statuses-after

      named-after : Each (IsNamed (s ∷ T) u.made) w.statuses.live
      named-after = subst (Each (IsNamed (s ∷ T) u.made)) (sym live-is) (each-kept (IsNamed (s ∷ T) u.made) (IsNamed (s ∷ T) u.made) stays e.statuses.live (λ r n z. n)
          (rw has.noted.made (named-stays laws s T e.made m e.statuses.live (documents-within laws T e.statuses stands.steps.statuses) stands.steps.named)))

      named-now : Each (IsNamed (s ∷ T) u.made) u.statuses.live
      named-now = subst (λ (q : Registry). Each (IsNamed (s ∷ T) u.made) q.live) (sym has.statuses_after) named-after

      governed : AreGoverned (s ∷ T) (λ (y : Row). y.doc) blocks w.frames.entries w.statuses.live
      governed =
          subst (λ (q : Forest Row). AreGoverned (s ∷ T) (λ (y : Row). y.doc) blocks q.entries w.statuses.live) (sym same)
          (subst (λ U. AreGoverned U (λ (y : Row). y.doc) blocks u.frames.entries w.statuses.live) told
          (all-governed laws.history e.duration (x ∷ H) u.made u.frames w.statuses (regular-on e.duration H x stands.regular none)
          (subst (λ U. IsTree U u.made u.frames) (sym told) (tree item refl)) (subst (λ U. IsStatuses U w.statuses) (sym told) statuses-after) (subst (λ U. Each (IsNamed U u.made) w.statuses.live) (sym told) named-after)))
