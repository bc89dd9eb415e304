-- The reply to a post or a delivery, by what it leaves of the frames and the messages.
use Rattle.std.proofs.Common.{◌≡◌, Bool, true, false, [], ◌∷◌, ◌++◌, None, Ok, refl, sym, ◌∙◌, ap, subst}
use Rattle.std.specs.Global.{Vec}
use Rattle.pe_frames.specs.Forest.{Forest}
use Rattle.pe_delegation.specs.Posted.{Posted}
use Rattle.pe_events.specs.declared.answer.Answer.{Answer}
use Rattle.pe_events.specs.declared.answer.Change.{Change}
use Rattle.pe_events.specs.declared.event.Event.{Event}
use Rattle.pe_events.specs.declared.event.Event.TheVariants as event
use Rattle.pe_events.specs.Timed.{Timed}
use Rattle.pe_rules.specs.History.{StepAnswer, Step, RepliedHistory, History}
use Rattle.pe_rules.specs.Causes.{cause_of}
use Rattle.pe_rules.specs.Replies.{answer_of, replied, step_answer}
use Rattle.pe_laws.specs.Effects.{effects}
use Rattle.pe_changes.specs.Parts.{IsStore}
use Rattle.pe_requests.specs.Parts.{IsPrompts}
use Rattle.pe_messages.specs.Parts.{IsMessages, AreAddressed}
use Rattle.pe_engine.specs.declared.engine.Made.{Made}
use Rattle.pe_engine.specs.declared.row.Row.{Row}
use Rattle.pe_engine.specs.Laws.{EngineLaws}
use Rattle.pe_engine.specs.Objects.{handle_at}
use Rattle.pe_engine.specs.Replying.{HasPassed, IsReplied}
use Rattle.pe_engine.specs.StandsFor.{EngineValue, StandsFor}
use Rattle.pe_engine.specs.Tree.{IsTree}
use Rattle.pe_engine.proofs.Accepted.{step_of, documents-within, named-stays}
use Rattle.pe_engine.proofs.Passed.{applied-reply}

-- the event is a post or a delivery
abbrev pub is_of_messages : Event → Bool
is_of_messages (event.Post sender target named capability) = true
is_of_messages (event.Deliver message) = true
is_of_messages other = false

-- what such an event does not do
record IsOfMessages (e : Event) : Type 0 where
  makes : (item : StepAnswer) → (effects e item).makes_status ≡ false
  drops : (item : StepAnswer) → (effects e item).drops_status ≡ false
  sets : (item : StepAnswer) → (effects e item).sets ≡ false
  dismisses : (item : StepAnswer) → (effects e item).dismisses ≡ false
  ends : (item : StepAnswer) → (effects e item).ends_documents ≡ false
  requests : (item : StepAnswer) → (effects e item).requests ≡ false
  settles : (item : StepAnswer) → (effects e item).settles_prompt ≡ false

messages-are : (e : Event) → is_of_messages e ≡ true → IsOfMessages e
messages-are (event.Post sender target named capability) h =
    record { makes = λ i. refl; drops = λ i. refl; sets = λ i. refl; dismisses = λ i. refl; ends = λ i. refl; requests = λ i. refl; settles = λ i. refl }
messages-are (event.Deliver message) h =
    record { makes = λ i. refl; drops = λ i. refl; sets = λ i. refl; dismisses = λ i. refl; ends = λ i. refl; requests = λ i. refl; settles = λ i. refl }
messages-are other h = cc

module _ (laws : EngineLaws) where
  -- an accepted post or delivery, once the time has passed: the frames and the messages are these
  pub message-reply : (e p u : EngineValue) (H : History) (x : Timed) (m : Made) (frames : Forest Row) (posted : Posted) (said : Answer) (before after : Vec Change) → is_of_messages x.event ≡ true
      → StandsFor e H → HasPassed e p H x.time before → p ≡ record e { store = p.store }
      → u ≡ record p { clock = x.time; made = p.made ++ m ∷ []; frames = frames; messages = posted }
      → cause_of (replied e.duration H) x.time x.event ≡ None → said ≡ answer_of e.duration (replied e.duration H) x.time x.event
      → IsTree (step_of x (step_answer e.duration (replied e.duration H) x.time x.event) ∷ replied e.duration H) (e.made ++ m ∷ []) frames
      → IsMessages (step_of x (step_answer e.duration (replied e.duration H) x.time x.event) ∷ replied e.duration H) posted
      → AreAddressed (step_of x (step_answer e.duration (replied e.duration H) x.time x.event) ∷ replied e.duration H) (handle_at (e.made ++ m ∷ [])) posted.waiting
      → after.items ≡ []
      → IsReplied e u H x (Ok (record { before = before; answer = said; after = after }))
  message-reply e p u H x m frames posted said before after of stands passed p_is u_is none says tree messages addressed empty =
      subst (λ (v : EngineValue). IsReplied e v H x (Ok (record { before = before; answer = said; after = after }))) (sym all)
      (applied-reply laws e p w H x m said before after stands passed none says (record { duration = refl; failed = refl; clock = refl; made = refl }) (record {
        tree = tree;
        store = laws.stores.quiet s T x.time p.store (quiet.sets item) (quiet.dismisses item) (quiet.ends item) stored;
        statuses = laws.statuses.quiet s T e.statuses (quiet.makes item) (quiet.drops item) (quiet.ends item) stands.steps.statuses;
        named = named-stays laws s T e.made m e.statuses.live (documents-within laws T e.statuses stands.steps.statuses) stands.steps.named;
        queues = record {
          prompts = subst (λ U. IsPrompts U e.prompts) (laws.history.steps.told_step e.duration x H) (laws.prompts.quiet e.duration H x e.prompts (quiet.requests item) (quiet.settles item) (quiet.ends item) stands.steps.prompts);
          messages = messages;
          addressed = addressed;
        };
      }) (empty ∙ sym (laws.history.changes.none_after s T x.time (quiet.sets item) (quiet.dismisses item) (quiet.ends item))))
    where
      T : RepliedHistory
      T = replied e.duration H

      item : StepAnswer
      item = step_answer e.duration T x.time x.event

      s : Step
      s = step_of x item

      quiet : IsOfMessages x.event
      quiet = messages-are x.event of

      w : EngineValue
      w = record e { clock = x.time; made = e.made ++ m ∷ []; frames = frames; store = p.store; messages = posted }

      all : u ≡ w
      all = u_is ∙ ap (λ (v : EngineValue). record v { clock = x.time; made = v.made ++ m ∷ []; frames = frames; messages = posted }) p_is

      stored : IsStore T x.time p.store
      stored = subst (λ d. IsStore (replied d H) x.time p.store) (ap (λ (v : EngineValue). v.duration) p_is) passed.stands.steps.store
