-- Deliveries.
use Rattle.std.proofs.Common.{◌≡◌, ℕ, Bool, true, false, ◌==◌, cond, List, [], ◌∷◌, ◌++◌, Option, Some, None, Ok, option_map, option_and_then, refl, sym, ◌∙◌, ap, subst}
use Rattle.std.specs.Prelude.{IfSome}
use Rattle.std.specs.Option.{option_or}
use Rattle.std.specs.Global.{Vec}
use Rattle.std.proofs.lemmas.Bool.Decides.{Decides-eqb}
use Rattle.pe_arena.specs.declared.handle.DocRef.{DocRef}
use Rattle.pe_features.specs.declared.capability.Capability.{Capability}
use Rattle.pe_frames.specs.Forest.{Entry, Forest, entry_of, doc_of, numbered, with_doc}
use Rattle.pe_origin.specs.declared.origin.Origin.{Origin}
use Rattle.pe_origin.specs.Origins.{is_same_origin}
use Rattle.pe_delegation.specs.declared.delivery.Delivery.{Delivery}
use Rattle.pe_delegation.specs.declared.delivery.Delivery.TheVariants.{Put, Gone, OtherOrigin}
use Rattle.pe_delegation.specs.declared.message.Message.{Message}
use Rattle.pe_delegation.specs.Posted.{Posted, message_of, deliver_fault, without, delivery_of, delivery_to}
use Rattle.pe_events.specs.declared.answer.Answer.TheVariants as answer
use Rattle.pe_events.specs.declared.answer.Change.{Change}
use Rattle.pe_events.specs.declared.event.Event.TheVariants as event
use Rattle.pe_rules.specs.History.{Replied, RepliedHistory, History}
use Rattle.pe_rules.specs.Delegation as rules
use Rattle.pe_rules.specs.Causes.{cause_of}
use Rattle.pe_rules.specs.Replies.{answer_of, replied}
use Rattle.pe_laws.specs.HistoryLaws.{HistoryLaws}
use Rattle.pe_messages.specs.MessageSteps.{MessageSteps}
use Rattle.pe_messages.specs.Parts.{message_of_row, IsMessages, AreShown, cause_of_fault, answer_by_delivery}
use Rattle.pe_engine.specs.declared.engine.Made.{Made}
use Rattle.pe_engine.specs.declared.engine.Made.TheVariants as made
use Rattle.pe_engine.specs.declared.row.Row.{Row}
use Rattle.pe_engine.specs.Causes.{time_cause}
use Rattle.pe_engine.specs.Laws.{EngineLaws}
use Rattle.pe_engine.specs.Objects.{handle_at}
use Rattle.pe_engine.specs.Posting.{HasReceived, HasSettled}
use Rattle.pe_engine.specs.Replying.{timed, HasPassed, IsReplied}
use Rattle.pe_engine.specs.Rows.{with_delivery}
use Rattle.pe_engine.specs.StandsFor.{EngineValue, StandsFor}
use Rattle.pe_engine.specs.Tree.{IsTree}
use Rattle.pe_engine.proofs.Accepted.{step_of}
use Rattle.pe_engine.proofs.Delivered.{kept-delivery, kept-dropped}
use Rattle.pe_engine.proofs.Handles.{grows}
use Rattle.pe_engine.proofs.Messaging.{message-reply}
use Rattle.pe_engine.proofs.Targets.{shows-origins}

-- the cause of a delivery, once its time is in order
pub delivery-cause : MessageSteps → (T : RepliedHistory) (posted : Posted) (now m : ℕ) → IsMessages T posted → time_cause T now ≡ None → cause_of T now (event.Deliver m) ≡ option_map cause_of_fault (deliver_fault posted m)
unfolding time_cause
delivery-cause steps T posted now m is none = steps.refused T posted now m is ∙ ap (λ o. option_or o (option_map cause_of_fault (deliver_fault posted m))) none

-- the origin of the document that a tree shows
abbrev origin_in : List (Entry Row) → DocRef → Option Origin
origin_in es r = option_map (λ (y : Row). y.origin) (doc_of (λ (y : Row). y.doc) es r)

-- the message that waits
some-of-map : {A B : Type 0} (g : A → B) (o : Option A) (y : B) → Some y ≡ option_map g o → (x : A) × (o ≡ Some x) × (y ≡ g x)
some-of-map g None y z = cc
some-of-map g (Some x) y z = (x, refl, (let i : y ≡ g x = cc in i))

module _ (laws : HistoryLaws) where
  -- the tree after a delivery
  received-tree : (now m : ℕ) (x : Message) (T : RepliedHistory) (ms : List Made) (v v' : Forest Row) (delivery : Delivery) → rules.message T m ≡ Some (message_of_row x) → delivery ≡ delivery_to x (origin_in v.entries x.target)
      → HasReceived delivery now v v' → IsTree T ms v → IsTree (step_of (timed now (event.Deliver m)) (Replied (answer_by_delivery delivery)) ∷ T) (ms ++ made.Nothing ∷ []) v'
  received-tree now m x T ms v v' Gone posted comes same st =
      subst (IsTree (step_of (timed now (event.Deliver m)) (Replied answer.DroppedGone) ∷ T) (ms ++ made.Nothing ∷ [])) (sym same) (kept-dropped laws now m (Replied answer.DroppedGone) T ms v refl st)
  received-tree now m x T ms v v' OtherOrigin posted comes same st =
      subst (IsTree (step_of (timed now (event.Deliver m)) (Replied answer.DroppedOther) ∷ T) (ms ++ made.Nothing ∷ [])) (sym same) (kept-dropped laws now m (Replied answer.DroppedOther) T ms v refl st)
  received-tree now m x T ms v v' (Put target capability) posted comes left st = by_entry (entry_of v.entries x.target.at) refl comes
    where
      Goal : Type 0
      Goal = IsTree (step_of (timed now (event.Deliver m)) (Replied answer.Delivered) ∷ T) (ms ++ made.Nothing ∷ []) v'

      Left : DocRef → Capability → Option (Entry Row) → Type 0
      Left r c o = IfSome o (λ e. v' ≡ with_doc v r.at (record e.doc { delivered = with_delivery c (Some now) e.doc.delivered }))

      by_origin : (e : Entry Row) → entry_of v.entries x.target.at ≡ Some e → (e.doc.doc == x.target.doc) ≡ true → (b : Bool) → Put target capability ≡ cond b (Put x.target x.capability) OtherOrigin → Goal
      by_origin e here same true is =
          let to : target ≡ x.target = cc in
          let what : capability ≡ x.capability = cc in
          let given = subst (Left x.target x.capability) here (subst (λ c. Left x.target c (entry_of v.entries x.target.at)) what (subst (λ r. Left r capability (entry_of v.entries r.at)) to left)) in
          kept-delivery laws now m (message_of_row x) T ms v v' x.target.at e posted here (sym ((Decides-eqb e.doc.doc x.target.doc).0 same))
          (ap (λ (f : Forest Row). f.entries) given) (ap (λ (f : Forest Row). f.marks) given) st
      by_origin e here same false is = cc

      by_number : (e : Entry Row) → entry_of v.entries x.target.at ≡ Some e → (b : Bool) → (e.doc.doc == x.target.doc) ≡ b
          → Put target capability ≡ delivery_to x (option_map (λ (y : Row). y.origin) (cond b (Some e.doc) None)) → Goal
      by_number e here true same is = by_origin e here same (is_same_origin e.doc.origin x.origin) is
      by_number e here false same is = cc

      by_entry : (o : Option (Entry Row)) → entry_of v.entries x.target.at ≡ o
          → Put target capability ≡ delivery_to x (option_map (λ (y : Row). y.origin) (option_and_then (λ e. numbered (λ (y : Row). y.doc) x.target.doc e.doc) o)) → Goal
      by_entry None none is = cc
      by_entry (Some e) here is = by_number e here (e.doc.doc == x.target.doc) refl is

module _ (laws : EngineLaws) where
  pub deliver-reply : (e p w u : EngineValue) (H : History) (now m number : ℕ) (delivery : Delivery) (before after : Vec Change) → StandsFor e H → HasPassed e p H now before → p ≡ record e { store = p.store }
      → number ≡ m → HasSettled p w number now delivery → u ≡ record w { clock = now; made = w.made ++ made.Nothing ∷ [] }
      → cause_of (replied e.duration H) now (event.Deliver m) ≡ None → after.items ≡ []
      → IsReplied e u H (timed now (event.Deliver m)) (Ok (record { before = before; answer = answer_by_delivery delivery; after = after }))
  deliver-reply e p w u H now m number delivery before after stands passed p_is same settled u_is none empty =
      message-reply laws e p u H (timed now (event.Deliver m)) made.Nothing w.frames w.messages (answer_by_delivery delivery) before after refl stands passed p_is
      (u_is ∙ ap (λ (v : EngineValue). record v { clock = now; made = v.made ++ made.Nothing ∷ [] }) settled.rest) none (sym says)
      (subst (λ a. IsTree (step_of (timed now (event.Deliver m)) (Replied a) ∷ T) (e.made ++ made.Nothing ∷ []) w.frames) (sym says)
      (received-tree laws.history now m waits.0 T e.made e.frames w.frames delivery (laws.messages.found T e.messages m waits.0 stands.steps.messages waits.1).0 waits.2
      (subst (λ (f : Forest Row). HasReceived delivery now f w.frames) frames settled.received) stands.steps.tree))
      (laws.messages.delivered e.duration H (timed now (event.Deliver m)) m e.messages w.messages refl stands.steps.messages waiting (settled.given ∙ ap (λ (q : Posted). q.given) messages))
      (laws.messages.addressed_delivered (step_of (timed now (event.Deliver m)) (Replied (answer_of e.duration T now (event.Deliver m)))) T (handle_at e.made) (handle_at (e.made ++ made.Nothing ∷ [])) m e.messages w.messages
      stands.steps.messages (grows e.made made.Nothing) stands.steps.addressed waiting)
      empty
    where
      T : RepliedHistory
      T = replied e.duration H

      frames : p.frames ≡ e.frames
      frames = ap (λ (v : EngineValue). v.frames) p_is

      messages : p.messages ≡ e.messages
      messages = ap (λ (v : EngineValue). v.messages) p_is

      comes : Some delivery ≡ option_map (λ y. delivery_to y (origin_in e.frames.entries y.target)) (message_of e.messages.waiting m)
      comes = settled.comes ∙ ap (λ (v : EngineValue). option_map (delivery_of (λ (y : Row). y.doc) (λ (y : Row). y.origin) v.frames.entries) (message_of v.messages.waiting number)) p_is
          ∙ ap (λ k. option_map (delivery_of (λ (y : Row). y.doc) (λ (y : Row). y.origin) e.frames.entries) (message_of e.messages.waiting k)) same

      waits : (x : Message) × (message_of e.messages.waiting m ≡ Some x) × (delivery ≡ delivery_to x (origin_in e.frames.entries x.target))
      waits = some-of-map (λ y. delivery_to y (origin_in e.frames.entries y.target)) (message_of e.messages.waiting m) delivery comes

      waiting : w.messages.waiting ≡ without m e.messages.waiting
      waiting = settled.waiting ∙ ap (λ (q : Posted). without number q.waiting) messages ∙ ap (λ k. without k e.messages.waiting) same

      shown : AreShown T (origin_in e.frames.entries) e.messages.waiting
      shown = laws.messages.shown T (handle_at e.made) (origin_in e.frames.entries) e.messages.waiting (shows-origins laws.history e.duration H e.made e.frames stands.regular stands.steps.tree) stands.steps.addressed

      says : answer_of e.duration T now (event.Deliver m) ≡ answer_by_delivery delivery
      says = laws.messages.answered e.duration T e.messages now m (origin_in e.frames.entries) delivery stands.steps.messages shown comes
