-- Capabilities that are delivered to the document of a frame, and spent there.
use Rattle.std.proofs.Common.{◌≡◌, ◌≢◌, ℕ, ◌≤◌, Bool, true, false, ◌==◌, List, [], ◌∷◌, ◌++◌, map, length, Option, Some, None, refl, sym, ◌∙◌, ap, subst, arith, cond, if◌then◌else◌}
use Rattle.std.proofs.lemmas.Bool.Decides.{Decides-eqb, nat_tests}
use Rattle.pe_arena.specs.declared.handle.Handle.{Handle}
use Rattle.pe_frames.specs.Forest.{Entry, Forest, same_handle, entry_of, with_document}
use Rattle.pe_features.specs.declared.call.Call.{Call}
use Rattle.pe_features.specs.declared.capability.Capability.{Capability}
use Rattle.pe_features.specs.declared.capability.Capability.TheVariants.{Payment, Fullscreen, DisplayCapture}
use Rattle.pe_features.specs.Calls.{call_named, gate_of}
use Rattle.pe_features.specs.Capabilities.{feature_of}
use Rattle.pe_features.specs.Features.{feature_number}
use Rattle.pe_events.specs.declared.answer.Answer.TheVariants as answer
use Rattle.pe_events.specs.declared.event.Event.TheVariants as event
use Rattle.pe_events.specs.declared.reason.Verdict.TheVariants as verdict
use Rattle.pe_events.specs.declared.reason.Via.TheVariants as via
use Rattle.pe_rules.specs.History.{StepAnswer, Replied, Judged, Step, RepliedHistory}
use Rattle.pe_rules.specs.Making.{frame_of}
use Rattle.pe_rules.specs.Current.{document_in}
use Rattle.pe_rules.specs.Delegation.{Message, is_same_capability, message, is_delivered, hands_over, spends}
use Rattle.pe_laws.specs.DelegationLaws.{delegated_at}
use Rattle.pe_laws.specs.EffectsLaws.{effects_of}
use Rattle.pe_laws.specs.HistoryLaws.{HistoryLaws}
use Rattle.pe_engine.specs.declared.row.Delivered.{Delivered}
use Rattle.pe_engine.specs.declared.row.Row.{Row}
use Rattle.pe_engine.specs.declared.engine.Made.{Made}
use Rattle.pe_engine.specs.declared.engine.Made.TheVariants as made
use Rattle.pe_engine.specs.Objects.{handle_in, handle_at}
use Rattle.pe_engine.specs.Rows.{IsRow, IsSettled, kept_attributes, delivery_time, with_delivery}
use Rattle.pe_engine.specs.Tree.{IsNode, IsTree}
use Rattle.pe_engine.specs.Replying.{timed}
use Rattle.pe_engine.proofs.Accepted.{step_of}
use Rattle.pe_engine.proofs.Handles.{same-frame}
use Rattle.pe_engine.proofs.InPlace.{turned}
use Rattle.pe_engine.proofs.Kept.{kept-in-place, kept-silent, document-within, settled-stays}
use Rattle.pe_engine.proofs.Look.{found, node-at}

-- a row with other deliveries is settled as before
delivered-settled : (T : RepliedHistory) (x : Row) (delivered : Delivered) → IsSettled T x → IsSettled T (record x { delivered = delivered })
delivered-settled T x delivered is = record { origin = is.origin; sandboxed = is.sandboxed; secure = is.secure; single = is.single; pair = is.pair; policy = is.policy }

-- the time that is kept of a capability, once one is noted of another, or of it
time-after : (a b : Capability) (time : Option ℕ) (x : Delivered) → delivery_time (with_delivery a time x) b ≡ cond (is_same_capability a b) time (delivery_time x b)
time-after Payment Payment time x = refl
time-after Payment Fullscreen time x = refl
time-after Payment DisplayCapture time x = refl
time-after Fullscreen Payment time x = refl
time-after Fullscreen Fullscreen time x = refl
time-after Fullscreen DisplayCapture time x = refl
time-after DisplayCapture Payment time x = refl
time-after DisplayCapture Fullscreen time x = refl
time-after DisplayCapture DisplayCapture time x = refl

differs : (a b : ℕ) → (a == b) ≡ false → a ≢ b
differs a b q = grind (arith, nat_tests)

beside-is : (a b : ℕ) → a ≢ b → (a == b) ≡ false
beside-is a b ne = grind (arith, nat_tests)

-- a step that changes nothing in the row of a document but its deliveries
pub record IsDeliveryStep (s : Step) : Type 0 where
  pub frames : (effects_of s).makes_frame ≡ false
  pub documents : (effects_of s).makes_document ≡ false
  pub ends : (effects_of s).ends_documents ≡ false
  pub activates : (effects_of s).activates ≡ false
  pub consumes : (effects_of s).consumes ≡ false
  pub acts : (effects_of s).acts_on_history ≡ false
  pub gives : (effects_of s).gives_attribute ≡ false

-- after the step the time of the capability is this one for document d, which frame F shows, and each other time is as before
pub record IsNotedFor (s : Step) (T : RepliedHistory) (F d : ℕ) (capability : Capability) (time : Option ℕ) : Type 0 where
  pub own : (c : Capability) → delegated_at (s ∷ T) d c ≡ cond (is_same_capability capability c) time (delegated_at T d c)
  pub others : (k : ℕ) (c : Capability) → k ≤ length T → frame_of T k ≢ F → delegated_at (s ∷ T) k c ≡ delegated_at T k c

module _ (laws : HistoryLaws) where
  -- ---- a time that is noted

  kept-noted : (s : Step) (T : RepliedHistory) (ms : List Made) (m : Made) (v v' : Forest Row) (F : ℕ) (h : Handle) (x : Entry Row) (capability : Capability) (time : Option ℕ) → handle_in m ≡ None
      → IsDeliveryStep s → handle_at ms F ≡ Some h → entry_of v.entries h ≡ Some x → IsNotedFor s T F x.doc.doc capability time
      → v'.entries ≡ map (with_document h (record x.doc { delivered = with_delivery capability time x.doc.delivered })) v.entries → v'.marks ≡ v.marks
      → IsTree T ms v → IsTree (s ∷ T) (ms ++ m ∷ []) v'
  kept-noted s T ms m v v' F h x capability time nothing only at here noted entries marks st =
      kept-in-place laws s T ms m v v' change nothing only.frames only.documents only.ends rows entries marks st
    where
      given : Row
      given = record x.doc { delivered = with_delivery capability time x.doc.delivered }

      change : Entry Row → Row
      change e = if same_handle e.handle h then given else e.doc

      frame-of-x : (x.frame ≡ F) × IsNode T ms x
      frame-of-x = node-at T ms v F h x st at here

      row-x : IsRow T F x.doc
      row-x = subst (λ f. IsRow T f x.doc) frame-of-x.0 frame-of-x.1.row

      within : (e : Entry Row) → IsNode T ms e → e.doc.doc ≤ length T
      within e node = document-within laws T e.frame e.doc.doc node.document

      same-doc : (e : Entry Row) → IsNode T ms e → e.frame ≡ F → x.doc.doc ≡ e.doc.doc
      same-doc e node is = let z : Some x.doc.doc ≡ Some e.doc.doc = sym frame-of-x.1.document ∙ ap (document_in T) (frame-of-x.0 ∙ sym is) ∙ node.document in cc

      in-frame : (e : Entry Row) → IsNode T ms e → frame_of T e.doc.doc ≡ e.frame
      in-frame e node = let (current, frame, least, made) = laws.current.document_in_frame T e.frame e.doc.doc node.document in frame

      row-given : IsRow (s ∷ T) F given
      row-given = record {
        settled = settled-stays laws s T given (within x frame-of-x.1) (delivered-settled T x.doc given.delivered row-x.settled);
        stamp = row-x.stamp ∙ sym (laws.effects.stamp_of_stays s T x.doc.doc only.activates only.consumes);
        second = row-x.second ∙ sym (laws.effects.second_stamp_stays s T x.doc.doc only.acts);
        delivered = λ c. time-after capability c time x.doc.delivered ∙ ap (cond (is_same_capability capability c) time) (row-x.delivered c) ∙ sym (noted.own c);
        attributes = row-x.attributes ∙ ap kept_attributes (sym (laws.effects.attributes_stay s T F only.gives));
      }

      row-beside : (e : Entry Row) → IsNode T ms e → e.frame ≢ F → IsRow (s ∷ T) e.frame e.doc
      row-beside e node ne = record {
        settled = settled-stays laws s T e.doc (within e node) node.row.settled;
        stamp = node.row.stamp ∙ sym (laws.effects.stamp_of_stays s T e.doc.doc only.activates only.consumes);
        second = node.row.second ∙ sym (laws.effects.second_stamp_stays s T e.doc.doc only.acts);
        delivered = λ c. node.row.delivered c ∙ sym (noted.others e.doc.doc c (within e node) (λ q. ne (sym (in-frame e node) ∙ q)));
        attributes = node.row.attributes ∙ ap kept_attributes (sym (laws.effects.attributes_stay s T e.frame only.gives));
      }

      row-of : (e : Entry Row) → IsNode T ms e → (b : Bool) → (e.frame == F) ≡ b → ((cond b given e.doc).doc ≡ e.doc.doc) × IsRow (s ∷ T) e.frame (cond b given e.doc)
      row-of e node true is =
          let same : e.frame ≡ F = (Decides-eqb e.frame F).0 is in
          (same-doc e node same, subst (λ f. IsRow (s ∷ T) f given) (sym same) row-given)
      row-of e node false is = (refl, row-beside e node (differs e.frame F is))

      rows : (e : Entry Row) → IsNode T ms e → ((change e).doc ≡ e.doc.doc) × IsRow (s ∷ T) e.frame (change e)
      rows e node = rw (same-frame ms st.apart e.frame F e.handle h node.handle at) (row-of e node (e.frame == F) refl)

  -- ---- a delivery

  delivery-noted : (now m F d : ℕ) (y : Message) (T : RepliedHistory) → message T m ≡ Some y → y.target ≡ d → d ≤ length T → frame_of T d ≡ F
      → IsNotedFor (step_of (timed now (event.Deliver m)) (Replied answer.Delivered)) T F d y.capability (Some now)
  delivery-noted now m F d y T posted aimed within framed = record {
    own = λ c. laws.delegation.delegated_step s T d c within ∙ ap (λ b. cond b (Some now) (delegated_at T d c)) (handed c);
    others = λ k c le ne. laws.delegation.delegated_step s T k c le ∙ ap (λ b. cond b (Some now) (delegated_at T k c)) (unhanded k c ne);
  }
    where
      s : Step
      s = step_of (timed now (event.Deliver m)) (Replied answer.Delivered)

      handed : (c : Capability) → hands_over (event.Deliver m) (Replied answer.Delivered) T d c ≡ is_same_capability y.capability c
      handed c = let is : (y.target == d) ≡ true = (Decides-eqb y.target d).1 aimed in rw (posted, is) refl

      unhanded : (k : ℕ) (c : Capability) → frame_of T k ≢ F → hands_over (event.Deliver m) (Replied answer.Delivered) T k c ≡ false
      unhanded k c ne = let is : (y.target == k) ≡ false = beside-is y.target k (λ q. ne (ap (frame_of T) (sym q ∙ aimed) ∙ framed)) in rw (posted, is) refl

  -- a message is delivered to its target document, which the live frame of this handle shows: the time of its capability is noted there
  pub kept-delivery : (now m : ℕ) (y : Message) (T : RepliedHistory) (ms : List Made) (v v' : Forest Row) (h : Handle) (x : Entry Row) → message T m ≡ Some y → entry_of v.entries h ≡ Some x → y.target ≡ x.doc.doc
      → v'.entries ≡ map (with_document h (record x.doc { delivered = with_delivery y.capability (Some now) x.doc.delivered })) v.entries → v'.marks ≡ v.marks
      → IsTree T ms v → IsTree (step_of (timed now (event.Deliver m)) (Replied answer.Delivered) ∷ T) (ms ++ made.Nothing ∷ []) v'
  kept-delivery now m y T ms v v' h x posted here aimed entries marks st =
      let (same, node) = found T ms v.entries h x st.nodes here in
      let (current, framed, least, within) = laws.current.document_in_frame T x.frame x.doc.doc node.document in
      kept-noted (step_of (timed now (event.Deliver m)) (Replied answer.Delivered)) T ms made.Nothing v v' x.frame h x y.capability (Some now) refl
      (record { frames = refl; documents = refl; ends = refl; activates = refl; consumes = refl; acts = refl; gives = refl }) (node.handle ∙ ap Some same) here
      (delivery-noted now m x.frame x.doc.doc y T posted aimed within framed) entries marks st

  -- one that is dropped leaves the tree
  pub kept-dropped : (now m : ℕ) (item : StepAnswer) (T : RepliedHistory) (ms : List Made) (v : Forest Row) → is_delivered item ≡ false → IsTree T ms v
      → IsTree (step_of (timed now (event.Deliver m)) item ∷ T) (ms ++ made.Nothing ∷ []) v
  kept-dropped now m item T ms v dropped st = kept-silent laws (step_of (timed now (event.Deliver m)) item) T ms made.Nothing v refl refl refl refl refl refl refl dropped refl refl st

  -- ---- a use that is met by a delegated capability

  use-noted : (now F d : ℕ) (name : List ℕ) (call : Call) (capability : Capability) (T : RepliedHistory) → call_named name ≡ Some call → (gate_of call).capability ≡ Some capability → d ≤ length T → frame_of T d ≡ F
      → IsNotedFor (step_of (timed now (event.UseCall F name)) (Judged (verdict.Allowed via.Delegated))) T F d capability None
  use-noted now F d name call capability T named has within framed = record {
    own = λ c. laws.delegation.delegated_step s T d c within ∙ ap (λ b. cond b None (delegated_at T d c)) (spent c);
    others = λ k c le ne. laws.delegation.delegated_step s T k c le ∙ ap (λ b. cond b None (delegated_at T k c)) (unspent k c ne);
  }
    where
      s : Step
      s = step_of (timed now (event.UseCall F name)) (Judged (verdict.Allowed via.Delegated))

      spent : (c : Capability) → spends (event.UseCall F name) (Judged (verdict.Allowed via.Delegated)) (frame_of T d) c ≡ is_same_capability capability c
      spent c = let is : (F == frame_of T d) ≡ true = (Decides-eqb F (frame_of T d)).1 (sym framed) in rw (is, named, has) (turned (feature_number (feature_of c)) (feature_number (feature_of capability)))

      unspent : (k : ℕ) (c : Capability) → frame_of T k ≢ F → spends (event.UseCall F name) (Judged (verdict.Allowed via.Delegated)) (frame_of T k) c ≡ false
      unspent k c ne = let is : (F == frame_of T k) ≡ false = beside-is F (frame_of T k) (λ q. ne (sym q)) in rw is refl

  -- the capability is spent in the document of the frame
  pub kept-spent : (now F : ℕ) (name : List ℕ) (call : Call) (capability : Capability) (T : RepliedHistory) (ms : List Made) (v v' : Forest Row) (h : Handle) (x : Entry Row) → call_named name ≡ Some call
      → (gate_of call).capability ≡ Some capability → handle_at ms F ≡ Some h → entry_of v.entries h ≡ Some x
      → v'.entries ≡ map (with_document h (record x.doc { delivered = with_delivery capability None x.doc.delivered })) v.entries → v'.marks ≡ v.marks
      → IsTree T ms v → IsTree (step_of (timed now (event.UseCall F name)) (Judged (verdict.Allowed via.Delegated)) ∷ T) (ms ++ made.Nothing ∷ []) v'
  kept-spent now F name call capability T ms v v' h x named has at here entries marks st =
      let (same, node) = node-at T ms v F h x st at here in
      let (current, framed, least, within) = laws.current.document_in_frame T x.frame x.doc.doc node.document in
      kept-noted (step_of (timed now (event.UseCall F name)) (Judged (verdict.Allowed via.Delegated))) T ms made.Nothing v v' F h x capability None refl
      (record { frames = refl; documents = refl; ends = refl; activates = refl; consumes = refl; acts = refl; gives = refl }) at here
      (use-noted now F x.doc.doc name call capability T named has within (framed ∙ same)) entries marks st
