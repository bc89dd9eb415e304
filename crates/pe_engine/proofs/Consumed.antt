-- The user activation of a page that a use or a post consumes.
use Rattle.std.proofs.Common.{◌≡◌, ℕ, ◌≤◌, Bool, true, false, ◌&&◌, ◌==◌, List, [], ◌∷◌, ◌++◌, length, Option, Some, None, unwrap_or, option_map, refl, sym, ◌∙◌, ap, subst, cond, if◌then◌else◌}
use Rattle.pe_base.specs.declared.input.Stamp.{Stamp}
use Rattle.pe_base.specs.declared.input.Stamp.TheVariants as stamp
use Rattle.pe_base.specs.Activation.{is_sticky}
use Rattle.pe_arena.specs.declared.handle.Handle.{Handle}
use Rattle.pe_frames.specs.Forest.{Entry, Forest, entry_of, top_of}
use Rattle.pe_frames.specs.Walk.{is_of_page, changed_page}
use Rattle.pe_features.specs.declared.call.Call.{Call}
use Rattle.pe_features.specs.Calls.{call_named, gate_of}
use Rattle.pe_activation.specs.Stamps.{consumed}
use Rattle.pe_events.specs.declared.answer.Answer.TheVariants as answer
use Rattle.pe_events.specs.declared.event.Event.TheVariants as event
use Rattle.pe_events.specs.declared.reason.Verdict.TheVariants as verdict
use Rattle.pe_events.specs.declared.reason.Via.TheVariants as via
use Rattle.pe_rules.specs.History.{StepAnswer, Replied, Judged, Step, RepliedHistory}
use Rattle.pe_rules.specs.Numbering.{makes_message}
use Rattle.pe_rules.specs.Embedders.{page, page_of_frame}
use Rattle.pe_rules.specs.Current.{document_in}
use Rattle.pe_rules.specs.Activation.{is_by_transient, is_consuming_call, is_frame_of_page, consumes, stamp_of}
use Rattle.pe_rules.specs.Delegation.{is_by_delegated}
use Rattle.pe_laws.specs.ActivationLaws.{consumed_stamp}
use Rattle.pe_laws.specs.EffectsLaws.{effects_of}
use Rattle.pe_laws.specs.HistoryLaws.{HistoryLaws}
use Rattle.pe_engine.specs.declared.row.Row.{Row}
use Rattle.pe_engine.specs.declared.engine.Made.{Made}
use Rattle.pe_engine.specs.declared.engine.Made.TheVariants as made
use Rattle.pe_engine.specs.Objects.{handle_in, handle_at}
use Rattle.pe_engine.specs.Rows.{IsRow, kept_attributes}
use Rattle.pe_engine.specs.Tree.{IsNode, IsTree}
use Rattle.pe_engine.specs.Replying.{timed}
use Rattle.pe_engine.proofs.Accepted.{step_of}
use Rattle.pe_engine.proofs.Activating.{with_stamp, stamp-settled}
use Rattle.pe_engine.proofs.Handles.{same-frame}
use Rattle.pe_engine.proofs.InPlace.{turned}
use Rattle.pe_engine.proofs.Kept.{kept-in-place, kept-silent, document-within, settled-stays, delivered-stays}
use Rattle.pe_engine.proofs.Look.{node-at, page-at, page-of}

-- what consuming leaves of a row: its stamp alone is another
consumed-row : (x : Row) (t : Stamp) → cond (is_sticky t) (with_stamp stamp.Consumed x) (with_stamp t x) ≡ with_stamp (consumed_stamp t) x
consumed-row x stamp.Never = refl
consumed-row x stamp.Consumed = refl
consumed-row x (stamp.At time) = refl

-- a step that changes nothing in the row of a document but its stamp, and activates none
pub record IsConsumingStep (s : Step) : Type 0 where
  pub frames : (effects_of s).makes_frame ≡ false
  pub documents : (effects_of s).makes_document ≡ false
  pub ends : (effects_of s).ends_documents ≡ false
  pub activates : (effects_of s).activates ≡ false
  pub acts : (effects_of s).acts_on_history ≡ false
  pub delivers : (effects_of s).delivers ≡ false
  pub spends : (effects_of s).spends ≡ false
  pub gives : (effects_of s).gives_attribute ≡ false

module _ (laws : HistoryLaws) where
  kept-consuming : (s : Step) (T : RepliedHistory) (ms : List Made) (m : Made) (v v' : Forest Row) (F : ℕ) (h : Handle) (x : Entry Row) → handle_in m ≡ None → IsConsumingStep s
      → ((top : ℕ) → consumes s T top ≡ is_frame_of_page T F top) → handle_at ms F ≡ Some h → entry_of v.entries h ≡ Some x
      → v'.entries ≡ changed_page (consumed (λ (r : Row). r.stamp) (λ t (r : Row). record r { stamp = t })) v.entries (top_of x) → v'.marks ≡ v.marks
      → IsTree T ms v → IsTree (s ∷ T) (ms ++ m ∷ []) v'
  kept-consuming s T ms m v v' F h x nothing only consuming at here entries marks st =
      kept-in-place laws s T ms m v v' change nothing only.frames only.documents only.ends rows entries marks st
    where
      used : Entry Row → Row
      used e = consumed (λ (r : Row). r.stamp) (λ t (r : Row). record r { stamp = t }) e

      change : Entry Row → Row
      change e = if is_of_page (top_of x) e then used e else e.doc

      frame-of-x : (x.frame ≡ F) × IsNode T ms x
      frame-of-x = node-at T ms v F h x st at here

      the-page : page_of_frame T F ≡ Some (page T x.doc.doc)
      the-page = page-of T F x.doc.doc (ap (document_in T) (sym frame-of-x.0) ∙ frame-of-x.1.document)

      of-page : (e : Entry Row) → IsNode T ms e → is_of_page (top_of x) e ≡ (page T x.doc.doc == page T e.doc.doc)
      of-page e node = same-frame ms st.apart (page T e.doc.doc) (page T x.doc.doc) (top_of e) (top_of x) (page-at T ms e node) (page-at T ms x frame-of-x.1) ∙ turned (page T e.doc.doc) (page T x.doc.doc)

      within : (e : Entry Row) → IsNode T ms e → e.doc.doc ≤ length T
      within e node = document-within laws T e.frame e.doc.doc node.document

      consumed-here : (d : ℕ) → consumes s T (page T d) ≡ (page T x.doc.doc == page T d)
      consumed-here d = consuming (page T d) ∙ ap (λ o. unwrap_or (option_map (λ p. p == page T d) o) false) the-page

      after : (e : Entry Row) (b : Bool) → (page T x.doc.doc == page T e.doc.doc) ≡ b → stamp_of (s ∷ T) e.doc.doc ≡ cond b (consumed_stamp (stamp_of T e.doc.doc)) (stamp_of T e.doc.doc)
      after e b is = laws.activation.stamp_step s T e.doc.doc ∙ rw (laws.effects.activates_none s T e.doc.doc only.activates, consumed-here e.doc.doc, is) refl

      row-with : (e : Entry Row) → IsNode T ms e → (t : Stamp) → t ≡ stamp_of (s ∷ T) e.doc.doc → IsRow (s ∷ T) e.frame (with_stamp t e.doc)
      row-with e node t is = record {
        settled = settled-stays laws s T (with_stamp t e.doc) (within e node) (stamp-settled T e.doc t node.row.settled);
        stamp = is;
        second = node.row.second ∙ sym (laws.effects.second_stamp_stays s T e.doc.doc only.acts);
        delivered = delivered-stays laws s T e.doc.doc e.doc.delivered only.delivers only.spends node.row.delivered;
        attributes = node.row.attributes ∙ ap kept_attributes (sym (laws.effects.attributes_stay s T e.frame only.gives));
      }

      row-of : (e : Entry Row) → IsNode T ms e → (b : Bool) → (page T x.doc.doc == page T e.doc.doc) ≡ b → ((cond b (used e) e.doc).doc ≡ e.doc.doc) × IsRow (s ∷ T) e.frame (cond b (used e) e.doc)
      row-of e node true is = (
        ap (λ (r : Row). r.doc) (consumed-row e.doc e.doc.stamp),
        subst (IsRow (s ∷ T) e.frame) (sym (consumed-row e.doc e.doc.stamp)) (row-with e node (consumed_stamp e.doc.stamp) (ap consumed_stamp node.row.stamp ∙ sym (after e true is))),
      )
      row-of e node false is = (refl, row-with e node e.doc.stamp (node.row.stamp ∙ sym (after e false is)))

      rows : (e : Entry Row) → IsNode T ms e → ((change e).doc ≡ e.doc.doc) × IsRow (s ∷ T) e.frame (change e)
      rows e node = rw (of-page e node) (row-of e node (page T x.doc.doc == page T e.doc.doc) refl)

  -- ---- a use

  use-consumes : (now F : ℕ) (name : List ℕ) (call : Call) (T : RepliedHistory) (top : ℕ) → call_named name ≡ Some call → (gate_of call).consumes ≡ true
      → consumes (step_of (timed now (event.UseCall F name)) (Judged (verdict.Allowed via.Transient))) T top ≡ is_frame_of_page T F top
  unfolding consumes
  use-consumes now F name call T top named has = rw (named, has) refl

  -- a use that transient activation met consumes that of the page, where the call does so
  pub kept-use-consumed : (now F : ℕ) (name : List ℕ) (call : Call) (T : RepliedHistory) (ms : List Made) (v v' : Forest Row) (h : Handle) (x : Entry Row) → call_named name ≡ Some call → (gate_of call).consumes ≡ true
      → handle_at ms F ≡ Some h → entry_of v.entries h ≡ Some x
      → v'.entries ≡ changed_page (consumed (λ (r : Row). r.stamp) (λ t (r : Row). record r { stamp = t })) v.entries (top_of x) → v'.marks ≡ v.marks
      → IsTree T ms v → IsTree (step_of (timed now (event.UseCall F name)) (Judged (verdict.Allowed via.Transient)) ∷ T) (ms ++ made.Nothing ∷ []) v'
  kept-use-consumed now F name call T ms v v' h x named has at here entries marks st =
      kept-consuming (step_of (timed now (event.UseCall F name)) (Judged (verdict.Allowed via.Transient))) T ms made.Nothing v v' F h x refl
      (record { frames = refl; documents = refl; ends = refl; activates = refl; acts = refl; delivers = refl; spends = refl; gives = refl })
      (λ top. use-consumes now F name call T top named has) at here entries marks st

  -- any other use that spends no capability leaves the tree
  pub kept-use-silent : (now F : ℕ) (name : List ℕ) (item : StepAnswer) (T : RepliedHistory) (ms : List Made) (v : Forest Row) → (is_by_transient item && is_consuming_call name) ≡ false → is_by_delegated item ≡ false
      → IsTree T ms v → IsTree (step_of (timed now (event.UseCall F name)) item ∷ T) (ms ++ made.Nothing ∷ []) v
  kept-use-silent now F name item T ms v unconsumed unspent st = kept-silent laws (step_of (timed now (event.UseCall F name)) item) T ms made.Nothing v refl refl refl refl refl unconsumed refl refl unspent refl st

  -- ---- a post

  post-consumes : (now F G number : ℕ) (named : Option (List ℕ)) (capability : List ℕ) (T : RepliedHistory) (top : ℕ)
      → consumes (step_of (timed now (event.Post F G named capability)) (Replied (answer.MessageMade number))) T top ≡ is_frame_of_page T F top
  unfolding consumes
  post-consumes now F G number named capability T top = refl

  -- a post that makes a message consumes the activation of the page of its sender
  pub kept-post-consumed : (now F G number : ℕ) (named : Option (List ℕ)) (capability : List ℕ) (T : RepliedHistory) (ms : List Made) (v v' : Forest Row) (h : Handle) (x : Entry Row)
      → handle_at ms F ≡ Some h → entry_of v.entries h ≡ Some x
      → v'.entries ≡ changed_page (consumed (λ (r : Row). r.stamp) (λ t (r : Row). record r { stamp = t })) v.entries (top_of x) → v'.marks ≡ v.marks
      → IsTree T ms v → IsTree (step_of (timed now (event.Post F G named capability)) (Replied (answer.MessageMade number)) ∷ T) (ms ++ made.Message ∷ []) v'
  kept-post-consumed now F G number named capability T ms v v' h x at here entries marks st =
      kept-consuming (step_of (timed now (event.Post F G named capability)) (Replied (answer.MessageMade number))) T ms made.Message v v' F h x refl
      (record { frames = refl; documents = refl; ends = refl; activates = refl; acts = refl; delivers = refl; spends = refl; gives = refl })
      (λ top. post-consumes now F G number named capability T top) at here entries marks st

  -- one that makes none leaves the tree
  pub kept-post-silent : (now F G : ℕ) (named : Option (List ℕ)) (capability : List ℕ) (item : StepAnswer) (T : RepliedHistory) (ms : List Made) (v : Forest Row) → makes_message item ≡ false
      → IsTree T ms v → IsTree (step_of (timed now (event.Post F G named capability)) item ∷ T) (ms ++ made.Nothing ∷ []) v
  kept-post-silent now F G named capability item T ms v unmade st =
      kept-silent laws (step_of (timed now (event.Post F G named capability)) item) T ms made.Nothing v refl refl refl refl refl unmade refl refl refl refl st
