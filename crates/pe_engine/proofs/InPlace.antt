-- Documents that events change in their places: what a history action and an attribute leave.
use Rattle.std.proofs.Common.{◌≡◌, ℕ, suc, ◌≤◌, Bool, true, false, ◌&&◌, ◌==◌, List, [], ◌∷◌, ◌++◌, map, length, Option, Some, None, is_some, unwrap_or, refl, sym, ◌∙◌, ap, subst, arith, cond, if◌then◌else◌}
use Rattle.std.proofs.lemmas.Bool.Decides.{Decides-eqb, nat_tests}
use Rattle.pe_arena.specs.declared.handle.Handle.{Handle}
use Rattle.pe_frames.specs.Forest.{Entry, Forest, same_handle, entry_of, top_of, with_document}
use Rattle.pe_frames.specs.Walk.{is_of_page, changed_page}
use Rattle.pe_base.specs.declared.input.Stamp.{Stamp}
use Rattle.pe_activation.specs.Stamps.{history_consumed}
use Rattle.pe_events.specs.declared.answer.Answer.TheVariants as answer
use Rattle.pe_events.specs.declared.event.AttrName.{AttrName}
use Rattle.pe_events.specs.declared.event.AttrName.TheVariants as attr
use Rattle.pe_events.specs.declared.event.Event.TheVariants as event
use Rattle.pe_rules.specs.History.{StepAnswer, Replied, Step, RepliedHistory, some_if}
use Rattle.pe_rules.specs.Attributes.{is_same_name, attribute_by, attribute, attributes_of}
use Rattle.pe_rules.specs.Embedders.{page, page_of_frame}
use Rattle.pe_rules.specs.Current.{is_current, document_in}
use Rattle.pe_rules.specs.Activation.{stamp_of}
use Rattle.pe_rules.specs.HistoryActivation.{consumes_history, second_stamp_of}
use Rattle.pe_laws.specs.HistoryLaws.{HistoryLaws}
use Rattle.pe_engine.specs.declared.row.Row.{Row}
use Rattle.pe_engine.specs.declared.engine.Made.{Made}
use Rattle.pe_engine.specs.declared.engine.Made.TheVariants as made
use Rattle.pe_engine.specs.Objects.{handle_at}
use Rattle.pe_engine.specs.Rows.{IsRow, IsSettled, kept_attributes}
use Rattle.pe_engine.specs.Tree.{IsNode, IsTree}
use Rattle.pe_engine.specs.Changing.{with_attribute}
use Rattle.pe_engine.specs.Giving.{attribute_given}
use Rattle.pe_engine.specs.Replying.{timed}
use Rattle.pe_engine.proofs.Accepted.{step_of}
use Rattle.pe_engine.proofs.Handles.{same-frame}
use Rattle.pe_engine.proofs.Kept.{kept-in-place, document-within, row-stays, settled-stays, delivered-stays}
use Rattle.pe_engine.proofs.Look.{node-at, page-at, page-of}

-- a row whose second stamp, or whose attributes, are other ones is settled as before
second-settled : (T : RepliedHistory) (x : Row) (s : Stamp) → IsSettled T x → IsSettled T (record x { second = s })
second-settled T x s is = record { origin = is.origin; sandboxed = is.sandboxed; secure = is.secure; single = is.single; pair = is.pair; policy = is.policy }

attributes-settled : (T : RepliedHistory) (x y : Row) → IsSettled T x → IsSettled T (record x { attributes = y.attributes })
attributes-settled T x y is = record { origin = is.origin; sandboxed = is.sandboxed; secure = is.secure; single = is.single; pair = is.pair; policy = is.policy }

pub turned : (a b : ℕ) → (a == b) ≡ (b == a)
turned a b = grind (arith, nat_tests)

module _ (laws : HistoryLaws) where
  -- ---- a history action that is allowed

  consumes-page : (now F d : ℕ) (T : RepliedHistory) (top : ℕ) → page_of_frame T F ≡ Some top → consumes_history (step_of (timed now (event.History F)) (Replied answer.Allowed)) T (page T d) ≡ (top == page T d)
  unfolding consumes_history
  consumes-page now F d T top is = rw is refl

  pub kept-history : (now F : ℕ) (T : RepliedHistory) (ms : List Made) (v v' : Forest Row) (h : Handle) (x : Entry Row) → handle_at ms F ≡ Some h → entry_of v.entries h ≡ Some x
      → v'.entries ≡ changed_page (history_consumed (λ (r : Row). r.stamp) (λ t (r : Row). record r { second = t })) v.entries (top_of x) → v'.marks ≡ v.marks
      → IsTree T ms v → IsTree (step_of (timed now (event.History F)) (Replied answer.Allowed) ∷ T) (ms ++ made.Nothing ∷ []) v'
  kept-history now F T ms v v' h x at found entries marks st =
      kept-in-place laws s T ms made.Nothing v v' change refl refl refl refl rows entries marks st
    where
      s : Step
      s = step_of (timed now (event.History F)) (Replied answer.Allowed)

      consumed : Entry Row → Row
      consumed e = history_consumed (λ (r : Row). r.stamp) (λ t (r : Row). record r { second = t }) e

      change : Entry Row → Row
      change e = if is_of_page (top_of x) e then consumed e else e.doc

      frame-of-x : (x.frame ≡ F) × IsNode T ms x
      frame-of-x = node-at T ms v F h x st at found

      the-page : page_of_frame T F ≡ Some (page T x.doc.doc)
      the-page = page-of T F x.doc.doc (ap (document_in T) (sym frame-of-x.0) ∙ frame-of-x.1.document)

      of-page : (e : Entry Row) → IsNode T ms e → is_of_page (top_of x) e ≡ (page T x.doc.doc == page T e.doc.doc)
      of-page e node = same-frame ms st.apart (page T e.doc.doc) (page T x.doc.doc) (top_of e) (top_of x) (page-at T ms e node) (page-at T ms x frame-of-x.1) ∙ turned (page T e.doc.doc) (page T x.doc.doc)

      current : (e : Entry Row) → IsNode T ms e → is_current T e.doc.doc ≡ true
      current e node = let (is, frame, least, within) = laws.current.document_in_frame T e.frame e.doc.doc node.document in is

      within : (e : Entry Row) → IsNode T ms e → e.doc.doc ≤ length T
      within e node = document-within laws T e.frame e.doc.doc node.document

      after : (e : Entry Row) (b : Bool) → IsNode T ms e → (page T x.doc.doc == page T e.doc.doc) ≡ b → second_stamp_of (s ∷ T) e.doc.doc ≡ cond b (stamp_of T e.doc.doc) (second_stamp_of T e.doc.doc)
      after e b node is = laws.history_activation.second_stamp_step s T e.doc.doc ∙ rw (consumes-page now F e.doc.doc T (page T x.doc.doc) the-page, is, current e node) (by_test b)
        where
          by_test : (b : Bool) → cond (b && true) (stamp_of T e.doc.doc) (second_stamp_of T e.doc.doc) ≡ cond b (stamp_of T e.doc.doc) (second_stamp_of T e.doc.doc)
          by_test true = refl
          by_test false = refl

      row-of : (e : Entry Row) → IsNode T ms e → (b : Bool) → (page T x.doc.doc == page T e.doc.doc) ≡ b → ((cond b (consumed e) e.doc).doc ≡ e.doc.doc) × IsRow (s ∷ T) e.frame (cond b (consumed e) e.doc)
      row-of e node true is = (
        refl,
        record {
          settled = settled-stays laws s T (consumed e) (within e node) (second-settled T e.doc e.doc.stamp node.row.settled);
          stamp = node.row.stamp ∙ sym (laws.effects.stamp_of_stays s T e.doc.doc refl refl);
          second = node.row.stamp ∙ sym (after e true node is);
          delivered = delivered-stays laws s T e.doc.doc e.doc.delivered refl refl node.row.delivered;
          attributes = node.row.attributes ∙ ap kept_attributes (sym (laws.effects.attributes_stay s T e.frame refl));
        },
      )
      row-of e node false is = (
        refl,
        record {
          settled = settled-stays laws s T e.doc (within e node) node.row.settled;
          stamp = node.row.stamp ∙ sym (laws.effects.stamp_of_stays s T e.doc.doc refl refl);
          second = node.row.second ∙ sym (after e false node is);
          delivered = delivered-stays laws s T e.doc.doc e.doc.delivered refl refl node.row.delivered;
          attributes = node.row.attributes ∙ ap kept_attributes (sym (laws.effects.attributes_stay s T e.frame refl));
        },
      )

      rows : (e : Entry Row) → IsNode T ms e → ((change e).doc ≡ e.doc.doc) × IsRow (s ∷ T) e.frame (change e)
      rows e node = rw (of-page e node) (row-of e node (page T x.doc.doc == page T e.doc.doc) refl)

  -- ---- an attribute

  -- the attribute of this name after the step, by name
  attribute-after : (now F : ℕ) (named : AttrName) (value : Option (List ℕ)) (item : StepAnswer) (T : RepliedHistory) (n : AttrName)
      → attribute (step_of (timed now (event.Attr F named value)) item ∷ T) F n ≡ unwrap_or (cond (is_same_name named n) (Some value) None) (attribute T F n)
  attribute-after now F named value item T n =
      laws.attributes.attribute_step (step_of (timed now (event.Attr F named value)) item) T F n ∙ rw ((Decides-eqb F F).1 refl) (by_name (is_same_name named n))
    where
      by_name : (b : Bool) → unwrap_or (some_if b value) (attribute T F n) ≡ unwrap_or (cond b (Some value) None) (attribute T F n)
      by_name true = refl
      by_name false = refl

  attributes-after : (now F : ℕ) (named : AttrName) (value : Option (List ℕ)) (item : StepAnswer) (T : RepliedHistory)
      → with_attribute (attribute_given named value) (kept_attributes (attributes_of T F)) ≡ kept_attributes (attributes_of (step_of (timed now (event.Attr F named value)) item ∷ T) F)
  unfolding attributes_of
  attributes-after now F named value item T =
      rw (
        attribute-after now F named value item T attr.Src,
        attribute-after now F named value item T attr.Srcdoc,
        attribute-after now F named value item T attr.Allow,
        attribute-after now F named value item T attr.Sandbox,
        attribute-after now F named value item T attr.Fullscreen,
      ) (by_name named)
    where
      by_name : (n : AttrName) → with_attribute (attribute_given n value) (kept_attributes (attributes_of T F)) ≡ kept_attributes (record {
        src = unwrap_or (cond (is_same_name n attr.Src) (Some value) None) (attribute T F attr.Src);
        srcdoc = is_some (unwrap_or (cond (is_same_name n attr.Srcdoc) (Some value) None) (attribute T F attr.Srcdoc));
        allow = unwrap_or (cond (is_same_name n attr.Allow) (Some value) None) (attribute T F attr.Allow);
        sandbox = unwrap_or (cond (is_same_name n attr.Sandbox) (Some value) None) (attribute T F attr.Sandbox);
        fullscreen = is_some (unwrap_or (cond (is_same_name n attr.Fullscreen) (Some value) None) (attribute T F attr.Fullscreen));
      })
      by_name attr.Src = refl
      by_name attr.Srcdoc = refl
      by_name attr.Allow = refl
      by_name attr.Sandbox = refl
      by_name attr.Fullscreen = refl

  pub kept-attr : (now F : ℕ) (named : AttrName) (value : Option (List ℕ)) (item : StepAnswer) (T : RepliedHistory) (ms : List Made) (v v' : Forest Row) (h : Handle) (x : Entry Row) → handle_at ms F ≡ Some h → entry_of v.entries h ≡ Some x
      → v'.entries ≡ map (with_document h (record x.doc { attributes = with_attribute (attribute_given named value) x.doc.attributes })) v.entries → v'.marks ≡ v.marks
      → IsTree T ms v → IsTree (step_of (timed now (event.Attr F named value)) item ∷ T) (ms ++ made.Nothing ∷ []) v'
  kept-attr now F named value item T ms v v' h x at found entries marks st =
      kept-in-place laws s T ms made.Nothing v v' change refl refl refl refl rows entries marks st
    where
      s : Step
      s = step_of (timed now (event.Attr F named value)) item

      given : Row
      given = record x.doc { attributes = with_attribute (attribute_given named value) x.doc.attributes }

      change : Entry Row → Row
      change e = if same_handle e.handle h then given else e.doc

      frame-of-x : (x.frame ≡ F) × IsNode T ms x
      frame-of-x = node-at T ms v F h x st at found

      row-x : IsRow T F x.doc
      row-x = subst (λ f. IsRow T f x.doc) frame-of-x.0 frame-of-x.1.row

      within-x : x.doc.doc ≤ length T
      within-x = document-within laws T x.frame x.doc.doc frame-of-x.1.document

      same-doc : (e : Entry Row) → IsNode T ms e → e.frame ≡ F → x.doc.doc ≡ e.doc.doc
      same-doc e node is = let z : Some x.doc.doc ≡ Some e.doc.doc = sym frame-of-x.1.document ∙ ap (document_in T) (frame-of-x.0 ∙ sym is) ∙ node.document in cc

      row-given : IsRow (s ∷ T) F given
      row-given = record {
        settled = settled-stays laws s T given within-x (attributes-settled T x.doc given row-x.settled);
        stamp = row-x.stamp ∙ sym (laws.effects.stamp_of_stays s T x.doc.doc refl refl);
        second = row-x.second ∙ sym (laws.effects.second_stamp_stays s T x.doc.doc refl);
        delivered = delivered-stays laws s T x.doc.doc x.doc.delivered refl refl row-x.delivered;
        attributes = ap (with_attribute (attribute_given named value)) row-x.attributes ∙ attributes-after now F named value item T;
      }

      beside : (f : ℕ) → (f == F) ≡ false → (n : AttrName) → attribute_by (event.Attr F named value) (suc (length T)) f n ≡ None
      beside f ne n = rw (turned F f ∙ ne) refl

      row-of : (e : Entry Row) → IsNode T ms e → (b : Bool) → (e.frame == F) ≡ b → ((cond b given e.doc).doc ≡ e.doc.doc) × IsRow (s ∷ T) e.frame (cond b given e.doc)
      row-of e node true is =
          let same : e.frame ≡ F = (Decides-eqb e.frame F).0 is in
          (same-doc e node same, subst (λ f. IsRow (s ∷ T) f given) (sym same) row-given)
      row-of e node false is = (refl, row-stays laws s T e.frame e.doc (document-within laws T e.frame e.doc.doc node.document) refl refl refl refl refl (laws.attributes.attributes_stay s T e.frame (beside e.frame is)) node.row)

      rows : (e : Entry Row) → IsNode T ms e → ((change e).doc ≡ e.doc.doc) × IsRow (s ∷ T) e.frame (change e)
      rows e node = rw (same-frame ms st.apart e.frame F e.handle h node.handle at) (row-of e node (e.frame == F) refl)
