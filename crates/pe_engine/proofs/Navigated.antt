-- A frame that is navigated.
use Rattle.std.proofs.Common.{◌≡◌, ℕ, suc, ◌+◌, Bool, true, false, not, ◌||◌, List, [], ◌∷◌, ◌++◌, map, length, Option, Some, None, is_some, unwrap_or, option_map, option_and_then, refl, sym, ◌∙◌, ap, subst, arith, cond, true≢false}
use Rattle.std.specs.Prelude.{filter, IfOk, Result, Ok, Err}
use Rattle.pe_arena.specs.declared.handle.Handle.{Handle}
use Rattle.pe_frames.specs.declared.node.Node.{Node}
use Rattle.pe_frames.specs.Forest.{Entry, Forest, entry_of, same_handle, is_under, with_document, parent_of, last_of, node_of, node_in}
use Rattle.pe_frames.specs.Order.{navigated}
use Rattle.pe_origin.specs.declared.place.Place.{Place}
use Rattle.pe_origin.specs.Places.{place_at}
use Rattle.pe_events.specs.declared.answer.Answer.TheVariants as answer
use Rattle.pe_events.specs.declared.cause.Cause.TheVariants as cause
use Rattle.pe_events.specs.declared.event.Event.TheVariants as event
use Rattle.pe_rules.specs.History.{StepAnswer, Replied, Step, RepliedHistory, History}
use Rattle.pe_rules.specs.Attributes.{attributes_of}
use Rattle.pe_rules.specs.Numbering.{last_document, parent_frame}
use Rattle.pe_rules.specs.Making.{making_by}
use Rattle.pe_rules.specs.Current.{frames_above, document_in, is_live}
use Rattle.pe_rules.specs.Origins.{origin_of, place_or_none, no_place}
use Rattle.pe_rules.specs.Activation.{stamp_of}
use Rattle.pe_rules.specs.HistoryActivation.{second_stamp_of}
use Rattle.pe_rules.specs.Settings.{setting_named, setting_by}
use Rattle.pe_rules.specs.Causes.{has_bad_url, has_bad_feature, has_bad_call, has_bad_capability, names_other_page, exceeds_pages, exceeds_depth, exceeds_frames, exceeds_statuses, exceeds_pending, exceeds_store}
use Rattle.pe_rules.specs.Replies.{answer_of, new_origin, replied}
use Rattle.pe_laws.specs.HistoryLaws.{HistoryLaws}
use Rattle.pe_engine.specs.declared.row.Row.{Row}
use Rattle.pe_engine.specs.declared.engine.Made.TheVariants as made
use Rattle.pe_engine.specs.Causes.{other_cause}
use Rattle.pe_engine.specs.Objects.{handle_at}
use Rattle.pe_engine.specs.Rows.{IsRow, IsShown, IsSettled, IsEmbedder, kept_attributes, AreDelivered}
use Rattle.pe_engine.specs.Making.{IsNew, IsTopRow, IsChildRow}
use Rattle.pe_engine.specs.Tree.{IsNode, IsTree}
use Rattle.pe_engine.specs.StandsFor.{EngineValue, StandsFor}
use Rattle.pe_engine.specs.Replying.{timed}
use Rattle.pe_engine.proofs.Accepted.{step_of}
use Rattle.pe_engine.proofs.CommonCauses.{shown-at}
use Rattle.pe_engine.proofs.Kept.{kept-navigation, document-within, delivered-new}
use Rattle.pe_engine.proofs.Look.{node-at, last-of, live-at, IsAbove, above-at}
use Rattle.pe_engine.proofs.NewRows.{settled-top, settled-child}

-- ---- the other causes

pub url-nav : (T : RepliedHistory) (now f : ℕ) (url : List ℕ) (header : Option (List ℕ)) → place_at url ≡ None → other_cause T now (event.Navigate f url header) ≡ Some cause.Url
unfolding other_cause has_bad_url
url-nav T now f url header none = rw none refl

pub other-nav : (T : RepliedHistory) (now f : ℕ) (url : List ℕ) (header : Option (List ℕ)) (place : Place) → place_at url ≡ Some place → other_cause T now (event.Navigate f url header) ≡ None
unfolding other_cause has_bad_url has_bad_feature has_bad_call has_bad_capability names_other_page exceeds_pages exceeds_depth exceeds_frames exceeds_statuses exceeds_pending exceeds_store setting_named setting_by
other-nav T now f url header place is = rw is refl

-- ---- the embedder

-- the parent of a live frame in the tree is the live frame of the parent's number, and a top frame has none
module _ (laws : HistoryLaws) where
  above-of : (e : EngineValue) (H : History) (f : ℕ) (h : Handle) (y : Entry Row) → StandsFor e H → handle_at e.made f ≡ Some h → entry_of e.frames.entries h ≡ Some y
      → (y.frame ≡ f) × IsAbove (replied e.duration H) e.made y
  above-of e H f h y s at found =
      let (frame, node) = node-at (replied e.duration H) e.made e.frames f h y s.steps.tree at found in
      (frame, above-at (replied e.duration H) e.made y (laws.tree.tree e.duration H s.regular) node)

  pub no-embedder : (e : EngineValue) (H : History) (f : ℕ) (h : Handle) (y : Entry Row) → StandsFor e H → handle_at e.made f ≡ Some h → entry_of e.frames.entries h ≡ Some y
      → parent_of y ≡ None → parent_frame (replied e.duration H) f ≡ None
  no-embedder e H f h y s at found top =
      let (frame, above) = above-of e H f h y s at found in
      ap (parent_frame (replied e.duration H)) (sym frame) ∙ by_parent above (parent_frame (replied e.duration H) y.frame) refl
    where
      by_parent : IsAbove (replied e.duration H) e.made y → (o : Option ℕ) → parent_frame (replied e.duration H) y.frame ≡ o → o ≡ None
      by_parent above None q = refl
      by_parent above (Some g) q =
          let tree = laws.tree.tree e.duration H s.regular in
          absurd (true≢false (sym (tree.parent_older y.frame g q).1 ∙ s.steps.tree.frames g ∙ ap is_some (sym (above.some g q).0 ∙ top)))

  pub some-embedder : (e : EngineValue) (H : History) (f : ℕ) (h up : Handle) (y : Entry Row) (n : Node Row) → StandsFor e H → handle_at e.made f ≡ Some h → entry_of e.frames.entries h ≡ Some y
      → parent_of y ≡ Some up → node_of e.frames.entries up ≡ Some n → IsEmbedder (replied e.duration H) f (Some n.doc)
  some-embedder e H f h up y n s at found parent node =
      let (frame, above) = above-of e H f h y s at found in
      by_parent above frame (parent_frame (replied e.duration H) y.frame) refl
    where
      by_parent : IsAbove (replied e.duration H) e.made y → y.frame ≡ f → (o : Option ℕ) → parent_frame (replied e.duration H) y.frame ≡ o → IsEmbedder (replied e.duration H) f (Some n.doc)
      by_parent above frame None q = let z : ◌≡◌ {A = Option Handle} None (Some up) = sym (ap last_of (above.none q)) ∙ parent in cc
      by_parent above frame (Some g) q = (g, ap (parent_frame (replied e.duration H)) (sym frame) ∙ q, shown-at e H g up n s (sym (above.some g q).0 ∙ parent) node)

  -- the frame above a live one is live
  pub no-node : {A : Type 0} (e : EngineValue) (H : History) (f : ℕ) (h up : Handle) (y : Entry Row) → StandsFor e H → handle_at e.made f ≡ Some h → entry_of e.frames.entries h ≡ Some y
      → parent_of y ≡ Some up → node_of e.frames.entries up ≡ None → A
  no-node {A} e H f h up y s at found parent gone =
      let (frame, above) = above-of e H f h y s at found in
      by_parent above (parent_frame (replied e.duration H) y.frame) refl
    where
      not-there : (o : Option (Entry Row)) → option_map node_in o ≡ None → is_some o ≡ false
      not-there None z = refl
      not-there (Some x) z = cc

      by_parent : IsAbove (replied e.duration H) e.made y → (o : Option ℕ) → parent_frame (replied e.duration H) y.frame ≡ o → A
      by_parent above None q = let z : ◌≡◌ {A = Option Handle} None (Some up) = sym (ap last_of (above.none q)) ∙ parent in cc
      by_parent above (Some g) q =
          absurd (true≢false (sym (above.some g q).1 ∙ sym (live-at laws (replied e.duration H) e.made e.frames g up s.steps.tree (sym (above.some g q).0 ∙ parent)) ∙ not-there (entry_of e.frames.entries up) gone))

  -- ---- the row

  pub settled-below : (e : EngineValue) (H : History) (now f number : ℕ) (url : List ℕ) (header : Option (List ℕ)) (item : StepAnswer) (place : Place) (up r x : Row) → StandsFor e H
      → IsEmbedder (replied e.duration H) f (Some up) → IsShown (replied e.duration H) f r → place_at url ≡ Some place → number ≡ length e.made + 1
      → IsChildRow up number place false header r.attributes x → IsSettled (record { time = now; event = event.Navigate f url header; item = item } ∷ replied e.duration H) x
  unfolding making_by place_or_none
  settled-below e H now f number url header item place up r x s embedded shown is at row =
      let T = replied e.duration H in
      let c = s.steps.tree.count in
      let number-is : number ≡ suc (length T) = omega (arith, at, c) in
      let (g, parent, above) = embedded in
      settled-child laws (record { time = now; event = event.Navigate f url header; item = item }) T
      (record { frame = f; url = url; header = header; embedder = option_and_then (last_document T) (parent_frame T f); srcdoc = false; attributes = attributes_of T f })
      number place r.attributes up x refl (ap (option_and_then (last_document T)) parent ∙ last-of T g up.doc above.document) (document-within laws T g up.doc above.document) above.row.settled
      number-is (ap (λ o. unwrap_or o no_place) is) shown.row.attributes row

  pub settled-alone : (e : EngineValue) (H : History) (now f number : ℕ) (url : List ℕ) (header : Option (List ℕ)) (item : StepAnswer) (place : Place) (x : Row) → StandsFor e H
      → parent_frame (replied e.duration H) f ≡ None → place_at url ≡ Some place → number ≡ length e.made + 1
      → IsTopRow number place header x → IsSettled (record { time = now; event = event.Navigate f url header; item = item } ∷ replied e.duration H) x
  unfolding making_by place_or_none
  settled-alone e H now f number url header item place x s top is at row =
      let T = replied e.duration H in
      let c = s.steps.tree.count in
      let number-is : number ≡ suc (length T) = omega (arith, at, c) in
      settled-top laws (record { time = now; event = event.Navigate f url header; item = item }) T
      (record { frame = f; url = url; header = header; embedder = option_and_then (last_document T) (parent_frame T f); srcdoc = false; attributes = attributes_of T f })
      number place x refl (ap (option_and_then (last_document T)) top) number-is (ap (λ o. unwrap_or o no_place) is) row

-- ---- the tree

-- a document that was changed before makes no difference
pub navigated-anyway : (h : Handle) (x d : Row) (es : List (Entry Row)) → navigated h x (map (with_document h d) es) ≡ navigated h x es
navigated-anyway h x d [] = refl
navigated-anyway h x d (y ∷ es) = by_left (same_handle y.handle h || not (is_under h y)) (navigated-anyway h x d es)
  where
    twice : (b : Bool) → cond b x (cond b d y.doc) ≡ cond b x y.doc
    twice true = refl
    twice false = refl

    by_left : (b : Bool) → navigated h x (map (with_document h d) es) ≡ navigated h x es
        → map (with_document h x) (cond b (with_document h d y ∷ filter (λ z. same_handle z.handle h || not (is_under h z)) (map (with_document h d) es)) (filter (λ z. same_handle z.handle h || not (is_under h z)) (map (with_document h d) es)))
        ≡ map (with_document h x) (cond b (y ∷ filter (λ z. same_handle z.handle h || not (is_under h z)) es) (filter (λ z. same_handle z.handle h || not (is_under h z)) es))
    by_left true rest = rw (twice (same_handle y.handle h), rest) refl
    by_left false rest = rest

-- ---- the answer

module _ (laws : HistoryLaws) where
  -- the answer, and the tree with the new document
  pub navigation : (e : EngineValue) (H : History) (now number f : ℕ) (url : List ℕ) (header : Option (List ℕ)) (h : Handle) (y : Entry Row) (x : Row) (v : Forest Row)
      → StandsFor e H → number ≡ length e.made + 1 → handle_at e.made f ≡ Some h → entry_of e.frames.entries h ≡ Some y
      → IsNew number x → ((item : StepAnswer) → IsSettled (record { time = now; event = event.Navigate f url header; item = item } ∷ replied e.duration H) x)
      → v.entries ≡ navigated h (record x { attributes = y.doc.attributes }) e.frames.entries → v.marks ≡ e.frames.marks
      → (answer.DocMade number x.origin ≡ answer_of e.duration (replied e.duration H) now (event.Navigate f url header))
      × ((item : StepAnswer) → IsTree (step_of (timed now (event.Navigate f url header)) item ∷ replied e.duration H) (e.made ++ made.Doc ∷ []) v)
  unfolding answer_of new_origin
  navigation e H now number f url header h y x v stands at handle found fresh settled entries marks =
      (says, λ item. kept-navigation laws (step item) T e.made e.frames v f url header h (record x { attributes = y.doc.attributes }) refl handle live (again item) (fresh.doc ∙ number-is) (new item) entries marks stands.steps.tree)
    where
      T : RepliedHistory
      T = replied e.duration H

      k : ℕ
      k = suc (length T)

      number-is : number ≡ k
      number-is = let c = stands.steps.tree.count in omega (arith, at, c)

      step : StepAnswer → Step
      step item = step_of (timed now (event.Navigate f url header)) item

      of-frame : (y.frame ≡ f) × IsNode T e.made y
      of-frame = node-at T e.made e.frames f h y stands.steps.tree handle found

      live : is_live T f ≡ true
      live = sym (live-at laws T e.made e.frames f h stands.steps.tree handle) ∙ ap is_some found

      again : (item : StepAnswer) (d : ℕ) → document_in T f ≡ Some d → frames_above (step item ∷ T) k ≡ frames_above T d
      again item d here = (laws.tree.tree e.duration H stands.regular).navigated (step item) f url header d refl here

      says : answer.DocMade number x.origin ≡ answer_of e.duration T now (event.Navigate f url header)
      says =
          let plus : suc (length T) ≡ length T + 1 = omega arith in
          ap (λ o. answer.DocMade number o) ((settled (Replied answer.Done)).origin ∙ ap (origin_of (step (Replied answer.Done) ∷ T)) (fresh.doc ∙ number-is ∙ plus))
          ∙ ap (λ n. answer.DocMade n (origin_of (step (Replied answer.Done) ∷ T) (length T + 1))) (number-is ∙ plus)

      attributes-are : y.doc.attributes ≡ kept_attributes (attributes_of T f)
      attributes-are = of-frame.1.row.attributes ∙ ap (λ g. kept_attributes (attributes_of T g)) of-frame.0

      new : (item : StepAnswer) → IsRow (step item ∷ T) f (record x { attributes = y.doc.attributes })
      new item = record {
        settled = record { origin = (settled item).origin; sandboxed = (settled item).sandboxed; secure = (settled item).secure; single = (settled item).single; pair = (settled item).pair; policy = (settled item).policy };
        stamp = fresh.stamp ∙ sym (laws.activation.stamp_newest (step item) T) ∙ ap (stamp_of (step item ∷ T)) (sym (fresh.doc ∙ number-is));
        second = fresh.second ∙ sym (laws.history_activation.second_stamp_newest (step item) T) ∙ ap (second_stamp_of (step item ∷ T)) (sym (fresh.doc ∙ number-is));
        delivered = subst (λ d. AreDelivered (step item ∷ T) d x.delivered) (sym (fresh.doc ∙ number-is)) (delivered-new laws (step item) T x.delivered fresh.delivered);
        attributes = attributes-are ∙ ap kept_attributes (sym (laws.effects.attributes_stay (step item) T f refl));
      }

-- ---- what calls give

-- what holds of a value that is given
pub ok-map : {X E : Type 0} (P Q : X → Type 0) (r : Result X E) → ((x : X) → P x → Q x) → IfOk r P → IfOk r Q
ok-map P Q (Ok x) f h = f x h
ok-map P Q (Err e) f h = h

-- the frame above an entry that is found
pub parent-is : (o : Option (Entry Row)) (y : Entry Row) (p : Option Handle) → option_and_then parent_of o ≡ p → o ≡ Some y → parent_of y ≡ p
parent-is None y p z is = cc
parent-is (Some x) y p z is = let i : x ≡ y = cc in ap parent_of (sym i) ∙ z
