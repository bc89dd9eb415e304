-- A frame that is embedded.
use Rattle.std.proofs.Common.{◌≡◌, ◌≢◌, ℕ, suc, ◌+◌, ◌≤◌, Bool, true, false, ◌==◌, codes, List, [], ◌∷◌, ◌++◌, map, length, Option, Some, None, is_some, unwrap_or, option_map, refl, sym, ◌∙◌, ap, subst, arith}
use Rattle.std.proofs.lemmas.Bool.Decides.{Decides-eqb, nat_tests}
use Rattle.std.proofs.lemmas.List.{map-append}
use Rattle.pe_arena.specs.declared.handle.Handle.{Handle}
use Rattle.pe_frames.specs.Forest.{Entry, path, path_of, entry_of}
use Rattle.pe_origin.proofs.OnLiterals.{origin_on_literals}
use Rattle.pe_origin.specs.declared.place.Place.{Place}
use Rattle.pe_origin.specs.declared.place.PlaceKind.TheVariants.{Blank}
use Rattle.pe_origin.specs.Places.{place_at}
use Rattle.pe_events.specs.declared.answer.Answer.TheVariants as answer
use Rattle.pe_events.specs.declared.event.AttrName.{AttrName}
use Rattle.pe_events.specs.declared.event.AttrName.TheVariants as attr
use Rattle.pe_events.specs.declared.event.Event.{Event}
use Rattle.pe_events.specs.declared.event.Event.TheVariants as event
use Rattle.pe_rules.specs.History.{StepAnswer, Replied, Step, RepliedHistory, History}
use Rattle.pe_rules.specs.Attributes.{standing, value_given, attribute_by, attribute, attributes_of}
use Rattle.pe_rules.specs.Numbering.{last_document}
use Rattle.pe_rules.specs.Making.{Making, embedded_url, making_by, frame_of}
use Rattle.pe_rules.specs.Embedders.{chain}
use Rattle.pe_rules.specs.Current.{frames_above, document_in}
use Rattle.pe_rules.specs.Origins.{origin_of, place_or_none, no_place}
use Rattle.pe_rules.specs.Activation.{stamp_of}
use Rattle.pe_rules.specs.HistoryActivation.{second_stamp_of}
use Rattle.pe_rules.specs.Causes.{cause_of}
use Rattle.pe_rules.specs.Replies.{answer_of, new_origin, replied}
use Rattle.pe_laws.specs.HistoryLaws.{HistoryLaws}
use Rattle.pe_engine.specs.declared.row.Attributes.{Attributes}
use Rattle.pe_engine.specs.declared.row.Row.{Row}
use Rattle.pe_engine.specs.declared.engine.Made.{Made}
use Rattle.pe_engine.specs.declared.engine.Made.TheVariants as made
use Rattle.pe_engine.specs.Objects.{handle_at}
use Rattle.pe_engine.specs.Rows.{IsRow, IsSettled, kept_attributes, AreDelivered}
use Rattle.pe_engine.specs.Laws.{EngineLaws}
use Rattle.pe_engine.specs.Making.{IsChildRow}
use Rattle.pe_engine.specs.Tree.{IsNode}
use Rattle.pe_engine.specs.Changing.{HasOpened}
use Rattle.pe_engine.specs.StandsFor.{EngineValue, StandsFor}
use Rattle.pe_engine.specs.Replying.{timed, IsAcceptance}
use Rattle.pe_engine.proofs.Accepted.{step_of, accept}
use Rattle.pe_engine.proofs.Handles.{handle-last, grows, path-grows}
use Rattle.pe_engine.proofs.Kept.{kept-made, row-stays, document-within, delivered-new}
use Rattle.pe_engine.proofs.Look.{node-at, last-of}
use Rattle.pe_engine.proofs.NewRows.{settled-child}

-- ---- places

blank : place_at (codes "about:blank") ≡ Some (record { kind = Blank; tuple = None })
unfolding origin_on_literals
blank = refl

-- the place of an embedded document is the given one, else that of `src`, else about:blank
pub document-place : (place src : Option (List ℕ))
    → unwrap_or (option_map place_or_none place) (unwrap_or (option_map place_or_none src) (record { kind = Blank; tuple = None })) ≡ place_or_none (embedded_url place src)
unfolding place_or_none
document-place (Some p) src = refl
document-place None (Some s) = refl
document-place None None = sym blank-is
  where
    blank-is : place_or_none (codes "about:blank") ≡ record { kind = Blank; tuple = None }
    blank-is = ap (λ o. unwrap_or o no_place) blank

-- ---- attributes

stands-so : (b : Bool) → is_some (standing b) ≡ b
stands-so true = refl
stands-so false = refl

module _ (engine_laws : EngineLaws) where
  abbrev laws : HistoryLaws
  laws = engine_laws.history

  attribute-of : (now parent : ℕ) (src pl allow sandbox : Option (List ℕ)) (fullscreen srcdoc : Bool) (header : Option (List ℕ)) (item : StepAnswer) (T : RepliedHistory) (n : AttrName)
      → attribute (step_of (timed now (event.Embed parent src pl allow sandbox fullscreen srcdoc header)) item ∷ T) (suc (length T)) n
      ≡ value_given n (record { src = src; srcdoc = srcdoc; allow = allow; sandbox = sandbox; fullscreen = fullscreen })
  attribute-of now parent src pl allow sandbox fullscreen srcdoc header item T n =
      laws.attributes.attribute_step (step_of (timed now (event.Embed parent src pl allow sandbox fullscreen srcdoc header)) item) T (suc (length T)) n
      ∙ rw ((Decides-eqb (suc (length T)) (suc (length T))).1 refl) refl

  attributes-given : (now parent : ℕ) (src pl allow sandbox : Option (List ℕ)) (fullscreen srcdoc : Bool) (header : Option (List ℕ)) (item : StepAnswer) (T : RepliedHistory)
      → attributes_of (step_of (timed now (event.Embed parent src pl allow sandbox fullscreen srcdoc header)) item ∷ T) (suc (length T))
      ≡ record { src = src; srcdoc = srcdoc; allow = allow; sandbox = sandbox; fullscreen = fullscreen }
  unfolding attributes_of
  attributes-given now parent src pl allow sandbox fullscreen srcdoc header item T =
      rw (
        attribute-of now parent src pl allow sandbox fullscreen srcdoc header item T attr.Src,
        attribute-of now parent src pl allow sandbox fullscreen srcdoc header item T attr.Srcdoc,
        attribute-of now parent src pl allow sandbox fullscreen srcdoc header item T attr.Allow,
        attribute-of now parent src pl allow sandbox fullscreen srcdoc header item T attr.Sandbox,
        attribute-of now parent src pl allow sandbox fullscreen srcdoc header item T attr.Fullscreen,
        stands-so srcdoc,
        stands-so fullscreen,
      ) refl

  -- ---- the answer

  pub accept-embed : (e u : EngineValue) (H : History) (now number parent : ℕ) (src pl allow sandbox : Option (List ℕ)) (fullscreen srcdoc : Bool) (header : Option (List ℕ)) (h : Handle) (y : Entry Row) (place : Place) (a : Attributes) (x : Row)
      → StandsFor e H → number ≡ length e.made + 1 → handle_at e.made parent ≡ Some h → entry_of e.frames.entries h ≡ Some y
      → place_or_none (embedded_url pl src) ≡ place → a ≡ kept_attributes (record { src = src; srcdoc = srcdoc; allow = allow; sandbox = sandbox; fullscreen = fullscreen })
      → cause_of (replied e.duration H) now (event.Embed parent src pl allow sandbox fullscreen srcdoc header) ≡ None
      → IsChildRow y.doc number place srcdoc header a x → HasOpened e u now (path_of e.frames.entries h) number (record x { attributes = a })
      → IsAcceptance e u H (timed now (event.Embed parent src pl allow sandbox fullscreen srcdoc header)) (answer.FrameMade number number x.origin)
  unfolding frames_above answer_of new_origin making_by
  accept-embed e u H now number parent src pl allow sandbox fullscreen srcdoc header h y place a x stands at handle found named given none row opened =
      accept engine_laws e u H (timed now v) (answer.FrameMade number number x.origin) (made.Frame opened.handle) refl stands
      opened.rest none says
      (λ item is. rw opened.rest.noted.made (kept-made laws (step item) T e.made e.frames u.frames opened.handle (path_of e.frames.entries h) (record x { attributes = a }) refl refl (frame item) (λ fs. refl) (others item) opened.fresh opened.marks
      (row.new.doc ∙ number-is) (new item) (way item) (opened.entries ∙ ap (λ n. record { handle = opened.handle; above = path_of e.frames.entries h; frame = n; doc = record x { attributes = a } } ∷ e.frames.entries) number-is) stands.steps.tree))
    where
      T : RepliedHistory
      T = replied e.duration H

      v : Event
      v = event.Embed parent src pl allow sandbox fullscreen srcdoc header

      k : ℕ
      k = suc (length T)

      m : Making
      m = record { frame = length T + 1; url = embedded_url pl src; header = header; embedder = last_document T parent; srcdoc = srcdoc; attributes = record { src = src; srcdoc = srcdoc; allow = allow; sandbox = sandbox; fullscreen = fullscreen } }

      number-is : number ≡ k
      number-is = let c = stands.steps.tree.count in omega (arith, at, c)

      step : StepAnswer → Step
      step item = step_of (timed now v) item

      frame : (item : StepAnswer) → ◌≡◌ {A = Option ℕ} (Some k) (Some k)
      frame item = refl

      of-parent : (y.frame ≡ parent) × IsNode T e.made y
      of-parent = node-at T e.made e.frames parent h y stands.steps.tree handle found

      shown : document_in T parent ≡ Some y.doc.doc
      shown = ap (document_in T) (sym of-parent.0) ∙ of-parent.1.document

      within : y.doc.doc ≤ length T
      within = document-within laws T parent y.doc.doc shown

      embedder : last_document T parent ≡ Some y.doc.doc
      embedder = last-of T parent y.doc.doc shown

      made-here : (item : StepAnswer) → making_by (step item).event T ≡ Some m
      made-here item = refl

      settled : (item : StepAnswer) → IsSettled (step item ∷ T) x
      settled item = settled-child laws (step item) T m number place a y.doc x (made-here item) embedder within of-parent.1.row.settled number-is named given row

      settled-with : (item : StepAnswer) → IsSettled (step item ∷ T) (record x { attributes = a })
      settled-with item = record { origin = (settled item).origin; sandboxed = (settled item).sandboxed; secure = (settled item).secure; single = (settled item).single; pair = (settled item).pair; policy = (settled item).policy }

      says : answer.FrameMade number number x.origin ≡ answer_of e.duration T now v
      says =
          let plus : suc (length T) ≡ length T + 1 = omega arith in
          ap (λ o. answer.FrameMade number number o) ((settled (Replied answer.Done)).origin ∙ ap (origin_of (step (Replied answer.Done) ∷ T)) (row.new.doc ∙ number-is ∙ plus))
          ∙ ap (λ n. answer.FrameMade n n (origin_of (step (Replied answer.Done) ∷ T) (length T + 1))) (number-is ∙ plus)

      beside : (f : ℕ) → f ≤ length T → (n : AttrName) → attribute_by v k f n ≡ None
      beside f le n = let ne : (k == f) ≡ false = grind (arith, nat_tests) in rw ne refl

      older : (z : Entry Row) → IsNode T e.made z → z.frame ≤ length T
      older z node = (laws.numbering.frame_within T z.frame (stands.steps.tree.frames z.frame ∙ ap is_some node.handle)).1

      others : (item : StepAnswer) (z : Entry Row) → IsNode T e.made z → IsRow (step item ∷ T) z.frame z.doc
      others item z node = row-stays laws (step item) T z.frame z.doc (document-within laws T z.frame z.doc.doc node.document) refl refl refl refl refl (laws.attributes.attributes_stay (step item) T z.frame (beside z.frame (older z node))) node.row

      new : (item : StepAnswer) → IsRow (step item ∷ T) k (record x { attributes = a })
      new item = record {
        settled = settled-with item;
        stamp = row.new.stamp ∙ sym (laws.activation.stamp_newest (step item) T) ∙ ap (stamp_of (step item ∷ T)) (sym (row.new.doc ∙ number-is));
        second = row.new.second ∙ sym (laws.history_activation.second_stamp_newest (step item) T) ∙ ap (second_stamp_of (step item ∷ T)) (sym (row.new.doc ∙ number-is));
        delivered = subst (λ d. AreDelivered (step item ∷ T) d x.delivered) (sym (row.new.doc ∙ number-is)) (delivered-new laws (step item) T x.delivered row.new.delivered);
        attributes = given ∙ ap kept_attributes (sym (attributes-given now parent src pl allow sandbox fullscreen srcdoc header item T));
      }

      ns : List Made
      ns = e.made ++ made.Frame opened.handle ∷ []

      last : handle_at ns k ≡ Some opened.handle
      last = rw (← stands.steps.tree.count) (handle-last e.made (made.Frame opened.handle))

      not_k : y.doc.doc ≢ k
      not_k q = let le = within in absurd (omega arith)

      chained : (item : StepAnswer) → chain (step item ∷ T) k ≡ chain T y.doc.doc ++ k ∷ []
      chained item = laws.embedders.chain_newest (step item) T m (made-here item) ∙ ap (λ o. unwrap_or (option_map (chain T) o) [] ++ k ∷ []) embedder

      above : (item : StepAnswer) → map (frame_of (step item ∷ T)) (chain T y.doc.doc) ≡ map (frame_of T) (chain T y.doc.doc)
      above item = ap (map (frame_of (step item ∷ T))) (sym (laws.embedders.chain_older (step item) T y.doc.doc not_k)) ∙ laws.current.frames_above_older (step item) T y.doc.doc within

      way : (item : StepAnswer) → map (handle_at ns) (map (frame_of (step item ∷ T)) (chain (step item ∷ T) k)) ≡ map Some (path_of e.frames.entries h ++ opened.handle ∷ [])
      way item =
          ap (λ ds. map (handle_at ns) (map (frame_of (step item ∷ T)) ds)) (chained item)
          ∙ ap (map (handle_at ns)) (map-append (frame_of (step item ∷ T)) (chain T y.doc.doc) (k ∷ []) ∙ ap (λ fs. fs ++ frame_of (step item ∷ T) k ∷ []) (above item) ∙ ap (λ f. map (frame_of T) (chain T y.doc.doc) ++ f ∷ []) (laws.making.frame_of_newest (step item) T k refl))
          ∙ map-append (handle_at ns) (map (frame_of T) (chain T y.doc.doc)) (k ∷ [])
          ∙ ap (λ hs. hs ++ handle_at ns k ∷ []) (path-grows e.made ns (grows e.made (made.Frame opened.handle)) (map (frame_of T) (chain T y.doc.doc)) (path y) of-parent.1.path)
          ∙ ap (λ o. map Some (path y) ++ o ∷ []) last
          ∙ sym (map-append Some (path y) (opened.handle ∷ []))
          ∙ ap (λ o. map Some (unwrap_or (option_map path o) [] ++ opened.handle ∷ [])) (sym found)
