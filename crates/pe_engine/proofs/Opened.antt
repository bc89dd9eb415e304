-- A page that is opened.
use Rattle.std.proofs.Common.{◌≡◌, ℕ, suc, ◌+◌, false, List, [], ◌∷◌, ◌++◌, map, length, Option, Some, None, unwrap_or, refl, sym, ◌∙◌, ap, subst, arith}
use Rattle.pe_frames.specs.Forest.{Entry}
use Rattle.pe_origin.specs.declared.place.Place.{Place}
use Rattle.pe_origin.specs.Places.{place_at}
use Rattle.pe_events.specs.declared.answer.Answer.TheVariants as answer
use Rattle.pe_events.specs.declared.event.AttrName.{AttrName}
use Rattle.pe_events.specs.declared.event.AttrName.TheVariants as attr
use Rattle.pe_events.specs.declared.event.Event.TheVariants as event
use Rattle.pe_rules.specs.History.{StepAnswer, Replied, Step, RepliedHistory, History}
use Rattle.pe_rules.specs.Attributes.{no_attributes, attribute, attributes_of}
use Rattle.pe_rules.specs.Making.{Making, making_by, frame_of}
use Rattle.pe_rules.specs.Current.{frames_above}
use Rattle.pe_rules.specs.Origins.{origin_of, place_or_none, no_place}
use Rattle.pe_rules.specs.Activation.{stamp_of}
use Rattle.pe_rules.specs.HistoryActivation.{second_stamp_of}
use Rattle.pe_rules.specs.Causes.{cause_of}
use Rattle.pe_rules.specs.Replies.{answer_of, new_origin, replied}
use Rattle.pe_laws.specs.HistoryLaws.{HistoryLaws}
use Rattle.pe_engine.specs.declared.row.Row.{Row}
use Rattle.pe_engine.specs.declared.engine.Made.TheVariants as made
use Rattle.pe_engine.specs.Objects.{handle_at}
use Rattle.pe_engine.specs.Rows.{IsRow, IsSettled, kept_attributes, AreDelivered}
use Rattle.pe_engine.specs.Laws.{EngineLaws}
use Rattle.pe_engine.specs.Making.{IsTopRow}
use Rattle.pe_engine.specs.Tree.{IsNode}
use Rattle.pe_engine.specs.Changing.{HasOpened}
use Rattle.pe_engine.specs.StandsFor.{EngineValue, StandsFor}
use Rattle.pe_engine.specs.Replying.{timed, IsAcceptance}
use Rattle.pe_engine.proofs.Accepted.{step_of, accept}
use Rattle.pe_engine.proofs.Handles.{handle-last}
use Rattle.pe_engine.proofs.Kept.{kept-made, row-stays, document-within, delivered-new}
use Rattle.pe_engine.proofs.NewRows.{settled-top, chain-top}

-- the place of a URL
place-is : (url : List ℕ) (place : Place) → place_at url ≡ Some place → place_or_none url ≡ place
unfolding place_or_none
place-is url place is = ap (λ o. unwrap_or o no_place) is

-- the making of a page's document
abbrev page_making : List ℕ → Option (List ℕ) → RepliedHistory → Making
page_making url header T = record { frame = length T + 1; url = url; header = header; embedder = None; srcdoc = false; attributes = no_attributes }

made-page : (url : List ℕ) (header : Option (List ℕ)) (T : RepliedHistory) → making_by (event.OpenPage url header) T ≡ Some (page_making url header T)
unfolding making_by
made-page url header T = refl

-- no attribute at all
no-attributes : (T : RepliedHistory) (f : ℕ) → ((n : AttrName) → attribute T f n ≡ None) → attributes_of T f ≡ no_attributes
unfolding attributes_of
no-attributes T f none = rw (none attr.Src, none attr.Srcdoc, none attr.Allow, none attr.Sandbox, none attr.Fullscreen) refl

-- an answer that tells of a page
open-says : (duration : ℕ) (T : RepliedHistory) (now number : ℕ) (url : List ℕ) (header : Option (List ℕ)) (x : Row) → number ≡ suc (length T) → x.doc ≡ number
    → IsSettled (step_of (timed now (event.OpenPage url header)) (Replied answer.Done) ∷ T) x
    → answer.FrameMade number number x.origin ≡ answer_of duration T now (event.OpenPage url header)
unfolding answer_of new_origin
open-says duration T now number url header x at doc settled =
    let plus : suc (length T) ≡ length T + 1 = omega arith in
    ap (λ o. answer.FrameMade number number o) (settled.origin ∙ ap (origin_of (step_of (timed now (event.OpenPage url header)) (Replied answer.Done) ∷ T)) (doc ∙ at ∙ plus))
    ∙ ap (λ n. answer.FrameMade n n (origin_of (step_of (timed now (event.OpenPage url header)) (Replied answer.Done) ∷ T) (length T + 1))) (at ∙ plus)

module _ (engine_laws : EngineLaws) where
  abbrev laws : HistoryLaws
  laws = engine_laws.history

  pub accept-open : (e u : EngineValue) (H : History) (now number : ℕ) (url : List ℕ) (header : Option (List ℕ)) (place : Place) (x : Row) → StandsFor e H
      → number ≡ length e.made + 1 → place_at url ≡ Some place → cause_of (replied e.duration H) now (event.OpenPage url header) ≡ None
      → IsTopRow number place header x → HasOpened e u now [] number x
      → IsAcceptance e u H (timed now (event.OpenPage url header)) (answer.FrameMade number number x.origin)
  unfolding frames_above
  accept-open e u H now number url header place x stands at named none row opened =
      accept engine_laws e u H (timed now (event.OpenPage url header)) (answer.FrameMade number number x.origin) (made.Frame opened.handle) refl stands
      opened.rest none
      (open-says e.duration T now number url header x number-is row.new.doc (settled (Replied answer.Done)))
      (λ item is. rw opened.rest.noted.made (kept-made laws (step item) T e.made e.frames u.frames opened.handle [] x refl refl (frame item) (λ fs. refl) (others item) opened.fresh opened.marks
      (row.new.doc ∙ number-is) (new item) (path item) (opened.entries ∙ ap (λ n. record { handle = opened.handle; above = []; frame = n; doc = x } ∷ e.frames.entries) number-is) stands.steps.tree))
    where
      T : RepliedHistory
      T = replied e.duration H

      k : ℕ
      k = suc (length T)

      number-is : number ≡ k
      number-is = let c = stands.steps.tree.count in omega (arith, at, c)

      step : StepAnswer → Step
      step item = step_of (timed now (event.OpenPage url header)) item

      frame : (item : StepAnswer) → ◌≡◌ {A = Option ℕ} (Some k) (Some k)
      frame item = refl

      settled : (item : StepAnswer) → IsSettled (step item ∷ T) x
      settled item = settled-top laws (step item) T (page_making url header T) number place x (made-page url header T) refl number-is (place-is url place named) row

      others : (item : StepAnswer) (y : Entry Row) → IsNode T e.made y → IsRow (step item ∷ T) y.frame y.doc
      others item y node = row-stays laws (step item) T y.frame y.doc (document-within laws T y.frame y.doc.doc node.document) refl refl refl refl refl (laws.effects.attributes_stay (step item) T y.frame refl) node.row

      bare : (item : StepAnswer) → attributes_of (step item ∷ T) k ≡ no_attributes
      bare item = laws.effects.attributes_stay (step item) T k refl ∙ no-attributes T k (λ n. laws.attributes.attribute_beyond e.duration H k n stands.regular (omega arith))

      new : (item : StepAnswer) → IsRow (step item ∷ T) k x
      new item = record {
        settled = settled item;
        stamp = row.new.stamp ∙ sym (laws.activation.stamp_newest (step item) T) ∙ ap (stamp_of (step item ∷ T)) (sym (row.new.doc ∙ number-is));
        second = row.new.second ∙ sym (laws.history_activation.second_stamp_newest (step item) T) ∙ ap (second_stamp_of (step item ∷ T)) (sym (row.new.doc ∙ number-is));
        delivered = subst (λ d. AreDelivered (step item ∷ T) d x.delivered) (sym (row.new.doc ∙ number-is)) (delivered-new laws (step item) T x.delivered row.new.delivered);
        attributes = row.new.attributes ∙ ap kept_attributes (sym (bare item));
      }

      last : handle_at (e.made ++ made.Frame opened.handle ∷ []) k ≡ Some opened.handle
      last = rw (← stands.steps.tree.count) (handle-last e.made (made.Frame opened.handle))

      path : (item : StepAnswer) → map (handle_at (e.made ++ made.Frame opened.handle ∷ [])) (frames_above (step item ∷ T) k) ≡ map Some (opened.handle ∷ [])
      path item =
          ap (λ ds. map (handle_at (e.made ++ made.Frame opened.handle ∷ [])) (map (frame_of (step item ∷ T)) ds)) (chain-top laws (step item) T (page_making url header T) (made-page url header T) refl)
          ∙ rw (laws.making.frame_of_newest (step item) T k refl, last) refl
