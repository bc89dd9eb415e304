-- What is stored at a time, by the store as it was at the clock, and the frames that show documents.
use Rattle.std.proofs.Common.{◌≡◌, ◌≢◌, ℕ, ◌≤◌, Bool, true, false, not, ◌||◌, ◌==◌, List, [], ◌∷◌, length, Option, Some, None, is_some, is_none, option_map, option_and_then, IsTrue, refl, sym, ◌∙◌, ap, subst, arith, true≢false}
use Rattle.std.proofs.lemmas.Bool.Decides.{Decides-eqb}
use Rattle.pe_arena.specs.declared.handle.Handle.{Handle}
use Rattle.pe_frames.specs.Forest.{entry_of}
use Rattle.pe_features.specs.declared.call.Call.{Call}
use Rattle.pe_features.specs.declared.feature.Feature.{Feature}
use Rattle.pe_store.specs.declared.key.Key.{Key}
use Rattle.pe_store.specs.declared.key.Life.{Life}
use Rattle.pe_store.specs.declared.key.Life.TheVariants as life
use Rattle.pe_store.specs.Entries as store
use Rattle.pe_store.specs.Entries.{StoreValue}
use Rattle.pe_store.specs.Pairs.{Pair}
use Rattle.pe_events.specs.declared.event.Event.{Event}
use Rattle.pe_events.specs.declared.event.Event.TheVariants as event
use Rattle.pe_events.specs.Timed.{Timed}
use Rattle.pe_rules.specs.History.{Step, RepliedHistory, History, some_if, clock}
use Rattle.pe_rules.specs.Numbering.{makes_frame, document_frame, is_frame}
use Rattle.pe_rules.specs.Current.{document_in, is_live}
use Rattle.pe_rules.specs.Settings.{Setting, pair_for, holds, last_setting, stored_state}
use Rattle.pe_rules.specs.Causes.{cause_of, names_unknown}
use Rattle.pe_rules.specs.Verdicts.{verdict_of}
use Rattle.pe_rules.specs.Replies.{replied, step_answer, is_regular, accepts, accepts_in}
use Rattle.pe_laws.specs.CurrentLaws.{left_in}
use Rattle.pe_laws.specs.HistoryLaws.{HistoryLaws}
use Rattle.pe_laws.specs.SettingsLaws.{in_force}
use Rattle.pe_changes.specs.Gathered.{outlasts}
use Rattle.pe_changes.specs.Parts.{entry_by, entry_in, IsStore}
use Rattle.pe_engine.specs.Objects.{handle_at}
use Rattle.pe_engine.specs.StandsFor.{EngineValue, StandsFor}
use Rattle.pe_engine.specs.Using.{state_at, verdict_in}
use Rattle.pe_engine.proofs.Accepted.{step_of}
use Rattle.pe_engine.proofs.Look.{live-at, no-handle}

-- ---- what is stored

-- a life that held at one time holds at another by its own end
life-holds : (T : RepliedHistory) (before now : ℕ) (l : Life) → holds T before l ≡ true → holds T now l ≡ outlasts now l
unfolding holds
life-holds T before now life.Forever h = refl
life-holds T before now (life.Until end) h = refl
life-holds T before now (life.Page d) h = h

-- the life of the setting in force holds
force-holds : (T : RepliedHistory) (now : ℕ) (p : Pair) (x : Setting) → in_force T now p ≡ Some x → holds T now x.life ≡ true
unfolding in_force
force-holds T now p x is = by_last (last_setting T p) is
  where
    by_test : (b : Bool) (y : Setting) → holds T now y.life ≡ b → some_if b y ≡ Some x → holds T now x.life ≡ true
    by_test true y h e = let i : y ≡ x = cc in ap (λ (z : Setting). holds T now z.life) (sym i) ∙ h
    by_test false y h e = cc

    by_last : (o : Option Setting) → option_and_then (λ y. some_if (holds T now y.life) y) o ≡ Some x → holds T now x.life ≡ true
    by_last None e = cc
    by_last (Some y) e = by_test (holds T now y.life) y refl e

state-mapped : (b : Bool) (x : Setting) → some_if b x.state ≡ option_map (λ (y : Setting). y.state) (some_if b x)
state-mapped true x = refl
state-mapped false x = refl

-- ---- verdicts at the clock

-- of a frame that shows no document, and of one that shows one
pub verdict-none : (duration : ℕ) (T : RepliedHistory) (f : ℕ) (call : Call) → document_in T f ≡ None → None ≡ verdict_in duration T f call
verdict-none duration T f call none = sym (ap (option_map (λ d. verdict_of duration T (clock T) d call)) none)

pub verdict-some : (duration : ℕ) (T : RepliedHistory) (f d : ℕ) (call : Call) → document_in T f ≡ Some d → Some (verdict_of duration T (clock T) d call) ≡ verdict_in duration T f call
verdict-some duration T f d call shown = sym (ap (option_map (λ d. verdict_of duration T (clock T) d call)) shown)

pub shows-none : (T : RepliedHistory) (f : ℕ) → document_in T f ≡ None → is_live T f ≡ false
unfolding is_live
shows-none T f none = ap is_some none

pub shows-one : (T : RepliedHistory) (f d : ℕ) → document_in T f ≡ Some d → is_live T f ≡ true
unfolding is_live
shows-one T f d shown = ap is_some shown

pub unmapped-none : {A B : Type 0} (g : A → B) (o : Option A) → option_map g o ≡ None → o ≡ None
unmapped-none g None h = refl
unmapped-none g (Some x) h = cc

pub unmapped-some : {A B : Type 0} (g : A → B) (o : Option A) (y : B) → option_map g o ≡ Some y → (x : A) × (o ≡ Some x)
unmapped-some g None y h = cc
unmapped-some g (Some x) y h = (x, refl)

module _ (laws : HistoryLaws) where
  -- what is stored for a pair at a time is what its entry at an earlier time gives then
  pub stored-later : (T : RepliedHistory) (before now : ℕ) (value : StoreValue) (p : Pair) → before ≤ now → IsStore T before value
      → option_and_then (state_at now) (store.entry_of value.entries p) ≡ stored_state T now p
  unfolding entry_in
  stored-later T before now value p late is =
      ap (option_and_then (state_at now)) (is.found p)
      ∙ by_force (in_force T before p) refl
      ∙ ap (option_map (λ (x : Setting). x.state)) (sym (laws.settings.in_force_later T before now p late))
      ∙ sym (laws.settings.stored_in_force T now p)
    where
      by_force : (o : Option Setting) → in_force T before p ≡ o
          → option_and_then (state_at now) (option_map entry_by o) ≡ option_map (λ (x : Setting). x.state) (option_and_then (λ x. some_if (holds T now x.life) x) o)
      by_force None e = refl
      by_force (Some x) e = ap (λ b. some_if b x.state) (sym (life-holds T before now x.life (force-holds T before p x e))) ∙ state-mapped (holds T now x.life) x

  -- ---- frames

  -- a number without a handle is that of no frame that shows a document
  pub unmade-shows-none : (e : EngineValue) (H : History) (f : ℕ) → StandsFor e H → handle_at e.made f ≡ None → document_in (replied e.duration H) f ≡ None
  unmade-shows-none e H f s none = by_document (document_in (replied e.duration H) f) refl
    where
      by_document : (o : Option ℕ) → document_in (replied e.duration H) f ≡ o → o ≡ None
      by_document None is = refl
      by_document (Some d) is = absurd (true≢false (sym (laws.current.live_is_frame e.duration H f s.regular (shows-one (replied e.duration H) f d is)) ∙ no-handle laws (replied e.duration H) e.made e.frames f s.steps.tree none))

  -- nor is one whose handle is not live
  pub closed-shows-none : (e : EngineValue) (H : History) (f : ℕ) (h : Handle) → StandsFor e H → handle_at e.made f ≡ Some h → entry_of e.frames.entries h ≡ None → document_in (replied e.duration H) f ≡ None
  unfolding is_live
  closed-shows-none e H f h s at gone = by_document (document_in (replied e.duration H) f) (sym (live-at laws (replied e.duration H) e.made e.frames f h s.steps.tree at) ∙ ap is_some gone)
    where
      by_document : (o : Option ℕ) → is_some o ≡ false → o ≡ None
      by_document None is = refl
      by_document (Some d) is = cc
