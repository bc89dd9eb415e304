-- The causes that every verb has, by what the engine keeps.
use Rattle.std.proofs.Common.{◌≡◌, ℕ, ◌<◌, ◌≤◌, true, false, length, Option, Some, None, is_some, option_map, refl, sym, ◌∙◌, ap, subst, arith, true≢false}
use Rattle.std.specs.Prelude.{IsSome}
use Rattle.std.proofs.lemmas.Bool.Decides.{nat_tests}
use Rattle.pe_arena.specs.declared.handle.Handle.{Handle}
use Rattle.pe_frames.specs.declared.node.Node.{Node}
use Rattle.pe_frames.specs.Forest.{Entry, entry_of, node_in, node_of}
use Rattle.pe_events.specs.declared.cause.Cause.TheVariants as cause
use Rattle.pe_events.specs.declared.event.Event.{Event}
use Rattle.pe_rules.specs.History.{History}
use Rattle.pe_rules.specs.Current.{is_live, document_in}
use Rattle.pe_rules.specs.Replies.{replied}
use Rattle.pe_laws.specs.HistoryLaws.{HistoryLaws}
use Rattle.pe_engine.specs.declared.row.Row.{Row}
use Rattle.pe_engine.specs.Objects.{handle_at}
use Rattle.pe_engine.specs.Rows.{IsRow, IsShown}
use Rattle.pe_engine.specs.Causes.{time_cause, named_cause, frame_named}
use Rattle.pe_engine.specs.StandsFor.{EngineValue, StandsFor}
use Rattle.pe_engine.proofs.CausesParts.{limit-events, time-back, in-time, frame-unknown, frame-closed, frame-live}
use Rattle.pe_engine.proofs.Look.{node-at, live-at, no-handle}

-- ---- the time

pub next-limit : (e : EngineValue) (H : History) (now : ℕ) → StandsFor e H → 1000000 ≤ length e.made → time_cause (replied e.duration H) now ≡ Some cause.LimitEvents
next-limit e H now s full = limit-events (replied e.duration H) now (let c = s.steps.tree.count in grind (arith, nat_tests))

pub next-back : (e : EngineValue) (H : History) (now : ℕ) → StandsFor e H → length e.made < 1000000 → now < e.clock → time_cause (replied e.duration H) now ≡ Some cause.TimeBack
next-back e H now s few back = time-back (replied e.duration H) now (let c = s.steps.tree.count in grind (arith, nat_tests)) (let c = s.steps.clock in grind (arith, nat_tests))

pub next-none : (e : EngineValue) (H : History) (now : ℕ) → StandsFor e H → length e.made < 1000000 → e.clock ≤ now → time_cause (replied e.duration H) now ≡ None
next-none e H now s few late = in-time (replied e.duration H) now (let c = s.steps.tree.count in grind (arith, nat_tests)) (let c = s.steps.clock in grind (arith, nat_tests))

-- ---- the frame

module _ (laws : HistoryLaws) where
  pub live-unknown : (e : EngineValue) (H : History) (x : Event) (f : ℕ) → StandsFor e H → frame_named x ≡ Some f → handle_at e.made f ≡ None → named_cause (replied e.duration H) x ≡ Some cause.Unknown
  live-unknown e H x f s named none = frame-unknown (replied e.duration H) x f named (no-handle laws (replied e.duration H) e.made e.frames f s.steps.tree none)

  pub live-closed : (e : EngineValue) (H : History) (x : Event) (f : ℕ) (h : Handle) → StandsFor e H → frame_named x ≡ Some f → handle_at e.made f ≡ Some h → is_some (entry_of e.frames.entries h) ≡ false
      → named_cause (replied e.duration H) x ≡ Some cause.Closed
  live-closed e H x f h s named at gone = frame-closed (replied e.duration H) x f named (s.steps.tree.frames f ∙ ap is_some at) (sym (live-at laws (replied e.duration H) e.made e.frames f h s.steps.tree at) ∙ gone)

  pub live-none : (e : EngineValue) (H : History) (x : Event) (f : ℕ) (h : Handle) → StandsFor e H → frame_named x ≡ Some f → handle_at e.made f ≡ Some h → is_some (entry_of e.frames.entries h) ≡ true
      → named_cause (replied e.duration H) x ≡ None
  live-none e H x f h s named at there = frame-live (replied e.duration H) x f named (s.steps.tree.frames f ∙ ap is_some at) (sym (live-at laws (replied e.duration H) e.made e.frames f h s.steps.tree at) ∙ there)

  -- the frame of a handle that is found is live
  pub is-live : (e : EngineValue) (H : History) (f : ℕ) (h : Handle) → StandsFor e H → handle_at e.made f ≡ Some h → is_some (entry_of e.frames.entries h) ≡ true → is_live (replied e.duration H) f ≡ true
  is-live e H f h s at there = sym (live-at laws (replied e.duration H) e.made e.frames f h s.steps.tree at) ∙ there

-- what is found is there
pub some-mapped : {A B : Type 0} (g : A → B) (o : Option A) → is_some (option_map g o) ≡ is_some o
some-mapped g None = refl
some-mapped g (Some x) = refl

-- ---- the document

entry-of-node : (o : Option (Entry Row)) (n : Node Row) → option_map node_in o ≡ Some n → (e : Entry Row) × (o ≡ Some e) × (e.doc ≡ n.doc)
entry-of-node None n z = cc
entry-of-node (Some e) n z = (e, refl, (let i : node_in e ≡ n = cc in ap (λ (m : Node Row). m.doc) i))

pub shown-at : (e : EngineValue) (H : History) (f : ℕ) (h : Handle) (n : Node Row) → StandsFor e H → handle_at e.made f ≡ Some h → node_of e.frames.entries h ≡ Some n → IsShown (replied e.duration H) f n.doc
shown-at e H f h n s at found =
    let (x, is, same) = entry-of-node (entry_of e.frames.entries h) n found in
    let (frame, node) = node-at (replied e.duration H) e.made e.frames f h x s.steps.tree at is in record {
      document = ap (document_in (replied e.duration H)) (sym frame) ∙ node.document ∙ ap (λ (y : Row). Some y.doc) same;
      row = subst (λ y. IsRow (replied e.duration H) f y) same (subst (λ g. IsRow (replied e.duration H) g x.doc) frame node.row);
    }

-- what is there
pub some-of : {A : Type 0} (o : Option A) → IsSome o → (x : A) × (o ≡ Some x)
some-of None h = absurd (true≢false (sym h))
some-of (Some x) h = (x, refl)
