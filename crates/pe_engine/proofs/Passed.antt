-- Time that has passed.
use Rattle.std.proofs.Common.{◌≡◌, ℕ, ◌≤◌, ◌∷◌, None, Result, Ok, Err, IfOk, sym, ◌∙◌, ap, subst}
use Rattle.std.specs.Prelude.{OnOk}
use Rattle.std.specs.Global.{Vec}
use Rattle.pe_store.specs.Entries.{StoreValue}
use Rattle.pe_events.specs.declared.answer.Change.{Change}
use Rattle.pe_events.specs.declared.answer.Answer.{Answer}
use Rattle.pe_events.specs.Timed.{Timed}
use Rattle.pe_rules.specs.History.{RepliedHistory, History, clock}
use Rattle.pe_rules.specs.Causes.{cause_of}
use Rattle.pe_rules.specs.Changes.{changes_before, changes_after}
use Rattle.pe_rules.specs.Replies.{answer_of, replied, step_answer}
use Rattle.pe_changes.specs.Parts.{IsStore, IsStatuses, AreGoverned}
use Rattle.pe_engine.specs.declared.row.Row.{Row}
use Rattle.pe_engine.specs.Laws.{EngineLaws}
use Rattle.pe_engine.specs.declared.engine.Made.{Made}
use Rattle.pe_engine.specs.Changing.{HasNoted}
use Rattle.pe_engine.specs.Replying.{HasPassed, IsReplied}
use Rattle.pe_engine.specs.Rows.{blocks}
use Rattle.pe_engine.specs.StandsFor.{EngineValue, StandsForAt, StandsFor}
use Rattle.pe_engine.proofs.Accepted.{IsParts, step_of, stands-by-parts}
use Rattle.pe_engine.proofs.Governing.{all-governed}

-- a lapse up to a time brought the changes
abbrev pub BringsChanges : EngineValue → ℕ → Vec Change → Type 0
BringsChanges e now changes = (T : RepliedHistory) → clock T ≤ now → IsStore T (clock T) e.store → IsStatuses T e.statuses → AreGoverned T (λ (x : Row). x.doc) blocks e.frames.entries e.statuses.live
    → changes.items ≡ changes_before T now

-- and the store stands for the steps at the time
abbrev pub LeavesStore : EngineValue → ℕ → StoreValue → Type 0
LeavesStore e now store = (T : RepliedHistory) → clock T ≤ now → IsStore T (clock T) e.store → IsStore T now store

module _ (laws : EngineLaws) where
  passed : (e u : EngineValue) (H : History) (now : ℕ) (changes : Vec Change) → StandsFor e H → e.clock ≤ now → u ≡ record e { store = u.store }
      → BringsChanges e now changes → LeavesStore e now u.store → HasPassed e u H now changes
  passed e u H now changes s late rest brings leaves =
      let T = replied e.duration H in
      let clocked : e.clock ≡ clock T = s.steps.clock in
      let in-time : clock T ≤ now = subst (λ t. t ≤ now) clocked late in
      let store : IsStore T (clock T) e.store = subst (λ t. IsStore T t e.store) clocked s.steps.store in
      record {
        changes_are = brings T in-time store s.steps.statuses (all-governed laws.history e.duration H e.made e.frames e.statuses s.regular s.steps.tree s.steps.statuses s.steps.named);
        stands = subst (λ (v : EngineValue). StandsForAt v H now) (sym rest) (record {
          regular = s.regular;
          steps = record { working = s.steps.working; clock = s.steps.clock; tree = s.steps.tree; store = leaves T in-time store; statuses = s.steps.statuses; named = s.steps.named; prompts = s.steps.prompts; messages = s.steps.messages; addressed = s.steps.addressed };
        });
      }

  pub passed-ok : {E : Type 0} (e u : EngineValue) (H : History) (now : ℕ) (r : Result (Vec Change) E) → StandsFor e H → e.clock ≤ now → OnOk r (u ≡ record e { store = u.store })
      → ((T : RepliedHistory) → clock T ≤ now → IsStore T (clock T) e.store → IsStatuses T e.statuses → AreGoverned T (λ (x : Row). x.doc) blocks e.frames.entries e.statuses.live → IfOk r (λ changes. changes.items ≡ changes_before T now))
      → ((T : RepliedHistory) → clock T ≤ now → IsStore T (clock T) e.store → OnOk r (IsStore T now u.store)) → IfOk r (HasPassed e u H now)
  passed-ok e u H now (Ok changes) s late rest brings leaves = passed e u H now changes s late rest brings leaves
  passed-ok e u H now (Err x) s late rest brings leaves = tt

  -- an accepted event that took effect once the time had passed: its reply, by the parts for which the engine stands after it
  pub applied-reply : (e p u : EngineValue) (H : History) (x : Timed) (m : Made) (said : Answer) (before after : Vec Change) → StandsFor e H → HasPassed e p H x.time before
      → cause_of (replied e.duration H) x.time x.event ≡ None → said ≡ answer_of e.duration (replied e.duration H) x.time x.event → HasNoted e u x.time m
      → IsParts u (step_of x (step_answer e.duration (replied e.duration H) x.time x.event) ∷ replied e.duration H) x.time
      → after.items ≡ changes_after (replied e.duration H) (step_of x (step_answer e.duration (replied e.duration H) x.time x.event) ∷ replied e.duration H) x.time
      → IsReplied e u H x (Ok (record { before = before; answer = said; after = after }))
  applied-reply e p u H x m said before after stands passed none says noted parts changes = (
    none,
    record {
      says = says;
      before = passed.changes_are;
      after = changes ∙ ap (λ U. changes_after (replied e.duration H) U x.time) (sym (laws.history.steps.told_step e.duration x H));
      duration = noted.duration;
      stands = subst (λ t. StandsForAt u (x ∷ H) t) (sym noted.clock) (stands-by-parts laws e u H x x.time stands.regular stands.steps.working none m noted parts);
    },
  )
