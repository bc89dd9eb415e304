-- Uses of calls: their causes, their verdicts, and what they leave of the tree.
use Rattle.std.proofs.Common.{◌≡◌, ◌≤◌, ◌+◌, ◌*◌, ℕ, Bool, true, false, not, ◌&&◌, ◌||◌, List, [], ◌∷◌, ◌++◌, Option, Some, None, unwrap_or, option_map, option_and_then, if◌then◌else◌, refl, sym, ◌∙◌, ap, subst, arith}
use Rattle.std.specs.Prelude.{IfSome}
use Rattle.std.specs.Option.{option_or}
use Rattle.pe_arena.specs.declared.handle.Handle.{Handle}
use Rattle.pe_frames.specs.Forest.{Entry, Forest, entry_of, page_size, top_of, with_doc}
use Rattle.pe_frames.specs.Walk.{changed_page}
use Rattle.pe_features.specs.declared.call.Call.{Call}
use Rattle.pe_features.specs.declared.call.Gate.{Gate}
use Rattle.pe_features.specs.declared.call.Need.{Need}
use Rattle.pe_features.specs.declared.call.Need.TheVariants.{Nothing, Sticky, Transient}
use Rattle.pe_features.specs.declared.capability.Capability.{Capability}
use Rattle.pe_features.specs.Calls.{call_named, gate_of}
use Rattle.pe_activation.specs.Stamps.{consumed}
use Rattle.pe_events.specs.declared.cause.Cause.TheVariants as cause
use Rattle.pe_events.specs.declared.event.Event.TheVariants as event
use Rattle.pe_events.specs.declared.reason.Reason.{Reason}
use Rattle.pe_events.specs.declared.reason.Reason.TheVariants as reason
use Rattle.pe_events.specs.declared.reason.Verdict.{Verdict}
use Rattle.pe_events.specs.declared.reason.Verdict.TheVariants as verdict
use Rattle.pe_events.specs.declared.reason.Via.{Via}
use Rattle.pe_events.specs.declared.reason.Via.TheVariants as via
use Rattle.pe_rules.specs.History.{Judged, RepliedHistory, History, some_if}
use Rattle.pe_rules.specs.Current.{document_in}
use Rattle.pe_rules.specs.Origins.{is_secure}
use Rattle.pe_rules.specs.Denials.{why_denied}
use Rattle.pe_rules.specs.Activation.{has_sticky, has_transient, is_by_transient, is_consuming_call}
use Rattle.pe_rules.specs.Delegation.{has_delegated}
use Rattle.pe_rules.specs.Settings.{setting_named, setting_by}
use Rattle.pe_rules.specs.Causes.{count_in_page, live_frames, has_bad_url, has_bad_feature, has_bad_call, has_bad_capability, names_other_page, exceeds_pages, exceeds_depth, exceeds_frames, exceeds_statuses, exceeds_pending, exceeds_store}
use Rattle.pe_rules.specs.Verdicts.{permission_reason, is_met_by_delegated, activation_reason, reason_denied, met_by, verdict_by, verdict_of}
use Rattle.pe_rules.specs.Replies.{replied, answer_of, answer_of_verdict, verdict_replied, step_answer}
use Rattle.pe_laws.specs.HistoryLaws.{HistoryLaws}
use Rattle.pe_engine.specs.declared.row.Row.{Row}
use Rattle.pe_engine.specs.declared.engine.Made.{Made}
use Rattle.pe_engine.specs.declared.engine.Made.TheVariants as made
use Rattle.pe_engine.specs.Causes.{other_cause}
use Rattle.pe_engine.specs.Costs.{taken_of, consumed_by_use}
use Rattle.pe_engine.specs.Objects.{handle_at}
use Rattle.pe_engine.specs.Replying.{timed}
use Rattle.pe_engine.specs.Rows.{with_delivery}
use Rattle.pe_engine.specs.StandsFor.{EngineValue, StandsFor}
use Rattle.pe_engine.specs.Tree.{IsTree}
use Rattle.pe_engine.specs.Using.{IsConsumedIf, IsSpent, HasTaken}
use Rattle.pe_engine.proofs.Accepted.{step_of}
use Rattle.pe_engine.proofs.Consumed.{kept-use-consumed, kept-use-silent}
use Rattle.pe_engine.proofs.Delivered.{kept-spent}
use Rattle.pe_engine.proofs.Look.{node-at}
use Rattle.pe_engine.proofs.VerbAnswers.{limits-at}

-- ---- causes and answers

pub call-use : (T : RepliedHistory) (now f : ℕ) (name : List ℕ) → call_named name ≡ None → other_cause T now (event.UseCall f name) ≡ Some cause.Call
unfolding other_cause has_bad_url has_bad_feature has_bad_call
call-use T now f name none = rw none refl

pub other-use : (T : RepliedHistory) (now f : ℕ) (name : List ℕ) (call : Call) → call_named name ≡ Some call → other_cause T now (event.UseCall f name) ≡ None
unfolding other_cause has_bad_url has_bad_feature has_bad_call has_bad_capability names_other_page exceeds_pages exceeds_depth exceeds_frames exceeds_statuses exceeds_pending exceeds_store setting_named setting_by
other-use T now f name call named = rw named refl

pub use-answer : (duration : ℕ) (T : RepliedHistory) (now f d : ℕ) (name : List ℕ) (call : Call) → document_in T f ≡ Some d → call_named name ≡ Some call
    → answer_of duration T now (event.UseCall f name) ≡ answer_of_verdict (verdict_of duration T now d call)
unfolding answer_of
use-answer duration T now f d name call shown named = rw (shown, named) refl

pub use-told : (duration : ℕ) (T : RepliedHistory) (now f d : ℕ) (name : List ℕ) (call : Call) → document_in T f ≡ Some d → call_named name ≡ Some call
    → step_answer duration T now (event.UseCall f name) ≡ Judged (verdict_of duration T now d call)
unfolding verdict_replied
use-told duration T now f d name call shown named = rw (shown, named) refl

-- the document of the live frame of a handle
pub shown-entry : (e : EngineValue) (H : History) (f : ℕ) (h : Handle) (x : Entry Row) → StandsFor e H → handle_at e.made f ≡ Some h → entry_of e.frames.entries h ≡ Some x → document_in (replied e.duration H) f ≡ Some x.doc.doc
shown-entry e H f h x s at here =
    let (same, node) = node-at (replied e.duration H) e.made e.frames f h x s.steps.tree at here in
    ap (document_in (replied e.duration H)) (sym same) ∙ node.document

-- ---- what a delegated capability met has one

met-delegated : (need : Need) (t : Bool) → met_by need t ≡ via.Delegated → (need ≡ Transient) × (t ≡ false)
met-delegated Nothing t h = cc
met-delegated Sticky t h = cc
met-delegated Transient true h = cc
met-delegated Transient false h = (refl, refl)

last-none : (a b c d : Option Reason) → option_or a (option_or b (option_or c d)) ≡ None → d ≡ None
last-none None None None d h = h
last-none None None (Some x) d h = cc
last-none None (Some x) c d h = cc
last-none (Some x) b c d h = cc

by-allowed : (o : Option Reason) (way w : Via) → verdict_by o way ≡ verdict.Allowed w → (o ≡ None) × (way ≡ w)
by-allowed None way w h = (refl, (let i : way ≡ w = cc in i))
by-allowed (Some why) way w h = cc

held : (b : Bool) → some_if (not (false || b)) reason.NoTransient ≡ None → b ≡ true
held true h = refl
held false h = cc

needs-held : (need : Need) (s t b : Bool) → need ≡ Transient → t ≡ false → activation_reason need s t b ≡ None → b ≡ true
needs-held need s t b needs late h = held b (sym (rw (needs, late) refl) ∙ h)

of-capability : (test : Capability → Bool) (o : Option Capability) → unwrap_or (option_map test o) false ≡ true → (c : Capability) × (o ≡ Some c)
of-capability test None h = cc
of-capability test (Some c) h = (c, refl)

pub delegated-capability : (duration : ℕ) (T : RepliedHistory) (now d : ℕ) (call : Call) → verdict_of duration T now d call ≡ verdict.Allowed via.Delegated → (c : Capability) × ((gate_of call).capability ≡ Some c)
unfolding verdict_of reason_denied is_met_by_delegated
delegated-capability duration T now d call is =
    let gate = gate_of call in
    let (none, way) = by-allowed (reason_denied duration T now d gate) (met_by gate.need (has_transient duration T now d)) via.Delegated is in
    let (needs, late) = met-delegated gate.need (has_transient duration T now d) way in
    let unmet = last-none (some_if (gate.secure && not (is_secure T d)) reason.Insecure) (option_map reason.Policy (option_and_then (λ f. why_denied T f d) gate.feature)) (permission_reason T now d gate)
    (activation_reason gate.need (has_sticky T d) (has_transient duration T now d) (is_met_by_delegated duration T now d gate)) none in
    of-capability (has_delegated duration T now d) gate.capability (needs-held gate.need (has_sticky T d) (has_transient duration T now d) (is_met_by_delegated duration T now d gate) needs late unmet)

-- ---- how many documents it consumes the user activation of

consuming-is : (name : List ℕ) (call : Call) (b : Bool) → call_named name ≡ Some call → (gate_of call).consumes ≡ b → is_consuming_call name ≡ b
consuming-is name call b named is = rw (named, is) refl

pub if-some : {A : Type 0} (o : Option A) (x : A) (P : A → Type 0) → o ≡ Some x → IfSome o P → P x
if-some o x P is holds = subst (λ o. IfSome o P) is holds

taken-as : (gate : Gate) (v : Verdict) (consuming : Bool) (n : ℕ) → consuming ≡ gate.consumes → taken_of gate v n ≡ (if is_by_transient (Judged v) && consuming then n else 0)
taken-as gate (verdict.Allowed via.Transient) consuming n e = ap (λ b. if b then n else 0) (sym e)
taken-as gate (verdict.Allowed via.Delegated) consuming n e = refl
taken-as gate (verdict.Allowed via.Free) consuming n e = refl
taken-as gate (verdict.Denied why) consuming n e = refl

pub taken-documents : (e : EngineValue) (H : History) (now f d : ℕ) (name : List ℕ) (call : Call) (h : Handle) (x : Entry Row) (v : Verdict) → StandsFor e H → handle_at e.made f ≡ Some h → entry_of e.frames.entries h ≡ Some x
    → document_in (replied e.duration H) f ≡ Some d → call_named name ≡ Some call → v ≡ verdict_of e.duration (replied e.duration H) now d call
    → taken_of (gate_of call) v (page_size e.frames.entries (top_of x)) ≡ consumed_by_use e.duration (replied e.duration H) now f name
taken-documents e H now f d name call h x v s at here shown named is =
    let T = replied e.duration H in
    let n = count_in_page T f (live_frames T) in
    ap (taken_of (gate_of call) v) (limits-at e H f h x s at here).1
    ∙ taken-as (gate_of call) v (is_consuming_call name) n (consuming-is name call (gate_of call).consumes named refl)
    ∙ ap (λ item. if is_by_transient item && is_consuming_call name then n else 0) (sym (use-told e.duration T now f d name call shown named ∙ ap Judged (sym is)))

-- what a use costs: three looks, and two more for each document whose user activation it consumes
pub use-cost : (e inside : EngineValue) (H : History) (now f d : ℕ) (name : List ℕ) (call : Call) (h : Handle) (x : Entry Row) (v : Verdict) (gate : Gate) (before looked after : ℕ) → StandsFor e H → handle_at e.made f ≡ Some h → entry_of e.frames.entries h ≡ Some x
    → document_in (replied e.duration H) f ≡ Some d → call_named name ≡ Some call → v ≡ verdict_of e.duration (replied e.duration H) now d call → inside ≡ e → gate ≡ gate_of call
    → looked ≤ before + 2 → IfSome (entry_of inside.frames.entries h) (λ y. after ≤ looked + 1 + 2 * taken_of gate v (page_size inside.frames.entries (top_of y)))
    → after ≤ before + 3 + 2 * consumed_by_use e.duration (replied e.duration H) now f name
use-cost e inside H now f d name call h x v gate before looked after s at here shown named is same row few took =
    let documents = taken-documents e H now f d name call h x v s at here shown named is in
    let paged = ap (λ (w : EngineValue). taken_of gate v (page_size w.frames.entries (top_of x))) same in
    let by_gate = ap (λ (y : Gate). taken_of y v (page_size e.frames.entries (top_of x))) row in
    let spent = if-some (entry_of inside.frames.entries h) x _ (ap (λ (w : EngineValue). entry_of w.frames.entries h) same ∙ here) took in
    omega (arith, few, spent, paged, by_gate, documents)

-- ---- what a use leaves of the tree

made-consumed : (b : Bool) (h : Handle) (old new : Forest Row) → IsConsumedIf b h old new → new.made ≡ old.made
made-consumed true h old new taken = taken.made
made-consumed false h old new taken = ap (λ (v : Forest Row). v.made) taken

made-spent : (o : Option Capability) (h : Handle) (x : Entry Row) (old new : Forest Row) → entry_of old.entries h ≡ Some x → IsSpent o h old new → new.made ≡ old.made
made-spent None h x old new here taken = ap (λ (v : Forest Row). v.made) taken
made-spent (Some capability) h x old new here taken =
    let written : new ≡ with_doc old h (record x.doc { delivered = with_delivery capability None x.doc.delivered }) = subst (λ o. IfSome o (λ e. new ≡ with_doc old h (record e.doc { delivered = with_delivery capability None e.doc.delivered }))) here taken in
    ap (λ (v : Forest Row). v.made) written

-- no frame is made
pub made-taken : (gate : Gate) (v : Verdict) (h : Handle) (x : Entry Row) (old new : Forest Row) → entry_of old.entries h ≡ Some x → HasTaken gate v h old new → new.made ≡ old.made
made-taken gate (verdict.Allowed via.Transient) h x old new here taken = made-consumed gate.consumes h old new taken
made-taken gate (verdict.Allowed via.Delegated) h x old new here taken = made-spent gate.capability h x old new here taken
made-taken gate (verdict.Allowed via.Free) h x old new here taken = ap (λ (v : Forest Row). v.made) taken
made-taken gate (verdict.Denied why) h x old new here taken = ap (λ (v : Forest Row). v.made) taken

module _ (laws : HistoryLaws) where
  kept-transient : (now F : ℕ) (name : List ℕ) (call : Call) (T : RepliedHistory) (ms : List Made) (old new : Forest Row) (h : Handle) (x : Entry Row) → call_named name ≡ Some call
      → handle_at ms F ≡ Some h → entry_of old.entries h ≡ Some x → (b : Bool) → (gate_of call).consumes ≡ b → IsConsumedIf b h old new → IsTree T ms old
      → IsTree (step_of (timed now (event.UseCall F name)) (Judged (verdict.Allowed via.Transient)) ∷ T) (ms ++ made.Nothing ∷ []) new
  kept-transient now F name call T ms old new h x named at here true is taken st =
      let entries = subst (λ o. IfSome o (λ e. new.entries ≡ changed_page (consumed (λ (r : Row). r.stamp) (λ t (r : Row). record r { stamp = t })) old.entries (top_of e))) here taken.entries in
      kept-use-consumed laws now F name call T ms old new h x named is at here entries taken.marks st
  kept-transient now F name call T ms old new h x named at here false is taken st =
      subst (IsTree (step_of (timed now (event.UseCall F name)) (Judged (verdict.Allowed via.Transient)) ∷ T) (ms ++ made.Nothing ∷ [])) (sym taken)
      (kept-use-silent laws now F name (Judged (verdict.Allowed via.Transient)) T ms old (consuming-is name call false named is) refl st)

  kept-delegated : (now F : ℕ) (name : List ℕ) (call : Call) (capability : Capability) (T : RepliedHistory) (ms : List Made) (old new : Forest Row) (h : Handle) (x : Entry Row) → call_named name ≡ Some call
      → (gate_of call).capability ≡ Some capability → handle_at ms F ≡ Some h → entry_of old.entries h ≡ Some x → IsSpent (gate_of call).capability h old new → IsTree T ms old
      → IsTree (step_of (timed now (event.UseCall F name)) (Judged (verdict.Allowed via.Delegated)) ∷ T) (ms ++ made.Nothing ∷ []) new
  kept-delegated now F name call capability T ms old new h x named has at here taken st =
      let spent = subst (λ o. IsSpent o h old new) has taken in
      let written : new ≡ with_doc old h (record x.doc { delivered = with_delivery capability None x.doc.delivered }) = subst (λ o. IfSome o (λ e. new ≡ with_doc old h (record e.doc { delivered = with_delivery capability None e.doc.delivered }))) here spent in
      kept-spent laws now F name call capability T ms old new h x named has at here (ap (λ (v : Forest Row). v.entries) written) (ap (λ (v : Forest Row). v.marks) written) st

  pub kept-use : (now F : ℕ) (name : List ℕ) (call : Call) (v : Verdict) (T : RepliedHistory) (ms : List Made) (old new : Forest Row) (h : Handle) (x : Entry Row) → call_named name ≡ Some call
      → handle_at ms F ≡ Some h → entry_of old.entries h ≡ Some x → (v ≡ verdict.Allowed via.Delegated → (c : Capability) × ((gate_of call).capability ≡ Some c)) → HasTaken (gate_of call) v h old new → IsTree T ms old
      → IsTree (step_of (timed now (event.UseCall F name)) (Judged v) ∷ T) (ms ++ made.Nothing ∷ []) new
  kept-use now F name call (verdict.Allowed via.Transient) T ms old new h x named at here held taken st = kept-transient now F name call T ms old new h x named at here (gate_of call).consumes refl taken st
  kept-use now F name call (verdict.Allowed via.Delegated) T ms old new h x named at here held taken st =
      let (capability, has) = held refl in
      kept-delegated now F name call capability T ms old new h x named has at here taken st
  kept-use now F name call (verdict.Allowed via.Free) T ms old new h x named at here held taken st =
      subst (IsTree (step_of (timed now (event.UseCall F name)) (Judged (verdict.Allowed via.Free)) ∷ T) (ms ++ made.Nothing ∷ [])) (sym taken)
      (kept-use-silent laws now F name (Judged (verdict.Allowed via.Free)) T ms old refl refl st)
  kept-use now F name call (verdict.Denied why) T ms old new h x named at here held taken st =
      subst (IsTree (step_of (timed now (event.UseCall F name)) (Judged (verdict.Denied why)) ∷ T) (ms ++ made.Nothing ∷ [])) (sym taken)
      (kept-use-silent laws now F name (Judged (verdict.Denied why)) T ms old refl refl st)
