-- Keys, permission states and verdicts: what the row of a document says of them is what the definitions say.
use Rattle.std.proofs.Common.{◌≡◌, ℕ, Bool, true, false, not, ◌&&◌, ◌||◌, Option, Some, None, is_some, unwrap_or, option_map, option_and_then, refl, sym, ◌∙◌, ap}
use Rattle.std.specs.Option.{option_or}
use Rattle.pe_base.specs.declared.state.State.{State}
use Rattle.pe_base.specs.declared.state.State.TheVariants as state
use Rattle.pe_base.specs.Activation.{is_sticky, is_transient}
use Rattle.pe_features.specs.declared.call.Call.{Call}
use Rattle.pe_features.specs.declared.call.Gate.{Gate}
use Rattle.pe_features.specs.declared.capability.Capability.{Capability}
use Rattle.pe_features.specs.declared.feature.Feature.{Feature}
use Rattle.pe_features.specs.declared.feature.KeyKind.{KeyKind}
use Rattle.pe_features.specs.declared.feature.KeyKind.TheVariants as kind
use Rattle.pe_features.specs.Calls.{gate_of}
use Rattle.pe_features.specs.Features.{key_of}
use Rattle.pe_events.specs.declared.reason.Reason.{Reason}
use Rattle.pe_events.specs.declared.reason.Reason.TheVariants as reason
use Rattle.pe_events.specs.declared.reason.Verdict.TheVariants as verdict
use Rattle.pe_rules.specs.History.{RepliedHistory}
use Rattle.pe_rules.specs.Origins.{is_secure}
use Rattle.pe_rules.specs.Denials.{why_denied}
use Rattle.pe_rules.specs.Settings.{key_for, pair_for, stored_state}
use Rattle.pe_rules.specs.PermissionState.{permission_state}
use Rattle.pe_rules.specs.Activation.{has_sticky, has_transient}
use Rattle.pe_rules.specs.Delegation.{has_delegated}
use Rattle.pe_rules.specs.Verdicts.{reason_of_state, permission_reason, is_met_by_delegated, activation_reason, reason_denied, met_by, verdict_by, verdict_of}
use Rattle.pe_laws.specs.HistoryLaws.{HistoryLaws}
use Rattle.pe_laws.specs.PermissionStateLaws.{state_from}
use Rattle.pe_engine.specs.declared.row.Row.{Row}
use Rattle.pe_engine.specs.Deciding.{kept_key, counts_still, is_held, feature_reason}
use Rattle.pe_engine.specs.Rows.{IsSettled, IsRow, blocks}
use Rattle.pe_engine.proofs.Governing.{blocks-is}

-- ---- keys

pub pair-kept : (T : RepliedHistory) (x : Row) (f : Feature) (kept : Option KeyKind) → IsSettled T x → key_of f ≡ kept → pair_for T x.doc f ≡ option_map (λ k. (f, k)) (option_map (kept_key x) kept)
unfolding pair_for key_for
pair-kept T x f None is e = rw e refl
pair-kept T x f (Some kind.Single) is e = rw (e, is.single) refl
pair-kept T x f (Some kind.Pair) is e = rw (e, is.pair) refl

-- ---- permission states

-- the state by what the row knows and by what is stored
pub state-of-row : HistoryLaws → (T : RepliedHistory) (now : ℕ) (x : Row) (f : Feature) (stored : Option State) → IsSettled T x → stored ≡ option_and_then (stored_state T now) (pair_for T x.doc f)
    → permission_state T now x.doc f ≡ state_from (blocks x f) stored
state-of-row laws T now x f stored is kept =
    laws.states.state_by_entry T now x.doc f ∙ ap (λ b. state_from b (option_and_then (stored_state T now) (pair_for T x.doc f))) (sym (blocks-is T x f is)) ∙ ap (state_from (blocks x f)) (sym kept)

-- ---- the rules of a call's feature

pub wanted-is : (b : Bool) → not b ≡ false → b ≡ true
wanted-is true h = refl
wanted-is false h = sym h

pub no-feature : (T : RepliedHistory) (now d : ℕ) (gate : Gate) → gate.feature ≡ None → feature_reason T now d gate ≡ None
unfolding permission_reason
no-feature T now d gate none = rw none refl

pub no-permission : (T : RepliedHistory) (now d : ℕ) (gate : Gate) (f : Feature) → gate.feature ≡ Some f → why_denied T f d ≡ None → gate.permission ≡ false → feature_reason T now d gate ≡ None
unfolding permission_reason
no-permission T now d gate f some allowed unwanted = rw (some, allowed, unwanted) refl

pub by-permission : (T : RepliedHistory) (now d : ℕ) (gate : Gate) (f : Feature) → gate.feature ≡ Some f → why_denied T f d ≡ None → gate.permission ≡ true
    → feature_reason T now d gate ≡ reason_of_state (permission_state T now d f)
unfolding permission_reason
by-permission T now d gate f some allowed wanted = rw (some, allowed, wanted) refl

-- ---- the reason of a call

or-first : {A : Type 0} (a b c : Option A) (x : A) → option_or a b ≡ Some x → option_or a (option_or b c) ≡ Some x
or-first None b c x e = rw e refl
or-first (Some y) b c x e = e

or-none : {A : Type 0} (a b c : Option A) → option_or a b ≡ None → option_or a (option_or b c) ≡ c
or-none None b c e = rw e refl
or-none (Some y) b c e = cc

pub reason-insecure : (duration : ℕ) (T : RepliedHistory) (now d : ℕ) (gate : Gate) → (gate.secure && not (is_secure T d)) ≡ true → reason_denied duration T now d gate ≡ Some reason.Insecure
unfolding reason_denied
reason-insecure duration T now d gate insecure = rw insecure refl

pub reason-feature : (duration : ℕ) (T : RepliedHistory) (now d : ℕ) (gate : Gate) (why : Reason) → (gate.secure && not (is_secure T d)) ≡ false → feature_reason T now d gate ≡ Some why
    → reason_denied duration T now d gate ≡ Some why
unfolding reason_denied
reason-feature duration T now d gate why secure first = rw secure (or-first (option_map reason.Policy (option_and_then (λ f. why_denied T f d) gate.feature)) (permission_reason T now d gate)
    (activation_reason gate.need (has_sticky T d) (has_transient duration T now d) (is_met_by_delegated duration T now d gate)) why first)

reason-later : (duration : ℕ) (T : RepliedHistory) (now d : ℕ) (gate : Gate) → (gate.secure && not (is_secure T d)) ≡ false → feature_reason T now d gate ≡ None
    → reason_denied duration T now d gate ≡ activation_reason gate.need (has_sticky T d) (has_transient duration T now d) (is_met_by_delegated duration T now d gate)
unfolding reason_denied
reason-later duration T now d gate secure none =
    rw secure (or-none (option_map reason.Policy (option_and_then (λ f. why_denied T f d) gate.feature)) (permission_reason T now d gate)
    (activation_reason gate.need (has_sticky T d) (has_transient duration T now d) (is_met_by_delegated duration T now d gate)) none)

-- ---- the verdict

pub verdict-denied : (duration : ℕ) (T : RepliedHistory) (now d : ℕ) (call : Call) (why : Reason) → reason_denied duration T now d (gate_of call) ≡ Some why → verdict.Denied why ≡ verdict_of duration T now d call
unfolding verdict_of
verdict-denied duration T now d call why denied = sym (ap (λ o. verdict_by o (met_by (gate_of call).need (has_transient duration T now d))) denied)

module _ (laws : HistoryLaws) where
  transient-kept : (duration : ℕ) (T : RepliedHistory) (now f : ℕ) (x : Row) → IsRow T f x → has_transient duration T now x.doc ≡ is_transient duration now x.stamp
  transient-kept duration T now f x is = laws.activation.transient_by_stamp duration T now x.doc ∙ ap (is_transient duration now) (sym is.stamp)

  sticky-kept : (T : RepliedHistory) (f : ℕ) (x : Row) → IsRow T f x → has_sticky T x.doc ≡ is_sticky x.stamp
  sticky-kept T f x is = laws.activation.sticky_by_stamp T x.doc ∙ ap is_sticky (sym is.stamp)

  held-kept : (duration : ℕ) (T : RepliedHistory) (now f : ℕ) (x : Row) (gate : Gate) → IsRow T f x → is_met_by_delegated duration T now x.doc gate ≡ is_held duration now x.delivered gate.capability
  unfolding is_met_by_delegated
  held-kept duration T now f x gate is = by_capability gate.capability
    where
      by_capability : (o : Option Capability) → unwrap_or (option_map (has_delegated duration T now x.doc) o) false ≡ is_held duration now x.delivered o
      by_capability None = refl
      by_capability (Some c) = laws.delegation.has_delegated_is duration T now x.doc c ∙ ap (counts_still duration now) (sym (is.delivered c))

  pub reason-activation : (duration : ℕ) (T : RepliedHistory) (now f : ℕ) (x : Row) (gate : Gate) → IsRow T f x → (gate.secure && not (is_secure T x.doc)) ≡ false → feature_reason T now x.doc gate ≡ None
      → reason_denied duration T now x.doc gate ≡ activation_reason gate.need (is_sticky x.stamp) (is_transient duration now x.stamp) (is_held duration now x.delivered gate.capability)
  reason-activation duration T now f x gate is secure none =
      reason-later duration T now x.doc gate secure none
      ∙ rw (sticky-kept T f x is, transient-kept duration T now f x is, held-kept duration T now f x gate is) refl

  pub verdict-allowed : (duration : ℕ) (T : RepliedHistory) (now f : ℕ) (x : Row) (call : Call) → IsRow T f x → reason_denied duration T now x.doc (gate_of call) ≡ None
      → verdict.Allowed (met_by (gate_of call).need (is_transient duration now x.stamp)) ≡ verdict_of duration T now x.doc call
  unfolding verdict_of
  verdict-allowed duration T now f x call is none = sym (ap (λ o. verdict_by o (met_by (gate_of call).need (has_transient duration T now x.doc))) none ∙ ap (λ b. verdict.Allowed (met_by (gate_of call).need b)) (transient-kept duration T now f x is))
