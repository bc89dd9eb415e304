-- What a call is judged by, and what its use takes.
-- Permissions, "permission store entry", "lifetime"; HTML Standard, "consume user activation"; Capability Delegation, "delegated capability".
use Rattle.std.specs.Prelude.{◌≡◌, ℕ, Bool, true, false, Option, Some, None, IfSome, option_map}
use Rattle.pe_base.specs.declared.state.State.{State}
use Rattle.pe_arena.specs.declared.handle.Handle.{Handle}
use Rattle.pe_frames.specs.Forest.{Forest, entry_of, top_of, with_doc}
use Rattle.pe_frames.specs.Walk.{changed_page}
use Rattle.pe_features.specs.declared.call.Call.{Call}
use Rattle.pe_features.specs.declared.call.Gate.{Gate}
use Rattle.pe_features.specs.declared.capability.Capability.{Capability}
use Rattle.pe_activation.specs.Stamps.{consumed}
use Rattle.pe_store.specs.declared.entry.Entry.{Entry}
use Rattle.pe_events.specs.declared.reason.Verdict.{Verdict}
use Rattle.pe_events.specs.declared.reason.Verdict.TheVariants as verdict
use Rattle.pe_events.specs.declared.reason.Via.TheVariants as via
use Rattle.pe_rules.specs.History.{RepliedHistory, some_if, clock}
use Rattle.pe_rules.specs.Current.{document_in}
use Rattle.pe_rules.specs.Verdicts.{verdict_of}
use Rattle.pe_changes.specs.Gathered.{outlasts}
use Rattle.pe_engine.specs.declared.row.Row.{Row}
use Rattle.pe_engine.specs.Rows.{with_delivery}

-- ---- what is stored

-- the state that an entry of the store gives at a time
abbrev pub state_at : ℕ → Entry → Option State
state_at now e = some_if (outlasts now e.life) e.state

-- ---- the verdict

-- the verdict at the clock of a call in the document that the frame shows; none where no live frame has the number
abbrev pub verdict_in : ℕ → RepliedHistory → ℕ → Call → Option Verdict
verdict_in duration T frame call = option_map (λ d. verdict_of duration T (clock T) d call) (document_in T frame)

-- ---- what a use takes

-- the user activation of the frame's page is consumed
pub record IsConsumed (h : Handle) (old new : Forest Row) : Type 0 where
  pub entries : IfSome (entry_of old.entries h) (λ e. new.entries ≡ changed_page (consumed (λ (r : Row). r.stamp) (λ t (r : Row). record r { stamp = t })) old.entries (top_of e))
  pub marks : new.marks ≡ old.marks
  pub made : new.made ≡ old.made

-- it is, where the call consumes it
abbrev pub IsConsumedIf : Bool → Handle → Forest Row → Forest Row → Type 0
IsConsumedIf true h old new = IsConsumed h old new
IsConsumedIf false h old new = new ≡ old

-- the capability, where the call has one, is spent in the document that the frame shows
abbrev pub IsSpent : Option Capability → Handle → Forest Row → Forest Row → Type 0
IsSpent None h old new = new ≡ old
IsSpent (Some capability) h old new = IfSome (entry_of old.entries h) (λ e. new ≡ with_doc old h (record e.doc { delivered = with_delivery capability None e.doc.delivered }))

-- what a use of this verdict leaves of the frames: where transient activation met it this is consumed, if the call does so, and where a capability met it this is spent
abbrev pub HasTaken : Gate → Verdict → Handle → Forest Row → Forest Row → Type 0
HasTaken gate (verdict.Allowed via.Transient) h old new = IsConsumedIf gate.consumes h old new
HasTaken gate (verdict.Allowed via.Delegated) h old new = IsSpent gate.capability h old new
HasTaken gate other h old new = new ≡ old
