-- What `policy` and `use` cost, in looks at the tree and at the store, where no time passes.
-- This project's own.
use Rattle.std.specs.Prelude.{ℕ, ◌+◌, ◌*◌, ◌≤◌, ◌&&◌, List, if◌then◌else◌}
use Rattle.pe_features.specs.declared.call.Gate.{Gate}
use Rattle.pe_events.specs.declared.event.Event.{Event}
use Rattle.pe_events.specs.declared.event.Event.TheVariants as event
use Rattle.pe_events.specs.declared.reason.Verdict.{Verdict}
use Rattle.pe_events.specs.declared.reason.Verdict.TheVariants as verdict
use Rattle.pe_events.specs.declared.reason.Via.TheVariants as via
use Rattle.pe_rules.specs.History.{RepliedHistory}
use Rattle.pe_rules.specs.Activation.{is_by_transient, is_consuming_call}
use Rattle.pe_rules.specs.Causes.{count_in_page, live_frames}
use Rattle.pe_rules.specs.Replies.{step_answer}

-- of the documents of a page, of which there are so many, those whose user activation a use of this verdict consumes: all, where transient activation met it and the call consumes it, else none
abbrev pub taken_of : Gate → Verdict → ℕ → ℕ
taken_of gate (verdict.Allowed via.Transient) count = if gate.consumes then count else 0
taken_of gate other count = 0

-- how many documents the user activation of which a use of a call of this name consumes: those of the frame's page, one in each live frame, where transient activation met it and the call consumes it, else none
abbrev pub consumed_by_use : ℕ → RepliedHistory → ℕ → ℕ → List ℕ → ℕ
consumed_by_use duration T now frame name =
    if is_by_transient (step_answer duration T now (event.UseCall frame name)) && is_consuming_call name then count_in_page T frame (live_frames T) else 0

-- the steps before and after an event of these verbs: for `policy` one look at the document; for `use` one at the document, one at the store and one at what is spent, and two at each document whose user activation is consumed; of the other verbs nothing is said
abbrev pub IsWithin : ℕ → RepliedHistory → ℕ → Event → ℕ → ℕ → Type 0
IsWithin duration T now (event.PolicyOf frame name) before after = after ≤ before + 1
IsWithin duration T now (event.UseCall frame name) before after = after ≤ before + 3 + 2 * consumed_by_use duration T now frame name
IsWithin duration T now other before after = Unit {0}
