-- The causes of a refusal in three parts: those of the time, those of what the event names, and those of its words and of the limits.
-- This project's own: the parts are tried one after another, and the first cause of all is the first of the first part that has one.
use Rattle.std.specs.Prelude.{ℕ, Bool, true, false, nat_le, nat_lt, List, [], ◌∷◌, length, Option, Some, None}
use Rattle.pe_base.specs.declared.limits.TheConstants.{EVENT_LIMIT}
use Rattle.pe_events.specs.declared.cause.Cause.{Cause}
use Rattle.pe_events.specs.declared.cause.Cause.TheVariants as cause
use Rattle.pe_events.specs.declared.event.Event.{Event}
use Rattle.pe_events.specs.declared.event.Event.TheVariants as event
use Rattle.pe_rules.specs.History.{RepliedHistory, some_if, clock}
use Rattle.pe_rules.specs.Causes.{first_some, names_unknown, names_settled, names_closed, names_not_shown, has_bad_url, has_bad_feature, has_bad_call, has_bad_capability, names_other_page, exceeds_pages, exceeds_depth, exceeds_frames, exceeds_statuses, exceeds_pending, exceeds_store}

-- the first of the causes whose test passes
abbrev pub first_cause : List (Cause × Bool) → Option Cause
first_cause tests = first_some (λ (x : Cause × Bool). some_if x.1 x.0) tests

-- the causes of the number of events and of the time
unfoldable pub time_cause : RepliedHistory → ℕ → Option Cause
time_cause T now = first_cause ((cause.LimitEvents, nat_le EVENT_LIMIT (length T)) ∷ (cause.TimeBack, nat_lt now (clock T)) ∷ [])

-- the causes of the objects that the event names
unfoldable pub named_cause : RepliedHistory → Event → Option Cause
named_cause T e = first_cause ((cause.Unknown, names_unknown T e) ∷ (cause.Settled, names_settled T e) ∷ (cause.Closed, names_closed T e) ∷ (cause.NotShown, names_not_shown T e) ∷ [])

-- the causes of its words and of the limits
unfoldable pub other_cause : RepliedHistory → ℕ → Event → Option Cause
other_cause T now e = first_cause (
    (cause.Url, has_bad_url e)
    ∷ (cause.Feature, has_bad_feature e)
    ∷ (cause.Call, has_bad_call e)
    ∷ (cause.Capability, has_bad_capability e)
    ∷ (cause.OtherPage, names_other_page T e)
    ∷ (cause.LimitPages, exceeds_pages T e)
    ∷ (cause.LimitDepth, exceeds_depth T e)
    ∷ (cause.LimitFrames, exceeds_frames T e)
    ∷ (cause.LimitStatuses, exceeds_statuses T e)
    ∷ (cause.LimitPending, exceeds_pending T now e)
    ∷ (cause.LimitStore, exceeds_store T now e)
    ∷ [])

-- the frame of an event that names one frame and no other object
abbrev pub frame_named : Event → Option ℕ
frame_named (event.Embed parent src place allow sandbox fullscreen srcdoc header) = Some parent
frame_named (event.Navigate frame url header) = Some frame
frame_named (event.Attr frame name value) = Some frame
frame_named (event.Close frame) = Some frame
frame_named (event.Input frame kind) = Some frame
frame_named (event.Ask frame) = Some frame
frame_named (event.History frame) = Some frame
frame_named (event.PolicyOf frame feature) = Some frame
frame_named (event.Features frame) = Some frame
frame_named (event.UseCall frame call) = Some frame
frame_named (event.Query frame feature) = Some frame
frame_named (event.Request frame feature) = Some frame
frame_named other = None

-- the event names no object
abbrev pub names_nothing : Event → Bool
names_nothing (event.OpenPage url header) = true
names_nothing (event.SetState feature first second state span) = true
names_nothing event.Tick = true
names_nothing other = false
