-- The facts that hold of each event that a line of a script gives.
-- The script is this project's own format.
-- They are one test that computes, so that a stamped event can keep them.
use Rattle.std.specs.Prelude.{ℕ, Bool, true, false, not, ◌&&◌, ◌||◌, nat_le, List, Option, Some, None, is_none}
use Rattle.pe_base.specs.declared.limits.TheConstants.{NAME_LIMIT, TIME_LIMIT}
use Rattle.pe_lines.specs.Words.{has_bad_byte}
use Rattle.pe_events.specs.declared.event.Event.{Event}
use Rattle.pe_events.specs.declared.event.Event.TheVariants as event
use Rattle.pe_events.specs.declared.event.EventLife.{EventLife}
use Rattle.pe_events.specs.declared.event.EventLife.TheVariants as life
use Rattle.pe_events.specs.declared.event.Outcome.{Outcome}
use Rattle.pe_events.specs.declared.event.Outcome.TheVariants as outcome

-- a text of a script: tabs and printable ASCII
abbrev pub is_text : List ℕ → Bool
is_text bytes = not (has_bad_byte bytes)

-- a text that may be missing
abbrev pub is_text_or_none : Option (List ℕ) → Bool
is_text_or_none None = true
is_text_or_none (Some bytes) = is_text bytes

-- the number of an object as a script names it
abbrev pub is_name : ℕ → Bool
is_name n = nat_le 1 n && nat_le n NAME_LIMIT

-- a span in milliseconds
abbrev pub is_span : ℕ → Bool
is_span ms = nat_le 1 ms && nat_le ms TIME_LIMIT

-- a span that may be missing
abbrev pub is_span_or_none : Option ℕ → Bool
is_span_or_none None = true
is_span_or_none (Some ms) = is_span ms

-- a life fits an outcome: `for MS` has a span, and a dismissal has no life of its own
abbrev pub is_life : Outcome → EventLife → Bool
is_life out life.Forever = true
is_life outcome.Dismiss other = false
is_life out life.Once = true
is_life out (life.For ms) = is_span ms

-- an embedded frame: with `srcdoc` there is neither a place nor a header, and without `src` no place
abbrev pub is_embedding : Option (List ℕ) → Option (List ℕ) → Bool → Option (List ℕ) → Bool
is_embedding src place srcdoc header =
    (not srcdoc || is_none place && is_none header) && (not (is_none src) || is_none place)

-- an event that a line of a script can say
abbrev pub is_fitting : Event → Bool
is_fitting (event.OpenPage url header) = is_text url && is_text_or_none header
is_fitting (event.Embed parent src place allow sandbox fullscreen srcdoc header) =
    is_name parent && is_text_or_none src && is_text_or_none place && is_text_or_none allow && is_text_or_none sandbox
    && is_text_or_none header && is_embedding src place srcdoc header
is_fitting (event.Navigate frame url header) = is_name frame && is_text url && is_text_or_none header
is_fitting (event.Attr frame name value) = is_name frame && is_text_or_none value
is_fitting (event.Close frame) = is_name frame
is_fitting (event.Input frame kind) = is_name frame
is_fitting (event.Ask frame) = is_name frame
is_fitting (event.History frame) = is_name frame
is_fitting (event.PolicyOf frame feature) = is_name frame && is_text feature
is_fitting (event.Features frame) = is_name frame
is_fitting (event.UseCall frame call) = is_name frame && is_text call
is_fitting (event.Query frame feature) = is_name frame && is_text feature
is_fitting (event.DropStatus status) = is_name status
is_fitting (event.Request frame feature) = is_name frame && is_text feature
is_fitting (event.Answered prompt out given) = is_name prompt && is_life out given
is_fitting (event.SetState feature first second state span) =
    is_text feature && is_text first && is_text_or_none second && is_span_or_none span
is_fitting (event.Post sender target named capability) =
    is_name sender && is_name target && is_text_or_none named && is_text capability
is_fitting (event.Deliver message) = is_name message
is_fitting event.Tick = true
