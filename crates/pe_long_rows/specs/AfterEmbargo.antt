-- A history in which a third dismissal made an embargo, up to shortly before its end.
-- It is this project's own. The walk over the milliseconds of the span would not compute, so the time passes by a tick.
use Rattle.std.specs.Prelude.{ℕ, [], ◌∷◌, codes, None}
use Rattle.pe_events.specs.declared.event.Event.{Event}
use Rattle.pe_events.specs.declared.event.Event.TheVariants as event
use Rattle.pe_events.specs.declared.event.EventLife.TheVariants as given
use Rattle.pe_events.specs.declared.event.Outcome.TheVariants as outcome
use Rattle.pe_events.specs.Timed.{Timed}
use Rattle.pe_rules.specs.History.{History}

-- an event at a time
abbrev at : ℕ → Event → Timed
at time e = record { time = time; event = e }

-- a request of the camera
abbrev request : Event
request = event.Request 1 (codes "camera")

-- the user dismisses a prompt
abbrev dismiss : ℕ → Event
dismiss prompt = event.Answered prompt outcome.Dismiss given.Forever

-- a page with a status of the camera, three requests and their dismissals, the third at 3, and a tick at 604,800,001
unfoldable pub ticked : History
ticked =
    at 604800001 event.Tick
    ∷ at 3 (dismiss 7)
    ∷ at 2 request
    ∷ at 2 (dismiss 5)
    ∷ at 1 request
    ∷ at 1 (dismiss 3)
    ∷ at 0 request
    ∷ at 0 (event.Query 1 (codes "camera"))
    ∷ at 0 (event.OpenPage (codes "https://a.example/") None)
    ∷ []

-- a request at 604,800,003, when the embargo ends
unfoldable pub asking_again : Timed
asking_again = at 604800003 request
