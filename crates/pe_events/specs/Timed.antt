-- An event with its time, as the history keeps it.
-- The script is this project's own format.
-- The facts that a `Stamped` keeps beside them are in `Fitting`.
use Rattle.std.specs.Prelude.{ℕ}
use Rattle.pe_events.specs.declared.event.Event.{Event}

-- an event with its time in milliseconds
pub record Timed : Type 0 where
  pub time : ℕ
  pub event : Event
