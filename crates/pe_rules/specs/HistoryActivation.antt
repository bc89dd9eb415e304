-- History-action activation: what consumes it, the second stamp of a document, and that the two stamps differ.
-- HTML Standard, "history-action activation", "history-action activation-consuming API", "consume history-action user activation", "last history-action activation timestamp".
-- The rule is taken literally: consuming user activation after an input makes the stamps differ again, unless the second is consumed too; an input at the millisecond of the second stamp makes them one.
use Rattle.std.specs.Prelude.{ℕ, Bool, true, false, ◌&&◌, unwrap_or}
use Rattle.pe_base.specs.declared.input.Stamp.{Stamp}
use Rattle.pe_base.specs.declared.input.Stamp.TheVariants as stamp
use Rattle.pe_base.specs.Activation.{is_history_active}
use Rattle.pe_events.specs.declared.answer.Answer.TheVariants as answer
use Rattle.pe_events.specs.declared.event.Event.{Event}
use Rattle.pe_events.specs.declared.event.Event.TheVariants as event
use Rattle.pe_rules.specs.History.{StepAnswer, Replied, Step, RepliedHistory, some_if, newest_answer}
use Rattle.pe_rules.specs.Embedders.{page}
use Rattle.pe_rules.specs.Current.{is_current}
use Rattle.pe_rules.specs.Activation.{is_frame_of_page, stamp_of}

-- what was told is that something is allowed
abbrev pub is_allowance : StepAnswer → Bool
is_allowance (Replied answer.Allowed) = true
is_allowance item = false

-- the event, of which this was told, consumes the history-action activation of the page
abbrev pub consumes_history_by : Event → StepAnswer → RepliedHistory → ℕ → Bool
consumes_history_by (event.History frame) item B top = is_allowance item && is_frame_of_page B frame top
consumes_history_by e item B top = false

-- the step, after these, consumes the history-action activation of the page
unfoldable pub consumes_history : Step → RepliedHistory → ℕ → Bool
consumes_history s B top = consumes_history_by s.event s.item B top

-- the second stamp of a document: its stamp before the last history action of its page that was allowed while it was current, else never
unfoldable pub second_stamp_of : RepliedHistory → ℕ → Stamp
second_stamp_of T d = unwrap_or (newest_answer (λ s B. some_if (consumes_history s B (page T d) && is_current B d) (stamp_of B d)) T) stamp.Never

-- history-action activation: the two stamps differ
unfoldable pub has_history_activation : RepliedHistory → ℕ → Bool
has_history_activation T d = is_history_active (stamp_of T d) (second_stamp_of T d)
