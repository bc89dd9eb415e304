-- The output text of a script: a fold over its lines that carries the list of accepted events and nothing else.
-- The text is this project's own format.
-- A line of which nothing is told but that it is too long is refused; lines are numbered from 1, and every line counts.
use Rattle.std.specs.Prelude.{ℕ, ◌+◌, Bool, true, false, not, ◌||◌, List, [], ◌∷◌, ◌++◌, map, Option, Some, None, if◌then◌else◌}
use Rattle.std.specs.List.{concat}
use Rattle.pe_lines.specs.Lines.{lines_or_too_long, ended_lines_or_too_long}
use Rattle.pe_events.specs.declared.answer.Answer.TheVariants as answer
use Rattle.pe_events.specs.declared.answer.Change.{Change}
use Rattle.pe_events.specs.declared.cause.Cause.{Cause}
use Rattle.pe_events.specs.declared.cause.Cause.TheVariants as cause
use Rattle.pe_events.specs.Texts.{answer_text, change_text}
use Rattle.pe_events.specs.Timed.{Timed}
use Rattle.pe_script.specs.Reading.{Reading, Silent, Refusal, Says, reading_of}
use Rattle.pe_rules.specs.History.{History}
use Rattle.pe_rules.specs.Replies.{replied, reply_in, accepts_in}
use Rattle.pe_rules.specs.Changes.{changes_before, changes_after}

-- the reading of a line, as far as it is told
abbrev pub reading_or_too_long : Option (List ℕ) → Reading
reading_or_too_long None = Refusal cause.LineTooLong
reading_or_too_long (Some line) = reading_of line

-- the refusal of a line
abbrev pub refusal_text : ℕ → Cause → List ℕ
refusal_text number why = answer_text number (answer.Refused why)

-- the lines of changes
abbrev pub changes_text : List Change → List ℕ
changes_text changes = concat (map change_text changes)

-- the text of an event after a history: the changes before, the answer and the changes after, or the refusal alone
unfoldable pub event_text : ℕ → ℕ → History → Timed → List ℕ
event_text duration number H e =
    let T = replied duration H in
    let U = replied duration (e ∷ H) in
    let line = answer_text number (reply_in duration T e.time e.event) in
    if accepts_in T e then changes_text (changes_before T e.time) ++ line ++ changes_text (changes_after T U e.time) else line

-- the history after an event: with it, where it is accepted
unfoldable pub history_after : ℕ → History → Timed → History
history_after duration H e = if accepts_in (replied duration H) e then e ∷ H else H

-- the text of a line, after a history
unfoldable pub line_text : ℕ → ℕ → History → Reading → List ℕ
line_text duration number H Silent = []
line_text duration number H (Refusal why) = refusal_text number why
line_text duration number H (Says e) = event_text duration number H e

-- the history after a line
unfoldable pub history_after_line : ℕ → History → Reading → History
history_after_line duration H (Says e) = history_after duration H e
history_after_line duration H other = H

-- the line is refused
unfoldable pub is_refused : ℕ → History → Reading → Bool
is_refused duration H Silent = false
is_refused duration H (Refusal why) = true
is_refused duration H (Says e) = not (accepts_in (replied duration H) e)

-- the text of these lines, the first of which has this number, after a history
unfoldable pub text_from : ℕ → ℕ → History → List Reading → List ℕ
text_from duration number H [] = []
text_from duration number H (line ∷ lines) = line_text duration number H line ++ text_from duration (number + 1) (history_after_line duration H line) lines

-- some line of these is refused
unfoldable pub refuses_from : ℕ → History → List Reading → Bool
refuses_from duration H [] = false
refuses_from duration H (line ∷ lines) = is_refused duration H line || refuses_from duration (history_after_line duration H line) lines

-- the readings of lines, as far as they are told
abbrev pub readings : List (Option (List ℕ)) → List Reading
readings lines = map reading_or_too_long lines

-- the output text of a script
unfoldable pub output_text : ℕ → List ℕ → List ℕ
output_text duration script = text_from duration 1 [] (readings (lines_or_too_long script))

-- the output text of the lines of a script that a line feed ended
unfoldable pub ended_text : ℕ → List ℕ → List ℕ
ended_text duration script = text_from duration 1 [] (readings (ended_lines_or_too_long script))

-- some line of a script is refused
unfoldable pub refuses_some : ℕ → List ℕ → Bool
refuses_some duration script = refuses_from duration [] (readings (lines_or_too_long script))
