-- What the reading of a line is answered.
-- This project's own.
-- Want of memory is the one answer that says nothing of the line.
use Rattle.std.specs.Prelude.{◌≡◌, Bool, ◌||◌, List, ℕ, Option, Some, None, option_map, option_and_then, Result, Ok, Err}
use Rattle.pe_lines.specs.Words.{Word, is_blank_line, is_comment}
use Rattle.pe_events.specs.declared.cause.Cause.TheVariants as cause
use Rattle.pe_events.specs.declared.event.Event.{Event}
use Rattle.pe_events.specs.declared.stamped.Stamped.{Stamped}
use Rattle.pe_events.specs.Timed.{Timed}
use Rattle.pe_script.specs.declared.reading.LineFault.{LineFault}
use Rattle.pe_script.specs.declared.reading.LineFault.TheVariants as fault
use Rattle.pe_script.specs.Reading.{Reading, Silent, Refusal, Says, timed_of}
use Rattle.pe_script.specs.declared.names.Verb.{Verb}
use Rattle.pe_script.specs.Readers.{reader_of}

-- the line is of blanks alone, or a comment
abbrev pub is_silent : List ℕ → Bool
is_silent line = is_blank_line line || is_comment line

-- a time and an event
abbrev pub timed : ℕ → Event → Timed
timed t e = record { time = t; event = e }

-- the time and the event of a stamped event
abbrev pub told : Stamped → Timed
told stamped = timed stamped.time stamped.event

-- this is the answer to words that say so much, or nothing
abbrev pub Gives : {A : Type 0} → Option A → Result A LineFault → Type 0
Gives said (Ok value) = Some value ≡ said
Gives said (Err fault.BadByte) = ⊥
Gives said (Err fault.Syntax) = None ≡ said
Gives said (Err fault.Memory) = Unit {0}

-- the time and the verb were taken off the words; None where the words say no event
abbrev pub TakesHead : Option (List Word) → Option (List Word) → Option (ℕ × Verb) → Type 0
TakesHead old new None = option_and_then timed_of old ≡ None
TakesHead old new (Some (time, verb)) = option_and_then timed_of old ≡ option_map (timed time) (option_and_then (reader_of verb) new)

-- the fact holds, unless memory wants
abbrev pub UnlessMemory : {A : Type 0} → Result A LineFault → Type 0 → Type 0
UnlessMemory (Ok a) P = P
UnlessMemory (Err fault.BadByte) P = P
UnlessMemory (Err fault.Syntax) P = P
UnlessMemory (Err fault.Memory) P = Unit {0}

-- this is the answer to a line of this reading
abbrev pub Answers : Reading → Result (Option Stamped) LineFault → Type 0
Answers reading (Ok None) = reading ≡ Silent
Answers reading (Ok (Some stamped)) = reading ≡ Says (told stamped)
Answers reading (Err fault.BadByte) = reading ≡ Refusal cause.BadByte
Answers reading (Err fault.Syntax) = reading ≡ Refusal cause.Syntax
Answers reading (Err fault.Memory) = Unit {0}
