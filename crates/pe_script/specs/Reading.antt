-- What a line of a script says.
-- The script is this project's own format.
-- Of a line that is not too long: it may have a bad byte, or not be in the grammar.
use Rattle.std.specs.Prelude.{ℕ, ◌||◌, List, [], ◌∷◌, Option, None, option_map, option_and_then, unwrap_or, if◌then◌else◌}
use Rattle.pe_lines.specs.Words.{Word, has_bad_byte, is_blank_line, is_comment, words_of}
use Rattle.pe_events.specs.declared.cause.Cause.{Cause}
use Rattle.pe_events.specs.declared.cause.Cause.TheVariants as cause
use Rattle.pe_events.specs.Timed.{Timed}
use Rattle.pe_script.specs.Numerals.{bare, time_of}
use Rattle.pe_script.specs.Verbs.{event_of}

-- a line is blank or a comment, is refused, or says an event at a time
pub data Reading : Type 0 where
  Silent : Reading
  Refusal : Cause → Reading
  Says : Timed → Reading

-- the time and the event that the words of a line say
unfoldable pub timed_of : List Word → Option Timed
timed_of [] = None
timed_of (time ∷ more) = option_and_then (λ t. option_map (λ e. record { time = t; event = e }) (event_of more)) (option_and_then time_of (bare time))

-- the reading of words, or of a line that is no list of words
abbrev pub reading_of_words : Option (List Word) → Reading
reading_of_words words = unwrap_or (option_map Says (option_and_then timed_of words)) (Refusal cause.Syntax)

-- the reading of a line that is not too long
unfoldable pub reading_of : List ℕ → Reading
reading_of line =
    if is_blank_line line || is_comment line then Silent
    else (if has_bad_byte line then Refusal cause.BadByte else reading_of_words (words_of line))
