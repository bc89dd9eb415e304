-- A name to unfold where the reading of literal lines is to compute.
use Rattle.std.specs.Prelude.{⊤}
use Rattle.pe_lines.proofs.OnLiterals.{lines_on_literals}
use Rattle.pe_script.specs.Numerals.{number_of, positive, time_of, span_of, named_by, object}
use Rattle.pe_script.specs.Verbs.{headers, options, event_of}
use Rattle.pe_script.specs.Reading.{timed_of, reading_of}

-- what an answer unfolds to compute these definitions on a literal
unfoldable pub reading_on_literals : ⊤
unfolding lines_on_literals number_of positive time_of span_of named_by object headers options event_of timed_of reading_of
reading_on_literals = tt
