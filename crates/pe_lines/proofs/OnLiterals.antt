-- A name to unfold where the lines and words of literal bytes are to compute.
use Rattle.std.specs.Prelude.{⊤}
use Rattle.pe_lines.specs.Lines.{lines, ended_lines, lines_or_too_long, ended_lines_or_too_long}
use Rattle.pe_lines.specs.Words.{has_bad_byte, is_blank_line, is_comment, words_from, words_of}

-- what an answer unfolds to compute these definitions on a literal
unfoldable pub lines_on_literals : ⊤
unfolding lines ended_lines lines_or_too_long ended_lines_or_too_long has_bad_byte is_blank_line is_comment words_from words_of
lines_on_literals = tt
