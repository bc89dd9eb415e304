-- Worked rows: lines and words of literal bytes.
use Rattle.std.specs.Prelude.{◌≡◌, [], ◌∷◌, ◌++◌, codes, refl, Some, None, true, false}
use Rattle.pe_lines.specs.Lines.{lines, ended_lines}
use Rattle.pe_lines.specs.Words.{words_of, has_bad_byte, is_comment, is_blank_line}
use Rattle.pe_lines.proofs.OnLiterals.{lines_on_literals}

-- one carriage return goes at the end of each line, and one in its midst stays; a last line without a line feed counts
pub lines_row : lines (codes "a" ++ 13 ∷ 10 ∷ codes "b" ++ 13 ∷ codes "c" ++ 10 ∷ 10 ∷ 13 ∷ 13 ∷ []) ≡ codes "a" ∷ (codes "b" ++ 13 ∷ codes "c") ∷ [] ∷ (13 ∷ []) ∷ []
unfolding lines_on_literals
lines_row = refl

-- a carriage return alone is a last line
pub lone_row : lines (13 ∷ []) ≡ [] ∷ []
unfolding lines_on_literals
lone_row = refl

-- a line feed at the end begins no line
pub last_row : lines (codes "a" ++ 10 ∷ []) ≡ codes "a" ∷ []
unfolding lines_on_literals
last_row = refl

-- only what a line feed ended is an ended line
pub ended_row : ended_lines (codes "a" ++ 10 ∷ codes "b") ≡ codes "a" ∷ []
unfolding lines_on_literals
ended_row = refl

-- two bare words
pub bare_row : words_of (codes " 0 tick ") ≡ Some (record { text = codes "0"; quoted = false; start = 1; end = 2 } ∷ record { text = codes "tick"; quoted = false; start = 3; end = 7 } ∷ [])
unfolding lines_on_literals
bare_row = refl

-- a quoted word with two escapes, and an empty one
pub quoted_row : words_of (34 ∷ codes "a " ++ 92 ∷ 34 ∷ 92 ∷ 92 ∷ 34 ∷ 9 ∷ 34 ∷ 34 ∷ []) ≡ Some (record { text = codes "a " ++ 34 ∷ 92 ∷ []; quoted = true; start = 0; end = 8 } ∷ record { text = []; quoted = true; start = 9; end = 11 } ∷ [])
unfolding lines_on_literals
quoted_row = refl

-- a quote that is not closed, a word right behind a quoted one, a quote within a bare word, and another escape
pub open_row : words_of (34 ∷ codes "a") ≡ None
unfolding lines_on_literals
open_row = refl

pub joined_row : words_of (34 ∷ 34 ∷ codes "a") ≡ None
unfolding lines_on_literals
joined_row = refl

pub quote_within_row : words_of (codes "a" ++ 34 ∷ []) ≡ None
unfolding lines_on_literals
quote_within_row = refl

pub escape_row : words_of (34 ∷ 92 ∷ codes "n" ++ 34 ∷ []) ≡ None
unfolding lines_on_literals
escape_row = refl

-- a comment may have blanks in front; a line feed is no part of a line, and a byte above 0x7E is a bad byte
pub comment_row : is_comment (9 ∷ codes " # note") ≡ true
unfolding lines_on_literals
comment_row = refl

pub blank_row : is_blank_line (9 ∷ codes "  ") ≡ true
unfolding lines_on_literals
blank_row = refl

pub bad_byte_row : has_bad_byte (codes "# " ++ 127 ∷ []) ≡ true
unfolding lines_on_literals
bad_byte_row = refl
