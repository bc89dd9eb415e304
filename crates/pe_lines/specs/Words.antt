-- The words of a line, with escapes undone and each with its place.
-- This project's own format.
-- A quoted word holds any bytes, `\"` for a quote and `\\` for a backslash; it may be empty, and a blank or the end stands behind it.
use Rattle.std.specs.Prelude.{ℕ, ◌+◌, ◌==◌, ◌||◌, ◌&&◌, Bool, true, false, not, nat_le, List, [], ◌∷◌, Some, None, Option, option_map, if◌then◌else◌}
use Rattle.std.specs.List.{list_any, list_all}

-- a word: its bytes, without quotes and with escapes undone; whether it stands in quotes; and the places of its first byte and behind its last one, counted from 0, where a quoted word's quotes count
pub record Word : Type 0 where
  pub text : List ℕ
  pub quoted : Bool
  pub start : ℕ
  pub end : ℕ

-- a space or a tab
abbrev pub is_blank : ℕ → Bool
is_blank b = (b == 32) || (b == 9)

-- a byte other than tab and 0x20 to 0x7E
abbrev pub is_bad_byte : ℕ → Bool
is_bad_byte b = not ((b == 9) || (nat_le 32 b && nat_le b 126))

-- the line has such a byte
unfoldable pub has_bad_byte : List ℕ → Bool
has_bad_byte line = list_any is_bad_byte line

-- the line is of blanks alone
unfoldable pub is_blank_line : List ℕ → Bool
is_blank_line line = list_all is_blank line

-- the first byte that is no blank is `#`
unfoldable pub is_comment : List ℕ → Bool
is_comment [] = false
is_comment (b ∷ line) = if is_blank b then is_comment line else b == 35

-- the kinds of bytes that a reader of words tells apart
pub data Kind : Type 0 where
  Blank : Kind
  Quote : Kind
  Backslash : Kind
  Other : Kind

abbrev pub kind_of : ℕ → Kind
kind_of b = if is_blank b then Blank else if b == 34 then Quote else if b == 92 then Backslash else Other

-- where the reader is: between words, in a bare word, in a quoted word, behind a backslash of a quoted word, behind a closing quote
pub data Stage : Type 0 where
  Between : Stage
  Bare : Stage
  Quoted : Stage
  Escaped : Stage
  Closed : Stage

-- what stands from a place on: the text up to the end of the word that is open there, the place after that word, and the words behind it
pub record Ahead : Type 0 where
  pub text : List ℕ
  pub end : ℕ
  pub words : List Word

-- no word is open
abbrev pub closed : ℕ → Ahead → Ahead
closed place ahead = record { text = []; end = place; words = ahead.words }

-- the open word has one more byte in front
abbrev pub longer : ℕ → Ahead → Ahead
longer b ahead = record ahead { text = b ∷ ahead.text }

-- the open word begins at this place
abbrev pub begun : Bool → ℕ → Ahead → Ahead
begun quoted place ahead = record {
  text = [];
  end = place;
  words = record { text = ahead.text; quoted = quoted; start = place; end = ahead.end } ∷ ahead.words;
}

-- the end of the line
abbrev pub ahead_at_end : Stage → ℕ → Option Ahead
ahead_at_end Quoted place = None
ahead_at_end Escaped place = None
ahead_at_end stage place = Some (record { text = []; end = place; words = [] })

-- a byte of this kind, by what stands behind it at each stage
abbrev pub ahead_at_byte : Stage → Kind → ℕ → ℕ → (Stage → Option Ahead) → Option Ahead
ahead_at_byte Between Blank place b behind = behind Between
ahead_at_byte Between Quote place b behind = option_map (begun true place) (behind Quoted)
ahead_at_byte Between kind place b behind = option_map (λ ahead. begun false place (longer b ahead)) (behind Bare)
ahead_at_byte Bare Blank place b behind = option_map (closed place) (behind Between)
ahead_at_byte Bare Quote place b behind = None
ahead_at_byte Bare kind place b behind = option_map (longer b) (behind Bare)
ahead_at_byte Quoted Quote place b behind = option_map (closed (place + 1)) (behind Closed)
ahead_at_byte Quoted Backslash place b behind = behind Escaped
ahead_at_byte Quoted kind place b behind = option_map (longer b) (behind Quoted)
ahead_at_byte Escaped Quote place b behind = option_map (longer b) (behind Quoted)
ahead_at_byte Escaped Backslash place b behind = option_map (longer b) (behind Quoted)
ahead_at_byte Escaped kind place b behind = None
ahead_at_byte Closed Blank place b behind = behind Between
ahead_at_byte Closed kind place b behind = None

-- what stands from a place on, read at a stage; None where it is no list of words
abbrev pub ahead_of : Stage → ℕ → List ℕ → Option Ahead
ahead_of stage place [] = ahead_at_end stage place
ahead_of stage place (b ∷ line) = ahead_at_byte stage (kind_of b) place b (λ next. ahead_of next (place + 1) line)

-- the words from a place on, of what stands there; None where that is no list of words
unfoldable pub words_from : ℕ → List ℕ → Option (List Word)
words_from place line = option_map (λ ahead. ahead.words) (ahead_of Between place line)

-- what is left of a line: its words, None where it is no list of words, and how many bytes
pub record WordsLeft : Type 0 where
  pub words : Option (List Word)
  pub bytes : ℕ

-- the words of a line; None where it is no list of words
unfoldable pub words_of : List ℕ → Option (List Word)
words_of line = words_from 0 line
