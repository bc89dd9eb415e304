-- What the steps of the reader of words find in a line.
-- This project's own.
-- These are facts of helpers; what the words of a line are is said by the grammar.
use Rattle.std.specs.Prelude.{◌≡◌, ℕ, ◌+◌, ◌<◌, ◌≤◌, ◌==◌, ◌&&◌, Bool, true, false, not, List, [], ◌∷◌, ◌++◌, length, drop, take, slice_index, if◌then◌else◌, Option, Some, None}
use Rattle.pe_lines.specs.Words.{Word, Between, Quoted, ahead_of}
use Rattle.pe_lines.specs.Grammar.{is_escaped, escaped, StandsFirst}

-- the word stands at this place of the line
pub record IsWordAt (line : List ℕ) (place : ℕ) (word : Word) : Type 0 where
  pub first : StandsFirst place (drop place line) word [] (drop word.end line)
  pub within : word.end ≤ length line
  pub further : place < word.end

-- from this place on the line is no list of words
abbrev pub HasNoWords : List ℕ → ℕ → Type 0
HasNoWords line place = ahead_of Between place (drop place line) ≡ None

-- how many bytes the first byte of a text takes in quotes; None at a closing quote, at the end and at a backslash that escapes nothing
abbrev pub char_len : List ℕ → Option ℕ
char_len [] = None
char_len (b ∷ []) = if is_escaped b then None else Some 1
char_len (b ∷ c ∷ rest) = if b == 92 then (if is_escaped c then Some 2 else None) else if b == 34 then None else Some 1

-- a backslash comes first, and what it escapes
abbrev pub begins_escape : List ℕ → Bool
begins_escape (b ∷ c ∷ rest) = (b == 92) && is_escaped c
begins_escape rest = false

-- a byte comes first that has no backslash in front in quotes
abbrev pub begins_plain : List ℕ → Bool
begins_plain [] = false
begins_plain (b ∷ rest) = not (is_escaped b)

-- a quote comes first
abbrev pub begins_quote : List ℕ → Bool
begins_quote [] = false
begins_quote (b ∷ rest) = b == 34

-- the first bytes are a text as it stands in quotes
abbrev pub IsEscapedFront : List ℕ → ℕ → Type 0
IsEscapedFront bytes count = (text : List ℕ) × (take count bytes ≡ escaped text)

-- behind the first bytes stands the closing quote of the text that they are
pub record ClosesAfter (bytes : List ℕ) (count : ℕ) : Type 0 where
  pub front : IsEscapedFront bytes count
  pub quote : begins_quote (drop count bytes) ≡ true
  pub within : count < length bytes

-- the bytes are no text with a closing quote behind it, wherever they stand
abbrev pub NeverCloses : List ℕ → Type 0
NeverCloses bytes = (place : ℕ) → ahead_of Quoted place bytes ≡ None

-- each backslash goes, and the byte behind it stays
abbrev pub without_escapes : List ℕ → List ℕ
without_escapes [] = []
without_escapes (b ∷ []) = b ∷ []
without_escapes (b ∷ c ∷ bytes) = if b == 92 then c ∷ without_escapes bytes else b ∷ without_escapes (c ∷ bytes)

-- at this place stands the first backslash, and a byte stands behind it
pub record IsFirstEscape (bytes : List ℕ) (place : ℕ) : Type 0 where
  pub within : place + 1 < length bytes
  pub plain : (k : ℕ) → k < place → (slice_index bytes k == 92) ≡ false
  pub slash : slice_index bytes place ≡ 92
  pub undone : without_escapes bytes ≡ take place bytes ++ slice_index bytes (place + 1) ∷ without_escapes (drop (place + 2) bytes)

-- the text of a word, by what stands of it in the line
abbrev pub text_of : Bool → List ℕ → List ℕ
text_of true raw = without_escapes raw
text_of false raw = raw

-- how many bytes a word takes in the line, by how many stand in it between quotes, or without them
abbrev pub width_of : Bool → ℕ → ℕ
width_of true count = count + 2
width_of false count = count
