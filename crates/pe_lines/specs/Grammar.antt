-- The grammar of words: a line is words with blanks in front, between and behind.
-- This project's own format.
-- The bytes of a word are fixed by its form and its text: in quotes each quote and each backslash of the text has a backslash in front, and nothing else has.
use Rattle.std.specs.Prelude.{◌≡◌, ℕ, ◌+◌, ◌<◌, ◌==◌, ◌||◌, Bool, true, false, not, List, [], ◌∷◌, ◌++◌, length, if◌then◌else◌}
use Rattle.std.specs.List.{list_all}
use Rattle.pe_lines.specs.Words.{Word, is_blank}

-- the byte has a backslash in front where it stands in quotes
abbrev pub is_escaped : ℕ → Bool
is_escaped b = (b == 34) || (b == 92)

-- a text as it stands in quotes
abbrev pub escaped : List ℕ → List ℕ
escaped [] = []
escaped (b ∷ text) = if is_escaped b then 92 ∷ b ∷ escaped text else b ∷ escaped text

-- a word as it stands in the line
abbrev pub written : Word → List ℕ
written word = if word.quoted then 34 ∷ escaped word.text ++ 34 ∷ [] else word.text

-- the byte may not stand in a bare word
abbrev pub ends_bare : ℕ → Bool
ends_bare b = is_blank b || (b == 34)

-- the byte may stand in a bare word
abbrev pub is_bare : ℕ → Bool
is_bare b = not (ends_bare b)

-- a bare word has at least one byte, and each is neither a blank nor a quote
pub record IsBareText (text : List ℕ) : Type 0 where
  pub some : 0 < length text
  pub plain : list_all is_bare text ≡ true

-- a text in quotes is any, a bare one has the form of one
abbrev pub HasForm : Bool → List ℕ → Type 0
HasForm true text = Unit {0}
HasForm false text = IsBareText text

-- these bytes may stand behind a word: none, or a blank and others
abbrev pub ends_word : List ℕ → Bool
ends_word [] = true
ends_word (b ∷ rest) = is_blank b

-- from a place on, the line is a gap of blanks, the word and a rest
pub record StandsFirst (place : ℕ) (line : List ℕ) (word : Word) (gap rest : List ℕ) : Type 0 where
  pub parts : line ≡ gap ++ (written word ++ rest)
  pub blank : list_all is_blank gap ≡ true
  pub form : HasForm word.quoted word.text
  pub apart : ends_word rest ≡ true
  pub starts : word.start ≡ place + length gap
  pub ends : word.end ≡ word.start + length (written word)

-- from a place on, the line is these words, one after another, and then blanks
abbrev pub AreWordsFrom : ℕ → List ℕ → List Word → Type 0
AreWordsFrom place line [] = list_all is_blank line ≡ true
AreWordsFrom place line (word ∷ words) = (gap : List ℕ) × (rest : List ℕ) × StandsFirst place line word gap rest × AreWordsFrom word.end rest words

-- the line is these words
abbrev pub AreWords : List ℕ → List Word → Type 0
AreWords line words = AreWordsFrom 0 line words
