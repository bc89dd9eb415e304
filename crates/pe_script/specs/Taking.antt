-- The words of a line that has so many.
-- This project's own.
-- Verbs with a fixed number of words behind them are read from these, and `set` from its two halves.
use Rattle.std.specs.Prelude.{ℕ, List, [], ◌∷◌, codes, Option, Some, None, option_map, option_and_then, if◌then◌else◌}
use Rattle.pe_script.specs.Numerals.{bare, span_of}
use Rattle.pe_script.specs.Names.{is_keyword}
use Rattle.pe_lines.specs.Words.{Word}
use Rattle.pe_script.specs.declared.verbs.permissions.SettingWords.{SettingWords}

-- the one word
abbrev pub one : List Word → Option Word
one (first ∷ []) = Some first
one words = None

-- the two words
abbrev pub two : List Word → Option (Word × Word)
two (first ∷ second ∷ []) = Some (first, second)
two words = None

-- the three words
abbrev pub three : List Word → Option (Word × Word × Word)
three (first ∷ second ∷ third ∷ []) = Some (first, second, third)
three words = None

-- the four words
abbrev pub four : List Word → Option (Word × Word × Word × Word)
four (first ∷ second ∷ third ∷ fourth ∷ []) = Some (first, second, third, fourth)
four words = None

-- the span of `for MS`
abbrev pub span_for : Word → Word → Option ℕ
span_for keyword ms = if is_keyword (codes "for") keyword then option_and_then span_of (bare ms) else None

-- the span of `for MS` where it is given, and none where nothing is said of it
abbrev pub span_given : Option (Word × Word) → Option (Option ℕ)
span_given None = Some None
span_given (Some (keyword, ms)) = option_map (λ span. Some span) (span_for keyword ms)

-- the words of `set` behind its first origin: a second one or none, a state, and `for MS` or nothing
abbrev pub setting_words : List Word → Option SettingWords
setting_words (word ∷ []) = Some (record { second = None; state = word; span = None })
setting_words (second ∷ word ∷ []) = Some (record { second = Some second; state = word; span = None })
setting_words (word ∷ keyword ∷ ms ∷ []) = Some (record { second = None; state = word; span = Some (keyword, ms) })
setting_words (second ∷ word ∷ keyword ∷ ms ∷ []) = Some (record { second = Some second; state = word; span = Some (keyword, ms) })
setting_words words = None
