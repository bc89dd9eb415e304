-- The texts of words have no bad byte where their line has none.
use Rattle.std.proofs.Common.{◌≡◌, ℕ, ◌+◌, Bool, true, false, ◌||◌, List, [], ◌∷◌, Option, Some, None, option_map, refl, subst}
use Rattle.std.specs.Prelude.{All}
use Rattle.std.specs.List.{list_any}
use Rattle.std.proofs.lemmas.List.Elements.{All-nil, All-cons}
use Rattle.pe_lines.specs.Words.{Word, is_bad_byte, has_bad_byte, Kind, Blank, Quote, Backslash, Other, kind_of, Stage, Between, Bare, Quoted, Escaped, Closed, Ahead, closed, longer, begun, ahead_at_end, ahead_at_byte, ahead_of, words_from, words_of}

abbrev pub PlainWords : List Word → Type 0
PlainWords words = All (λ (word : Word). list_any is_bad_byte word.text ≡ false) words

none-plain : PlainWords []
none-plain = All-nil (λ (word : Word). list_any is_bad_byte word.text ≡ false)

-- what stands ahead is plain
pub record IsPlain (ahead : Ahead) : Type 0 where
  pub text : list_any is_bad_byte ahead.text ≡ false
  pub words : PlainWords ahead.words

abbrev pub IsPlainAhead : Option Ahead → Type 0
IsPlainAhead None = Unit {0}
IsPlainAhead (Some ahead) = IsPlain ahead

mapped : (f : Ahead → Ahead) (ahead : Option Ahead) → ((a : Ahead) → IsPlain a → IsPlain (f a)) → IsPlainAhead ahead → IsPlainAhead (option_map f ahead)
mapped f None keeps h = tt
mapped f (Some a) keeps h = keeps a h

longer-plain : (b : ℕ) → is_bad_byte b ≡ false → (a : Ahead) → IsPlain a → IsPlain (longer b a)
longer-plain b good a h = record { text = by_byte (is_bad_byte b) good; words = h.words }
  where
    by_byte : (t : Bool) → t ≡ false → (t || list_any is_bad_byte a.text) ≡ false
    by_byte false e = h.text
    by_byte true e = cc

closed-plain : (place : ℕ) (a : Ahead) → IsPlain a → IsPlain (closed place a)
closed-plain place a h = record { text = refl; words = h.words }

begun-plain : (quoted : Bool) (place : ℕ) (a : Ahead) → IsPlain a → IsPlain (begun quoted place a)
begun-plain quoted place a h = record { text = refl; words = All-cons (λ (word : Word). list_any is_bad_byte word.text ≡ false) _ a.words h.text h.words }

at-end : (stage : Stage) (place : ℕ) → IsPlainAhead (ahead_at_end stage place)
at-end Between place = record { text = refl; words = none-plain }
at-end Bare place = record { text = refl; words = none-plain }
at-end Quoted place = tt
at-end Escaped place = tt
at-end Closed place = record { text = refl; words = none-plain }

at-byte : (stage : Stage) (kind : Kind) (place b : ℕ) (behind : Stage → Option Ahead) → is_bad_byte b ≡ false → ((s : Stage) → IsPlainAhead (behind s)) → IsPlainAhead (ahead_at_byte stage kind place b behind)
at-byte Between Blank place b behind good h = h Between
at-byte Between Quote place b behind good h = mapped (begun true place) (behind Quoted) (begun-plain true place) (h Quoted)
at-byte Between Backslash place b behind good h = mapped (λ (a : Ahead). begun false place (longer b a)) (behind Bare) (λ a p. begun-plain false place (longer b a) (longer-plain b good a p)) (h Bare)
at-byte Between Other place b behind good h = mapped (λ (a : Ahead). begun false place (longer b a)) (behind Bare) (λ a p. begun-plain false place (longer b a) (longer-plain b good a p)) (h Bare)
at-byte Bare Blank place b behind good h = mapped (closed place) (behind Between) (closed-plain place) (h Between)
at-byte Bare Quote place b behind good h = tt
at-byte Bare Backslash place b behind good h = mapped (longer b) (behind Bare) (longer-plain b good) (h Bare)
at-byte Bare Other place b behind good h = mapped (longer b) (behind Bare) (longer-plain b good) (h Bare)
at-byte Quoted Quote place b behind good h = mapped (closed (place + 1)) (behind Closed) (closed-plain (place + 1)) (h Closed)
at-byte Quoted Backslash place b behind good h = h Escaped
at-byte Quoted Blank place b behind good h = mapped (longer b) (behind Quoted) (longer-plain b good) (h Quoted)
at-byte Quoted Other place b behind good h = mapped (longer b) (behind Quoted) (longer-plain b good) (h Quoted)
at-byte Escaped Quote place b behind good h = mapped (longer b) (behind Quoted) (longer-plain b good) (h Quoted)
at-byte Escaped Backslash place b behind good h = mapped (longer b) (behind Quoted) (longer-plain b good) (h Quoted)
at-byte Escaped Blank place b behind good h = tt
at-byte Escaped Other place b behind good h = tt
at-byte Closed Blank place b behind good h = h Between
at-byte Closed Quote place b behind good h = tt
at-byte Closed Backslash place b behind good h = tt
at-byte Closed Other place b behind good h = tt

-- a line without a bad byte: its first byte is none, and the rest has none
first-good : (b : Bool) (rest : Bool) → (b || rest) ≡ false → (b ≡ false) × (rest ≡ false)
first-good false rest e = (refl, e)
first-good true rest e = cc

plain-ahead : (stage : Stage) (place : ℕ) (line : List ℕ) → list_any is_bad_byte line ≡ false → IsPlainAhead (ahead_of stage place line)
plain-ahead stage place [] good = at-end stage place
plain-ahead stage place (b ∷ line) good =
    let (first, rest) = first-good (is_bad_byte b) (list_any is_bad_byte line) good in
    at-byte stage (kind_of b) place b (λ next. ahead_of next (place + 1) line) first (λ next. plain-ahead next (place + 1) line rest)

words-plain : (ahead : Option Ahead) (words : List Word) → IsPlainAhead ahead → option_map (λ (a : Ahead). a.words) ahead ≡ Some words → PlainWords words
words-plain None words h e = cc
words-plain (Some a) words h e = let same : a.words ≡ words = cc in subst PlainWords same h.words

-- the words of such a line
pub plain_words : (line : List ℕ) (words : List Word) → has_bad_byte line ≡ false → words_of line ≡ Some words → All (λ (word : Word). has_bad_byte word.text ≡ false) words
unfolding has_bad_byte words_of words_from
plain_words line words good e = words-plain (ahead_of Between 0 line) words (plain-ahead Between 0 line good) e
