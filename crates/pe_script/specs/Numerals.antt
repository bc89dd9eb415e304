-- The numbers of a script line: times, spans and the names of objects.
-- The script is this project's own format.
-- A number is decimal, without a leading zero.
use Rattle.std.specs.Prelude.{ℕ, ◌+◌, ◌-◌, ◌*◌, Bool, false, not, ◌&&◌, ◌==◌, nat_le, List, [], ◌∷◌, length, fold, Option, Some, None, option_and_then, if◌then◌else◌}
use Rattle.std.specs.List.{list_all}
use Rattle.pe_lines.specs.Words.{Word}

-- the text of a bare word
abbrev pub bare : Word → Option (List ℕ)
bare word = if word.quoted then None else Some word.text

-- a decimal digit
abbrev pub is_digit : ℕ → Bool
is_digit b = nat_le 48 b && nat_le b 57

-- the number that decimal digits write
unfoldable pub number_of : List ℕ → ℕ
number_of digits = fold (λ n b. 10 * n + (b - 48)) 0 digits

-- digits of a number above 0: the first is no 0
abbrev pub is_positive : List ℕ → Bool
is_positive [] = false
is_positive (b ∷ digits) = not (b == 48) && list_all is_digit (b ∷ digits)

-- a number above 0, of so many digits at most
unfoldable pub positive : ℕ → List ℕ → Option ℕ
positive most digits = if is_positive digits && nat_le (length digits) most then Some (number_of digits) else None

-- the one digit 0
abbrev pub is_zero : List ℕ → Bool
is_zero digits = length digits == 1 && list_all (λ b. b == 48) digits

-- TIME: 0, or at most 13 digits without a leading zero
unfoldable pub time_of : List ℕ → Option ℕ
time_of digits = if is_zero digits then Some 0 else positive 13 digits

-- MS: at most 13 digits, above 0
unfoldable pub span_of : List ℕ → Option ℕ
span_of digits = positive 13 digits

-- the name of an object: a letter, and at most 7 digits, above 0
unfoldable pub named_by : ℕ → List ℕ → Option ℕ
named_by letter [] = None
named_by letter (b ∷ digits) = if b == letter then positive 7 digits else None

-- the number of a frame, status, prompt or message that a bare word names, by its letter
unfoldable pub object : ℕ → Word → Option ℕ
object letter word = option_and_then (named_by letter) (bare word)
