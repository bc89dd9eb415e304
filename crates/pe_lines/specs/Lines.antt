-- The lines of a list of bytes.
-- This project's own format.
-- A carriage return is dropped only as the last byte of a line, once; a last line without a line feed counts where it has at least one byte.
use Rattle.std.specs.Prelude.{◌≡◌, ℕ, ◌==◌, Bool, false, All, List, [], ◌∷◌, length, map, Some, None, Option, if◌then◌else◌, nat_lt}
use Rattle.std.specs.List.{slice_split}
use Rattle.std.specs.Str.Lines.{strip_carriage_return}
use Rattle.pe_base.specs.declared.limits.TheConstants.{LINE_LIMIT}

-- the byte ends a line
abbrev pub is_line_feed : ℕ → Bool
is_line_feed b = b == 10

-- no byte ends a line
abbrev pub HasNoLineFeed : List ℕ → Type 0
HasNoLineFeed bytes = All (λ b. is_line_feed b ≡ false) bytes

-- the parts between the line feeds; there is always a last one, maybe empty
abbrev pub parts : List ℕ → List (List ℕ)
parts bytes = slice_split is_line_feed bytes

-- all parts but the last
abbrev pub but_last : List (List ℕ) → List (List ℕ)
but_last [] = []
but_last (part ∷ []) = []
but_last (part ∷ next ∷ more) = part ∷ but_last (next ∷ more)

-- the parts without a last one that is empty
abbrev pub counted : List (List ℕ) → List (List ℕ)
counted [] = []
counted (part ∷ []) = if length part == 0 then [] else part ∷ []
counted (part ∷ next ∷ more) = part ∷ counted (next ∷ more)

-- all lines
unfoldable pub lines : List ℕ → List (List ℕ)
lines bytes = map strip_carriage_return (counted (parts bytes))

-- the lines that a line feed ended
unfoldable pub ended_lines : List ℕ → List (List ℕ)
ended_lines bytes = map strip_carriage_return (but_last (parts bytes))

-- the line, where it is not too long: of a line of over 16,384 bytes nothing is told but that it is too long
abbrev pub within_limit : List ℕ → Option (List ℕ)
within_limit line = if nat_lt LINE_LIMIT (length line) then None else Some line

-- what is told of all lines
unfoldable pub lines_or_too_long : List ℕ → List (Option (List ℕ))
lines_or_too_long bytes = map within_limit (lines bytes)

-- what is told of the lines that a line feed ended
unfoldable pub ended_lines_or_too_long : List ℕ → List (Option (List ℕ))
ended_lines_or_too_long bytes = map within_limit (ended_lines bytes)
