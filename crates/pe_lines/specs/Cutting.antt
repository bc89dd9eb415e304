-- What the calls of a cutter do to the rest of the input that it stands for.
-- This project's own.
-- What is said of a rest holds whatever is fed behind it, so the lines never depend on how the input was cut.
use Rattle.std.specs.Prelude.{◌≡◌, ℕ, ◌+◌, ◌≤◌, List, [], ◌∷◌, ◌++◌, length, Some, None, Option, IsTrue, ◌⊎◌, if◌then◌else◌, nat_lt}
use Rattle.pe_base.specs.declared.limits.TheConstants.{LINE_LIMIT}
use Rattle.pe_lines.specs.Lines.{lines_or_too_long, ended_lines_or_too_long}
use Rattle.pe_lines.specs.Rests.{Rest}
use Rattle.pe_lines.specs.declared.cutter.Cut.{Cut}
use Rattle.pe_lines.specs.declared.cutter.Cut.TheVariants.{Bytes, TooLong}
use Rattle.pe_lines.specs.declared.cutter.Found.{Found}
use Rattle.pe_lines.specs.declared.cutter.Found.TheVariants.{Nothing, Overlong, Line}

-- what a cut tells of its line
abbrev pub line_of_cut : Cut → Option (List ℕ)
line_of_cut (Bytes bytes) = Some bytes.now
line_of_cut TooLong = None

-- the bytes begin with these lines, and then the rest goes on
pub record Cuts (bytes : List ℕ) (done : List (Option (List ℕ))) (rest : List ℕ) : Type 0 where
  pub all : (more : List ℕ) → lines_or_too_long (bytes ++ more) ≡ done ++ lines_or_too_long (rest ++ more)
  pub ended : (more : List ℕ) → ended_lines_or_too_long (bytes ++ more) ≡ done ++ ended_lines_or_too_long (rest ++ more)
  pub fewer : length done + length rest ≤ length bytes

-- the first line is taken off, which a line feed ended
abbrev pub TakesLine : List ℕ → List ℕ → Option (List ℕ) → Type 0
TakesLine old new line = Cuts old (line ∷ []) new

-- the last line is taken off, which no line feed ended
pub record TakesLast (old new : List ℕ) (line : Option (List ℕ)) : Type 0 where
  pub all : lines_or_too_long old ≡ line ∷ []
  pub ended : ended_lines_or_too_long old ≡ []
  pub nothing : new ≡ []

-- the next line is taken off
pub record TakesNext (old new : Rest) (line : Option (List ℕ)) : Type 0 where
  pub finished : new.finished ≡ old.finished
  pub taken : TakesLine old.bytes new.bytes line ⊎ (IsTrue old.finished × TakesLast old.bytes new.bytes line)

-- the two have the same lines
abbrev pub SameLines : List ℕ → List ℕ → Type 0
SameLines old new = Cuts old [] new

-- no whole line is left
pub record HasNoLine (old new : Rest) : Type 0 where
  pub same : SameLines old.bytes new.bytes
  pub none : ended_lines_or_too_long new.bytes ≡ []
  pub at_end : IsTrue old.finished → old.bytes ≡ []
  pub finished : new.finished ≡ old.finished
  pub few : new.kept ≤ 16385

-- what `next_line` gives
abbrev pub IsNext : Rest → Rest → Option Cut → Type 0
IsNext old new None = HasNoLine old new
IsNext old new (Some cut) = TakesNext old new (line_of_cut cut)

-- a line is found by its length
abbrev pub found_of : List ℕ → Found
found_of line = if nat_lt LINE_LIMIT (length line) then Overlong else Line

-- what stands next
abbrev pub Finds : Rest → Rest → Found → Type 0
Finds old new Nothing = HasNoLine old new
Finds old new Overlong = TakesNext old new None
Finds old new Line = TakesNext old new (Some new.line)
