-- The rest of the input that a cutter stands for.
-- This project's own.
-- Of a line that is too long the front is let go; so many bytes stand for it that the line stays too long, whatever comes behind.
use Rattle.std.specs.Prelude.{ℕ, ◌-◌, ◌≤◌, Bool, List, [], length, take, drop, replicate, if◌then◌else◌}
use Rattle.pe_lines.specs.Lines.{HasNoLineFeed}

-- what was fed and is in no line that was given, whether the input ended, how many bytes are held, and the line that was given last
pub record Rest : Type 0 where
  pub bytes : List ℕ
  pub finished : Bool
  pub kept : ℕ
  pub line : List ℕ

-- what stands for the front of a line that is too long, also without a carriage return at its end
unfoldable pub filler : List ℕ
filler = replicate 16386 0

-- the front that was let go
abbrev pub front_of : Bool → List ℕ
front_of long = if long then filler else []

-- the places of a cutter stand in order within the bytes that it holds, and no line feed stands where it has looked
pub record IsInOrder (held : List ℕ) (start end at scanned : ℕ) : Type 0 where
  pub line : start ≤ end
  pub line_within : end ≤ length held
  pub looked : at ≤ scanned
  pub looked_within : scanned ≤ length held
  pub none : HasNoLineFeed (take (scanned - at) (drop at held))
