-- The bytes of a text, wherever they stand.
-- This project's own.
-- Callers see a text as this list alone, and one that there may be as an option of it.
use Rattle.std.specs.Prelude.{ℕ, List, Option, Some, None}
use Rattle.std.specs.Box.{box_value}
use Rattle.pe_lines.specs.declared.text.Place.{Place}
use Rattle.pe_lines.specs.declared.text.Place.TheVariants.{Lent, Owned}
use Rattle.pe_lines.specs.declared.text.OptionalPlace.{OptionalPlace}
use Rattle.pe_lines.specs.declared.text.OptionalPlace.TheVariants.{Absent, Lent as LentText, Owned as OwnedText}

-- the bytes that stand at a place
abbrev pub bytes_of : Place → List ℕ
bytes_of (Lent bytes) = bytes.now
bytes_of (Owned bytes) = (box_value bytes).items

-- the bytes that stand at a place, if it is one
abbrev pub optional_bytes_of : OptionalPlace → Option (List ℕ)
optional_bytes_of Absent = None
optional_bytes_of (LentText bytes) = Some bytes.now
optional_bytes_of (OwnedText bytes) = Some (box_value bytes).items
