-- The bytes of a string, wherever they stand.
-- This project's own.
-- Callers see a string as this list alone.
use Rattle.std.specs.Prelude.{ℕ, List}
use Rattle.pe_fields.specs.declared.lent.Place.{Place}
use Rattle.pe_fields.specs.declared.lent.Place.TheVariants.{Lent, Owned}

-- the bytes that stand at a place
abbrev pub bytes_of : Place → List ℕ
bytes_of (Lent bytes) = bytes.now
bytes_of (Owned bytes) = bytes.items
