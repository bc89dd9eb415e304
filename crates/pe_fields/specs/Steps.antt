-- One step of reading a string.
-- RFC 8941, section 4.2.5.
-- This project's own: the step, as the code takes it.
use Rattle.std.specs.Prelude.{ℕ, ◌==◌, ◌||◌, List, [], ◌∷◌, Option, Some, None, if◌then◌else◌}
use Rattle.pe_fields.specs.Alphabet.{is_text_byte}
use Rattle.pe_fields.specs.Reading.{Read}

-- the byte behind a backslash
abbrev pub escaped_step : List ℕ → Read (Option ℕ)
escaped_step [] = None
escaped_step (b ∷ bs) = if (b == 34) || (b == 92) then Some (Some b, bs) else None

-- the next byte of a string, its escape undone, or the closing quote
abbrev pub text_step : List ℕ → Read (Option ℕ)
text_step [] = None
text_step (b ∷ bs) =
    if b == 34 then Some (None, bs)
    else if b == 92 then escaped_step bs
    else if is_text_byte b then Some (Some b, bs)
    else None
