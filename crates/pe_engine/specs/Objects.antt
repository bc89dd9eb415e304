-- What each event made, by its position.
-- This project's own.
use Rattle.std.specs.Prelude.{◌≡◌, ℕ, zero, suc, List, Option, Some, None, slice_get, option_and_then}
use Rattle.pe_arena.specs.declared.handle.Handle.{Handle}
use Rattle.pe_engine.specs.declared.engine.Made.{Made}
use Rattle.pe_engine.specs.declared.engine.Made.TheVariants as made

-- the handle of the frame that was made
abbrev pub handle_in : Made → Option Handle
handle_in (made.Frame h) = Some h
handle_in other = None

-- the handle of the frame of this number
abbrev pub handle_at : List Made → ℕ → Option Handle
handle_at ms zero = None
handle_at ms (suc n) = option_and_then handle_in (slice_get ms n)

-- no two frames have one handle
abbrev pub Apart : List Made → Type 0
Apart ms = (f g : ℕ) (h : Handle) → handle_at ms f ≡ Some h → handle_at ms g ≡ Some h → f ≡ g
