use Rattle.std.proofs.Common.{◌≡◌, ℕ, ◌<◌, ◌≤◌, true, false, ◌==◌, List, [], ◌∷◌, length, slice_index_or, sym, arith}
use Rattle.pe_lines.specs.Words.{is_blank}
use Rattle.pe_script.specs.Answering.{is_silent}
use Rattle.pe_script.proofs.LineReadings.{silent_nothing, silent_other}
use Rattle.pe_script.proofs.reading.is_silent.Goals as goal

at_no_byte : (line : List ℕ) → length line < 1 → true ≡ is_silent line
at_no_byte [] below = sym silent_nothing
at_no_byte (b ∷ line) below = absurd (omega arith)

at_first : (line : List ℕ) → 1 ≤ length line → is_blank (slice_index_or line 0 0) ≡ false → (slice_index_or line 0 0 == 35) ≡ is_silent line
at_first [] some e = absurd (omega arith)
at_first (b ∷ line) some e = sym (silent_other b line e)

pub returns-then-not-is_blank : goal.returns-then-not-is_blank
returns-then-not-is_blank c = at_first c.args.line.now c.in-len1-up.len_at_least (sym c.if-not-is_blank.ensures)

pub returns-in-empty : goal.returns-in-empty
returns-in-empty c = at_no_byte c.args.line.now c.in-empty.len_below
