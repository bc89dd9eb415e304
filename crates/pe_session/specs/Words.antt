-- What the words of the command line ask for.
-- The command line is this project's own.
-- A form that is not built yet is none of the forms.
use Rattle.std.specs.Prelude.{◌≡◌, ℕ, nat_le, ◌&&◌, List, [], ◌∷◌, codes, bytes_eq, Option, Some, None, option_and_then, if◌then◌else◌}
use Rattle.std.specs.Io.KnownBytes.{Appends}
use Rattle.pe_base.specs.declared.limits.TheConstants.{DURATION_LIMIT}
use Rattle.pe_generator.specs.Words.{AsksForScript}
use Rattle.pe_io.specs.Pieces.{WritesPrefix}
use Rattle.pe_script.specs.Numerals.{positive}
use Rattle.pe_session.specs.declared.status.Status.{Status}
use Rattle.pe_session.specs.declared.status.Status.TheVariants.{Words, WriteFault}

-- MS: 1 to 60000, decimal without a leading zero
abbrev pub duration_of : List ℕ → Option ℕ
duration_of digits = option_and_then (λ ms. if nat_le 1 ms && nat_le ms DURATION_LIMIT then Some ms else None) (positive 5 digits)

-- the duration of transient activation that the words ask a run with, in milliseconds: `run`, or `run MS`
unfoldable pub duration_asked : List (List ℕ) → Option ℕ
duration_asked (word ∷ []) = if bytes_eq word (codes "run") then Some 5000 else None
duration_asked (word ∷ ms ∷ []) = if bytes_eq word (codes "run") then duration_of ms else None
duration_asked words = None

-- the words are none of the forms: neither `run`, nor `run MS`, nor `generate SEED COUNT`
pub record AreNoForm (words : List (List ℕ)) : Type 0 where
  pub no_run : duration_asked words ≡ None
  pub no_script : (seed count : ℕ) → AsksForScript seed count words → ⊥

-- the usage line
abbrev pub usage : List ℕ
usage = codes "usage: permissions run [MS] | generate SEED COUNT | check\n"

-- the usage line was written whole, or a front of it before a fault
abbrev pub Explains : Status → Option (List ℕ) → Option (List ℕ) → Type 0
Explains Words old new = Appends old new usage
Explains WriteFault old new = WritesPrefix old new usage
Explains status old new = ⊥
