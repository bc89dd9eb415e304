use Rattle.std.proofs.Common.{◌≡◌, ◌-◌, length, take}
use Rattle.pe_fields.specs.Dictionary.{last_of}
use Rattle.pe_fields.proofs.dictionary.last.Given as goal

abbrev pub invariant-loop-i : goal.invariant-loop-i
invariant-loop-i l = last_of (take (length l.entries - l.i) l.entries) l.key ≡ last_of l.entries l.key
