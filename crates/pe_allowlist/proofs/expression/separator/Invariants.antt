use Rattle.pe_allowlist.proofs.SeparatorLaws.{From}
use Rattle.pe_allowlist.proofs.expression.separator.Given as goal

abbrev pub invariant-loop-i : goal.invariant-loop-i
invariant-loop-i l = From l.i l.text
