use Rattle.pe_lines.proofs.tests.shown.Given as goal

abbrev pub decreases-loop-word : goal.decreases-loop-word
decreases-loop-word l = l.reader.bytes
