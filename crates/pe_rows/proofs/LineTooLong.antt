-- The output text of a script, from its bytes to the bytes of the output. Written by tools/rows.
use Rattle.std.proofs.Common.{◌≡◌, [], ◌∷◌, ◌++◌, codes, replicate, refl}
use Rattle.pe_output.specs.OutputText.{output_text}
use Rattle.pe_rows.proofs.OnLiterals.{output_on_literals}

pub row_LineTooLong : output_text 5000 (codes "#" ++ (replicate 16384 120 ++ (10 ∷ []))) ≡ codes "1 refused line-too-long" ++ (10 ∷ [])
unfolding output_on_literals
row_LineTooLong = refl
