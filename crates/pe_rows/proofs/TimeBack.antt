-- The output text of a script, from its bytes to the bytes of the output. Written by tools/rows.
use Rattle.std.proofs.Common.{◌≡◌, [], ◌∷◌, ◌++◌, codes, refl}
use Rattle.pe_output.specs.OutputText.{output_text}
use Rattle.pe_rows.proofs.OnLiterals.{output_on_literals}

pub row_TimeBack : output_text 5000 (codes "10 tick" ++ (10 ∷ (codes "5 tick" ++ (10 ∷ [])))) ≡ codes "1 ok" ++ (10 ∷ (codes "2 refused time-back" ++ (10 ∷ [])))
unfolding output_on_literals
row_TimeBack = refl
