-- The output text of a script, from its bytes to the bytes of the output. Written by tools/rows.
use Rattle.std.proofs.Common.{◌≡◌, [], ◌∷◌, ◌++◌, codes, refl}
use Rattle.pe_output.specs.OutputText.{output_text}
use Rattle.pe_rows.proofs.OnLiterals.{output_on_literals}

pub row_CommentsAndBlanks : output_text 5000 (codes "# note" ++ (10 ∷ (10 ∷ (codes "0 tick" ++ (10 ∷ (codes "00 tick" ++ (10 ∷ (codes "0 tick" ++ (1 ∷ (10 ∷ (codes "0 tick now" ++ (10 ∷ [])))))))))))) ≡ codes "3 ok" ++ (10 ∷ (codes "4 refused syntax" ++ (10 ∷ (codes "5 refused bad-byte" ++ (10 ∷ (codes "6 refused syntax" ++ (10 ∷ [])))))))
unfolding output_on_literals
row_CommentsAndBlanks = refl
