-- The output text of a script, from its bytes to the bytes of the output. Written by tools/rows.
use Rattle.std.proofs.Common.{◌≡◌, [], ◌∷◌, ◌++◌, codes, refl}
use Rattle.pe_output.specs.OutputText.{output_text}
use Rattle.pe_rows.proofs.OnLiterals.{output_on_literals}

pub row_NotOfTheGrammar : output_text 5000 (codes "0 open nonsense" ++ (10 ∷ (codes "0 policy f9 camera" ++ (10 ∷ (codes "0 fly" ++ (10 ∷ [])))))) ≡ codes "1 refused url" ++ (10 ∷ (codes "2 refused unknown" ++ (10 ∷ (codes "3 refused syntax" ++ (10 ∷ [])))))
unfolding output_on_literals
row_NotOfTheGrammar = refl
