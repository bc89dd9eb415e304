-- The output text of a script, from its bytes to the bytes of the output. Written by tools/rows.
use Rattle.std.proofs.Common.{◌≡◌, [], ◌∷◌, ◌++◌, codes, refl}
use Rattle.pe_output.specs.OutputText.{output_text}
use Rattle.pe_rows.proofs.OnLiterals.{output_on_literals}

pub row_TrailingCommaIsNoDictionary : output_text 5000 (codes "0 open https://a.example/ header " ++ (34 ∷ (codes "camera=()," ++ (34 ∷ (10 ∷ (codes "0 policy f1 camera" ++ (10 ∷ []))))))) ≡ codes "1 frame f1 doc d1 https://a.example" ++ (10 ∷ (codes "2 allowed" ++ (10 ∷ [])))
unfolding output_on_literals
row_TrailingCommaIsNoDictionary = refl
