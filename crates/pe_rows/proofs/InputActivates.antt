-- The output text of a script, from its bytes to the bytes of the output. Written by tools/rows.
use Rattle.std.proofs.Common.{◌≡◌, [], ◌∷◌, ◌++◌, codes, refl}
use Rattle.pe_output.specs.OutputText.{output_text}
use Rattle.pe_rows.proofs.OnLiterals.{output_on_literals}

pub row_InputActivates : output_text 5000 (codes "0 open https://a.example/" ++ (10 ∷ (codes "0 embed f1 https://b.example/" ++ (10 ∷ (codes "0 embed f2 https://a.example/" ++ (10 ∷ (codes "10 input f3 mousedown" ++ (10 ∷ (codes "11 input f1 mousedown" ++ (10 ∷ [])))))))))) ≡ codes "1 frame f1 doc d1 https://a.example" ++ (10 ∷ (codes "2 frame f2 doc d2 https://b.example" ++ (10 ∷ (codes "3 frame f3 doc d3 https://a.example" ++ (10 ∷ (codes "4 activated 3" ++ (10 ∷ (codes "5 activated 2" ++ (10 ∷ [])))))))))
unfolding output_on_literals
row_InputActivates = refl
