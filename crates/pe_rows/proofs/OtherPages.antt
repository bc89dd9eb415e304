-- The output text of a script, from its bytes to the bytes of the output. Written by tools/rows.
use Rattle.std.proofs.Common.{◌≡◌, [], ◌∷◌, ◌++◌, codes, refl}
use Rattle.pe_output.specs.OutputText.{output_text}
use Rattle.pe_rows.proofs.OnLiterals.{output_on_literals}

pub row_OtherPages : output_text 5000 (codes "0 open https://a.example/" ++ (10 ∷ (codes "0 open https://c.example/" ++ (10 ∷ (codes "0 input f2 mousedown" ++ (10 ∷ (codes "1 use f1 open-window" ++ (10 ∷ (codes "1 use f2 open-window" ++ (10 ∷ [])))))))))) ≡ codes "1 frame f1 doc d1 https://a.example" ++ (10 ∷ (codes "2 frame f2 doc d2 https://c.example" ++ (10 ∷ (codes "3 activated 1" ++ (10 ∷ (codes "4 denied no-transient" ++ (10 ∷ (codes "5 allowed" ++ (10 ∷ [])))))))))
unfolding output_on_literals
row_OtherPages = refl
