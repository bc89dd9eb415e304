-- The output text of a script, from its bytes to the bytes of the output. Written by tools/rows.
use Rattle.std.proofs.Common.{◌≡◌, [], ◌∷◌, ◌++◌, codes, refl}
use Rattle.pe_output.specs.OutputText.{output_text}
use Rattle.pe_rows.proofs.OnLiterals.{output_on_literals}

pub row_ConsumingReachesThePage : output_text 5000 (codes "0 open https://a.example/" ++ (10 ∷ (codes "0 embed f1 https://b.example/" ++ (10 ∷ (codes "0 embed f1 https://c.example/" ++ (10 ∷ (codes "0 open https://d.example/" ++ (10 ∷ (codes "1 input f2 mousedown" ++ (10 ∷ (codes "1 input f4 mousedown" ++ (10 ∷ (codes "2 use f2 open-window" ++ (10 ∷ (codes "3 state f1" ++ (10 ∷ (codes "3 state f2" ++ (10 ∷ (codes "3 state f3" ++ (10 ∷ (codes "3 state f4" ++ (10 ∷ [])))))))))))))))))))))) ≡ codes "1 frame f1 doc d1 https://a.example" ++ (10 ∷ (codes "2 frame f2 doc d2 https://b.example" ++ (10 ∷ (codes "3 frame f3 doc d3 https://c.example" ++ (10 ∷ (codes "4 frame f4 doc d4 https://d.example" ++ (10 ∷ (codes "5 activated 2" ++ (10 ∷ (codes "6 activated 1" ++ (10 ∷ (codes "7 allowed" ++ (10 ∷ (codes "8 sticky yes transient no" ++ (10 ∷ (codes "9 sticky yes transient no" ++ (10 ∷ (codes "10 sticky no transient no" ++ (10 ∷ (codes "11 sticky yes transient yes" ++ (10 ∷ [])))))))))))))))))))))
unfolding output_on_literals
row_ConsumingReachesThePage = refl
