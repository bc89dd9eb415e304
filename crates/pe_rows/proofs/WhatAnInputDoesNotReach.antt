-- The output text of a script, from its bytes to the bytes of the output. Written by tools/rows.
use Rattle.std.proofs.Common.{◌≡◌, [], ◌∷◌, ◌++◌, codes, refl}
use Rattle.pe_output.specs.OutputText.{output_text}
use Rattle.pe_rows.proofs.OnLiterals.{output_on_literals}

pub row_WhatAnInputDoesNotReach : output_text 5000 (codes "0 open https://a.example/" ++ (10 ∷ (codes "0 embed f1 https://b.example/" ++ (10 ∷ (codes "0 embed f1 https://b.example/" ++ (10 ∷ (codes "0 input f2 mousedown" ++ (10 ∷ (codes "0 state f3" ++ (10 ∷ (codes "0 nav f2 https://b.example/" ++ (10 ∷ (codes "0 state f2" ++ (10 ∷ (codes "0 embed f2 https://b.example/" ++ (10 ∷ (codes "0 embed f8 data:text/html,x" ++ (10 ∷ (codes "0 input f2 touchend" ++ (10 ∷ [])))))))))))))))))))) ≡ codes "1 frame f1 doc d1 https://a.example" ++ (10 ∷ (codes "2 frame f2 doc d2 https://b.example" ++ (10 ∷ (codes "3 frame f3 doc d3 https://b.example" ++ (10 ∷ (codes "4 activated 2" ++ (10 ∷ (codes "5 sticky no transient no" ++ (10 ∷ (codes "6 doc d6 https://b.example" ++ (10 ∷ (codes "7 sticky no transient no" ++ (10 ∷ (codes "8 frame f8 doc d8 https://b.example" ++ (10 ∷ (codes "9 frame f9 doc d9 opaque:d9" ++ (10 ∷ (codes "10 activated 3" ++ (10 ∷ [])))))))))))))))))))
unfolding output_on_literals
row_WhatAnInputDoesNotReach = refl
