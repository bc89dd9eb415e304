-- The output text of a script, from its bytes to the bytes of the output. Written by tools/rows.
use Rattle.std.proofs.Common.{◌≡◌, [], ◌∷◌, ◌++◌, codes, refl}
use Rattle.pe_output.specs.OutputText.{output_text}
use Rattle.pe_rows.proofs.OnLiterals.{output_on_literals}

pub row_WhatIsNoLine : output_text 5000 (codes "0 open https://a.example/" ++ (10 ∷ (codes "0 embed f1 none srcdoc at https://b.example/" ++ (10 ∷ (codes "0 embed f1 none at https://b.example/" ++ (10 ∷ (codes "0 embed f1 none srcdoc header " ++ (34 ∷ (codes "camera=()" ++ (34 ∷ (10 ∷ (codes "0 embed f1 none header " ++ (34 ∷ (codes "camera=()" ++ (34 ∷ (10 ∷ (codes "0 policy f2 camera" ++ (10 ∷ (codes "0 embed f1 https://b.example/ allow x allow y" ++ (10 ∷ (codes "0 embed f1 https://b.example/ fullscreen fullscreen" ++ (10 ∷ (codes "0 set camera https://a.example granted for 0" ++ (10 ∷ (codes "0 set camera https://a.example granted once" ++ (10 ∷ (codes "0 answer p1 dismiss once" ++ (10 ∷ (codes "0 state f01" ++ (10 ∷ (codes "0 state f10000000" ++ (10 ∷ (codes "10000000000000 tick" ++ (10 ∷ (codes "0 " ++ (34 ∷ (codes "tick" ++ (34 ∷ (10 ∷ []))))))))))))))))))))))))))))))))))))))) ≡ codes "1 frame f1 doc d1 https://a.example" ++ (10 ∷ (codes "2 refused syntax" ++ (10 ∷ (codes "3 refused syntax" ++ (10 ∷ (codes "4 refused syntax" ++ (10 ∷ (codes "5 frame f2 doc d2 https://a.example" ++ (10 ∷ (codes "6 denied own-header d2" ++ (10 ∷ (codes "7 refused syntax" ++ (10 ∷ (codes "8 refused syntax" ++ (10 ∷ (codes "9 refused syntax" ++ (10 ∷ (codes "10 refused syntax" ++ (10 ∷ (codes "11 refused syntax" ++ (10 ∷ (codes "12 refused syntax" ++ (10 ∷ (codes "13 refused syntax" ++ (10 ∷ (codes "14 refused syntax" ++ (10 ∷ (codes "15 refused syntax" ++ (10 ∷ [])))))))))))))))))))))))))))))
unfolding output_on_literals
row_WhatIsNoLine = refl
