-- The output text of a script, from its bytes to the bytes of the output. Written by tools/rows.
use Rattle.std.proofs.Common.{◌≡◌, [], ◌∷◌, ◌++◌, codes, refl}
use Rattle.pe_output.specs.OutputText.{output_text}
use Rattle.pe_rows.proofs.OnLiterals.{output_on_literals}

pub row_LaterDelivery : output_text 5000 (codes "0 open https://a.example/" ++ (10 ∷ (codes "0 embed f1 https://b.example/ allow payment" ++ (10 ∷ (codes "0 input f1 mousedown" ++ (10 ∷ (codes "0 post f1 f2 https://b.example payment" ++ (10 ∷ (codes "0 input f1 mousedown" ++ (10 ∷ (codes "0 post f1 f2 https://b.example payment" ++ (10 ∷ (codes "100 deliver m4" ++ (10 ∷ (codes "200 deliver m6" ++ (10 ∷ (codes "5050 use f2 show-payment" ++ (10 ∷ (codes "5050 use f2 show-payment" ++ (10 ∷ (codes "6000 input f1 mousedown" ++ (10 ∷ (codes "6000 post f1 f2 https://b.example payment" ++ (10 ∷ (codes "6000 deliver m12" ++ (10 ∷ (codes "11000 use f2 show-payment" ++ (10 ∷ (codes "11000 deliver m12" ++ (10 ∷ (codes "11000 deliver m3" ++ (10 ∷ (codes "11000 input f1 mousedown" ++ (10 ∷ (codes "11000 post f1 f2 https://b.example payment" ++ (10 ∷ (codes "11000 deliver m16" ++ (10 ∷ (codes "15999 use f2 show-payment" ++ (10 ∷ [])))))))))))))))))))))))))))))))))))))))) ≡ codes "1 frame f1 doc d1 https://a.example" ++ (10 ∷ (codes "2 frame f2 doc d2 https://b.example" ++ (10 ∷ (codes "3 activated 1" ++ (10 ∷ (codes "4 message m4" ++ (10 ∷ (codes "5 activated 1" ++ (10 ∷ (codes "6 message m6" ++ (10 ∷ (codes "7 delivered" ++ (10 ∷ (codes "8 delivered" ++ (10 ∷ (codes "9 allowed" ++ (10 ∷ (codes "10 denied no-transient" ++ (10 ∷ (codes "11 activated 1" ++ (10 ∷ (codes "12 message m12" ++ (10 ∷ (codes "13 delivered" ++ (10 ∷ (codes "14 denied no-transient" ++ (10 ∷ (codes "15 refused settled" ++ (10 ∷ (codes "16 refused unknown" ++ (10 ∷ (codes "17 activated 1" ++ (10 ∷ (codes "18 message m16" ++ (10 ∷ (codes "19 delivered" ++ (10 ∷ (codes "20 allowed" ++ (10 ∷ [])))))))))))))))))))))))))))))))))))))))
unfolding output_on_literals
row_LaterDelivery = refl
