-- The output text of a script, from its bytes to the bytes of the output. Written by tools/rows.
use Rattle.std.proofs.Common.{◌≡◌, [], ◌∷◌, ◌++◌, codes, refl}
use Rattle.pe_output.specs.OutputText.{output_text}
use Rattle.pe_rows.proofs.OnLiterals.{output_on_literals}

pub row_TransientBeforeDelegated : output_text 5000 (codes "0 open https://a.example/" ++ (10 ∷ (codes "0 embed f1 https://b.example/ allow payment" ++ (10 ∷ (codes "1 input f1 mousedown" ++ (10 ∷ (codes "2 post f1 f2 https://b.example payment" ++ (10 ∷ (codes "3 deliver m4" ++ (10 ∷ (codes "4 input f2 mousedown" ++ (10 ∷ (codes "5 use f2 show-payment" ++ (10 ∷ (codes "6 use f2 show-payment" ++ (10 ∷ (codes "7 use f2 show-payment" ++ (10 ∷ [])))))))))))))))))) ≡ codes "1 frame f1 doc d1 https://a.example" ++ (10 ∷ (codes "2 frame f2 doc d2 https://b.example" ++ (10 ∷ (codes "3 activated 1" ++ (10 ∷ (codes "4 message m4" ++ (10 ∷ (codes "5 delivered" ++ (10 ∷ (codes "6 activated 2" ++ (10 ∷ (codes "7 allowed" ++ (10 ∷ (codes "8 allowed" ++ (10 ∷ (codes "9 denied no-transient" ++ (10 ∷ [])))))))))))))))))
unfolding output_on_literals
row_TransientBeforeDelegated = refl
