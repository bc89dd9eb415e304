-- The output text of a script, from its bytes to the bytes of the output. Written by tools/rows.
use Rattle.std.proofs.Common.{◌≡◌, [], ◌∷◌, ◌++◌, codes, refl}
use Rattle.pe_output.specs.OutputText.{output_text}
use Rattle.pe_rows.proofs.OnLiterals.{output_on_literals}

pub row_CapabilityOfOneCall : output_text 5000 (codes "0 open https://a.example/" ++ (10 ∷ (codes "0 embed f1 https://b.example/ allow " ++ (34 ∷ (codes "payment; fullscreen; display-capture; clipboard-read" ++ (34 ∷ (10 ∷ (codes "0 use f2 clipboard-read-text" ++ (10 ∷ (codes "0 input f1 mousedown" ++ (10 ∷ (codes "0 post f1 f2 https://b.example display-capture" ++ (10 ∷ (codes "0 deliver m5" ++ (10 ∷ (codes "1 use f2 request-fullscreen" ++ (10 ∷ (codes "1 use f2 get-display-media" ++ (10 ∷ (codes "1 use f2 get-display-media" ++ (10 ∷ (codes "1 input f1 mousedown" ++ (10 ∷ (codes "1 post f1 f2 https://b.example payment" ++ (10 ∷ (codes "10 deliver m11" ++ (10 ∷ (codes "10 input f1 keydown" ++ (10 ∷ (codes "11 use f2 show-payment" ++ (10 ∷ (codes "11 state f1" ++ (10 ∷ []))))))))))))))))))))))))))))))))) ≡ codes "1 frame f1 doc d1 https://a.example" ++ (10 ∷ (codes "2 frame f2 doc d2 https://b.example" ++ (10 ∷ (codes "3 denied permission-prompt" ++ (10 ∷ (codes "4 activated 1" ++ (10 ∷ (codes "5 message m5" ++ (10 ∷ (codes "6 delivered" ++ (10 ∷ (codes "7 denied no-transient" ++ (10 ∷ (codes "8 allowed" ++ (10 ∷ (codes "9 denied no-transient" ++ (10 ∷ (codes "10 activated 1" ++ (10 ∷ (codes "11 message m11" ++ (10 ∷ (codes "12 delivered" ++ (10 ∷ (codes "13 activated 1" ++ (10 ∷ (codes "14 allowed" ++ (10 ∷ (codes "15 sticky yes transient yes" ++ (10 ∷ [])))))))))))))))))))))))))))))
unfolding output_on_literals
row_CapabilityOfOneCall = refl
