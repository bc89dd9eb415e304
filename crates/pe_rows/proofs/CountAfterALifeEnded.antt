-- The output text of a script, from its bytes to the bytes of the output. Written by tools/rows.
use Rattle.std.proofs.Common.{◌≡◌, [], ◌∷◌, ◌++◌, codes, refl}
use Rattle.pe_output.specs.OutputText.{output_text}
use Rattle.pe_rows.proofs.OnLiterals.{output_on_literals}

pub row_CountAfterALifeEnded : output_text 5000 (codes "0 open https://a.example/" ++ (10 ∷ (codes "0 open https://a.example/" ++ (10 ∷ (codes "0 request f1 camera" ++ (10 ∷ (codes "0 answer p3 dismiss" ++ (10 ∷ (codes "0 request f1 camera" ++ (10 ∷ (codes "0 answer p5 dismiss" ++ (10 ∷ (codes "0 request f1 camera" ++ (10 ∷ (codes "0 answer p7 allow once" ++ (10 ∷ (codes "0 close f1" ++ (10 ∷ (codes "0 request f2 camera" ++ (10 ∷ (codes "0 answer p10 dismiss" ++ (10 ∷ (codes "0 request f2 camera" ++ (10 ∷ (codes "0 answer p12 dismiss" ++ (10 ∷ (codes "0 request f2 camera" ++ (10 ∷ (codes "0 answer p14 dismiss" ++ (10 ∷ (codes "0 query f2 camera" ++ (10 ∷ (codes "0 use f2 get-user-media-camera" ++ (10 ∷ [])))))))))))))))))))))))))))))))))) ≡ codes "1 frame f1 doc d1 https://a.example" ++ (10 ∷ (codes "2 frame f2 doc d2 https://a.example" ++ (10 ∷ (codes "3 prompt p3" ++ (10 ∷ (codes "4 settled 1 prompt" ++ (10 ∷ (codes "5 prompt p5" ++ (10 ∷ (codes "6 settled 1 prompt" ++ (10 ∷ (codes "7 prompt p7" ++ (10 ∷ (codes "8 settled 1 granted" ++ (10 ∷ (codes "9 ok" ++ (10 ∷ (codes "10 prompt p10" ++ (10 ∷ (codes "11 settled 1 prompt" ++ (10 ∷ (codes "12 prompt p12" ++ (10 ∷ (codes "13 settled 1 prompt" ++ (10 ∷ (codes "14 prompt p14" ++ (10 ∷ (codes "15 settled 1 prompt" ++ (10 ∷ (codes "16 status s16 denied" ++ (10 ∷ (codes "17 denied permission-denied" ++ (10 ∷ [])))))))))))))))))))))))))))))))))
unfolding output_on_literals
row_CountAfterALifeEnded = refl
