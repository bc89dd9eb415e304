-- The output text of a script, from its bytes to the bytes of the output. Written by tools/rows.
use Rattle.std.proofs.Common.{◌≡◌, [], ◌∷◌, ◌++◌, codes, refl}
use Rattle.pe_output.specs.OutputText.{output_text}
use Rattle.pe_rows.proofs.OnLiterals.{output_on_literals}

pub row_DismissalWhileGranted : output_text 5000 (codes "0 open https://a.example/" ++ (10 ∷ (codes "0 open https://a.example/" ++ (10 ∷ (codes "0 request f1 camera" ++ (10 ∷ (codes "0 request f2 camera" ++ (10 ∷ (codes "0 answer p3 dismiss" ++ (10 ∷ (codes "0 request f1 camera" ++ (10 ∷ (codes "0 answer p6 dismiss" ++ (10 ∷ (codes "0 set camera https://a.example granted for 1" ++ (10 ∷ (codes "0 answer p4 dismiss" ++ (10 ∷ (codes "1 request f1 camera" ++ (10 ∷ (codes "1 answer p10 dismiss" ++ (10 ∷ (codes "1 request f1 camera" ++ (10 ∷ (codes "1 answer p12 dismiss" ++ (10 ∷ (codes "1 request f1 camera" ++ (10 ∷ (codes "1 answer p14 dismiss" ++ (10 ∷ (codes "1 request f1 camera" ++ (10 ∷ [])))))))))))))))))))))))))))))))) ≡ codes "1 frame f1 doc d1 https://a.example" ++ (10 ∷ (codes "2 frame f2 doc d2 https://a.example" ++ (10 ∷ (codes "3 prompt p3" ++ (10 ∷ (codes "4 prompt p4" ++ (10 ∷ (codes "5 settled 1 prompt" ++ (10 ∷ (codes "6 prompt p6" ++ (10 ∷ (codes "7 settled 1 prompt" ++ (10 ∷ (codes "8 ok" ++ (10 ∷ (codes "9 settled 1 prompt" ++ (10 ∷ (codes "10 prompt p10" ++ (10 ∷ (codes "11 settled 1 prompt" ++ (10 ∷ (codes "12 prompt p12" ++ (10 ∷ (codes "13 settled 1 prompt" ++ (10 ∷ (codes "14 prompt p14" ++ (10 ∷ (codes "15 settled 1 prompt" ++ (10 ∷ (codes "16 denied" ++ (10 ∷ [])))))))))))))))))))))))))))))))
unfolding output_on_literals
row_DismissalWhileGranted = refl
