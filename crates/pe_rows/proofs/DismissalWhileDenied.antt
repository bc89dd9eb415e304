-- The output text of a script, from its bytes to the bytes of the output. Written by tools/rows.
use Rattle.std.proofs.Common.{◌≡◌, [], ◌∷◌, ◌++◌, codes, refl}
use Rattle.pe_output.specs.OutputText.{output_text}
use Rattle.pe_rows.proofs.OnLiterals.{output_on_literals}

pub row_DismissalWhileDenied : output_text 5000 (codes "0 open https://a.example/" ++ (10 ∷ (codes "0 open https://a.example/" ++ (10 ∷ (codes "0 request f1 camera" ++ (10 ∷ (codes "0 request f2 camera" ++ (10 ∷ (codes "0 set camera https://a.example denied for 1" ++ (10 ∷ (codes "0 answer p3 dismiss" ++ (10 ∷ (codes "1 answer p4 dismiss" ++ (10 ∷ (codes "1 request f1 camera" ++ (10 ∷ (codes "1 answer p8 dismiss" ++ (10 ∷ (codes "1 request f1 camera" ++ (10 ∷ (codes "1 answer p10 dismiss" ++ (10 ∷ (codes "1 request f1 camera" ++ (10 ∷ [])))))))))))))))))))))))) ≡ codes "1 frame f1 doc d1 https://a.example" ++ (10 ∷ (codes "2 frame f2 doc d2 https://a.example" ++ (10 ∷ (codes "3 prompt p3" ++ (10 ∷ (codes "4 prompt p4" ++ (10 ∷ (codes "5 ok" ++ (10 ∷ (codes "6 settled 1 prompt" ++ (10 ∷ (codes "7 settled 1 prompt" ++ (10 ∷ (codes "8 prompt p8" ++ (10 ∷ (codes "9 settled 1 prompt" ++ (10 ∷ (codes "10 prompt p10" ++ (10 ∷ (codes "11 settled 1 prompt" ++ (10 ∷ (codes "12 denied" ++ (10 ∷ [])))))))))))))))))))))))
unfolding output_on_literals
row_DismissalWhileDenied = refl
