-- The output text of a script, from its bytes to the bytes of the output. Written by tools/rows.
use Rattle.std.proofs.Common.{◌≡◌, [], ◌∷◌, ◌++◌, codes, refl}
use Rattle.pe_output.specs.OutputText.{output_text}
use Rattle.pe_rows.proofs.OnLiterals.{output_on_literals}

pub row_EmbargoAfterThreeDismissals : output_text 5000 (codes "0 open https://a.example/" ++ (10 ∷ (codes "0 query f1 camera" ++ (10 ∷ (codes "0 request f1 camera" ++ (10 ∷ (codes "1 answer p3 dismiss" ++ (10 ∷ (codes "1 request f1 camera" ++ (10 ∷ (codes "2 answer p5 dismiss" ++ (10 ∷ (codes "2 request f1 camera" ++ (10 ∷ (codes "3 answer p7 dismiss" ++ (10 ∷ (codes "3 request f1 camera" ++ (10 ∷ [])))))))))))))))))) ≡ codes "1 frame f1 doc d1 https://a.example" ++ (10 ∷ (codes "2 status s2 prompt" ++ (10 ∷ (codes "3 prompt p3" ++ (10 ∷ (codes "4 settled 1 prompt" ++ (10 ∷ (codes "5 prompt p5" ++ (10 ∷ (codes "6 settled 1 prompt" ++ (10 ∷ (codes "7 prompt p7" ++ (10 ∷ (codes "8 settled 1 prompt" ++ (10 ∷ (codes "@3 s2 denied" ++ (10 ∷ (codes "9 denied" ++ (10 ∷ [])))))))))))))))))))
unfolding output_on_literals
row_EmbargoAfterThreeDismissals = refl
