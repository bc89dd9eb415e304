-- The output text of a script, from its bytes to the bytes of the output. Written by tools/rows.
use Rattle.std.proofs.Common.{◌≡◌, [], ◌∷◌, ◌++◌, codes, refl}
use Rattle.pe_output.specs.OutputText.{output_text}
use Rattle.pe_rows.proofs.OnLiterals.{output_on_literals}

pub row_TwoStatusesOfAPair : output_text 5000 (codes "0 open https://a.example/" ++ (10 ∷ (codes "0 query f1 camera" ++ (10 ∷ (codes "0 query f1 camera" ++ (10 ∷ (codes "5 set camera https://a.example denied for 5" ++ (10 ∷ (codes "20 set camera https://a.example denied" ++ (10 ∷ [])))))))))) ≡ codes "1 frame f1 doc d1 https://a.example" ++ (10 ∷ (codes "2 status s2 prompt" ++ (10 ∷ (codes "3 status s3 prompt" ++ (10 ∷ (codes "4 ok" ++ (10 ∷ (codes "@5 s2 denied" ++ (10 ∷ (codes "@5 s3 denied" ++ (10 ∷ (codes "@10 s2 prompt" ++ (10 ∷ (codes "@10 s3 prompt" ++ (10 ∷ (codes "5 ok" ++ (10 ∷ (codes "@20 s2 denied" ++ (10 ∷ (codes "@20 s3 denied" ++ (10 ∷ [])))))))))))))))))))))
unfolding output_on_literals
row_TwoStatusesOfAPair = refl
