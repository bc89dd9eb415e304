-- The output text of a script, from its bytes to the bytes of the output. Written by tools/rows.
use Rattle.std.proofs.Common.{◌≡◌, [], ◌∷◌, ◌++◌, codes, refl}
use Rattle.pe_output.specs.OutputText.{output_text}
use Rattle.pe_rows.proofs.OnLiterals.{output_on_literals}

pub row_ChangesByMomentThenNumber : output_text 5000 (codes "0 open https://a.example/" ++ (10 ∷ (codes "0 query f1 geolocation" ++ (10 ∷ (codes "0 query f1 camera" ++ (10 ∷ (codes "0 query f1 midi" ++ (10 ∷ (codes "0 query f1 camera" ++ (10 ∷ (codes "0 drop s5" ++ (10 ∷ (codes "0 set geolocation https://a.example granted for 20" ++ (10 ∷ (codes "0 set camera https://a.example granted for 20" ++ (10 ∷ (codes "0 set midi https://a.example granted for 10" ++ (10 ∷ (codes "30 tick" ++ (10 ∷ [])))))))))))))))))))) ≡ codes "1 frame f1 doc d1 https://a.example" ++ (10 ∷ (codes "2 status s2 prompt" ++ (10 ∷ (codes "3 status s3 prompt" ++ (10 ∷ (codes "4 status s4 prompt" ++ (10 ∷ (codes "5 status s5 prompt" ++ (10 ∷ (codes "6 ok" ++ (10 ∷ (codes "7 ok" ++ (10 ∷ (codes "@0 s2 granted" ++ (10 ∷ (codes "8 ok" ++ (10 ∷ (codes "@0 s3 granted" ++ (10 ∷ (codes "9 ok" ++ (10 ∷ (codes "@0 s4 granted" ++ (10 ∷ (codes "@10 s4 prompt" ++ (10 ∷ (codes "@20 s2 prompt" ++ (10 ∷ (codes "@20 s3 prompt" ++ (10 ∷ (codes "10 ok" ++ (10 ∷ [])))))))))))))))))))))))))))))))
unfolding output_on_literals
row_ChangesByMomentThenNumber = refl
