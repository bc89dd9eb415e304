-- The output text of a script, from its bytes to the bytes of the output. Written by tools/rows.
use Rattle.std.proofs.Common.{◌≡◌, [], ◌∷◌, ◌++◌, codes, refl}
use Rattle.pe_output.specs.OutputText.{output_text}
use Rattle.pe_rows.proofs.OnLiterals.{output_on_literals}

pub row_RefusedLineMovesNoClock : output_text 5000 (codes "0 open https://a.example/" ++ (10 ∷ (codes "0 query f1 geolocation" ++ (10 ∷ (codes "10 set geolocation https://a.example granted for 100" ++ (10 ∷ (codes "200 policy f9 camera" ++ (10 ∷ (codes "200 tick" ++ (10 ∷ [])))))))))) ≡ codes "1 frame f1 doc d1 https://a.example" ++ (10 ∷ (codes "2 status s2 prompt" ++ (10 ∷ (codes "3 ok" ++ (10 ∷ (codes "@10 s2 granted" ++ (10 ∷ (codes "4 refused unknown" ++ (10 ∷ (codes "@110 s2 prompt" ++ (10 ∷ (codes "5 ok" ++ (10 ∷ [])))))))))))))
unfolding output_on_literals
row_RefusedLineMovesNoClock = refl
