-- The output text of a script, from its bytes to the bytes of the output. Written by tools/rows.
use Rattle.std.proofs.Common.{◌≡◌, [], ◌∷◌, ◌++◌, codes, refl}
use Rattle.pe_output.specs.OutputText.{output_text}
use Rattle.pe_rows.proofs.OnLiterals.{output_on_literals}

pub row_LastSettingAlone : output_text 5000 (codes "0 open https://a.example/" ++ (10 ∷ (codes "0 query f1 camera" ++ (10 ∷ (codes "0 set camera https://a.example granted" ++ (10 ∷ (codes "1 set camera https://a.example granted" ++ (10 ∷ (codes "2 set camera https://a.example denied for 3" ++ (10 ∷ (codes "5 set camera https://a.example granted for 5" ++ (10 ∷ (codes "12 set camera https://a.example prompt" ++ (10 ∷ [])))))))))))))) ≡ codes "1 frame f1 doc d1 https://a.example" ++ (10 ∷ (codes "2 status s2 prompt" ++ (10 ∷ (codes "3 ok" ++ (10 ∷ (codes "@0 s2 granted" ++ (10 ∷ (codes "4 ok" ++ (10 ∷ (codes "5 ok" ++ (10 ∷ (codes "@2 s2 denied" ++ (10 ∷ (codes "@5 s2 prompt" ++ (10 ∷ (codes "6 ok" ++ (10 ∷ (codes "@5 s2 granted" ++ (10 ∷ (codes "@10 s2 prompt" ++ (10 ∷ (codes "7 ok" ++ (10 ∷ [])))))))))))))))))))))))
unfolding output_on_literals
row_LastSettingAlone = refl
