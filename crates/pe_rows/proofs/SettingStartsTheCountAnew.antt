-- The output text of a script, from its bytes to the bytes of the output. Written by tools/rows.
use Rattle.std.proofs.Common.{◌≡◌, [], ◌∷◌, ◌++◌, codes, refl}
use Rattle.pe_output.specs.OutputText.{output_text}
use Rattle.pe_rows.proofs.OnLiterals.{output_on_literals}

pub row_SettingStartsTheCountAnew : output_text 5000 (codes "0 open https://a.example/" ++ (10 ∷ (codes "0 request f1 camera" ++ (10 ∷ (codes "0 answer p2 dismiss" ++ (10 ∷ (codes "0 request f1 camera" ++ (10 ∷ (codes "0 answer p4 dismiss" ++ (10 ∷ (codes "0 set camera https://a.example granted for 1" ++ (10 ∷ (codes "1 request f1 camera" ++ (10 ∷ (codes "1 answer p7 dismiss" ++ (10 ∷ (codes "1 request f1 camera" ++ (10 ∷ [])))))))))))))))))) ≡ codes "1 frame f1 doc d1 https://a.example" ++ (10 ∷ (codes "2 prompt p2" ++ (10 ∷ (codes "3 settled 1 prompt" ++ (10 ∷ (codes "4 prompt p4" ++ (10 ∷ (codes "5 settled 1 prompt" ++ (10 ∷ (codes "6 ok" ++ (10 ∷ (codes "7 prompt p7" ++ (10 ∷ (codes "8 settled 1 prompt" ++ (10 ∷ (codes "9 prompt p9" ++ (10 ∷ [])))))))))))))))))
unfolding output_on_literals
row_SettingStartsTheCountAnew = refl
