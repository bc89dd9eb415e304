-- The output text of a script, from its bytes to the bytes of the output. Written by tools/rows.
use Rattle.std.proofs.Common.{◌≡◌, [], ◌∷◌, ◌++◌, codes, refl}
use Rattle.pe_output.specs.OutputText.{output_text}
use Rattle.pe_rows.proofs.OnLiterals.{output_on_literals}

pub row_Dismissals : output_text 5000 (codes "0 open https://a.example/" ++ (10 ∷ (codes "0 request f1 camera" ++ (10 ∷ (codes "10 answer p2 dismiss" ++ (10 ∷ (codes "10 request f1 camera" ++ (10 ∷ (codes "20 answer p4 allow for 100" ++ (10 ∷ (codes "119 request f1 camera" ++ (10 ∷ (codes "120 request f1 camera" ++ (10 ∷ (codes "121 nav f1 https://a.example/" ++ (10 ∷ (codes "121 answer p7 allow" ++ (10 ∷ [])))))))))))))))))) ≡ codes "1 frame f1 doc d1 https://a.example" ++ (10 ∷ (codes "2 prompt p2" ++ (10 ∷ (codes "3 settled 1 prompt" ++ (10 ∷ (codes "4 prompt p4" ++ (10 ∷ (codes "5 settled 1 granted" ++ (10 ∷ (codes "6 granted" ++ (10 ∷ (codes "7 prompt p7" ++ (10 ∷ (codes "8 doc d8 https://a.example" ++ (10 ∷ (codes "9 refused closed" ++ (10 ∷ [])))))))))))))))))
unfolding output_on_literals
row_Dismissals = refl
