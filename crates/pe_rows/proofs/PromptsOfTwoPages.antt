-- The output text of a script, from its bytes to the bytes of the output. Written by tools/rows.
use Rattle.std.proofs.Common.{◌≡◌, [], ◌∷◌, ◌++◌, codes, refl}
use Rattle.pe_output.specs.OutputText.{output_text}
use Rattle.pe_rows.proofs.OnLiterals.{output_on_literals}

pub row_PromptsOfTwoPages : output_text 5000 (codes "0 open https://a.example/" ++ (10 ∷ (codes "0 embed f1 https://b.example/" ++ (10 ∷ (codes "0 open https://a.example/" ++ (10 ∷ (codes "0 request f2 storage-access" ++ (10 ∷ (codes "0 request f1 camera" ++ (10 ∷ (codes "0 request f1 camera" ++ (10 ∷ (codes "0 request f3 camera" ++ (10 ∷ (codes "0 answer p5 block" ++ (10 ∷ (codes "0 close f2" ++ (10 ∷ (codes "0 answer p4 allow" ++ (10 ∷ (codes "0 answer p7 allow for 5" ++ (10 ∷ (codes "0 answer p5 dismiss" ++ (10 ∷ (codes "0 request f1 camera" ++ (10 ∷ (codes "5 request f1 camera" ++ (10 ∷ [])))))))))))))))))))))))))))) ≡ codes "1 frame f1 doc d1 https://a.example" ++ (10 ∷ (codes "2 frame f2 doc d2 https://b.example" ++ (10 ∷ (codes "3 frame f3 doc d3 https://a.example" ++ (10 ∷ (codes "4 prompt p4" ++ (10 ∷ (codes "5 prompt p5" ++ (10 ∷ (codes "6 joined p5" ++ (10 ∷ (codes "7 prompt p7" ++ (10 ∷ (codes "8 refused not-shown" ++ (10 ∷ (codes "9 ok" ++ (10 ∷ (codes "10 refused closed" ++ (10 ∷ (codes "11 settled 1 granted" ++ (10 ∷ (codes "12 settled 2 prompt" ++ (10 ∷ (codes "13 granted" ++ (10 ∷ (codes "14 prompt p12" ++ (10 ∷ [])))))))))))))))))))))))))))
unfolding output_on_literals
row_PromptsOfTwoPages = refl
