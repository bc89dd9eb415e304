-- The output text of a script, from its bytes to the bytes of the output. Written by tools/rows.
use Rattle.std.proofs.Common.{◌≡◌, [], ◌∷◌, ◌++◌, codes, refl}
use Rattle.pe_output.specs.OutputText.{output_text}
use Rattle.pe_rows.proofs.OnLiterals.{output_on_literals}

pub row_RequestsOfGoneDocuments : output_text 5000 (codes "0 open https://a.example/" ++ (10 ∷ (codes "0 embed f1 https://a.example/" ++ (10 ∷ (codes "0 request f1 camera" ++ (10 ∷ (codes "0 request f2 camera" ++ (10 ∷ (codes "0 close f2" ++ (10 ∷ (codes "0 answer p3 dismiss" ++ (10 ∷ (codes "0 embed f1 https://a.example/" ++ (10 ∷ (codes "0 request f7 camera" ++ (10 ∷ (codes "0 answer p8 allow once" ++ (10 ∷ (codes "0 close f7" ++ (10 ∷ (codes "0 request f1 camera" ++ (10 ∷ (codes "0 query f1 camera" ++ (10 ∷ (codes "0 nav f1 https://a.example/" ++ (10 ∷ (codes "0 query f1 camera" ++ (10 ∷ (codes "0 answer p8 block" ++ (10 ∷ [])))))))))))))))))))))))))))))) ≡ codes "1 frame f1 doc d1 https://a.example" ++ (10 ∷ (codes "2 frame f2 doc d2 https://a.example" ++ (10 ∷ (codes "3 prompt p3" ++ (10 ∷ (codes "4 joined p3" ++ (10 ∷ (codes "5 ok" ++ (10 ∷ (codes "6 settled 1 prompt" ++ (10 ∷ (codes "7 frame f7 doc d7 https://a.example" ++ (10 ∷ (codes "8 prompt p8" ++ (10 ∷ (codes "9 settled 1 granted" ++ (10 ∷ (codes "10 ok" ++ (10 ∷ (codes "11 granted" ++ (10 ∷ (codes "12 status s12 granted" ++ (10 ∷ (codes "13 doc d13 https://a.example" ++ (10 ∷ (codes "14 status s14 prompt" ++ (10 ∷ (codes "15 refused settled" ++ (10 ∷ [])))))))))))))))))))))))))))))
unfolding output_on_literals
row_RequestsOfGoneDocuments = refl
