-- The output text of a script, from its bytes to the bytes of the output. Written by tools/rows.
use Rattle.std.proofs.Common.{◌≡◌, [], ◌∷◌, ◌++◌, codes, refl}
use Rattle.pe_output.specs.OutputText.{output_text}
use Rattle.pe_rows.proofs.OnLiterals.{output_on_literals}

pub row_GrantOnce : output_text 5000 (codes "0 open https://a.example/" ++ (10 ∷ (codes "0 open https://a.example/" ++ (10 ∷ (codes "0 request f1 camera" ++ (10 ∷ (codes "0 query f2 camera" ++ (10 ∷ (codes "5 answer p3 allow once" ++ (10 ∷ (codes "9 close f1" ++ (10 ∷ [])))))))))))) ≡ codes "1 frame f1 doc d1 https://a.example" ++ (10 ∷ (codes "2 frame f2 doc d2 https://a.example" ++ (10 ∷ (codes "3 prompt p3" ++ (10 ∷ (codes "4 status s4 prompt" ++ (10 ∷ (codes "5 settled 1 granted" ++ (10 ∷ (codes "@5 s4 granted" ++ (10 ∷ (codes "6 ok" ++ (10 ∷ (codes "@9 s4 prompt" ++ (10 ∷ [])))))))))))))))
unfolding output_on_literals
row_GrantOnce = refl
