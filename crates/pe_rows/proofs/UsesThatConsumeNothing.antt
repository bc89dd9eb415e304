-- The output text of a script, from its bytes to the bytes of the output. Written by tools/rows.
use Rattle.std.proofs.Common.{◌≡◌, [], ◌∷◌, ◌++◌, codes, refl}
use Rattle.pe_output.specs.OutputText.{output_text}
use Rattle.pe_rows.proofs.OnLiterals.{output_on_literals}

pub row_UsesThatConsumeNothing : output_text 5000 (codes "0 open https://a.example/" ++ (10 ∷ (codes "0 embed f1 https://b.example/" ++ (10 ∷ (codes "0 input f2 mousedown" ++ (10 ∷ (codes "0 use f2 show-payment" ++ (10 ∷ (codes "0 use f1 request-picture-in-picture" ++ (10 ∷ (codes "0 use f1 request-picture-in-picture" ++ (10 ∷ (codes "3000 input f1 keydown" ++ (10 ∷ (codes "7999 state f1" ++ (10 ∷ (codes "7999 state f2" ++ (10 ∷ (codes "8000 state f1" ++ (10 ∷ [])))))))))))))))))))) ≡ codes "1 frame f1 doc d1 https://a.example" ++ (10 ∷ (codes "2 frame f2 doc d2 https://b.example" ++ (10 ∷ (codes "3 activated 2" ++ (10 ∷ (codes "4 denied default d2" ++ (10 ∷ (codes "5 allowed" ++ (10 ∷ (codes "6 allowed" ++ (10 ∷ (codes "7 activated 1" ++ (10 ∷ (codes "8 sticky yes transient yes" ++ (10 ∷ (codes "9 sticky yes transient no" ++ (10 ∷ (codes "10 sticky yes transient no" ++ (10 ∷ [])))))))))))))))))))
unfolding output_on_literals
row_UsesThatConsumeNothing = refl
