-- The output text of a script, from its bytes to the bytes of the output. Written by tools/rows.
use Rattle.std.proofs.Common.{◌≡◌, [], ◌∷◌, ◌++◌, codes, refl}
use Rattle.pe_output.specs.OutputText.{output_text}
use Rattle.pe_rows.proofs.OnLiterals.{output_on_literals}

pub row_UserActivation : output_text 5000 (codes "0 open https://a.example/" ++ (10 ∷ (codes "0 use f1 play-audio" ++ (10 ∷ (codes "5 input f1 keydown-escape" ++ (10 ∷ (codes "5 input f1 touchend" ++ (10 ∷ (codes "6 use f1 open-window" ++ (10 ∷ (codes "7 use f1 open-window" ++ (10 ∷ (codes "8 use f1 play-audio" ++ (10 ∷ [])))))))))))))) ≡ codes "1 frame f1 doc d1 https://a.example" ++ (10 ∷ (codes "2 denied no-sticky" ++ (10 ∷ (codes "3 ignored" ++ (10 ∷ (codes "4 activated 1" ++ (10 ∷ (codes "5 allowed" ++ (10 ∷ (codes "6 denied no-transient" ++ (10 ∷ (codes "7 allowed" ++ (10 ∷ [])))))))))))))
unfolding output_on_literals
row_UserActivation = refl
