-- The output text of a script, from its bytes to the bytes of the output. Written by tools/rows.
use Rattle.std.proofs.Common.{◌≡◌, [], ◌∷◌, ◌++◌, codes, refl}
use Rattle.pe_output.specs.OutputText.{output_text}
use Rattle.pe_rows.proofs.OnLiterals.{output_on_literals}

pub row_LifeOfASetting : output_text 5000 (codes "0 open https://a.example/" ++ (10 ∷ (codes "0 set camera https://a.example denied for 5" ++ (10 ∷ (codes "4 use f1 get-user-media-camera" ++ (10 ∷ (codes "5 use f1 get-user-media-camera" ++ (10 ∷ [])))))))) ≡ codes "1 frame f1 doc d1 https://a.example" ++ (10 ∷ (codes "2 ok" ++ (10 ∷ (codes "3 denied permission-denied" ++ (10 ∷ (codes "4 denied permission-prompt" ++ (10 ∷ [])))))))
unfolding output_on_literals
row_LifeOfASetting = refl
