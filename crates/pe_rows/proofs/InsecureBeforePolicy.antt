-- The output text of a script, from its bytes to the bytes of the output. Written by tools/rows.
use Rattle.std.proofs.Common.{◌≡◌, [], ◌∷◌, ◌++◌, codes, refl}
use Rattle.pe_output.specs.OutputText.{output_text}
use Rattle.pe_rows.proofs.OnLiterals.{output_on_literals}

pub row_InsecureBeforePolicy : output_text 5000 (codes "0 open http://a.example/ header " ++ (34 ∷ (codes "geolocation=()" ++ (34 ∷ (10 ∷ (codes "0 use f1 get-position" ++ (10 ∷ (codes "0 input f1 mousedown" ++ (10 ∷ (codes "0 use f1 request-fullscreen" ++ (10 ∷ (codes "0 use f1 vibrate" ++ (10 ∷ (codes "0 policy f1 geolocation" ++ (10 ∷ []))))))))))))))) ≡ codes "1 frame f1 doc d1 http://a.example" ++ (10 ∷ (codes "2 denied insecure" ++ (10 ∷ (codes "3 activated 1" ++ (10 ∷ (codes "4 allowed" ++ (10 ∷ (codes "5 allowed" ++ (10 ∷ (codes "6 denied own-header d1" ++ (10 ∷ [])))))))))))
unfolding output_on_literals
row_InsecureBeforePolicy = refl
