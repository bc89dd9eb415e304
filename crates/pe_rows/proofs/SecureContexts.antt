-- The output text of a script, from its bytes to the bytes of the output. Written by tools/rows.
use Rattle.std.proofs.Common.{◌≡◌, [], ◌∷◌, ◌++◌, codes, refl}
use Rattle.pe_output.specs.OutputText.{output_text}
use Rattle.pe_rows.proofs.OnLiterals.{output_on_literals}

pub row_SecureContexts : output_text 5000 (codes "0 open http://a.example/" ++ (10 ∷ (codes "0 use f1 get-position" ++ (10 ∷ (codes "0 open http://localhost/" ++ (10 ∷ (codes "0 use f3 get-position" ++ (10 ∷ [])))))))) ≡ codes "1 frame f1 doc d1 http://a.example" ++ (10 ∷ (codes "2 denied insecure" ++ (10 ∷ (codes "3 frame f3 doc d3 http://localhost" ++ (10 ∷ (codes "4 denied permission-prompt" ++ (10 ∷ [])))))))
unfolding output_on_literals
row_SecureContexts = refl
