-- The output text of a script, from its bytes to the bytes of the output. Written by tools/rows.
use Rattle.std.proofs.Common.{◌≡◌, [], ◌∷◌, ◌++◌, codes, refl}
use Rattle.pe_output.specs.OutputText.{output_text}
use Rattle.pe_rows.proofs.OnLiterals.{output_on_literals}

pub row_OpaqueOrigins : output_text 5000 (codes "0 open https://a.example/" ++ (10 ∷ (codes "0 embed f1 none srcdoc" ++ (10 ∷ (codes "0 embed f1 https://a.example/ sandbox " ++ (34 ∷ (34 ∷ (10 ∷ (codes "0 embed f3 none srcdoc" ++ (10 ∷ (codes "0 embed f1 https://a.example/ sandbox " ++ (34 ∷ (codes "allow-scripts Allow-Same-Origin" ++ (34 ∷ (10 ∷ (codes "0 embed f1 data:text/html,x allow camera" ++ (10 ∷ (codes "0 policy f6 camera" ++ (10 ∷ (codes "0 policy f3 camera" ++ (10 ∷ []))))))))))))))))))))) ≡ codes "1 frame f1 doc d1 https://a.example" ++ (10 ∷ (codes "2 frame f2 doc d2 https://a.example" ++ (10 ∷ (codes "3 frame f3 doc d3 opaque:d3" ++ (10 ∷ (codes "4 frame f4 doc d4 opaque:d4" ++ (10 ∷ (codes "5 frame f5 doc d5 https://a.example" ++ (10 ∷ (codes "6 frame f6 doc d6 opaque:d6" ++ (10 ∷ (codes "7 allowed" ++ (10 ∷ (codes "8 denied default d3" ++ (10 ∷ [])))))))))))))))
unfolding output_on_literals
row_OpaqueOrigins = refl
