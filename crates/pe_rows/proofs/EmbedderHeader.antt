-- The output text of a script, from its bytes to the bytes of the output. Written by tools/rows.
use Rattle.std.proofs.Common.{◌≡◌, [], ◌∷◌, ◌++◌, codes, refl}
use Rattle.pe_output.specs.OutputText.{output_text}
use Rattle.pe_rows.proofs.OnLiterals.{output_on_literals}

pub row_EmbedderHeader : output_text 5000 (codes "0 open https://a.example/ header " ++ (34 ∷ (codes "storage-access=(self)" ++ (34 ∷ (10 ∷ (codes "0 embed f1 https://b.example/" ++ (10 ∷ (codes "0 policy f2 storage-access" ++ (10 ∷ (codes "0 policy f1 push" ++ (10 ∷ (codes "0 policy f1 fly" ++ (10 ∷ []))))))))))))) ≡ codes "1 frame f1 doc d1 https://a.example" ++ (10 ∷ (codes "2 frame f2 doc d2 https://b.example" ++ (10 ∷ (codes "3 denied embedder-header d1" ++ (10 ∷ (codes "4 refused feature" ++ (10 ∷ (codes "5 refused feature" ++ (10 ∷ [])))))))))
unfolding output_on_literals
row_EmbedderHeader = refl
