-- The output text of a script, from its bytes to the bytes of the output. Written by tools/rows.
use Rattle.std.proofs.Common.{◌≡◌, [], ◌∷◌, ◌++◌, codes, refl}
use Rattle.pe_output.specs.OutputText.{output_text}
use Rattle.pe_rows.proofs.OnLiterals.{output_on_literals}

pub row_PairKeys : output_text 5000 (codes "0 open https://a.example/" ++ (10 ∷ (codes "0 embed f1 https://b.example/" ++ (10 ∷ (codes "0 set storage-access https://a.example https://b.example granted" ++ (10 ∷ (codes "0 set storage-access https://a.example granted" ++ (10 ∷ (codes "0 set camera data:x granted" ++ (10 ∷ (codes "0 set payment https://a.example granted" ++ (10 ∷ (codes "0 input f2 pointerup-touch" ++ (10 ∷ (codes "0 use f2 request-storage-access" ++ (10 ∷ (codes "0 request f1 storage-access" ++ (10 ∷ [])))))))))))))))))) ≡ codes "1 frame f1 doc d1 https://a.example" ++ (10 ∷ (codes "2 frame f2 doc d2 https://b.example" ++ (10 ∷ (codes "3 ok" ++ (10 ∷ (codes "4 refused feature" ++ (10 ∷ (codes "5 refused url" ++ (10 ∷ (codes "6 refused feature" ++ (10 ∷ (codes "7 activated 2" ++ (10 ∷ (codes "8 allowed" ++ (10 ∷ (codes "9 prompt p6" ++ (10 ∷ [])))))))))))))))))
unfolding output_on_literals
row_PairKeys = refl
