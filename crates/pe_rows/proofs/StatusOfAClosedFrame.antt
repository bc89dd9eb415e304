-- The output text of a script, from its bytes to the bytes of the output. Written by tools/rows.
use Rattle.std.proofs.Common.{◌≡◌, [], ◌∷◌, ◌++◌, codes, refl}
use Rattle.pe_output.specs.OutputText.{output_text}
use Rattle.pe_rows.proofs.OnLiterals.{output_on_literals}

pub row_StatusOfAClosedFrame : output_text 5000 (codes "0 open https://a.example/" ++ (10 ∷ (codes "0 embed f1 https://b.example/" ++ (10 ∷ (codes "0 query f2 storage-access" ++ (10 ∷ (codes "0 close f2" ++ (10 ∷ (codes "0 embed f1 https://b.example/" ++ (10 ∷ (codes "0 set storage-access https://a.example https://b.example granted" ++ (10 ∷ (codes "0 query f5 storage-access" ++ (10 ∷ [])))))))))))))) ≡ codes "1 frame f1 doc d1 https://a.example" ++ (10 ∷ (codes "2 frame f2 doc d2 https://b.example" ++ (10 ∷ (codes "3 status s3 prompt" ++ (10 ∷ (codes "4 ok" ++ (10 ∷ (codes "5 frame f5 doc d5 https://b.example" ++ (10 ∷ (codes "6 ok" ++ (10 ∷ (codes "7 status s7 granted" ++ (10 ∷ [])))))))))))))
unfolding output_on_literals
row_StatusOfAClosedFrame = refl
