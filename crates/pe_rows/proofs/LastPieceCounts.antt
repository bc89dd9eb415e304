-- The output text of a script, from its bytes to the bytes of the output. Written by tools/rows.
use Rattle.std.proofs.Common.{◌≡◌, [], ◌∷◌, ◌++◌, codes, refl}
use Rattle.pe_output.specs.OutputText.{output_text}
use Rattle.pe_rows.proofs.OnLiterals.{output_on_literals}

pub row_LastPieceCounts : output_text 5000 (codes "0 open https://a.example/" ++ (10 ∷ (codes "0 embed f1 https://b.example/ allow " ++ (34 ∷ (codes "camera 'none'; camera" ++ (34 ∷ (10 ∷ (codes "0 policy f2 camera" ++ (10 ∷ (codes "0 attr f2 allow " ++ (34 ∷ (codes "camera 'none'" ++ (34 ∷ (10 ∷ (codes "0 nav f2 https://b.example/" ++ (10 ∷ (codes "0 policy f2 camera" ++ (10 ∷ [])))))))))))))))))) ≡ codes "1 frame f1 doc d1 https://a.example" ++ (10 ∷ (codes "2 frame f2 doc d2 https://b.example" ++ (10 ∷ (codes "3 allowed" ++ (10 ∷ (codes "4 ok" ++ (10 ∷ (codes "5 doc d5 https://b.example" ++ (10 ∷ (codes "6 denied allow d5" ++ (10 ∷ [])))))))))))
unfolding output_on_literals
row_LastPieceCounts = refl
