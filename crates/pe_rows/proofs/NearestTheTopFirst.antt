-- The output text of a script, from its bytes to the bytes of the output. Written by tools/rows.
use Rattle.std.proofs.Common.{◌≡◌, [], ◌∷◌, ◌++◌, codes, refl}
use Rattle.pe_output.specs.OutputText.{output_text}
use Rattle.pe_rows.proofs.OnLiterals.{output_on_literals}

pub row_NearestTheTopFirst : output_text 5000 (codes "0 open https://a.example/" ++ (10 ∷ (codes "0 embed f1 https://b.example/ header " ++ (34 ∷ (codes "camera=()" ++ (34 ∷ (10 ∷ (codes "0 embed f2 https://c.example/" ++ (10 ∷ (codes "0 policy f3 camera" ++ (10 ∷ (codes "0 policy f3 storage-access" ++ (10 ∷ (codes "0 policy f2 camera" ++ (10 ∷ (codes "0 embed f1 https://a.example/ header " ++ (34 ∷ (codes "camera=(), midi=(self)" ++ (34 ∷ (10 ∷ (codes "0 embed f7 https://a.example/" ++ (10 ∷ (codes "0 embed f7 https://c.example/ allow midi" ++ (10 ∷ (codes "0 policy f7 camera" ++ (10 ∷ (codes "0 policy f8 camera" ++ (10 ∷ (codes "0 policy f8 midi" ++ (10 ∷ (codes "0 policy f9 midi" ++ (10 ∷ [])))))))))))))))))))))))))))))))) ≡ codes "1 frame f1 doc d1 https://a.example" ++ (10 ∷ (codes "2 frame f2 doc d2 https://b.example" ++ (10 ∷ (codes "3 frame f3 doc d3 https://c.example" ++ (10 ∷ (codes "4 denied default d2" ++ (10 ∷ (codes "5 allowed" ++ (10 ∷ (codes "6 denied default d2" ++ (10 ∷ (codes "7 frame f7 doc d7 https://a.example" ++ (10 ∷ (codes "8 frame f8 doc d8 https://a.example" ++ (10 ∷ (codes "9 frame f9 doc d9 https://c.example" ++ (10 ∷ (codes "10 denied own-header d7" ++ (10 ∷ (codes "11 denied embedder-self d7" ++ (10 ∷ (codes "12 allowed" ++ (10 ∷ (codes "13 denied embedder-header d7" ++ (10 ∷ [])))))))))))))))))))))))))
unfolding output_on_literals
row_NearestTheTopFirst = refl
