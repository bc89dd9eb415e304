-- The output text of a script, from its bytes to the bytes of the output. Written by tools/rows.
use Rattle.std.proofs.Common.{◌≡◌, [], ◌∷◌, ◌++◌, codes, refl}
use Rattle.pe_output.specs.OutputText.{output_text}
use Rattle.pe_rows.proofs.OnLiterals.{output_on_literals}

pub row_HeadersJoinedAndUndeclared : output_text 5000 (codes "0 open https://a.example/ header " ++ (34 ∷ (codes "camera=(self)" ++ (34 ∷ (codes " header " ++ (34 ∷ (codes "midi=()" ++ (34 ∷ (10 ∷ (codes "0 embed f1 https://b.example/" ++ (10 ∷ (codes "0 policy f2 camera" ++ (10 ∷ (codes "0 policy f1 camera" ++ (10 ∷ (codes "0 policy f1 midi" ++ (10 ∷ (codes "0 nav f1 https://a.example/ header " ++ (34 ∷ (codes "camera=1, midi=*;x, geolocation=" ++ (92 ∷ (34 ∷ (codes "nonsense" ++ (92 ∷ (34 ∷ (codes ", notifications=()" ++ (34 ∷ (10 ∷ (codes "0 policy f1 camera" ++ (10 ∷ (codes "0 policy f1 midi" ++ (10 ∷ (codes "0 policy f1 geolocation" ++ (10 ∷ (codes "0 nav f1 https://a.example/ header " ++ (34 ∷ (codes "camera=()" ++ (34 ∷ (codes " header " ++ (34 ∷ (34 ∷ (10 ∷ (codes "0 policy f1 camera" ++ (10 ∷ (codes "0 query f1 notifications" ++ (10 ∷ [])))))))))))))))))))))))))))))))))))))))))))))) ≡ codes "1 frame f1 doc d1 https://a.example" ++ (10 ∷ (codes "2 frame f2 doc d2 https://b.example" ++ (10 ∷ (codes "3 denied embedder-header d1" ++ (10 ∷ (codes "4 allowed" ++ (10 ∷ (codes "5 denied own-header d1" ++ (10 ∷ (codes "6 doc d6 https://a.example" ++ (10 ∷ (codes "7 allowed" ++ (10 ∷ (codes "8 allowed" ++ (10 ∷ (codes "9 denied own-header d6" ++ (10 ∷ (codes "10 doc d10 https://a.example" ++ (10 ∷ (codes "11 allowed" ++ (10 ∷ (codes "12 status s12 prompt" ++ (10 ∷ [])))))))))))))))))))))))
unfolding output_on_literals
row_HeadersJoinedAndUndeclared = refl
