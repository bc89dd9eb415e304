-- The output text of a script, from its bytes to the bytes of the output. Written by tools/rows.
use Rattle.std.proofs.Common.{◌≡◌, [], ◌∷◌, ◌++◌, codes, refl}
use Rattle.pe_output.specs.OutputText.{output_text}
use Rattle.pe_rows.proofs.OnLiterals.{output_on_literals}

pub row_DeclaredOriginOfAContainer : output_text 5000 (codes "0 open https://a.example/" ++ (10 ∷ (codes "0 embed f1 https://b.example/ sandbox " ++ (34 ∷ (codes "allow-same-originx" ++ (34 ∷ (codes " allow camera" ++ (10 ∷ (codes "0 policy f2 camera" ++ (10 ∷ (codes "0 attr f2 sandbox none" ++ (10 ∷ (codes "0 nav f2 https://b.example/" ++ (10 ∷ (codes "0 policy f2 camera" ++ (10 ∷ (codes "0 attr f2 srcdoc x" ++ (10 ∷ (codes "0 nav f2 https://b.example/" ++ (10 ∷ (codes "0 policy f2 camera" ++ (10 ∷ (codes "0 attr f2 srcdoc none" ++ (10 ∷ (codes "0 attr f2 src none" ++ (10 ∷ (codes "0 nav f2 https://a.example/" ++ (10 ∷ (codes "0 policy f2 camera" ++ (10 ∷ (codes "0 attr f2 src about:blank#x" ++ (10 ∷ (codes "0 nav f2 https://b.example/" ++ (10 ∷ (codes "0 policy f2 camera" ++ (10 ∷ [])))))))))))))))))))))))))))))))))))) ≡ codes "1 frame f1 doc d1 https://a.example" ++ (10 ∷ (codes "2 frame f2 doc d2 opaque:d2" ++ (10 ∷ (codes "3 allowed" ++ (10 ∷ (codes "4 ok" ++ (10 ∷ (codes "5 doc d5 https://b.example" ++ (10 ∷ (codes "6 allowed" ++ (10 ∷ (codes "7 ok" ++ (10 ∷ (codes "8 doc d8 https://b.example" ++ (10 ∷ (codes "9 denied allow d8" ++ (10 ∷ (codes "10 ok" ++ (10 ∷ (codes "11 ok" ++ (10 ∷ (codes "12 doc d12 https://a.example" ++ (10 ∷ (codes "13 allowed" ++ (10 ∷ (codes "14 ok" ++ (10 ∷ (codes "15 doc d15 https://b.example" ++ (10 ∷ (codes "16 denied allow d15" ++ (10 ∷ [])))))))))))))))))))))))))))))))
unfolding output_on_literals
row_DeclaredOriginOfAContainer = refl
