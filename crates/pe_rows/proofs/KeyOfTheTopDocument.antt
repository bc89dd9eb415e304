-- The output text of a script, from its bytes to the bytes of the output. Written by tools/rows.
use Rattle.std.proofs.Common.{◌≡◌, [], ◌∷◌, ◌++◌, codes, refl}
use Rattle.pe_output.specs.OutputText.{output_text}
use Rattle.pe_rows.proofs.OnLiterals.{output_on_literals}

pub row_KeyOfTheTopDocument : output_text 5000 (codes "0 open https://a.example/" ++ (10 ∷ (codes "0 embed f1 https://b.example/ allow camera" ++ (10 ∷ (codes "0 embed f1 https://b.example/" ++ (10 ∷ (codes "0 set camera https://b.example denied" ++ (10 ∷ (codes "0 query f2 camera" ++ (10 ∷ (codes "1 set camera https://a.example granted" ++ (10 ∷ (codes "2 query f3 camera" ++ (10 ∷ (codes "2 use f2 get-user-media-camera" ++ (10 ∷ (codes "2 use f3 get-user-media-camera" ++ (10 ∷ (codes "2 open http://a.example/" ++ (10 ∷ (codes "2 query f10 camera" ++ (10 ∷ (codes "2 request f10 camera" ++ (10 ∷ [])))))))))))))))))))))))) ≡ codes "1 frame f1 doc d1 https://a.example" ++ (10 ∷ (codes "2 frame f2 doc d2 https://b.example" ++ (10 ∷ (codes "3 frame f3 doc d3 https://b.example" ++ (10 ∷ (codes "4 ok" ++ (10 ∷ (codes "5 status s5 prompt" ++ (10 ∷ (codes "6 ok" ++ (10 ∷ (codes "@1 s5 granted" ++ (10 ∷ (codes "7 status s7 denied" ++ (10 ∷ (codes "8 allowed" ++ (10 ∷ (codes "9 denied default d3" ++ (10 ∷ (codes "10 frame f10 doc d10 http://a.example" ++ (10 ∷ (codes "11 status s11 denied" ++ (10 ∷ (codes "12 denied" ++ (10 ∷ [])))))))))))))))))))))))))
unfolding output_on_literals
row_KeyOfTheTopDocument = refl
