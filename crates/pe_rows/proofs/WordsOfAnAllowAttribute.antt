-- The output text of a script, from its bytes to the bytes of the output. Written by tools/rows.
use Rattle.std.proofs.Common.{◌≡◌, [], ◌∷◌, ◌++◌, codes, refl}
use Rattle.pe_output.specs.OutputText.{output_text}
use Rattle.pe_rows.proofs.OnLiterals.{output_on_literals}

pub row_WordsOfAnAllowAttribute : output_text 5000 (codes "0 open https://a.example/" ++ (10 ∷ (codes "0 embed f1 https://b.example/ allow " ++ (34 ∷ (codes "; camera 'SELF' HTTPS://C.example/x; Midi *; midi 'NONE' 'Src'; payment 'self'; autoplay nonsense" ++ (34 ∷ (codes " fullscreen" ++ (10 ∷ (codes "0 policy f2 camera" ++ (10 ∷ (codes "0 policy f2 midi" ++ (10 ∷ (codes "0 policy f2 payment" ++ (10 ∷ (codes "0 policy f2 autoplay" ++ (10 ∷ (codes "0 policy f2 fullscreen" ++ (10 ∷ (codes "0 nav f2 https://c.example/" ++ (10 ∷ (codes "0 policy f2 camera" ++ (10 ∷ (codes "0 policy f2 midi" ++ (10 ∷ (codes "0 attr f2 allow " ++ (34 ∷ (codes "fullscreen 'none'" ++ (34 ∷ (10 ∷ (codes "0 nav f2 https://a.example/" ++ (10 ∷ (codes "0 policy f2 fullscreen" ++ (10 ∷ (codes "0 policy f2 camera" ++ (10 ∷ []))))))))))))))))))))))))))))))))))) ≡ codes "1 frame f1 doc d1 https://a.example" ++ (10 ∷ (codes "2 frame f2 doc d2 https://b.example" ++ (10 ∷ (codes "3 denied allow d2" ++ (10 ∷ (codes "4 allowed" ++ (10 ∷ (codes "5 denied allow d2" ++ (10 ∷ (codes "6 denied allow d2" ++ (10 ∷ (codes "7 allowed" ++ (10 ∷ (codes "8 doc d8 https://c.example" ++ (10 ∷ (codes "9 allowed" ++ (10 ∷ (codes "10 denied allow d8" ++ (10 ∷ (codes "11 ok" ++ (10 ∷ (codes "12 doc d12 https://a.example" ++ (10 ∷ (codes "13 denied allow d12" ++ (10 ∷ (codes "14 allowed" ++ (10 ∷ [])))))))))))))))))))))))))))
unfolding output_on_literals
row_WordsOfAnAllowAttribute = refl
