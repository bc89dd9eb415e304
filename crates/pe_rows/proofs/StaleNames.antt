-- The output text of a script, from its bytes to the bytes of the output. Written by tools/rows.
use Rattle.std.proofs.Common.{◌≡◌, [], ◌∷◌, ◌++◌, codes, refl}
use Rattle.pe_output.specs.OutputText.{output_text}
use Rattle.pe_rows.proofs.OnLiterals.{output_on_literals}

pub row_StaleNames : output_text 5000 (codes "0 open https://a.example/" ++ (10 ∷ (codes "0 embed f1 https://b.example/" ++ (10 ∷ (codes "0 close f2" ++ (10 ∷ (codes "0 nav f2 https://b.example/" ++ (10 ∷ (codes "0 attr f2 allow none" ++ (10 ∷ (codes "0 close f2" ++ (10 ∷ (codes "0 input f2 mousedown" ++ (10 ∷ (codes "0 state f2" ++ (10 ∷ (codes "0 policy f2 camera" ++ (10 ∷ (codes "0 features f2" ++ (10 ∷ (codes "0 use f2 vibrate" ++ (10 ∷ (codes "0 query f2 camera" ++ (10 ∷ (codes "0 request f2 camera" ++ (10 ∷ (codes "0 embed f2 https://b.example/" ++ (10 ∷ (codes "0 post f1 f2 * payment" ++ (10 ∷ (codes "0 post f9 f2 * payment" ++ (10 ∷ (codes "0 deliver m1" ++ (10 ∷ (codes "0 drop s1" ++ (10 ∷ (codes "0 answer p1 allow" ++ (10 ∷ (codes "0 state f3" ++ (10 ∷ (codes "0 state f9999999" ++ (10 ∷ (codes "0 state f0" ++ (10 ∷ [])))))))))))))))))))))))))))))))))))))))))))) ≡ codes "1 frame f1 doc d1 https://a.example" ++ (10 ∷ (codes "2 frame f2 doc d2 https://b.example" ++ (10 ∷ (codes "3 ok" ++ (10 ∷ (codes "4 refused closed" ++ (10 ∷ (codes "5 refused closed" ++ (10 ∷ (codes "6 refused closed" ++ (10 ∷ (codes "7 refused closed" ++ (10 ∷ (codes "8 refused closed" ++ (10 ∷ (codes "9 refused closed" ++ (10 ∷ (codes "10 refused closed" ++ (10 ∷ (codes "11 refused closed" ++ (10 ∷ (codes "12 refused closed" ++ (10 ∷ (codes "13 refused closed" ++ (10 ∷ (codes "14 refused closed" ++ (10 ∷ (codes "15 refused closed" ++ (10 ∷ (codes "16 refused unknown" ++ (10 ∷ (codes "17 refused unknown" ++ (10 ∷ (codes "18 refused unknown" ++ (10 ∷ (codes "19 refused unknown" ++ (10 ∷ (codes "20 refused unknown" ++ (10 ∷ (codes "21 refused unknown" ++ (10 ∷ (codes "22 refused syntax" ++ (10 ∷ [])))))))))))))))))))))))))))))))))))))))))))
unfolding output_on_literals
row_StaleNames = refl
