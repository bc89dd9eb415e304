-- The output text of a script, from its bytes to the bytes of the output. Written by tools/rows.
use Rattle.std.proofs.Common.{◌≡◌, [], ◌∷◌, ◌++◌, codes, refl}
use Rattle.pe_output.specs.OutputText.{output_text}
use Rattle.pe_rows.proofs.OnLiterals.{output_on_literals}

pub row_OrderOfTheCauses : output_text 5000 (codes "10 open https://a.example/" ++ (10 ∷ (codes "5 state f9" ++ (10 ∷ (codes "10 nav f9 nonsense" ++ (10 ∷ (codes "10 close f1" ++ (10 ∷ (codes "10 nav f1 nonsense" ++ (10 ∷ (codes "10 set fly nonsense granted" ++ (10 ∷ (codes "10 set camera https://a.example https://b.example granted" ++ (10 ∷ (codes "10 query f1 fly" ++ (10 ∷ (codes "10 open https://a.example/" ++ (10 ∷ (codes "10 query f3 fly" ++ (10 ∷ (codes "10 query f3 payment" ++ (10 ∷ (codes "10 policy f3 notifications" ++ (10 ∷ (codes "10 request f3 autoplay" ++ (10 ∷ (codes "10 attr f3 src nonsense" ++ (10 ∷ (codes "10 attr f3 src none" ++ (10 ∷ (codes "10 use f3 Vibrate" ++ (10 ∷ (codes "10 embed f3 https://a.example/ at nonsense" ++ (10 ∷ (codes "10 state f4" ++ (10 ∷ [])))))))))))))))))))))))))))))))))))) ≡ codes "1 frame f1 doc d1 https://a.example" ++ (10 ∷ (codes "2 refused time-back" ++ (10 ∷ (codes "3 refused unknown" ++ (10 ∷ (codes "4 ok" ++ (10 ∷ (codes "5 refused closed" ++ (10 ∷ (codes "6 refused url" ++ (10 ∷ (codes "7 refused feature" ++ (10 ∷ (codes "8 refused closed" ++ (10 ∷ (codes "9 frame f3 doc d3 https://a.example" ++ (10 ∷ (codes "10 refused feature" ++ (10 ∷ (codes "11 refused feature" ++ (10 ∷ (codes "12 refused feature" ++ (10 ∷ (codes "13 refused feature" ++ (10 ∷ (codes "14 refused url" ++ (10 ∷ (codes "15 ok" ++ (10 ∷ (codes "16 refused call" ++ (10 ∷ (codes "17 refused url" ++ (10 ∷ (codes "18 refused unknown" ++ (10 ∷ [])))))))))))))))))))))))))))))))))))
unfolding output_on_literals
row_OrderOfTheCauses = refl
