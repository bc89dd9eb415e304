-- The output text of a script, from its bytes to the bytes of the output. Written by tools/rows.
use Rattle.std.proofs.Common.{◌≡◌, [], ◌∷◌, ◌++◌, codes, refl}
use Rattle.pe_output.specs.OutputText.{output_text}
use Rattle.pe_rows.proofs.OnLiterals.{output_on_literals}

pub row_OrderOfTheTestsOfAPost : output_text 5000 (codes "0 open https://a.example/" ++ (10 ∷ (codes "0 embed f1 https://b.example/" ++ (10 ∷ (codes "0 open https://c.example/" ++ (10 ∷ (codes "0 input f2 mousedown" ++ (10 ∷ (codes "0 post f2 f1 * payment" ++ (10 ∷ (codes "0 post f2 f1 https://a.example payment" ++ (10 ∷ (codes "0 state f2" ++ (10 ∷ (codes "0 post f1 f3 data:x camera" ++ (10 ∷ (codes "0 post f1 f3 https://c.example camera" ++ (10 ∷ (codes "0 post f1 f3 https://c.example payment" ++ (10 ∷ (codes "0 post f1 f2 " ++ (34 ∷ (codes "*" ++ (34 ∷ (codes " payment" ++ (10 ∷ (codes "0 post f1 f1 https://a.example/path payment" ++ (10 ∷ (codes "0 state f2" ++ (10 ∷ (codes "0 deliver m8" ++ (10 ∷ (codes "0 use f1 show-payment" ++ (10 ∷ [])))))))))))))))))))))))))))))))))) ≡ codes "1 frame f1 doc d1 https://a.example" ++ (10 ∷ (codes "2 frame f2 doc d2 https://b.example" ++ (10 ∷ (codes "3 frame f3 doc d3 https://c.example" ++ (10 ∷ (codes "4 activated 2" ++ (10 ∷ (codes "5 denied target-any" ++ (10 ∷ (codes "6 denied default d2" ++ (10 ∷ (codes "7 sticky yes transient yes" ++ (10 ∷ (codes "8 refused url" ++ (10 ∷ (codes "9 refused capability" ++ (10 ∷ (codes "10 refused other-page" ++ (10 ∷ (codes "11 refused url" ++ (10 ∷ (codes "12 message m8" ++ (10 ∷ (codes "13 sticky yes transient no" ++ (10 ∷ (codes "14 delivered" ++ (10 ∷ (codes "15 allowed" ++ (10 ∷ [])))))))))))))))))))))))))))))
unfolding output_on_literals
row_OrderOfTheTestsOfAPost = refl
