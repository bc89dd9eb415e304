-- The output text of a script, from its bytes to the bytes of the output. Written by tools/rows.
use Rattle.std.proofs.Common.{◌≡◌, [], ◌∷◌, ◌++◌, codes, refl}
use Rattle.pe_output.specs.OutputText.{output_text}
use Rattle.pe_rows.proofs.OnLiterals.{output_on_literals}

pub row_TestsOfAPost : output_text 5000 (codes "0 open https://a.example/" ++ (10 ∷ (codes "0 embed f1 https://b.example/" ++ (10 ∷ (codes "0 post f1 f2 * payment" ++ (10 ∷ (codes "0 post f2 f1 https://a.example payment" ++ (10 ∷ (codes "0 post f1 f2 https://b.example payment" ++ (10 ∷ (codes "0 post f1 f2 https://b.example camera" ++ (10 ∷ (codes "0 open https://c.example/" ++ (10 ∷ (codes "0 post f1 f6 https://c.example payment" ++ (10 ∷ (codes "0 input f1 mousedown" ++ (10 ∷ (codes "0 post f1 f2 https://x.example payment" ++ (10 ∷ (codes "0 deliver m8" ++ (10 ∷ [])))))))))))))))))))))) ≡ codes "1 frame f1 doc d1 https://a.example" ++ (10 ∷ (codes "2 frame f2 doc d2 https://b.example" ++ (10 ∷ (codes "3 denied target-any" ++ (10 ∷ (codes "4 denied default d2" ++ (10 ∷ (codes "5 denied no-transient" ++ (10 ∷ (codes "6 refused capability" ++ (10 ∷ (codes "7 frame f6 doc d6 https://c.example" ++ (10 ∷ (codes "8 refused other-page" ++ (10 ∷ (codes "9 activated 1" ++ (10 ∷ (codes "10 message m8" ++ (10 ∷ (codes "11 dropped other-origin" ++ (10 ∷ [])))))))))))))))))))))
unfolding output_on_literals
row_TestsOfAPost = refl
