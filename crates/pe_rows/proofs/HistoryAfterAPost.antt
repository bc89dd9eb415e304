-- The output text of a script, from its bytes to the bytes of the output. Written by tools/rows.
use Rattle.std.proofs.Common.{◌≡◌, [], ◌∷◌, ◌++◌, codes, refl}
use Rattle.pe_output.specs.OutputText.{output_text}
use Rattle.pe_rows.proofs.OnLiterals.{output_on_literals}

pub row_HistoryAfterAPost : output_text 5000 (codes "0 open https://a.example/" ++ (10 ∷ (codes "0 embed f1 https://b.example/" ++ (10 ∷ (codes "1 input f2 mousedown" ++ (10 ∷ (codes "1 history f1" ++ (10 ∷ (codes "1 history f2" ++ (10 ∷ (codes "1 post f1 f2 https://b.example payment" ++ (10 ∷ (codes "1 history f2" ++ (10 ∷ (codes "1 history f1" ++ (10 ∷ (codes "1 post f1 f2 https://b.example payment" ++ (10 ∷ (codes "1 history f2" ++ (10 ∷ [])))))))))))))))))))) ≡ codes "1 frame f1 doc d1 https://a.example" ++ (10 ∷ (codes "2 frame f2 doc d2 https://b.example" ++ (10 ∷ (codes "3 activated 2" ++ (10 ∷ (codes "4 allowed" ++ (10 ∷ (codes "5 denied no-history" ++ (10 ∷ (codes "6 message m6" ++ (10 ∷ (codes "7 allowed" ++ (10 ∷ (codes "8 denied no-history" ++ (10 ∷ (codes "9 denied no-transient" ++ (10 ∷ (codes "10 denied no-history" ++ (10 ∷ [])))))))))))))))))))
unfolding output_on_literals
row_HistoryAfterAPost = refl
