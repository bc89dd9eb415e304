-- The output text of a script, from its bytes to the bytes of the output. Written by tools/rows.
use Rattle.std.proofs.Common.{◌≡◌, [], ◌∷◌, ◌++◌, codes, refl}
use Rattle.pe_output.specs.OutputText.{output_text}
use Rattle.pe_rows.proofs.OnLiterals.{output_on_literals}

pub row_HistoryAtTheMillisecondOfTheSecondStamp : output_text 5000 (codes "0 open https://a.example/" ++ (10 ∷ (codes "5 input f1 mousedown" ++ (10 ∷ (codes "5 history f1" ++ (10 ∷ (codes "5 use f1 open-window" ++ (10 ∷ (codes "5 input f1 mousedown" ++ (10 ∷ (codes "5 history f1" ++ (10 ∷ [])))))))))))) ≡ codes "1 frame f1 doc d1 https://a.example" ++ (10 ∷ (codes "2 activated 1" ++ (10 ∷ (codes "3 allowed" ++ (10 ∷ (codes "4 allowed" ++ (10 ∷ (codes "5 activated 1" ++ (10 ∷ (codes "6 denied no-history" ++ (10 ∷ [])))))))))))
unfolding output_on_literals
row_HistoryAtTheMillisecondOfTheSecondStamp = refl
