-- The output text of a script, from its bytes to the bytes of the output. Written by tools/rows.
use Rattle.std.proofs.Common.{◌≡◌, [], ◌∷◌, ◌++◌, codes, refl}
use Rattle.pe_output.specs.OutputText.{output_text}
use Rattle.pe_rows.proofs.OnLiterals.{output_on_literals}

pub row_HistoryAfterConsuming : output_text 5000 (codes "0 open https://a.example/" ++ (10 ∷ (codes "0 embed f1 https://b.example/" ++ (10 ∷ (codes "1 use f1 open-window" ++ (10 ∷ (codes "1 input f1 mousedown" ++ (10 ∷ (codes "1 history f1" ++ (10 ∷ (codes "1 use f1 open-window" ++ (10 ∷ (codes "1 history f2" ++ (10 ∷ (codes "1 history f1" ++ (10 ∷ (codes "1 history f1" ++ (10 ∷ (codes "1 use f1 open-window" ++ (10 ∷ (codes "1 state f1" ++ (10 ∷ [])))))))))))))))))))))) ≡ codes "1 frame f1 doc d1 https://a.example" ++ (10 ∷ (codes "2 frame f2 doc d2 https://b.example" ++ (10 ∷ (codes "3 denied no-transient" ++ (10 ∷ (codes "4 activated 1" ++ (10 ∷ (codes "5 allowed" ++ (10 ∷ (codes "6 allowed" ++ (10 ∷ (codes "7 denied no-history" ++ (10 ∷ (codes "8 allowed" ++ (10 ∷ (codes "9 denied no-history" ++ (10 ∷ (codes "10 denied no-transient" ++ (10 ∷ (codes "11 sticky yes transient no" ++ (10 ∷ [])))))))))))))))))))))
unfolding output_on_literals
row_HistoryAfterConsuming = refl
