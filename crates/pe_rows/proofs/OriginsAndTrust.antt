-- The output text of a script, from its bytes to the bytes of the output. Written by tools/rows.
use Rattle.std.proofs.Common.{◌≡◌, [], ◌∷◌, ◌++◌, codes, refl}
use Rattle.pe_output.specs.OutputText.{output_text}
use Rattle.pe_rows.proofs.OnLiterals.{output_on_literals}

pub row_OriginsAndTrust : output_text 5000 (codes "0 open about:blank?q" ++ (10 ∷ (codes "0 embed f1 none" ++ (10 ∷ (codes "0 policy f2 camera" ++ (10 ∷ (codes "0 embed f1 data:text/html,x" ++ (10 ∷ (codes "0 policy f4 camera" ++ (10 ∷ (codes "0 use f1 get-user-media-camera" ++ (10 ∷ (codes "0 open http://a.example:8080/" ++ (10 ∷ (codes "0 embed f7 https://b.example:443/ allow camera" ++ (10 ∷ (codes "0 use f8 get-user-media-camera" ++ (10 ∷ (codes "0 open ws://127.9.9.9:80/" ++ (10 ∷ (codes "0 use f10 get-position" ++ (10 ∷ (codes "0 open blob:https://a.example/x" ++ (10 ∷ (codes "0 use f12 get-position" ++ (10 ∷ [])))))))))))))))))))))))))) ≡ codes "1 frame f1 doc d1 opaque:d1" ++ (10 ∷ (codes "2 frame f2 doc d2 opaque:d1" ++ (10 ∷ (codes "3 allowed" ++ (10 ∷ (codes "4 frame f4 doc d4 opaque:d4" ++ (10 ∷ (codes "5 denied default d4" ++ (10 ∷ (codes "6 denied permission-prompt" ++ (10 ∷ (codes "7 frame f7 doc d7 http://a.example:8080" ++ (10 ∷ (codes "8 frame f8 doc d8 https://b.example" ++ (10 ∷ (codes "9 denied insecure" ++ (10 ∷ (codes "10 frame f10 doc d10 ws://127.9.9.9" ++ (10 ∷ (codes "11 denied permission-prompt" ++ (10 ∷ (codes "12 frame f12 doc d12 opaque:d12" ++ (10 ∷ (codes "13 denied insecure" ++ (10 ∷ [])))))))))))))))))))))))))
unfolding output_on_literals
row_OriginsAndTrust = refl
