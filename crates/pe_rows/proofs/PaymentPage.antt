-- The output text of a script, from its bytes to the bytes of the output. Written by tools/rows.
use Rattle.std.proofs.Common.{◌≡◌, [], ◌∷◌, ◌++◌, codes, refl}
use Rattle.pe_output.specs.OutputText.{output_text}
use Rattle.pe_rows.proofs.OnLiterals.{output_on_literals}

pub row_PaymentPage : output_text 5000 (codes "0 open https://shop.example/ header " ++ (34 ∷ (codes "payment=(self " ++ (92 ∷ (34 ∷ (codes "https://pay.example" ++ (92 ∷ (34 ∷ (codes "), camera=()" ++ (34 ∷ (10 ∷ (codes "100 embed f1 https://pay.example/checkout allow " ++ (34 ∷ (codes "payment 'src'; fullscreen" ++ (34 ∷ (10 ∷ (codes "120 embed f1 https://ads.example/banner sandbox " ++ (34 ∷ (codes "allow-scripts" ++ (34 ∷ (10 ∷ (codes "2000 input f1 mousedown" ++ (10 ∷ (codes "2010 post f1 f2 https://pay.example payment" ++ (10 ∷ (codes "2015 deliver m5" ++ (10 ∷ (codes "2020 use f2 show-payment" ++ (10 ∷ (codes "2030 use f3 get-user-media-camera" ++ (10 ∷ []))))))))))))))))))))))))))))))) ≡ codes "1 frame f1 doc d1 https://shop.example" ++ (10 ∷ (codes "2 frame f2 doc d2 https://pay.example" ++ (10 ∷ (codes "3 frame f3 doc d3 opaque:d3" ++ (10 ∷ (codes "4 activated 1" ++ (10 ∷ (codes "5 message m5" ++ (10 ∷ (codes "6 delivered" ++ (10 ∷ (codes "7 allowed" ++ (10 ∷ (codes "8 denied embedder-self d1" ++ (10 ∷ [])))))))))))))))
unfolding output_on_literals
row_PaymentPage = refl
