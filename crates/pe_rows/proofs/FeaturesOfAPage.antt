-- The output text of a script, from its bytes to the bytes of the output. Written by tools/rows.
use Rattle.std.proofs.Common.{◌≡◌, [], ◌∷◌, ◌++◌, codes, refl}
use Rattle.pe_output.specs.OutputText.{output_text}
use Rattle.pe_rows.proofs.OnLiterals.{output_on_literals}

pub row_FeaturesOfAPage : output_text 5000 (codes "0 open http://a.example/ header " ++ (34 ∷ (codes "camera=(), microphone=()" ++ (34 ∷ (10 ∷ (codes "0 features f1" ++ (10 ∷ (codes "0 use f1 fly" ++ (10 ∷ (codes "0 open nonsense" ++ (10 ∷ []))))))))))) ≡ codes "1 frame f1 doc d1 http://a.example" ++ (10 ∷ (codes "2 features accelerometer autoplay clipboard-read clipboard-write display-capture fullscreen geolocation gyroscope midi payment picture-in-picture storage-access" ++ (10 ∷ (codes "3 refused call" ++ (10 ∷ (codes "4 refused url" ++ (10 ∷ [])))))))
unfolding output_on_literals
row_FeaturesOfAPage = refl
