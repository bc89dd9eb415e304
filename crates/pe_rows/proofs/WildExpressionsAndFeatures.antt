-- The output text of a script, from its bytes to the bytes of the output. Written by tools/rows.
use Rattle.std.proofs.Common.{◌≡◌, [], ◌∷◌, ◌++◌, codes, refl}
use Rattle.pe_output.specs.OutputText.{output_text}
use Rattle.pe_rows.proofs.OnLiterals.{output_on_literals}

pub row_WildExpressionsAndFeatures : output_text 5000 (codes "0 open https://a.example/" ++ (10 ∷ (codes "0 embed f1 https://x.pay.example:444/ allow " ++ (34 ∷ (codes "payment https://*.pay.example" ++ (34 ∷ (10 ∷ (codes "0 policy f2 payment" ++ (10 ∷ (codes "0 nav f2 http://x.pay.example/" ++ (10 ∷ (codes "0 policy f2 payment" ++ (10 ∷ (codes "0 nav f2 https://xpay.example/" ++ (10 ∷ (codes "0 policy f2 payment" ++ (10 ∷ (codes "0 nav f2 https://y.x.pay.example/" ++ (10 ∷ (codes "0 policy f2 payment" ++ (10 ∷ (codes "0 embed f1 https://b.example/" ++ (10 ∷ (codes "0 features f10" ++ (10 ∷ (codes "0 embed f1 https://b.example/ allow " ++ (34 ∷ (codes "picture-in-picture 'none'; storage-access 'none'" ++ (34 ∷ (10 ∷ (codes "0 features f12" ++ (10 ∷ [])))))))))))))))))))))))))))))))) ≡ codes "1 frame f1 doc d1 https://a.example" ++ (10 ∷ (codes "2 frame f2 doc d2 https://x.pay.example:444" ++ (10 ∷ (codes "3 denied allow d2" ++ (10 ∷ (codes "4 doc d4 http://x.pay.example" ++ (10 ∷ (codes "5 denied allow d4" ++ (10 ∷ (codes "6 doc d6 https://xpay.example" ++ (10 ∷ (codes "7 denied allow d6" ++ (10 ∷ (codes "8 doc d8 https://y.x.pay.example" ++ (10 ∷ (codes "9 allowed" ++ (10 ∷ (codes "10 frame f10 doc d10 https://b.example" ++ (10 ∷ (codes "11 features picture-in-picture storage-access" ++ (10 ∷ (codes "12 frame f12 doc d12 https://b.example" ++ (10 ∷ (codes "13 features" ++ (10 ∷ [])))))))))))))))))))))))))
unfolding output_on_literals
row_WildExpressionsAndFeatures = refl
