-- The output text of a script, from its bytes to the bytes of the output. Written by tools/rows.
use Rattle.std.proofs.Common.{◌≡◌, [], ◌∷◌, ◌++◌, codes, refl}
use Rattle.pe_output.specs.OutputText.{output_text}
use Rattle.pe_rows.proofs.OnLiterals.{output_on_literals}

pub row_GreatestDepth : output_text 5000 (codes "0 open https://a.example/" ++ (10 ∷ (codes "0 embed f1 https://a.example/" ++ (10 ∷ (codes "0 embed f2 https://a.example/" ++ (10 ∷ (codes "0 embed f3 https://a.example/" ++ (10 ∷ (codes "0 embed f4 https://a.example/" ++ (10 ∷ (codes "0 embed f5 https://a.example/" ++ (10 ∷ (codes "0 embed f6 https://a.example/" ++ (10 ∷ (codes "0 embed f7 https://a.example/" ++ (10 ∷ (codes "0 embed f8 https://a.example/" ++ (10 ∷ (codes "0 embed f9 https://a.example/" ++ (10 ∷ (codes "0 embed f10 https://a.example/" ++ (10 ∷ (codes "0 embed f11 https://a.example/" ++ (10 ∷ (codes "0 embed f12 https://a.example/" ++ (10 ∷ (codes "0 embed f13 https://a.example/" ++ (10 ∷ (codes "0 embed f14 https://a.example/" ++ (10 ∷ (codes "0 embed f15 https://a.example/" ++ (10 ∷ (codes "0 embed f16 https://a.example/" ++ (10 ∷ (codes "0 embed f17 https://a.example/" ++ (10 ∷ (codes "0 embed f18 https://a.example/" ++ (10 ∷ (codes "0 embed f19 https://a.example/" ++ (10 ∷ (codes "0 embed f20 https://a.example/" ++ (10 ∷ (codes "0 embed f21 https://a.example/" ++ (10 ∷ (codes "0 embed f22 https://a.example/" ++ (10 ∷ (codes "0 embed f23 https://a.example/" ++ (10 ∷ (codes "0 embed f24 https://a.example/" ++ (10 ∷ (codes "0 embed f25 https://a.example/" ++ (10 ∷ (codes "0 embed f26 https://a.example/" ++ (10 ∷ (codes "0 embed f27 https://a.example/" ++ (10 ∷ (codes "0 embed f28 https://a.example/" ++ (10 ∷ (codes "0 embed f29 https://a.example/" ++ (10 ∷ (codes "0 embed f30 https://a.example/" ++ (10 ∷ (codes "0 embed f31 https://a.example/" ++ (10 ∷ (codes "0 embed f32 https://a.example/" ++ (10 ∷ (codes "0 embed f33 https://a.example/" ++ (10 ∷ (codes "0 embed f34 https://a.example/" ++ (10 ∷ (codes "0 embed f35 https://a.example/" ++ (10 ∷ (codes "0 embed f36 https://a.example/" ++ (10 ∷ (codes "0 embed f37 https://a.example/" ++ (10 ∷ (codes "0 embed f38 https://a.example/" ++ (10 ∷ (codes "0 embed f39 https://a.example/" ++ (10 ∷ (codes "0 embed f40 https://a.example/" ++ (10 ∷ (codes "0 embed f41 https://a.example/" ++ (10 ∷ (codes "0 embed f42 https://a.example/" ++ (10 ∷ (codes "0 embed f43 https://a.example/" ++ (10 ∷ (codes "0 embed f44 https://a.example/" ++ (10 ∷ (codes "0 embed f45 https://a.example/" ++ (10 ∷ (codes "0 embed f46 https://a.example/" ++ (10 ∷ (codes "0 embed f47 https://a.example/" ++ (10 ∷ (codes "0 embed f48 https://a.example/" ++ (10 ∷ (codes "0 embed f49 https://a.example/" ++ (10 ∷ (codes "0 embed f50 https://a.example/" ++ (10 ∷ (codes "0 embed f51 https://a.example/" ++ (10 ∷ (codes "0 embed f52 https://a.example/" ++ (10 ∷ (codes "0 embed f53 https://a.example/" ++ (10 ∷ (codes "0 embed f54 https://a.example/" ++ (10 ∷ (codes "0 embed f55 https://a.example/" ++ (10 ∷ (codes "0 embed f56 https://a.example/" ++ (10 ∷ (codes "0 embed f57 https://a.example/" ++ (10 ∷ (codes "0 embed f58 https://a.example/" ++ (10 ∷ (codes "0 embed f59 https://a.example/" ++ (10 ∷ (codes "0 embed f60 https://a.example/" ++ (10 ∷ (codes "0 embed f61 https://a.example/" ++ (10 ∷ (codes "0 embed f62 https://a.example/" ++ (10 ∷ (codes "0 embed f63 https://a.example/" ++ (10 ∷ (codes "0 embed f64 https://a.example/" ++ (10 ∷ [])))))))))))))))))))))))))))))))))))))))))))))))))))))))))))))))))))))))))))))))))))))))))))))))))))))))))))))))))))))))))))))))))) ≡ codes "1 frame f1 doc d1 https://a.example" ++ (10 ∷ (codes "2 frame f2 doc d2 https://a.example" ++ (10 ∷ (codes "3 frame f3 doc d3 https://a.example" ++ (10 ∷ (codes "4 frame f4 doc d4 https://a.example" ++ (10 ∷ (codes "5 frame f5 doc d5 https://a.example" ++ (10 ∷ (codes "6 frame f6 doc d6 https://a.example" ++ (10 ∷ (codes "7 frame f7 doc d7 https://a.example" ++ (10 ∷ (codes "8 frame f8 doc d8 https://a.example" ++ (10 ∷ (codes "9 frame f9 doc d9 https://a.example" ++ (10 ∷ (codes "10 frame f10 doc d10 https://a.example" ++ (10 ∷ (codes "11 frame f11 doc d11 https://a.example" ++ (10 ∷ (codes "12 frame f12 doc d12 https://a.example" ++ (10 ∷ (codes "13 frame f13 doc d13 https://a.example" ++ (10 ∷ (codes "14 frame f14 doc d14 https://a.example" ++ (10 ∷ (codes "15 frame f15 doc d15 https://a.example" ++ (10 ∷ (codes "16 frame f16 doc d16 https://a.example" ++ (10 ∷ (codes "17 frame f17 doc d17 https://a.example" ++ (10 ∷ (codes "18 frame f18 doc d18 https://a.example" ++ (10 ∷ (codes "19 frame f19 doc d19 https://a.example" ++ (10 ∷ (codes "20 frame f20 doc d20 https://a.example" ++ (10 ∷ (codes "21 frame f21 doc d21 https://a.example" ++ (10 ∷ (codes "22 frame f22 doc d22 https://a.example" ++ (10 ∷ (codes "23 frame f23 doc d23 https://a.example" ++ (10 ∷ (codes "24 frame f24 doc d24 https://a.example" ++ (10 ∷ (codes "25 frame f25 doc d25 https://a.example" ++ (10 ∷ (codes "26 frame f26 doc d26 https://a.example" ++ (10 ∷ (codes "27 frame f27 doc d27 https://a.example" ++ (10 ∷ (codes "28 frame f28 doc d28 https://a.example" ++ (10 ∷ (codes "29 frame f29 doc d29 https://a.example" ++ (10 ∷ (codes "30 frame f30 doc d30 https://a.example" ++ (10 ∷ (codes "31 frame f31 doc d31 https://a.example" ++ (10 ∷ (codes "32 frame f32 doc d32 https://a.example" ++ (10 ∷ (codes "33 frame f33 doc d33 https://a.example" ++ (10 ∷ (codes "34 frame f34 doc d34 https://a.example" ++ (10 ∷ (codes "35 frame f35 doc d35 https://a.example" ++ (10 ∷ (codes "36 frame f36 doc d36 https://a.example" ++ (10 ∷ (codes "37 frame f37 doc d37 https://a.example" ++ (10 ∷ (codes "38 frame f38 doc d38 https://a.example" ++ (10 ∷ (codes "39 frame f39 doc d39 https://a.example" ++ (10 ∷ (codes "40 frame f40 doc d40 https://a.example" ++ (10 ∷ (codes "41 frame f41 doc d41 https://a.example" ++ (10 ∷ (codes "42 frame f42 doc d42 https://a.example" ++ (10 ∷ (codes "43 frame f43 doc d43 https://a.example" ++ (10 ∷ (codes "44 frame f44 doc d44 https://a.example" ++ (10 ∷ (codes "45 frame f45 doc d45 https://a.example" ++ (10 ∷ (codes "46 frame f46 doc d46 https://a.example" ++ (10 ∷ (codes "47 frame f47 doc d47 https://a.example" ++ (10 ∷ (codes "48 frame f48 doc d48 https://a.example" ++ (10 ∷ (codes "49 frame f49 doc d49 https://a.example" ++ (10 ∷ (codes "50 frame f50 doc d50 https://a.example" ++ (10 ∷ (codes "51 frame f51 doc d51 https://a.example" ++ (10 ∷ (codes "52 frame f52 doc d52 https://a.example" ++ (10 ∷ (codes "53 frame f53 doc d53 https://a.example" ++ (10 ∷ (codes "54 frame f54 doc d54 https://a.example" ++ (10 ∷ (codes "55 frame f55 doc d55 https://a.example" ++ (10 ∷ (codes "56 frame f56 doc d56 https://a.example" ++ (10 ∷ (codes "57 frame f57 doc d57 https://a.example" ++ (10 ∷ (codes "58 frame f58 doc d58 https://a.example" ++ (10 ∷ (codes "59 frame f59 doc d59 https://a.example" ++ (10 ∷ (codes "60 frame f60 doc d60 https://a.example" ++ (10 ∷ (codes "61 frame f61 doc d61 https://a.example" ++ (10 ∷ (codes "62 frame f62 doc d62 https://a.example" ++ (10 ∷ (codes "63 frame f63 doc d63 https://a.example" ++ (10 ∷ (codes "64 frame f64 doc d64 https://a.example" ++ (10 ∷ (codes "65 refused limit-depth" ++ (10 ∷ [])))))))))))))))))))))))))))))))))))))))))))))))))))))))))))))))))))))))))))))))))))))))))))))))))))))))))))))))))))))))))))))))))
unfolding output_on_literals
row_GreatestDepth = refl
