-- The bytes of a row that is proved by hand: its script and its output. Written by tools/rows.
use Rattle.std.specs.Prelude.{ℕ, List, [], ◌∷◌, ◌++◌, codes}

-- the script
unfoldable pub script : List ℕ
script = codes "0 open https://a.example/" ++ (10 ∷ (codes "0 embed f1 https://b.example/" ++ (10 ∷ (codes "0 embed f1 https://b.example/" ++ (10 ∷ (codes "0 embed f1 https://b.example/" ++ (10 ∷ (codes "0 embed f1 https://b.example/" ++ (10 ∷ (codes "0 embed f1 https://b.example/" ++ (10 ∷ (codes "0 embed f1 https://b.example/" ++ (10 ∷ (codes "0 embed f1 https://b.example/" ++ (10 ∷ (codes "0 embed f1 https://b.example/" ++ (10 ∷ (codes "0 embed f1 https://b.example/" ++ (10 ∷ (codes "0 embed f1 https://b.example/" ++ (10 ∷ (codes "0 embed f1 https://b.example/" ++ (10 ∷ (codes "0 embed f1 https://b.example/" ++ (10 ∷ (codes "0 embed f1 https://b.example/" ++ (10 ∷ (codes "0 embed f1 https://b.example/" ++ (10 ∷ (codes "0 embed f1 https://b.example/" ++ (10 ∷ (codes "0 embed f1 https://b.example/" ++ (10 ∷ (codes "0 embed f1 https://b.example/" ++ (10 ∷ (codes "0 embed f1 https://b.example/" ++ (10 ∷ (codes "0 embed f1 https://b.example/" ++ (10 ∷ (codes "0 embed f1 https://b.example/" ++ (10 ∷ (codes "0 embed f1 https://b.example/" ++ (10 ∷ (codes "0 embed f1 https://b.example/" ++ (10 ∷ (codes "0 embed f1 https://b.example/" ++ (10 ∷ (codes "0 embed f1 https://b.example/" ++ (10 ∷ (codes "0 embed f1 https://b.example/" ++ (10 ∷ (codes "0 embed f1 https://b.example/" ++ (10 ∷ (codes "0 embed f1 https://b.example/" ++ (10 ∷ (codes "0 embed f1 https://b.example/" ++ (10 ∷ (codes "0 embed f1 https://b.example/" ++ (10 ∷ (codes "0 embed f1 https://b.example/" ++ (10 ∷ (codes "0 embed f1 https://b.example/" ++ (10 ∷ (codes "0 embed f1 https://b.example/" ++ (10 ∷ (codes "0 embed f1 https://b.example/" ++ (10 ∷ (codes "0 embed f1 https://b.example/" ++ (10 ∷ (codes "0 embed f1 https://b.example/" ++ (10 ∷ (codes "0 embed f1 https://b.example/" ++ (10 ∷ (codes "0 embed f1 https://b.example/" ++ (10 ∷ (codes "0 embed f1 https://b.example/" ++ (10 ∷ (codes "0 embed f1 https://b.example/" ++ (10 ∷ (codes "0 embed f1 https://b.example/" ++ (10 ∷ (codes "0 embed f1 https://b.example/" ++ (10 ∷ (codes "0 embed f1 https://b.example/" ++ (10 ∷ (codes "0 embed f1 https://b.example/" ++ (10 ∷ (codes "0 embed f1 https://b.example/" ++ (10 ∷ (codes "0 embed f1 https://b.example/" ++ (10 ∷ (codes "0 embed f1 https://b.example/" ++ (10 ∷ (codes "0 embed f1 https://b.example/" ++ (10 ∷ (codes "0 embed f1 https://b.example/" ++ (10 ∷ (codes "0 embed f1 https://b.example/" ++ (10 ∷ (codes "0 embed f1 https://b.example/" ++ (10 ∷ (codes "0 embed f1 https://b.example/" ++ (10 ∷ (codes "0 embed f1 https://b.example/" ++ (10 ∷ (codes "0 embed f1 https://b.example/" ++ (10 ∷ (codes "0 embed f1 https://b.example/" ++ (10 ∷ (codes "0 embed f1 https://b.example/" ++ (10 ∷ (codes "0 embed f1 https://b.example/" ++ (10 ∷ (codes "0 embed f1 https://b.example/" ++ (10 ∷ (codes "0 embed f1 https://b.example/" ++ (10 ∷ (codes "0 embed f1 https://b.example/" ++ (10 ∷ (codes "0 embed f1 https://b.example/" ++ (10 ∷ (codes "0 embed f1 https://b.example/" ++ (10 ∷ (codes "0 embed f1 https://b.example/" ++ (10 ∷ (codes "0 embed f1 https://b.example/" ++ (10 ∷ (codes "0 embed f1 https://b.example/" ++ (10 ∷ (codes "0 embed f1 https://b.example/" ++ (10 ∷ (codes "0 embed f1 https://b.example/" ++ (10 ∷ (codes "0 embed f1 https://b.example/" ++ (10 ∷ (codes "0 embed f1 https://b.example/" ++ (10 ∷ (codes "0 embed f1 https://b.example/" ++ (10 ∷ (codes "0 embed f1 https://b.example/" ++ (10 ∷ (codes "0 embed f1 https://b.example/" ++ (10 ∷ (codes "0 embed f1 https://b.example/" ++ (10 ∷ (codes "0 embed f1 https://b.example/" ++ (10 ∷ (codes "0 embed f1 https://b.example/" ++ (10 ∷ (codes "0 embed f1 https://b.example/" ++ (10 ∷ (codes "0 embed f1 https://b.example/" ++ (10 ∷ (codes "0 embed f1 https://b.example/" ++ (10 ∷ (codes "0 embed f1 https://b.example/" ++ (10 ∷ (codes "0 embed f1 https://b.example/" ++ (10 ∷ (codes "0 embed f1 https://b.example/" ++ (10 ∷ (codes "0 embed f1 https://b.example/" ++ (10 ∷ (codes "0 embed f1 https://b.example/" ++ (10 ∷ (codes "0 embed f1 https://b.example/" ++ (10 ∷ (codes "0 embed f1 https://b.example/" ++ (10 ∷ (codes "0 embed f1 https://b.example/" ++ (10 ∷ (codes "0 embed f1 https://b.example/" ++ (10 ∷ (codes "0 embed f1 https://b.example/" ++ (10 ∷ (codes "0 embed f1 https://b.example/" ++ (10 ∷ (codes "0 embed f1 https://b.example/" ++ (10 ∷ (codes "0 embed f1 https://b.example/" ++ (10 ∷ (codes "0 embed f1 https://b.example/" ++ (10 ∷ (codes "0 embed f1 https://b.example/" ++ (10 ∷ (codes "0 embed f1 https://b.example/" ++ (10 ∷ (codes "0 embed f1 https://b.example/" ++ (10 ∷ (codes "0 embed f1 https://b.example/" ++ (10 ∷ (codes "0 embed f1 https://b.example/" ++ (10 ∷ (codes "0 embed f1 https://b.example/" ++ (10 ∷ (codes "0 embed f1 https://b.example/" ++ (10 ∷ (codes "0 embed f1 https://b.example/" ++ (10 ∷ (codes "0 embed f1 https://b.example/" ++ (10 ∷ (codes "0 embed f1 https://b.example/" ++ (10 ∷ (codes "0 embed f1 https://b.example/" ++ (10 ∷ (codes "0 embed f1 https://b.example/" ++ (10 ∷ (codes "0 embed f1 https://b.example/" ++ (10 ∷ (codes "0 embed f1 https://b.example/" ++ (10 ∷ (codes "0 embed f1 https://b.example/" ++ (10 ∷ (codes "0 embed f1 https://b.example/" ++ (10 ∷ (codes "0 embed f1 https://b.example/" ++ (10 ∷ (codes "0 embed f1 https://b.example/" ++ (10 ∷ (codes "0 embed f1 https://b.example/" ++ (10 ∷ (codes "0 embed f1 https://b.example/" ++ (10 ∷ (codes "0 embed f1 https://b.example/" ++ (10 ∷ (codes "0 embed f1 https://b.example/" ++ (10 ∷ (codes "0 embed f1 https://b.example/" ++ (10 ∷ (codes "0 embed f1 https://b.example/" ++ (10 ∷ (codes "0 embed f1 https://b.example/" ++ (10 ∷ (codes "0 embed f1 https://b.example/" ++ (10 ∷ (codes "0 embed f1 https://b.example/" ++ (10 ∷ (codes "0 embed f1 https://b.example/" ++ (10 ∷ (codes "0 embed f1 https://b.example/" ++ (10 ∷ (codes "0 embed f1 https://b.example/" ++ (10 ∷ (codes "0 embed f1 https://b.example/" ++ (10 ∷ (codes "0 embed f1 https://b.example/" ++ (10 ∷ (codes "0 embed f1 https://b.example/" ++ (10 ∷ (codes "0 embed f1 https://b.example/" ++ (10 ∷ (codes "0 embed f1 https://b.example/" ++ (10 ∷ (codes "0 embed f1 https://b.example/" ++ (10 ∷ (codes "0 embed f1 https://b.example/" ++ (10 ∷ (codes "0 embed f1 https://b.example/" ++ (10 ∷ (codes "0 embed f1 https://b.example/" ++ (10 ∷ (codes "0 embed f1 https://b.example/" ++ (10 ∷ (codes "0 embed f1 https://b.example/" ++ (10 ∷ (codes "0 embed f1 https://b.example/" ++ (10 ∷ (codes "0 embed f1 https://b.example/" ++ (10 ∷ (codes "0 embed f1 https://b.example/" ++ (10 ∷ (codes "0 embed f1 https://b.example/" ++ (10 ∷ (codes "0 embed f1 https://b.example/" ++ (10 ∷ (codes "0 embed f1 https://b.example/" ++ (10 ∷ (codes "0 embed f1 https://b.example/" ++ (10 ∷ (codes "0 embed f1 https://b.example/" ++ (10 ∷ (codes "0 embed f1 https://b.example/" ++ (10 ∷ (codes "0 embed f1 https://b.example/" ++ (10 ∷ (codes "0 embed f1 https://b.example/" ++ (10 ∷ (codes "0 embed f1 https://b.example/" ++ (10 ∷ (codes "0 embed f1 https://b.example/" ++ (10 ∷ (codes "0 embed f1 https://b.example/" ++ (10 ∷ (codes "0 embed f1 https://b.example/" ++ (10 ∷ (codes "0 embed f1 https://b.example/" ++ (10 ∷ (codes "0 embed f1 https://b.example/" ++ (10 ∷ (codes "0 embed f1 https://b.example/" ++ (10 ∷ (codes "0 embed f1 https://b.example/" ++ (10 ∷ (codes "0 embed f1 https://b.example/" ++ (10 ∷ (codes "0 embed f1 https://b.example/" ++ (10 ∷ (codes "0 embed f1 https://b.example/" ++ (10 ∷ (codes "0 embed f1 https://b.example/" ++ (10 ∷ (codes "0 embed f1 https://b.example/" ++ (10 ∷ (codes "0 embed f1 https://b.example/" ++ (10 ∷ (codes "0 embed f1 https://b.example/" ++ (10 ∷ (codes "0 embed f1 https://b.example/" ++ (10 ∷ (codes "0 embed f1 https://b.example/" ++ (10 ∷ (codes "0 embed f1 https://b.example/" ++ (10 ∷ (codes "0 embed f1 https://b.example/" ++ (10 ∷ (codes "0 embed f1 https://b.example/" ++ (10 ∷ (codes "0 embed f1 https://b.example/" ++ (10 ∷ (codes "0 embed f1 https://b.example/" ++ (10 ∷ (codes "0 embed f1 https://b.example/" ++ (10 ∷ (codes "0 embed f1 https://b.example/" ++ (10 ∷ (codes "0 embed f1 https://b.example/" ++ (10 ∷ (codes "0 embed f1 https://b.example/" ++ (10 ∷ (codes "0 embed f1 https://b.example/" ++ (10 ∷ (codes "0 embed f1 https://b.example/" ++ (10 ∷ (codes "0 embed f1 https://b.example/" ++ (10 ∷ (codes "0 embed f1 https://b.example/" ++ (10 ∷ (codes "0 embed f1 https://b.example/" ++ (10 ∷ (codes "0 embed f1 https://b.example/" ++ (10 ∷ (codes "0 embed f1 https://b.example/" ++ (10 ∷ (codes "0 embed f1 https://b.example/" ++ (10 ∷ (codes "0 embed f1 https://b.example/" ++ (10 ∷ (codes "0 embed f1 https://b.example/" ++ (10 ∷ (codes "0 embed f1 https://b.example/" ++ (10 ∷ (codes "0 embed f1 https://b.example/" ++ (10 ∷ (codes "0 embed f1 https://b.example/" ++ (10 ∷ (codes "0 embed f1 https://b.example/" ++ (10 ∷ (codes "0 embed f1 https://b.example/" ++ (10 ∷ (codes "0 embed f1 https://b.example/" ++ (10 ∷ (codes "0 embed f1 https://b.example/" ++ (10 ∷ (codes "0 embed f1 https://b.example/" ++ (10 ∷ (codes "0 embed f1 https://b.example/" ++ (10 ∷ (codes "0 embed f1 https://b.example/" ++ (10 ∷ (codes "0 embed f1 https://b.example/" ++ (10 ∷ (codes "0 embed f1 https://b.example/" ++ (10 ∷ (codes "0 embed f1 https://b.example/" ++ (10 ∷ (codes "0 embed f1 https://b.example/" ++ (10 ∷ (codes "0 embed f1 https://b.example/" ++ (10 ∷ (codes "0 embed f1 https://b.example/" ++ (10 ∷ (codes "0 embed f1 https://b.example/" ++ (10 ∷ (codes "0 embed f1 https://b.example/" ++ (10 ∷ (codes "0 embed f1 https://b.example/" ++ (10 ∷ (codes "0 embed f1 https://b.example/" ++ (10 ∷ (codes "0 embed f1 https://b.example/" ++ (10 ∷ (codes "0 embed f1 https://b.example/" ++ (10 ∷ (codes "0 embed f1 https://b.example/" ++ (10 ∷ (codes "0 embed f1 https://b.example/" ++ (10 ∷ (codes "0 embed f1 https://b.example/" ++ (10 ∷ (codes "0 embed f1 https://b.example/" ++ (10 ∷ (codes "0 embed f1 https://b.example/" ++ (10 ∷ (codes "0 embed f1 https://b.example/" ++ (10 ∷ (codes "0 embed f1 https://b.example/" ++ (10 ∷ (codes "0 embed f1 https://b.example/" ++ (10 ∷ (codes "0 embed f1 https://b.example/" ++ (10 ∷ (codes "0 embed f1 https://b.example/" ++ (10 ∷ (codes "0 embed f1 https://b.example/" ++ (10 ∷ (codes "0 embed f1 https://b.example/" ++ (10 ∷ (codes "0 embed f1 https://b.example/" ++ (10 ∷ (codes "0 embed f1 https://b.example/" ++ (10 ∷ (codes "0 embed f1 https://b.example/" ++ (10 ∷ (codes "0 embed f1 https://b.example/" ++ (10 ∷ (codes "0 embed f1 https://b.example/" ++ (10 ∷ (codes "0 embed f1 https://b.example/" ++ (10 ∷ (codes "0 embed f1 https://b.example/" ++ (10 ∷ (codes "0 embed f1 https://b.example/" ++ (10 ∷ (codes "0 embed f1 https://b.example/" ++ (10 ∷ (codes "0 embed f1 https://b.example/" ++ (10 ∷ (codes "0 embed f1 https://b.example/" ++ (10 ∷ (codes "0 embed f1 https://b.example/" ++ (10 ∷ (codes "0 embed f1 https://b.example/" ++ (10 ∷ (codes "0 embed f1 https://b.example/" ++ (10 ∷ (codes "0 embed f1 https://b.example/" ++ (10 ∷ (codes "0 embed f1 https://b.example/" ++ (10 ∷ (codes "0 embed f1 https://b.example/" ++ (10 ∷ (codes "0 embed f1 https://b.example/" ++ (10 ∷ (codes "0 embed f1 https://b.example/" ++ (10 ∷ (codes "0 embed f1 https://b.example/" ++ (10 ∷ (codes "0 embed f1 https://b.example/" ++ (10 ∷ (codes "0 embed f1 https://b.example/" ++ (10 ∷ (codes "0 embed f1 https://b.example/" ++ (10 ∷ (codes "0 embed f1 https://b.example/" ++ (10 ∷ (codes "0 embed f1 https://b.example/" ++ (10 ∷ (codes "0 embed f1 https://b.example/" ++ (10 ∷ (codes "0 embed f1 https://b.example/" ++ (10 ∷ (codes "0 embed f1 https://b.example/" ++ (10 ∷ (codes "0 embed f1 https://b.example/" ++ (10 ∷ (codes "0 embed f1 https://b.example/" ++ (10 ∷ (codes "0 embed f1 https://b.example/" ++ (10 ∷ (codes "0 embed f1 https://b.example/" ++ (10 ∷ (codes "0 embed f1 https://b.example/" ++ (10 ∷ (codes "0 embed f1 https://b.example/" ++ (10 ∷ (codes "0 embed f1 https://b.example/" ++ (10 ∷ (codes "0 embed f1 https://b.example/" ++ (10 ∷ (codes "0 embed f1 https://b.example/" ++ (10 ∷ (codes "0 embed f1 https://b.example/" ++ (10 ∷ (codes "0 embed f1 https://b.example/" ++ (10 ∷ (codes "0 embed f1 https://b.example/" ++ (10 ∷ (codes "0 embed f1 https://b.example/" ++ (10 ∷ (codes "0 embed f1 https://b.example/" ++ (10 ∷ (codes "0 embed f1 https://b.example/" ++ (10 ∷ [])))))))))))))))))))))))))))))))))))))))))))))))))))))))))))))))))))))))))))))))))))))))))))))))))))))))))))))))))))))))))))))))))))))))))))))))))))))))))))))))))))))))))))))))))))))))))))))))))))))))))))))))))))))))))))))))))))))))))))))))))))))))))))))))))))))))))))))))))))))))))))))))))))))))))))))))))))))))))))))))))))))))))))))))))))))))))))))))))))))))))))))))))))))))))))))))))))))))))))))))))))))))))))))))))))))))))))))))))))))))))))))))))))))))))))))))))))))))))))))))))))))))))))))))))))))))))))))))))

-- the output
unfoldable pub output : List ℕ
output = codes "1 frame f1 doc d1 https://a.example" ++ (10 ∷ (codes "2 frame f2 doc d2 https://b.example" ++ (10 ∷ (codes "3 frame f3 doc d3 https://b.example" ++ (10 ∷ (codes "4 frame f4 doc d4 https://b.example" ++ (10 ∷ (codes "5 frame f5 doc d5 https://b.example" ++ (10 ∷ (codes "6 frame f6 doc d6 https://b.example" ++ (10 ∷ (codes "7 frame f7 doc d7 https://b.example" ++ (10 ∷ (codes "8 frame f8 doc d8 https://b.example" ++ (10 ∷ (codes "9 frame f9 doc d9 https://b.example" ++ (10 ∷ (codes "10 frame f10 doc d10 https://b.example" ++ (10 ∷ (codes "11 frame f11 doc d11 https://b.example" ++ (10 ∷ (codes "12 frame f12 doc d12 https://b.example" ++ (10 ∷ (codes "13 frame f13 doc d13 https://b.example" ++ (10 ∷ (codes "14 frame f14 doc d14 https://b.example" ++ (10 ∷ (codes "15 frame f15 doc d15 https://b.example" ++ (10 ∷ (codes "16 frame f16 doc d16 https://b.example" ++ (10 ∷ (codes "17 frame f17 doc d17 https://b.example" ++ (10 ∷ (codes "18 frame f18 doc d18 https://b.example" ++ (10 ∷ (codes "19 frame f19 doc d19 https://b.example" ++ (10 ∷ (codes "20 frame f20 doc d20 https://b.example" ++ (10 ∷ (codes "21 frame f21 doc d21 https://b.example" ++ (10 ∷ (codes "22 frame f22 doc d22 https://b.example" ++ (10 ∷ (codes "23 frame f23 doc d23 https://b.example" ++ (10 ∷ (codes "24 frame f24 doc d24 https://b.example" ++ (10 ∷ (codes "25 frame f25 doc d25 https://b.example" ++ (10 ∷ (codes "26 frame f26 doc d26 https://b.example" ++ (10 ∷ (codes "27 frame f27 doc d27 https://b.example" ++ (10 ∷ (codes "28 frame f28 doc d28 https://b.example" ++ (10 ∷ (codes "29 frame f29 doc d29 https://b.example" ++ (10 ∷ (codes "30 frame f30 doc d30 https://b.example" ++ (10 ∷ (codes "31 frame f31 doc d31 https://b.example" ++ (10 ∷ (codes "32 frame f32 doc d32 https://b.example" ++ (10 ∷ (codes "33 frame f33 doc d33 https://b.example" ++ (10 ∷ (codes "34 frame f34 doc d34 https://b.example" ++ (10 ∷ (codes "35 frame f35 doc d35 https://b.example" ++ (10 ∷ (codes "36 frame f36 doc d36 https://b.example" ++ (10 ∷ (codes "37 frame f37 doc d37 https://b.example" ++ (10 ∷ (codes "38 frame f38 doc d38 https://b.example" ++ (10 ∷ (codes "39 frame f39 doc d39 https://b.example" ++ (10 ∷ (codes "40 frame f40 doc d40 https://b.example" ++ (10 ∷ (codes "41 frame f41 doc d41 https://b.example" ++ (10 ∷ (codes "42 frame f42 doc d42 https://b.example" ++ (10 ∷ (codes "43 frame f43 doc d43 https://b.example" ++ (10 ∷ (codes "44 frame f44 doc d44 https://b.example" ++ (10 ∷ (codes "45 frame f45 doc d45 https://b.example" ++ (10 ∷ (codes "46 frame f46 doc d46 https://b.example" ++ (10 ∷ (codes "47 frame f47 doc d47 https://b.example" ++ (10 ∷ (codes "48 frame f48 doc d48 https://b.example" ++ (10 ∷ (codes "49 frame f49 doc d49 https://b.example" ++ (10 ∷ (codes "50 frame f50 doc d50 https://b.example" ++ (10 ∷ (codes "51 frame f51 doc d51 https://b.example" ++ (10 ∷ (codes "52 frame f52 doc d52 https://b.example" ++ (10 ∷ (codes "53 frame f53 doc d53 https://b.example" ++ (10 ∷ (codes "54 frame f54 doc d54 https://b.example" ++ (10 ∷ (codes "55 frame f55 doc d55 https://b.example" ++ (10 ∷ (codes "56 frame f56 doc d56 https://b.example" ++ (10 ∷ (codes "57 frame f57 doc d57 https://b.example" ++ (10 ∷ (codes "58 frame f58 doc d58 https://b.example" ++ (10 ∷ (codes "59 frame f59 doc d59 https://b.example" ++ (10 ∷ (codes "60 frame f60 doc d60 https://b.example" ++ (10 ∷ (codes "61 frame f61 doc d61 https://b.example" ++ (10 ∷ (codes "62 frame f62 doc d62 https://b.example" ++ (10 ∷ (codes "63 frame f63 doc d63 https://b.example" ++ (10 ∷ (codes "64 frame f64 doc d64 https://b.example" ++ (10 ∷ (codes "65 frame f65 doc d65 https://b.example" ++ (10 ∷ (codes "66 frame f66 doc d66 https://b.example" ++ (10 ∷ (codes "67 frame f67 doc d67 https://b.example" ++ (10 ∷ (codes "68 frame f68 doc d68 https://b.example" ++ (10 ∷ (codes "69 frame f69 doc d69 https://b.example" ++ (10 ∷ (codes "70 frame f70 doc d70 https://b.example" ++ (10 ∷ (codes "71 frame f71 doc d71 https://b.example" ++ (10 ∷ (codes "72 frame f72 doc d72 https://b.example" ++ (10 ∷ (codes "73 frame f73 doc d73 https://b.example" ++ (10 ∷ (codes "74 frame f74 doc d74 https://b.example" ++ (10 ∷ (codes "75 frame f75 doc d75 https://b.example" ++ (10 ∷ (codes "76 frame f76 doc d76 https://b.example" ++ (10 ∷ (codes "77 frame f77 doc d77 https://b.example" ++ (10 ∷ (codes "78 frame f78 doc d78 https://b.example" ++ (10 ∷ (codes "79 frame f79 doc d79 https://b.example" ++ (10 ∷ (codes "80 frame f80 doc d80 https://b.example" ++ (10 ∷ (codes "81 frame f81 doc d81 https://b.example" ++ (10 ∷ (codes "82 frame f82 doc d82 https://b.example" ++ (10 ∷ (codes "83 frame f83 doc d83 https://b.example" ++ (10 ∷ (codes "84 frame f84 doc d84 https://b.example" ++ (10 ∷ (codes "85 frame f85 doc d85 https://b.example" ++ (10 ∷ (codes "86 frame f86 doc d86 https://b.example" ++ (10 ∷ (codes "87 frame f87 doc d87 https://b.example" ++ (10 ∷ (codes "88 frame f88 doc d88 https://b.example" ++ (10 ∷ (codes "89 frame f89 doc d89 https://b.example" ++ (10 ∷ (codes "90 frame f90 doc d90 https://b.example" ++ (10 ∷ (codes "91 frame f91 doc d91 https://b.example" ++ (10 ∷ (codes "92 frame f92 doc d92 https://b.example" ++ (10 ∷ (codes "93 frame f93 doc d93 https://b.example" ++ (10 ∷ (codes "94 frame f94 doc d94 https://b.example" ++ (10 ∷ (codes "95 frame f95 doc d95 https://b.example" ++ (10 ∷ (codes "96 frame f96 doc d96 https://b.example" ++ (10 ∷ (codes "97 frame f97 doc d97 https://b.example" ++ (10 ∷ (codes "98 frame f98 doc d98 https://b.example" ++ (10 ∷ (codes "99 frame f99 doc d99 https://b.example" ++ (10 ∷ (codes "100 frame f100 doc d100 https://b.example" ++ (10 ∷ (codes "101 frame f101 doc d101 https://b.example" ++ (10 ∷ (codes "102 frame f102 doc d102 https://b.example" ++ (10 ∷ (codes "103 frame f103 doc d103 https://b.example" ++ (10 ∷ (codes "104 frame f104 doc d104 https://b.example" ++ (10 ∷ (codes "105 frame f105 doc d105 https://b.example" ++ (10 ∷ (codes "106 frame f106 doc d106 https://b.example" ++ (10 ∷ (codes "107 frame f107 doc d107 https://b.example" ++ (10 ∷ (codes "108 frame f108 doc d108 https://b.example" ++ (10 ∷ (codes "109 frame f109 doc d109 https://b.example" ++ (10 ∷ (codes "110 frame f110 doc d110 https://b.example" ++ (10 ∷ (codes "111 frame f111 doc d111 https://b.example" ++ (10 ∷ (codes "112 frame f112 doc d112 https://b.example" ++ (10 ∷ (codes "113 frame f113 doc d113 https://b.example" ++ (10 ∷ (codes "114 frame f114 doc d114 https://b.example" ++ (10 ∷ (codes "115 frame f115 doc d115 https://b.example" ++ (10 ∷ (codes "116 frame f116 doc d116 https://b.example" ++ (10 ∷ (codes "117 frame f117 doc d117 https://b.example" ++ (10 ∷ (codes "118 frame f118 doc d118 https://b.example" ++ (10 ∷ (codes "119 frame f119 doc d119 https://b.example" ++ (10 ∷ (codes "120 frame f120 doc d120 https://b.example" ++ (10 ∷ (codes "121 frame f121 doc d121 https://b.example" ++ (10 ∷ (codes "122 frame f122 doc d122 https://b.example" ++ (10 ∷ (codes "123 frame f123 doc d123 https://b.example" ++ (10 ∷ (codes "124 frame f124 doc d124 https://b.example" ++ (10 ∷ (codes "125 frame f125 doc d125 https://b.example" ++ (10 ∷ (codes "126 frame f126 doc d126 https://b.example" ++ (10 ∷ (codes "127 frame f127 doc d127 https://b.example" ++ (10 ∷ (codes "128 frame f128 doc d128 https://b.example" ++ (10 ∷ (codes "129 frame f129 doc d129 https://b.example" ++ (10 ∷ (codes "130 frame f130 doc d130 https://b.example" ++ (10 ∷ (codes "131 frame f131 doc d131 https://b.example" ++ (10 ∷ (codes "132 frame f132 doc d132 https://b.example" ++ (10 ∷ (codes "133 frame f133 doc d133 https://b.example" ++ (10 ∷ (codes "134 frame f134 doc d134 https://b.example" ++ (10 ∷ (codes "135 frame f135 doc d135 https://b.example" ++ (10 ∷ (codes "136 frame f136 doc d136 https://b.example" ++ (10 ∷ (codes "137 frame f137 doc d137 https://b.example" ++ (10 ∷ (codes "138 frame f138 doc d138 https://b.example" ++ (10 ∷ (codes "139 frame f139 doc d139 https://b.example" ++ (10 ∷ (codes "140 frame f140 doc d140 https://b.example" ++ (10 ∷ (codes "141 frame f141 doc d141 https://b.example" ++ (10 ∷ (codes "142 frame f142 doc d142 https://b.example" ++ (10 ∷ (codes "143 frame f143 doc d143 https://b.example" ++ (10 ∷ (codes "144 frame f144 doc d144 https://b.example" ++ (10 ∷ (codes "145 frame f145 doc d145 https://b.example" ++ (10 ∷ (codes "146 frame f146 doc d146 https://b.example" ++ (10 ∷ (codes "147 frame f147 doc d147 https://b.example" ++ (10 ∷ (codes "148 frame f148 doc d148 https://b.example" ++ (10 ∷ (codes "149 frame f149 doc d149 https://b.example" ++ (10 ∷ (codes "150 frame f150 doc d150 https://b.example" ++ (10 ∷ (codes "151 frame f151 doc d151 https://b.example" ++ (10 ∷ (codes "152 frame f152 doc d152 https://b.example" ++ (10 ∷ (codes "153 frame f153 doc d153 https://b.example" ++ (10 ∷ (codes "154 frame f154 doc d154 https://b.example" ++ (10 ∷ (codes "155 frame f155 doc d155 https://b.example" ++ (10 ∷ (codes "156 frame f156 doc d156 https://b.example" ++ (10 ∷ (codes "157 frame f157 doc d157 https://b.example" ++ (10 ∷ (codes "158 frame f158 doc d158 https://b.example" ++ (10 ∷ (codes "159 frame f159 doc d159 https://b.example" ++ (10 ∷ (codes "160 frame f160 doc d160 https://b.example" ++ (10 ∷ (codes "161 frame f161 doc d161 https://b.example" ++ (10 ∷ (codes "162 frame f162 doc d162 https://b.example" ++ (10 ∷ (codes "163 frame f163 doc d163 https://b.example" ++ (10 ∷ (codes "164 frame f164 doc d164 https://b.example" ++ (10 ∷ (codes "165 frame f165 doc d165 https://b.example" ++ (10 ∷ (codes "166 frame f166 doc d166 https://b.example" ++ (10 ∷ (codes "167 frame f167 doc d167 https://b.example" ++ (10 ∷ (codes "168 frame f168 doc d168 https://b.example" ++ (10 ∷ (codes "169 frame f169 doc d169 https://b.example" ++ (10 ∷ (codes "170 frame f170 doc d170 https://b.example" ++ (10 ∷ (codes "171 frame f171 doc d171 https://b.example" ++ (10 ∷ (codes "172 frame f172 doc d172 https://b.example" ++ (10 ∷ (codes "173 frame f173 doc d173 https://b.example" ++ (10 ∷ (codes "174 frame f174 doc d174 https://b.example" ++ (10 ∷ (codes "175 frame f175 doc d175 https://b.example" ++ (10 ∷ (codes "176 frame f176 doc d176 https://b.example" ++ (10 ∷ (codes "177 frame f177 doc d177 https://b.example" ++ (10 ∷ (codes "178 frame f178 doc d178 https://b.example" ++ (10 ∷ (codes "179 frame f179 doc d179 https://b.example" ++ (10 ∷ (codes "180 frame f180 doc d180 https://b.example" ++ (10 ∷ (codes "181 frame f181 doc d181 https://b.example" ++ (10 ∷ (codes "182 frame f182 doc d182 https://b.example" ++ (10 ∷ (codes "183 frame f183 doc d183 https://b.example" ++ (10 ∷ (codes "184 frame f184 doc d184 https://b.example" ++ (10 ∷ (codes "185 frame f185 doc d185 https://b.example" ++ (10 ∷ (codes "186 frame f186 doc d186 https://b.example" ++ (10 ∷ (codes "187 frame f187 doc d187 https://b.example" ++ (10 ∷ (codes "188 frame f188 doc d188 https://b.example" ++ (10 ∷ (codes "189 frame f189 doc d189 https://b.example" ++ (10 ∷ (codes "190 frame f190 doc d190 https://b.example" ++ (10 ∷ (codes "191 frame f191 doc d191 https://b.example" ++ (10 ∷ (codes "192 frame f192 doc d192 https://b.example" ++ (10 ∷ (codes "193 frame f193 doc d193 https://b.example" ++ (10 ∷ (codes "194 frame f194 doc d194 https://b.example" ++ (10 ∷ (codes "195 frame f195 doc d195 https://b.example" ++ (10 ∷ (codes "196 frame f196 doc d196 https://b.example" ++ (10 ∷ (codes "197 frame f197 doc d197 https://b.example" ++ (10 ∷ (codes "198 frame f198 doc d198 https://b.example" ++ (10 ∷ (codes "199 frame f199 doc d199 https://b.example" ++ (10 ∷ (codes "200 frame f200 doc d200 https://b.example" ++ (10 ∷ (codes "201 frame f201 doc d201 https://b.example" ++ (10 ∷ (codes "202 frame f202 doc d202 https://b.example" ++ (10 ∷ (codes "203 frame f203 doc d203 https://b.example" ++ (10 ∷ (codes "204 frame f204 doc d204 https://b.example" ++ (10 ∷ (codes "205 frame f205 doc d205 https://b.example" ++ (10 ∷ (codes "206 frame f206 doc d206 https://b.example" ++ (10 ∷ (codes "207 frame f207 doc d207 https://b.example" ++ (10 ∷ (codes "208 frame f208 doc d208 https://b.example" ++ (10 ∷ (codes "209 frame f209 doc d209 https://b.example" ++ (10 ∷ (codes "210 frame f210 doc d210 https://b.example" ++ (10 ∷ (codes "211 frame f211 doc d211 https://b.example" ++ (10 ∷ (codes "212 frame f212 doc d212 https://b.example" ++ (10 ∷ (codes "213 frame f213 doc d213 https://b.example" ++ (10 ∷ (codes "214 frame f214 doc d214 https://b.example" ++ (10 ∷ (codes "215 frame f215 doc d215 https://b.example" ++ (10 ∷ (codes "216 frame f216 doc d216 https://b.example" ++ (10 ∷ (codes "217 frame f217 doc d217 https://b.example" ++ (10 ∷ (codes "218 frame f218 doc d218 https://b.example" ++ (10 ∷ (codes "219 frame f219 doc d219 https://b.example" ++ (10 ∷ (codes "220 frame f220 doc d220 https://b.example" ++ (10 ∷ (codes "221 frame f221 doc d221 https://b.example" ++ (10 ∷ (codes "222 frame f222 doc d222 https://b.example" ++ (10 ∷ (codes "223 frame f223 doc d223 https://b.example" ++ (10 ∷ (codes "224 frame f224 doc d224 https://b.example" ++ (10 ∷ (codes "225 frame f225 doc d225 https://b.example" ++ (10 ∷ (codes "226 frame f226 doc d226 https://b.example" ++ (10 ∷ (codes "227 frame f227 doc d227 https://b.example" ++ (10 ∷ (codes "228 frame f228 doc d228 https://b.example" ++ (10 ∷ (codes "229 frame f229 doc d229 https://b.example" ++ (10 ∷ (codes "230 frame f230 doc d230 https://b.example" ++ (10 ∷ (codes "231 frame f231 doc d231 https://b.example" ++ (10 ∷ (codes "232 frame f232 doc d232 https://b.example" ++ (10 ∷ (codes "233 frame f233 doc d233 https://b.example" ++ (10 ∷ (codes "234 frame f234 doc d234 https://b.example" ++ (10 ∷ (codes "235 frame f235 doc d235 https://b.example" ++ (10 ∷ (codes "236 frame f236 doc d236 https://b.example" ++ (10 ∷ (codes "237 frame f237 doc d237 https://b.example" ++ (10 ∷ (codes "238 frame f238 doc d238 https://b.example" ++ (10 ∷ (codes "239 frame f239 doc d239 https://b.example" ++ (10 ∷ (codes "240 frame f240 doc d240 https://b.example" ++ (10 ∷ (codes "241 frame f241 doc d241 https://b.example" ++ (10 ∷ (codes "242 frame f242 doc d242 https://b.example" ++ (10 ∷ (codes "243 frame f243 doc d243 https://b.example" ++ (10 ∷ (codes "244 frame f244 doc d244 https://b.example" ++ (10 ∷ (codes "245 frame f245 doc d245 https://b.example" ++ (10 ∷ (codes "246 frame f246 doc d246 https://b.example" ++ (10 ∷ (codes "247 frame f247 doc d247 https://b.example" ++ (10 ∷ (codes "248 frame f248 doc d248 https://b.example" ++ (10 ∷ (codes "249 frame f249 doc d249 https://b.example" ++ (10 ∷ (codes "250 frame f250 doc d250 https://b.example" ++ (10 ∷ (codes "251 frame f251 doc d251 https://b.example" ++ (10 ∷ (codes "252 frame f252 doc d252 https://b.example" ++ (10 ∷ (codes "253 frame f253 doc d253 https://b.example" ++ (10 ∷ (codes "254 frame f254 doc d254 https://b.example" ++ (10 ∷ (codes "255 frame f255 doc d255 https://b.example" ++ (10 ∷ (codes "256 frame f256 doc d256 https://b.example" ++ (10 ∷ (codes "257 refused limit-frames" ++ (10 ∷ [])))))))))))))))))))))))))))))))))))))))))))))))))))))))))))))))))))))))))))))))))))))))))))))))))))))))))))))))))))))))))))))))))))))))))))))))))))))))))))))))))))))))))))))))))))))))))))))))))))))))))))))))))))))))))))))))))))))))))))))))))))))))))))))))))))))))))))))))))))))))))))))))))))))))))))))))))))))))))))))))))))))))))))))))))))))))))))))))))))))))))))))))))))))))))))))))))))))))))))))))))))))))))))))))))))))))))))))))))))))))))))))))))))))))))))))))))))))))))))))))))))))))))))))))))))))))))))))))))
