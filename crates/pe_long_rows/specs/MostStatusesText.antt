-- The bytes of a row that is proved by hand: its script and its output. Written by tools/rows.
use Rattle.std.specs.Prelude.{ℕ, List, [], ◌∷◌, ◌++◌, codes}

-- the script
unfoldable pub script : List ℕ
script = codes "0 open https://a.example/" ++ (10 ∷ (codes "0 query f1 camera" ++ (10 ∷ (codes "0 query f1 camera" ++ (10 ∷ (codes "0 query f1 camera" ++ (10 ∷ (codes "0 query f1 camera" ++ (10 ∷ (codes "0 query f1 camera" ++ (10 ∷ (codes "0 query f1 camera" ++ (10 ∷ (codes "0 query f1 camera" ++ (10 ∷ (codes "0 query f1 camera" ++ (10 ∷ (codes "0 query f1 camera" ++ (10 ∷ (codes "0 query f1 camera" ++ (10 ∷ (codes "0 query f1 camera" ++ (10 ∷ (codes "0 query f1 camera" ++ (10 ∷ (codes "0 query f1 camera" ++ (10 ∷ (codes "0 query f1 camera" ++ (10 ∷ (codes "0 query f1 camera" ++ (10 ∷ (codes "0 query f1 camera" ++ (10 ∷ (codes "0 query f1 camera" ++ (10 ∷ (codes "0 query f1 camera" ++ (10 ∷ (codes "0 query f1 camera" ++ (10 ∷ (codes "0 query f1 camera" ++ (10 ∷ (codes "0 query f1 camera" ++ (10 ∷ (codes "0 query f1 camera" ++ (10 ∷ (codes "0 query f1 camera" ++ (10 ∷ (codes "0 query f1 camera" ++ (10 ∷ (codes "0 query f1 camera" ++ (10 ∷ (codes "0 query f1 camera" ++ (10 ∷ (codes "0 query f1 camera" ++ (10 ∷ (codes "0 query f1 camera" ++ (10 ∷ (codes "0 query f1 camera" ++ (10 ∷ (codes "0 query f1 camera" ++ (10 ∷ (codes "0 query f1 camera" ++ (10 ∷ (codes "0 query f1 camera" ++ (10 ∷ (codes "0 query f1 camera" ++ (10 ∷ (codes "0 query f1 camera" ++ (10 ∷ (codes "0 query f1 camera" ++ (10 ∷ (codes "0 query f1 camera" ++ (10 ∷ (codes "0 query f1 camera" ++ (10 ∷ (codes "0 query f1 camera" ++ (10 ∷ (codes "0 query f1 camera" ++ (10 ∷ (codes "0 query f1 camera" ++ (10 ∷ (codes "0 query f1 camera" ++ (10 ∷ (codes "0 query f1 camera" ++ (10 ∷ (codes "0 query f1 camera" ++ (10 ∷ (codes "0 query f1 camera" ++ (10 ∷ (codes "0 query f1 camera" ++ (10 ∷ (codes "0 query f1 camera" ++ (10 ∷ (codes "0 query f1 camera" ++ (10 ∷ (codes "0 query f1 camera" ++ (10 ∷ (codes "0 query f1 camera" ++ (10 ∷ (codes "0 query f1 camera" ++ (10 ∷ (codes "0 query f1 camera" ++ (10 ∷ (codes "0 query f1 camera" ++ (10 ∷ (codes "0 query f1 camera" ++ (10 ∷ (codes "0 query f1 camera" ++ (10 ∷ (codes "0 query f1 camera" ++ (10 ∷ (codes "0 query f1 camera" ++ (10 ∷ (codes "0 query f1 camera" ++ (10 ∷ (codes "0 query f1 camera" ++ (10 ∷ (codes "0 query f1 camera" ++ (10 ∷ (codes "0 query f1 camera" ++ (10 ∷ (codes "0 query f1 camera" ++ (10 ∷ (codes "0 query f1 camera" ++ (10 ∷ (codes "0 query f1 camera" ++ (10 ∷ (codes "0 query f1 camera" ++ (10 ∷ (codes "0 query f1 camera" ++ (10 ∷ (codes "0 query f1 camera" ++ (10 ∷ (codes "0 query f1 camera" ++ (10 ∷ (codes "0 query f1 camera" ++ (10 ∷ (codes "0 query f1 camera" ++ (10 ∷ (codes "0 query f1 camera" ++ (10 ∷ (codes "0 query f1 camera" ++ (10 ∷ (codes "0 query f1 camera" ++ (10 ∷ (codes "0 query f1 camera" ++ (10 ∷ (codes "0 query f1 camera" ++ (10 ∷ (codes "0 query f1 camera" ++ (10 ∷ (codes "0 query f1 camera" ++ (10 ∷ (codes "0 query f1 camera" ++ (10 ∷ (codes "0 query f1 camera" ++ (10 ∷ (codes "0 query f1 camera" ++ (10 ∷ (codes "0 query f1 camera" ++ (10 ∷ (codes "0 query f1 camera" ++ (10 ∷ (codes "0 query f1 camera" ++ (10 ∷ (codes "0 query f1 camera" ++ (10 ∷ (codes "0 query f1 camera" ++ (10 ∷ (codes "0 query f1 camera" ++ (10 ∷ (codes "0 query f1 camera" ++ (10 ∷ (codes "0 query f1 camera" ++ (10 ∷ (codes "0 query f1 camera" ++ (10 ∷ (codes "0 query f1 camera" ++ (10 ∷ (codes "0 query f1 camera" ++ (10 ∷ (codes "0 query f1 camera" ++ (10 ∷ (codes "0 query f1 camera" ++ (10 ∷ (codes "0 query f1 camera" ++ (10 ∷ (codes "0 query f1 camera" ++ (10 ∷ (codes "0 query f1 camera" ++ (10 ∷ (codes "0 query f1 camera" ++ (10 ∷ (codes "0 query f1 camera" ++ (10 ∷ (codes "0 query f1 camera" ++ (10 ∷ (codes "0 query f1 camera" ++ (10 ∷ (codes "0 query f1 camera" ++ (10 ∷ (codes "0 query f1 camera" ++ (10 ∷ (codes "0 query f1 camera" ++ (10 ∷ (codes "0 query f1 camera" ++ (10 ∷ (codes "0 query f1 camera" ++ (10 ∷ (codes "0 query f1 camera" ++ (10 ∷ (codes "0 query f1 camera" ++ (10 ∷ (codes "0 query f1 camera" ++ (10 ∷ (codes "0 query f1 camera" ++ (10 ∷ (codes "0 query f1 camera" ++ (10 ∷ (codes "0 query f1 camera" ++ (10 ∷ (codes "0 query f1 camera" ++ (10 ∷ (codes "0 query f1 camera" ++ (10 ∷ (codes "0 query f1 camera" ++ (10 ∷ (codes "0 query f1 camera" ++ (10 ∷ (codes "0 query f1 camera" ++ (10 ∷ (codes "0 query f1 camera" ++ (10 ∷ (codes "0 query f1 camera" ++ (10 ∷ (codes "0 query f1 camera" ++ (10 ∷ (codes "0 query f1 camera" ++ (10 ∷ (codes "0 query f1 camera" ++ (10 ∷ (codes "0 query f1 camera" ++ (10 ∷ (codes "0 query f1 camera" ++ (10 ∷ (codes "0 query f1 camera" ++ (10 ∷ (codes "0 query f1 camera" ++ (10 ∷ (codes "0 query f1 camera" ++ (10 ∷ (codes "0 query f1 camera" ++ (10 ∷ (codes "0 query f1 camera" ++ (10 ∷ (codes "0 query f1 camera" ++ (10 ∷ (codes "0 query f1 camera" ++ (10 ∷ (codes "0 query f1 camera" ++ (10 ∷ (codes "0 query f1 camera" ++ (10 ∷ (codes "0 query f1 camera" ++ (10 ∷ (codes "0 query f1 camera" ++ (10 ∷ (codes "0 query f1 camera" ++ (10 ∷ (codes "0 query f1 camera" ++ (10 ∷ (codes "0 query f1 camera" ++ (10 ∷ (codes "0 query f1 camera" ++ (10 ∷ (codes "0 query f1 camera" ++ (10 ∷ (codes "0 query f1 camera" ++ (10 ∷ (codes "0 query f1 camera" ++ (10 ∷ (codes "0 query f1 camera" ++ (10 ∷ (codes "0 query f1 camera" ++ (10 ∷ (codes "0 query f1 camera" ++ (10 ∷ (codes "0 query f1 camera" ++ (10 ∷ (codes "0 query f1 camera" ++ (10 ∷ (codes "0 query f1 camera" ++ (10 ∷ (codes "0 query f1 camera" ++ (10 ∷ (codes "0 query f1 camera" ++ (10 ∷ (codes "0 query f1 camera" ++ (10 ∷ (codes "0 query f1 camera" ++ (10 ∷ (codes "0 query f1 camera" ++ (10 ∷ (codes "0 query f1 camera" ++ (10 ∷ (codes "0 query f1 camera" ++ (10 ∷ (codes "0 query f1 camera" ++ (10 ∷ (codes "0 query f1 camera" ++ (10 ∷ (codes "0 query f1 camera" ++ (10 ∷ (codes "0 query f1 camera" ++ (10 ∷ (codes "0 query f1 camera" ++ (10 ∷ (codes "0 query f1 camera" ++ (10 ∷ (codes "0 query f1 camera" ++ (10 ∷ (codes "0 query f1 camera" ++ (10 ∷ (codes "0 query f1 camera" ++ (10 ∷ (codes "0 query f1 camera" ++ (10 ∷ (codes "0 query f1 camera" ++ (10 ∷ (codes "0 query f1 camera" ++ (10 ∷ (codes "0 query f1 camera" ++ (10 ∷ (codes "0 query f1 camera" ++ (10 ∷ (codes "0 query f1 camera" ++ (10 ∷ (codes "0 query f1 camera" ++ (10 ∷ (codes "0 query f1 camera" ++ (10 ∷ (codes "0 query f1 camera" ++ (10 ∷ (codes "0 query f1 camera" ++ (10 ∷ (codes "0 query f1 camera" ++ (10 ∷ (codes "0 query f1 camera" ++ (10 ∷ (codes "0 query f1 camera" ++ (10 ∷ (codes "0 query f1 camera" ++ (10 ∷ (codes "0 query f1 camera" ++ (10 ∷ (codes "0 query f1 camera" ++ (10 ∷ (codes "0 query f1 camera" ++ (10 ∷ (codes "0 query f1 camera" ++ (10 ∷ (codes "0 query f1 camera" ++ (10 ∷ (codes "0 query f1 camera" ++ (10 ∷ (codes "0 query f1 camera" ++ (10 ∷ (codes "0 query f1 camera" ++ (10 ∷ (codes "0 query f1 camera" ++ (10 ∷ (codes "0 query f1 camera" ++ (10 ∷ (codes "0 query f1 camera" ++ (10 ∷ (codes "0 query f1 camera" ++ (10 ∷ (codes "0 query f1 camera" ++ (10 ∷ (codes "0 query f1 camera" ++ (10 ∷ (codes "0 query f1 camera" ++ (10 ∷ (codes "0 query f1 camera" ++ (10 ∷ (codes "0 query f1 camera" ++ (10 ∷ (codes "0 query f1 camera" ++ (10 ∷ (codes "0 query f1 camera" ++ (10 ∷ (codes "0 query f1 camera" ++ (10 ∷ (codes "0 query f1 camera" ++ (10 ∷ (codes "0 query f1 camera" ++ (10 ∷ (codes "0 query f1 camera" ++ (10 ∷ (codes "0 query f1 camera" ++ (10 ∷ (codes "0 query f1 camera" ++ (10 ∷ (codes "0 query f1 camera" ++ (10 ∷ (codes "0 query f1 camera" ++ (10 ∷ (codes "0 query f1 camera" ++ (10 ∷ (codes "0 query f1 camera" ++ (10 ∷ (codes "0 query f1 camera" ++ (10 ∷ (codes "0 query f1 camera" ++ (10 ∷ (codes "0 query f1 camera" ++ (10 ∷ (codes "0 query f1 camera" ++ (10 ∷ (codes "0 query f1 camera" ++ (10 ∷ (codes "0 query f1 camera" ++ (10 ∷ (codes "0 query f1 camera" ++ (10 ∷ (codes "0 query f1 camera" ++ (10 ∷ (codes "0 query f1 camera" ++ (10 ∷ (codes "0 query f1 camera" ++ (10 ∷ (codes "0 query f1 camera" ++ (10 ∷ (codes "0 query f1 camera" ++ (10 ∷ (codes "0 query f1 camera" ++ (10 ∷ (codes "0 query f1 camera" ++ (10 ∷ (codes "0 query f1 camera" ++ (10 ∷ (codes "0 query f1 camera" ++ (10 ∷ (codes "0 query f1 camera" ++ (10 ∷ (codes "0 query f1 camera" ++ (10 ∷ (codes "0 query f1 camera" ++ (10 ∷ (codes "0 query f1 camera" ++ (10 ∷ (codes "0 query f1 camera" ++ (10 ∷ (codes "0 query f1 camera" ++ (10 ∷ (codes "0 query f1 camera" ++ (10 ∷ (codes "0 query f1 camera" ++ (10 ∷ (codes "0 query f1 camera" ++ (10 ∷ (codes "0 query f1 camera" ++ (10 ∷ (codes "0 query f1 camera" ++ (10 ∷ (codes "0 query f1 camera" ++ (10 ∷ (codes "0 query f1 camera" ++ (10 ∷ (codes "0 query f1 camera" ++ (10 ∷ (codes "0 query f1 camera" ++ (10 ∷ (codes "0 query f1 camera" ++ (10 ∷ (codes "0 query f1 camera" ++ (10 ∷ (codes "0 query f1 camera" ++ (10 ∷ (codes "0 query f1 camera" ++ (10 ∷ (codes "0 query f1 camera" ++ (10 ∷ (codes "0 query f1 camera" ++ (10 ∷ (codes "0 query f1 camera" ++ (10 ∷ (codes "0 query f1 camera" ++ (10 ∷ (codes "0 query f1 camera" ++ (10 ∷ (codes "0 query f1 camera" ++ (10 ∷ (codes "0 query f1 camera" ++ (10 ∷ (codes "0 query f1 camera" ++ (10 ∷ (codes "0 query f1 camera" ++ (10 ∷ (codes "0 query f1 camera" ++ (10 ∷ (codes "0 query f1 camera" ++ (10 ∷ (codes "0 query f1 camera" ++ (10 ∷ (codes "0 query f1 camera" ++ (10 ∷ (codes "0 query f1 camera" ++ (10 ∷ (codes "0 query f1 camera" ++ (10 ∷ (codes "0 query f1 camera" ++ (10 ∷ (codes "0 query f1 camera" ++ (10 ∷ [])))))))))))))))))))))))))))))))))))))))))))))))))))))))))))))))))))))))))))))))))))))))))))))))))))))))))))))))))))))))))))))))))))))))))))))))))))))))))))))))))))))))))))))))))))))))))))))))))))))))))))))))))))))))))))))))))))))))))))))))))))))))))))))))))))))))))))))))))))))))))))))))))))))))))))))))))))))))))))))))))))))))))))))))))))))))))))))))))))))))))))))))))))))))))))))))))))))))))))))))))))))))))))))))))))))))))))))))))))))))))))))))))))))))))))))))))))))))))))))))))))))))))))))))))))))))))))))))))))

-- the output
unfoldable pub output : List ℕ
output = codes "1 frame f1 doc d1 https://a.example" ++ (10 ∷ (codes "2 status s2 prompt" ++ (10 ∷ (codes "3 status s3 prompt" ++ (10 ∷ (codes "4 status s4 prompt" ++ (10 ∷ (codes "5 status s5 prompt" ++ (10 ∷ (codes "6 status s6 prompt" ++ (10 ∷ (codes "7 status s7 prompt" ++ (10 ∷ (codes "8 status s8 prompt" ++ (10 ∷ (codes "9 status s9 prompt" ++ (10 ∷ (codes "10 status s10 prompt" ++ (10 ∷ (codes "11 status s11 prompt" ++ (10 ∷ (codes "12 status s12 prompt" ++ (10 ∷ (codes "13 status s13 prompt" ++ (10 ∷ (codes "14 status s14 prompt" ++ (10 ∷ (codes "15 status s15 prompt" ++ (10 ∷ (codes "16 status s16 prompt" ++ (10 ∷ (codes "17 status s17 prompt" ++ (10 ∷ (codes "18 status s18 prompt" ++ (10 ∷ (codes "19 status s19 prompt" ++ (10 ∷ (codes "20 status s20 prompt" ++ (10 ∷ (codes "21 status s21 prompt" ++ (10 ∷ (codes "22 status s22 prompt" ++ (10 ∷ (codes "23 status s23 prompt" ++ (10 ∷ (codes "24 status s24 prompt" ++ (10 ∷ (codes "25 status s25 prompt" ++ (10 ∷ (codes "26 status s26 prompt" ++ (10 ∷ (codes "27 status s27 prompt" ++ (10 ∷ (codes "28 status s28 prompt" ++ (10 ∷ (codes "29 status s29 prompt" ++ (10 ∷ (codes "30 status s30 prompt" ++ (10 ∷ (codes "31 status s31 prompt" ++ (10 ∷ (codes "32 status s32 prompt" ++ (10 ∷ (codes "33 status s33 prompt" ++ (10 ∷ (codes "34 status s34 prompt" ++ (10 ∷ (codes "35 status s35 prompt" ++ (10 ∷ (codes "36 status s36 prompt" ++ (10 ∷ (codes "37 status s37 prompt" ++ (10 ∷ (codes "38 status s38 prompt" ++ (10 ∷ (codes "39 status s39 prompt" ++ (10 ∷ (codes "40 status s40 prompt" ++ (10 ∷ (codes "41 status s41 prompt" ++ (10 ∷ (codes "42 status s42 prompt" ++ (10 ∷ (codes "43 status s43 prompt" ++ (10 ∷ (codes "44 status s44 prompt" ++ (10 ∷ (codes "45 status s45 prompt" ++ (10 ∷ (codes "46 status s46 prompt" ++ (10 ∷ (codes "47 status s47 prompt" ++ (10 ∷ (codes "48 status s48 prompt" ++ (10 ∷ (codes "49 status s49 prompt" ++ (10 ∷ (codes "50 status s50 prompt" ++ (10 ∷ (codes "51 status s51 prompt" ++ (10 ∷ (codes "52 status s52 prompt" ++ (10 ∷ (codes "53 status s53 prompt" ++ (10 ∷ (codes "54 status s54 prompt" ++ (10 ∷ (codes "55 status s55 prompt" ++ (10 ∷ (codes "56 status s56 prompt" ++ (10 ∷ (codes "57 status s57 prompt" ++ (10 ∷ (codes "58 status s58 prompt" ++ (10 ∷ (codes "59 status s59 prompt" ++ (10 ∷ (codes "60 status s60 prompt" ++ (10 ∷ (codes "61 status s61 prompt" ++ (10 ∷ (codes "62 status s62 prompt" ++ (10 ∷ (codes "63 status s63 prompt" ++ (10 ∷ (codes "64 status s64 prompt" ++ (10 ∷ (codes "65 status s65 prompt" ++ (10 ∷ (codes "66 status s66 prompt" ++ (10 ∷ (codes "67 status s67 prompt" ++ (10 ∷ (codes "68 status s68 prompt" ++ (10 ∷ (codes "69 status s69 prompt" ++ (10 ∷ (codes "70 status s70 prompt" ++ (10 ∷ (codes "71 status s71 prompt" ++ (10 ∷ (codes "72 status s72 prompt" ++ (10 ∷ (codes "73 status s73 prompt" ++ (10 ∷ (codes "74 status s74 prompt" ++ (10 ∷ (codes "75 status s75 prompt" ++ (10 ∷ (codes "76 status s76 prompt" ++ (10 ∷ (codes "77 status s77 prompt" ++ (10 ∷ (codes "78 status s78 prompt" ++ (10 ∷ (codes "79 status s79 prompt" ++ (10 ∷ (codes "80 status s80 prompt" ++ (10 ∷ (codes "81 status s81 prompt" ++ (10 ∷ (codes "82 status s82 prompt" ++ (10 ∷ (codes "83 status s83 prompt" ++ (10 ∷ (codes "84 status s84 prompt" ++ (10 ∷ (codes "85 status s85 prompt" ++ (10 ∷ (codes "86 status s86 prompt" ++ (10 ∷ (codes "87 status s87 prompt" ++ (10 ∷ (codes "88 status s88 prompt" ++ (10 ∷ (codes "89 status s89 prompt" ++ (10 ∷ (codes "90 status s90 prompt" ++ (10 ∷ (codes "91 status s91 prompt" ++ (10 ∷ (codes "92 status s92 prompt" ++ (10 ∷ (codes "93 status s93 prompt" ++ (10 ∷ (codes "94 status s94 prompt" ++ (10 ∷ (codes "95 status s95 prompt" ++ (10 ∷ (codes "96 status s96 prompt" ++ (10 ∷ (codes "97 status s97 prompt" ++ (10 ∷ (codes "98 status s98 prompt" ++ (10 ∷ (codes "99 status s99 prompt" ++ (10 ∷ (codes "100 status s100 prompt" ++ (10 ∷ (codes "101 status s101 prompt" ++ (10 ∷ (codes "102 status s102 prompt" ++ (10 ∷ (codes "103 status s103 prompt" ++ (10 ∷ (codes "104 status s104 prompt" ++ (10 ∷ (codes "105 status s105 prompt" ++ (10 ∷ (codes "106 status s106 prompt" ++ (10 ∷ (codes "107 status s107 prompt" ++ (10 ∷ (codes "108 status s108 prompt" ++ (10 ∷ (codes "109 status s109 prompt" ++ (10 ∷ (codes "110 status s110 prompt" ++ (10 ∷ (codes "111 status s111 prompt" ++ (10 ∷ (codes "112 status s112 prompt" ++ (10 ∷ (codes "113 status s113 prompt" ++ (10 ∷ (codes "114 status s114 prompt" ++ (10 ∷ (codes "115 status s115 prompt" ++ (10 ∷ (codes "116 status s116 prompt" ++ (10 ∷ (codes "117 status s117 prompt" ++ (10 ∷ (codes "118 status s118 prompt" ++ (10 ∷ (codes "119 status s119 prompt" ++ (10 ∷ (codes "120 status s120 prompt" ++ (10 ∷ (codes "121 status s121 prompt" ++ (10 ∷ (codes "122 status s122 prompt" ++ (10 ∷ (codes "123 status s123 prompt" ++ (10 ∷ (codes "124 status s124 prompt" ++ (10 ∷ (codes "125 status s125 prompt" ++ (10 ∷ (codes "126 status s126 prompt" ++ (10 ∷ (codes "127 status s127 prompt" ++ (10 ∷ (codes "128 status s128 prompt" ++ (10 ∷ (codes "129 status s129 prompt" ++ (10 ∷ (codes "130 status s130 prompt" ++ (10 ∷ (codes "131 status s131 prompt" ++ (10 ∷ (codes "132 status s132 prompt" ++ (10 ∷ (codes "133 status s133 prompt" ++ (10 ∷ (codes "134 status s134 prompt" ++ (10 ∷ (codes "135 status s135 prompt" ++ (10 ∷ (codes "136 status s136 prompt" ++ (10 ∷ (codes "137 status s137 prompt" ++ (10 ∷ (codes "138 status s138 prompt" ++ (10 ∷ (codes "139 status s139 prompt" ++ (10 ∷ (codes "140 status s140 prompt" ++ (10 ∷ (codes "141 status s141 prompt" ++ (10 ∷ (codes "142 status s142 prompt" ++ (10 ∷ (codes "143 status s143 prompt" ++ (10 ∷ (codes "144 status s144 prompt" ++ (10 ∷ (codes "145 status s145 prompt" ++ (10 ∷ (codes "146 status s146 prompt" ++ (10 ∷ (codes "147 status s147 prompt" ++ (10 ∷ (codes "148 status s148 prompt" ++ (10 ∷ (codes "149 status s149 prompt" ++ (10 ∷ (codes "150 status s150 prompt" ++ (10 ∷ (codes "151 status s151 prompt" ++ (10 ∷ (codes "152 status s152 prompt" ++ (10 ∷ (codes "153 status s153 prompt" ++ (10 ∷ (codes "154 status s154 prompt" ++ (10 ∷ (codes "155 status s155 prompt" ++ (10 ∷ (codes "156 status s156 prompt" ++ (10 ∷ (codes "157 status s157 prompt" ++ (10 ∷ (codes "158 status s158 prompt" ++ (10 ∷ (codes "159 status s159 prompt" ++ (10 ∷ (codes "160 status s160 prompt" ++ (10 ∷ (codes "161 status s161 prompt" ++ (10 ∷ (codes "162 status s162 prompt" ++ (10 ∷ (codes "163 status s163 prompt" ++ (10 ∷ (codes "164 status s164 prompt" ++ (10 ∷ (codes "165 status s165 prompt" ++ (10 ∷ (codes "166 status s166 prompt" ++ (10 ∷ (codes "167 status s167 prompt" ++ (10 ∷ (codes "168 status s168 prompt" ++ (10 ∷ (codes "169 status s169 prompt" ++ (10 ∷ (codes "170 status s170 prompt" ++ (10 ∷ (codes "171 status s171 prompt" ++ (10 ∷ (codes "172 status s172 prompt" ++ (10 ∷ (codes "173 status s173 prompt" ++ (10 ∷ (codes "174 status s174 prompt" ++ (10 ∷ (codes "175 status s175 prompt" ++ (10 ∷ (codes "176 status s176 prompt" ++ (10 ∷ (codes "177 status s177 prompt" ++ (10 ∷ (codes "178 status s178 prompt" ++ (10 ∷ (codes "179 status s179 prompt" ++ (10 ∷ (codes "180 status s180 prompt" ++ (10 ∷ (codes "181 status s181 prompt" ++ (10 ∷ (codes "182 status s182 prompt" ++ (10 ∷ (codes "183 status s183 prompt" ++ (10 ∷ (codes "184 status s184 prompt" ++ (10 ∷ (codes "185 status s185 prompt" ++ (10 ∷ (codes "186 status s186 prompt" ++ (10 ∷ (codes "187 status s187 prompt" ++ (10 ∷ (codes "188 status s188 prompt" ++ (10 ∷ (codes "189 status s189 prompt" ++ (10 ∷ (codes "190 status s190 prompt" ++ (10 ∷ (codes "191 status s191 prompt" ++ (10 ∷ (codes "192 status s192 prompt" ++ (10 ∷ (codes "193 status s193 prompt" ++ (10 ∷ (codes "194 status s194 prompt" ++ (10 ∷ (codes "195 status s195 prompt" ++ (10 ∷ (codes "196 status s196 prompt" ++ (10 ∷ (codes "197 status s197 prompt" ++ (10 ∷ (codes "198 status s198 prompt" ++ (10 ∷ (codes "199 status s199 prompt" ++ (10 ∷ (codes "200 status s200 prompt" ++ (10 ∷ (codes "201 status s201 prompt" ++ (10 ∷ (codes "202 status s202 prompt" ++ (10 ∷ (codes "203 status s203 prompt" ++ (10 ∷ (codes "204 status s204 prompt" ++ (10 ∷ (codes "205 status s205 prompt" ++ (10 ∷ (codes "206 status s206 prompt" ++ (10 ∷ (codes "207 status s207 prompt" ++ (10 ∷ (codes "208 status s208 prompt" ++ (10 ∷ (codes "209 status s209 prompt" ++ (10 ∷ (codes "210 status s210 prompt" ++ (10 ∷ (codes "211 status s211 prompt" ++ (10 ∷ (codes "212 status s212 prompt" ++ (10 ∷ (codes "213 status s213 prompt" ++ (10 ∷ (codes "214 status s214 prompt" ++ (10 ∷ (codes "215 status s215 prompt" ++ (10 ∷ (codes "216 status s216 prompt" ++ (10 ∷ (codes "217 status s217 prompt" ++ (10 ∷ (codes "218 status s218 prompt" ++ (10 ∷ (codes "219 status s219 prompt" ++ (10 ∷ (codes "220 status s220 prompt" ++ (10 ∷ (codes "221 status s221 prompt" ++ (10 ∷ (codes "222 status s222 prompt" ++ (10 ∷ (codes "223 status s223 prompt" ++ (10 ∷ (codes "224 status s224 prompt" ++ (10 ∷ (codes "225 status s225 prompt" ++ (10 ∷ (codes "226 status s226 prompt" ++ (10 ∷ (codes "227 status s227 prompt" ++ (10 ∷ (codes "228 status s228 prompt" ++ (10 ∷ (codes "229 status s229 prompt" ++ (10 ∷ (codes "230 status s230 prompt" ++ (10 ∷ (codes "231 status s231 prompt" ++ (10 ∷ (codes "232 status s232 prompt" ++ (10 ∷ (codes "233 status s233 prompt" ++ (10 ∷ (codes "234 status s234 prompt" ++ (10 ∷ (codes "235 status s235 prompt" ++ (10 ∷ (codes "236 status s236 prompt" ++ (10 ∷ (codes "237 status s237 prompt" ++ (10 ∷ (codes "238 status s238 prompt" ++ (10 ∷ (codes "239 status s239 prompt" ++ (10 ∷ (codes "240 status s240 prompt" ++ (10 ∷ (codes "241 status s241 prompt" ++ (10 ∷ (codes "242 status s242 prompt" ++ (10 ∷ (codes "243 status s243 prompt" ++ (10 ∷ (codes "244 status s244 prompt" ++ (10 ∷ (codes "245 status s245 prompt" ++ (10 ∷ (codes "246 status s246 prompt" ++ (10 ∷ (codes "247 status s247 prompt" ++ (10 ∷ (codes "248 status s248 prompt" ++ (10 ∷ (codes "249 status s249 prompt" ++ (10 ∷ (codes "250 status s250 prompt" ++ (10 ∷ (codes "251 status s251 prompt" ++ (10 ∷ (codes "252 status s252 prompt" ++ (10 ∷ (codes "253 status s253 prompt" ++ (10 ∷ (codes "254 status s254 prompt" ++ (10 ∷ (codes "255 status s255 prompt" ++ (10 ∷ (codes "256 status s256 prompt" ++ (10 ∷ (codes "257 status s257 prompt" ++ (10 ∷ (codes "258 refused limit-statuses" ++ (10 ∷ [])))))))))))))))))))))))))))))))))))))))))))))))))))))))))))))))))))))))))))))))))))))))))))))))))))))))))))))))))))))))))))))))))))))))))))))))))))))))))))))))))))))))))))))))))))))))))))))))))))))))))))))))))))))))))))))))))))))))))))))))))))))))))))))))))))))))))))))))))))))))))))))))))))))))))))))))))))))))))))))))))))))))))))))))))))))))))))))))))))))))))))))))))))))))))))))))))))))))))))))))))))))))))))))))))))))))))))))))))))))))))))))))))))))))))))))))))))))))))))))))))))))))))))))))))))))))))))))))))))
