-- The bytes of a row that is proved by hand: its script and its output. Written by tools/rows.
use Rattle.std.specs.Prelude.{ℕ, List, [], ◌∷◌, ◌++◌, codes}

-- the script
unfoldable pub script : List ℕ
script = codes "0 open https://a.example/" ++ (10 ∷ (codes "0 input f1 mousedown" ++ (10 ∷ (codes "0 post f1 f1 https://a.example payment" ++ (10 ∷ (codes "0 input f1 mousedown" ++ (10 ∷ (codes "0 post f1 f1 https://a.example payment" ++ (10 ∷ (codes "0 input f1 mousedown" ++ (10 ∷ (codes "0 post f1 f1 https://a.example payment" ++ (10 ∷ (codes "0 input f1 mousedown" ++ (10 ∷ (codes "0 post f1 f1 https://a.example payment" ++ (10 ∷ (codes "0 input f1 mousedown" ++ (10 ∷ (codes "0 post f1 f1 https://a.example payment" ++ (10 ∷ (codes "0 input f1 mousedown" ++ (10 ∷ (codes "0 post f1 f1 https://a.example payment" ++ (10 ∷ (codes "0 input f1 mousedown" ++ (10 ∷ (codes "0 post f1 f1 https://a.example payment" ++ (10 ∷ (codes "0 input f1 mousedown" ++ (10 ∷ (codes "0 post f1 f1 https://a.example payment" ++ (10 ∷ (codes "0 input f1 mousedown" ++ (10 ∷ (codes "0 post f1 f1 https://a.example payment" ++ (10 ∷ (codes "0 input f1 mousedown" ++ (10 ∷ (codes "0 post f1 f1 https://a.example payment" ++ (10 ∷ (codes "0 input f1 mousedown" ++ (10 ∷ (codes "0 post f1 f1 https://a.example payment" ++ (10 ∷ (codes "0 input f1 mousedown" ++ (10 ∷ (codes "0 post f1 f1 https://a.example payment" ++ (10 ∷ (codes "0 input f1 mousedown" ++ (10 ∷ (codes "0 post f1 f1 https://a.example payment" ++ (10 ∷ (codes "0 input f1 mousedown" ++ (10 ∷ (codes "0 post f1 f1 https://a.example payment" ++ (10 ∷ (codes "0 input f1 mousedown" ++ (10 ∷ (codes "0 post f1 f1 https://a.example payment" ++ (10 ∷ (codes "0 input f1 mousedown" ++ (10 ∷ (codes "0 post f1 f1 https://a.example payment" ++ (10 ∷ (codes "0 input f1 mousedown" ++ (10 ∷ (codes "0 post f1 f1 https://a.example payment" ++ (10 ∷ (codes "0 input f1 mousedown" ++ (10 ∷ (codes "0 post f1 f1 https://a.example payment" ++ (10 ∷ (codes "0 input f1 mousedown" ++ (10 ∷ (codes "0 post f1 f1 https://a.example payment" ++ (10 ∷ (codes "0 input f1 mousedown" ++ (10 ∷ (codes "0 post f1 f1 https://a.example payment" ++ (10 ∷ (codes "0 input f1 mousedown" ++ (10 ∷ (codes "0 post f1 f1 https://a.example payment" ++ (10 ∷ (codes "0 input f1 mousedown" ++ (10 ∷ (codes "0 post f1 f1 https://a.example payment" ++ (10 ∷ (codes "0 input f1 mousedown" ++ (10 ∷ (codes "0 post f1 f1 https://a.example payment" ++ (10 ∷ (codes "0 input f1 mousedown" ++ (10 ∷ (codes "0 post f1 f1 https://a.example payment" ++ (10 ∷ (codes "0 input f1 mousedown" ++ (10 ∷ (codes "0 post f1 f1 https://a.example payment" ++ (10 ∷ (codes "0 input f1 mousedown" ++ (10 ∷ (codes "0 post f1 f1 https://a.example payment" ++ (10 ∷ (codes "0 input f1 mousedown" ++ (10 ∷ (codes "0 post f1 f1 https://a.example payment" ++ (10 ∷ (codes "0 input f1 mousedown" ++ (10 ∷ (codes "0 post f1 f1 https://a.example payment" ++ (10 ∷ (codes "0 input f1 mousedown" ++ (10 ∷ (codes "0 post f1 f1 https://a.example payment" ++ (10 ∷ (codes "0 input f1 mousedown" ++ (10 ∷ (codes "0 post f1 f1 https://a.example payment" ++ (10 ∷ (codes "0 input f1 mousedown" ++ (10 ∷ (codes "0 post f1 f1 https://a.example payment" ++ (10 ∷ (codes "0 input f1 mousedown" ++ (10 ∷ (codes "0 post f1 f1 https://a.example payment" ++ (10 ∷ (codes "0 input f1 mousedown" ++ (10 ∷ (codes "0 post f1 f1 https://a.example payment" ++ (10 ∷ (codes "0 input f1 mousedown" ++ (10 ∷ (codes "0 post f1 f1 https://a.example payment" ++ (10 ∷ (codes "0 input f1 mousedown" ++ (10 ∷ (codes "0 post f1 f1 https://a.example payment" ++ (10 ∷ (codes "0 input f1 mousedown" ++ (10 ∷ (codes "0 post f1 f1 https://a.example payment" ++ (10 ∷ (codes "0 input f1 mousedown" ++ (10 ∷ (codes "0 post f1 f1 https://a.example payment" ++ (10 ∷ (codes "0 input f1 mousedown" ++ (10 ∷ (codes "0 post f1 f1 https://a.example payment" ++ (10 ∷ (codes "0 input f1 mousedown" ++ (10 ∷ (codes "0 post f1 f1 https://a.example payment" ++ (10 ∷ (codes "0 input f1 mousedown" ++ (10 ∷ (codes "0 post f1 f1 https://a.example payment" ++ (10 ∷ (codes "0 input f1 mousedown" ++ (10 ∷ (codes "0 post f1 f1 https://a.example payment" ++ (10 ∷ (codes "0 input f1 mousedown" ++ (10 ∷ (codes "0 post f1 f1 https://a.example payment" ++ (10 ∷ (codes "0 input f1 mousedown" ++ (10 ∷ (codes "0 post f1 f1 https://a.example payment" ++ (10 ∷ (codes "0 input f1 mousedown" ++ (10 ∷ (codes "0 post f1 f1 https://a.example payment" ++ (10 ∷ (codes "0 input f1 mousedown" ++ (10 ∷ (codes "0 post f1 f1 https://a.example payment" ++ (10 ∷ (codes "0 input f1 mousedown" ++ (10 ∷ (codes "0 post f1 f1 https://a.example payment" ++ (10 ∷ (codes "0 input f1 mousedown" ++ (10 ∷ (codes "0 post f1 f1 https://a.example payment" ++ (10 ∷ (codes "0 input f1 mousedown" ++ (10 ∷ (codes "0 post f1 f1 https://a.example payment" ++ (10 ∷ (codes "0 input f1 mousedown" ++ (10 ∷ (codes "0 post f1 f1 https://a.example payment" ++ (10 ∷ (codes "0 input f1 mousedown" ++ (10 ∷ (codes "0 post f1 f1 https://a.example payment" ++ (10 ∷ (codes "0 input f1 mousedown" ++ (10 ∷ (codes "0 post f1 f1 https://a.example payment" ++ (10 ∷ (codes "0 input f1 mousedown" ++ (10 ∷ (codes "0 post f1 f1 https://a.example payment" ++ (10 ∷ (codes "0 input f1 mousedown" ++ (10 ∷ (codes "0 post f1 f1 https://a.example payment" ++ (10 ∷ (codes "0 input f1 mousedown" ++ (10 ∷ (codes "0 post f1 f1 https://a.example payment" ++ (10 ∷ (codes "0 input f1 mousedown" ++ (10 ∷ (codes "0 post f1 f1 https://a.example payment" ++ (10 ∷ (codes "0 input f1 mousedown" ++ (10 ∷ (codes "0 post f1 f1 https://a.example payment" ++ (10 ∷ (codes "0 input f1 mousedown" ++ (10 ∷ (codes "0 post f1 f1 https://a.example payment" ++ (10 ∷ (codes "0 input f1 mousedown" ++ (10 ∷ (codes "0 post f1 f1 https://a.example payment" ++ (10 ∷ (codes "0 input f1 mousedown" ++ (10 ∷ (codes "0 post f1 f1 https://a.example payment" ++ (10 ∷ (codes "0 input f1 mousedown" ++ (10 ∷ (codes "0 post f1 f1 https://a.example payment" ++ (10 ∷ (codes "0 input f1 mousedown" ++ (10 ∷ (codes "0 post f1 f1 https://a.example payment" ++ (10 ∷ (codes "0 input f1 mousedown" ++ (10 ∷ (codes "0 post f1 f1 https://a.example payment" ++ (10 ∷ (codes "0 input f1 mousedown" ++ (10 ∷ (codes "0 post f1 f1 https://a.example payment" ++ (10 ∷ (codes "0 input f1 mousedown" ++ (10 ∷ (codes "0 post f1 f1 https://a.example payment" ++ (10 ∷ (codes "0 input f1 mousedown" ++ (10 ∷ (codes "0 post f1 f1 https://a.example payment" ++ (10 ∷ (codes "0 input f1 mousedown" ++ (10 ∷ (codes "0 post f1 f1 https://a.example payment" ++ (10 ∷ (codes "0 input f1 mousedown" ++ (10 ∷ (codes "0 post f1 f1 https://a.example payment" ++ (10 ∷ (codes "0 input f1 mousedown" ++ (10 ∷ (codes "0 post f1 f1 https://a.example payment" ++ (10 ∷ (codes "0 input f1 mousedown" ++ (10 ∷ (codes "0 post f1 f1 https://a.example payment" ++ (10 ∷ (codes "0 input f1 mousedown" ++ (10 ∷ (codes "0 post f1 f1 https://a.example payment" ++ (10 ∷ (codes "0 input f1 mousedown" ++ (10 ∷ (codes "0 post f1 f1 https://a.example payment" ++ (10 ∷ (codes "0 input f1 mousedown" ++ (10 ∷ (codes "0 post f1 f1 https://a.example payment" ++ (10 ∷ (codes "0 input f1 mousedown" ++ (10 ∷ (codes "0 post f1 f1 https://a.example payment" ++ (10 ∷ (codes "0 input f1 mousedown" ++ (10 ∷ (codes "0 post f1 f1 https://a.example payment" ++ (10 ∷ (codes "0 input f1 mousedown" ++ (10 ∷ (codes "0 post f1 f1 https://a.example payment" ++ (10 ∷ (codes "0 input f1 mousedown" ++ (10 ∷ (codes "0 post f1 f1 https://a.example payment" ++ (10 ∷ (codes "0 input f1 mousedown" ++ (10 ∷ (codes "0 post f1 f1 https://a.example payment" ++ (10 ∷ (codes "0 input f1 mousedown" ++ (10 ∷ (codes "0 post f1 f1 https://a.example payment" ++ (10 ∷ (codes "0 input f1 mousedown" ++ (10 ∷ (codes "0 post f1 f1 https://a.example payment" ++ (10 ∷ (codes "0 input f1 mousedown" ++ (10 ∷ (codes "0 post f1 f1 https://a.example payment" ++ (10 ∷ (codes "0 input f1 mousedown" ++ (10 ∷ (codes "0 post f1 f1 https://a.example payment" ++ (10 ∷ (codes "0 input f1 mousedown" ++ (10 ∷ (codes "0 post f1 f1 https://a.example payment" ++ (10 ∷ (codes "0 input f1 mousedown" ++ (10 ∷ (codes "0 post f1 f1 https://a.example payment" ++ (10 ∷ (codes "0 input f1 mousedown" ++ (10 ∷ (codes "0 post f1 f1 https://a.example payment" ++ (10 ∷ (codes "0 input f1 mousedown" ++ (10 ∷ (codes "0 post f1 f1 https://a.example payment" ++ (10 ∷ (codes "0 input f1 mousedown" ++ (10 ∷ (codes "0 post f1 f1 https://a.example payment" ++ (10 ∷ (codes "0 input f1 mousedown" ++ (10 ∷ (codes "0 post f1 f1 https://a.example payment" ++ (10 ∷ (codes "0 input f1 mousedown" ++ (10 ∷ (codes "0 post f1 f1 https://a.example payment" ++ (10 ∷ (codes "0 input f1 mousedown" ++ (10 ∷ (codes "0 post f1 f1 https://a.example payment" ++ (10 ∷ (codes "0 input f1 mousedown" ++ (10 ∷ (codes "0 post f1 f1 https://a.example payment" ++ (10 ∷ (codes "0 input f1 mousedown" ++ (10 ∷ (codes "0 post f1 f1 https://a.example payment" ++ (10 ∷ (codes "0 input f1 mousedown" ++ (10 ∷ (codes "0 post f1 f1 https://a.example payment" ++ (10 ∷ (codes "0 input f1 mousedown" ++ (10 ∷ (codes "0 post f1 f1 https://a.example payment" ++ (10 ∷ (codes "0 input f1 mousedown" ++ (10 ∷ (codes "0 post f1 f1 https://a.example payment" ++ (10 ∷ (codes "0 input f1 mousedown" ++ (10 ∷ (codes "0 post f1 f1 https://a.example payment" ++ (10 ∷ (codes "0 input f1 mousedown" ++ (10 ∷ (codes "0 post f1 f1 https://a.example payment" ++ (10 ∷ (codes "0 input f1 mousedown" ++ (10 ∷ (codes "0 post f1 f1 https://a.example payment" ++ (10 ∷ (codes "0 input f1 mousedown" ++ (10 ∷ (codes "0 post f1 f1 https://a.example payment" ++ (10 ∷ (codes "0 input f1 mousedown" ++ (10 ∷ (codes "0 post f1 f1 https://a.example payment" ++ (10 ∷ (codes "0 input f1 mousedown" ++ (10 ∷ (codes "0 post f1 f1 https://a.example payment" ++ (10 ∷ (codes "0 input f1 mousedown" ++ (10 ∷ (codes "0 post f1 f1 https://a.example payment" ++ (10 ∷ (codes "0 input f1 mousedown" ++ (10 ∷ (codes "0 post f1 f1 https://a.example payment" ++ (10 ∷ (codes "0 input f1 mousedown" ++ (10 ∷ (codes "0 post f1 f1 https://a.example payment" ++ (10 ∷ (codes "0 input f1 mousedown" ++ (10 ∷ (codes "0 post f1 f1 https://a.example payment" ++ (10 ∷ (codes "0 input f1 mousedown" ++ (10 ∷ (codes "0 post f1 f1 https://a.example payment" ++ (10 ∷ (codes "0 input f1 mousedown" ++ (10 ∷ (codes "0 post f1 f1 https://a.example payment" ++ (10 ∷ (codes "0 input f1 mousedown" ++ (10 ∷ (codes "0 post f1 f1 https://a.example payment" ++ (10 ∷ (codes "0 input f1 mousedown" ++ (10 ∷ (codes "0 post f1 f1 https://a.example payment" ++ (10 ∷ (codes "0 input f1 mousedown" ++ (10 ∷ (codes "0 post f1 f1 https://a.example payment" ++ (10 ∷ (codes "0 input f1 mousedown" ++ (10 ∷ (codes "0 post f1 f1 https://a.example payment" ++ (10 ∷ (codes "0 input f1 mousedown" ++ (10 ∷ (codes "0 post f1 f1 https://a.example payment" ++ (10 ∷ (codes "0 input f1 mousedown" ++ (10 ∷ (codes "0 post f1 f1 https://a.example payment" ++ (10 ∷ (codes "0 input f1 mousedown" ++ (10 ∷ (codes "0 post f1 f1 https://a.example payment" ++ (10 ∷ (codes "0 input f1 mousedown" ++ (10 ∷ (codes "0 post f1 f1 https://a.example payment" ++ (10 ∷ (codes "0 input f1 mousedown" ++ (10 ∷ (codes "0 post f1 f1 https://a.example payment" ++ (10 ∷ (codes "0 input f1 mousedown" ++ (10 ∷ (codes "0 post f1 f1 https://a.example payment" ++ (10 ∷ (codes "0 input f1 mousedown" ++ (10 ∷ (codes "0 post f1 f1 https://a.example payment" ++ (10 ∷ (codes "0 input f1 mousedown" ++ (10 ∷ (codes "0 post f1 f1 https://a.example payment" ++ (10 ∷ (codes "0 input f1 mousedown" ++ (10 ∷ (codes "0 post f1 f1 https://a.example payment" ++ (10 ∷ (codes "0 input f1 mousedown" ++ (10 ∷ (codes "0 post f1 f1 https://a.example payment" ++ (10 ∷ (codes "0 input f1 mousedown" ++ (10 ∷ (codes "0 post f1 f1 https://a.example payment" ++ (10 ∷ (codes "0 input f1 mousedown" ++ (10 ∷ (codes "0 post f1 f1 https://a.example payment" ++ (10 ∷ (codes "0 input f1 mousedown" ++ (10 ∷ (codes "0 post f1 f1 https://a.example payment" ++ (10 ∷ (codes "0 input f1 mousedown" ++ (10 ∷ (codes "0 post f1 f1 https://a.example payment" ++ (10 ∷ (codes "0 input f1 mousedown" ++ (10 ∷ (codes "0 post f1 f1 https://a.example payment" ++ (10 ∷ (codes "0 input f1 mousedown" ++ (10 ∷ (codes "0 post f1 f1 https://a.example payment" ++ (10 ∷ (codes "0 input f1 mousedown" ++ (10 ∷ (codes "0 post f1 f1 https://a.example payment" ++ (10 ∷ (codes "0 input f1 mousedown" ++ (10 ∷ (codes "0 post f1 f1 https://a.example payment" ++ (10 ∷ (codes "0 input f1 mousedown" ++ (10 ∷ (codes "0 post f1 f1 https://a.example payment" ++ (10 ∷ (codes "0 input f1 mousedown" ++ (10 ∷ (codes "0 post f1 f1 https://a.example payment" ++ (10 ∷ (codes "0 input f1 mousedown" ++ (10 ∷ (codes "0 post f1 f1 https://a.example payment" ++ (10 ∷ (codes "0 input f1 mousedown" ++ (10 ∷ (codes "0 post f1 f1 https://a.example payment" ++ (10 ∷ (codes "0 input f1 mousedown" ++ (10 ∷ (codes "0 post f1 f1 https://a.example payment" ++ (10 ∷ (codes "0 input f1 mousedown" ++ (10 ∷ (codes "0 post f1 f1 https://a.example payment" ++ (10 ∷ (codes "0 input f1 mousedown" ++ (10 ∷ (codes "0 post f1 f1 https://a.example payment" ++ (10 ∷ (codes "0 input f1 mousedown" ++ (10 ∷ (codes "0 post f1 f1 https://a.example payment" ++ (10 ∷ (codes "0 input f1 mousedown" ++ (10 ∷ (codes "0 post f1 f1 https://a.example payment" ++ (10 ∷ (codes "0 input f1 mousedown" ++ (10 ∷ (codes "0 post f1 f1 https://a.example payment" ++ (10 ∷ (codes "0 input f1 mousedown" ++ (10 ∷ (codes "0 post f1 f1 https://a.example payment" ++ (10 ∷ (codes "0 input f1 mousedown" ++ (10 ∷ (codes "0 post f1 f1 https://a.example payment" ++ (10 ∷ (codes "0 input f1 mousedown" ++ (10 ∷ (codes "0 post f1 f1 https://a.example payment" ++ (10 ∷ (codes "0 input f1 mousedown" ++ (10 ∷ (codes "0 post f1 f1 https://a.example payment" ++ (10 ∷ (codes "0 input f1 mousedown" ++ (10 ∷ (codes "0 post f1 f1 https://a.example payment" ++ (10 ∷ (codes "0 input f1 mousedown" ++ (10 ∷ (codes "0 post f1 f1 https://a.example payment" ++ (10 ∷ (codes "0 input f1 mousedown" ++ (10 ∷ (codes "0 post f1 f1 https://a.example payment" ++ (10 ∷ (codes "0 input f1 mousedown" ++ (10 ∷ (codes "0 post f1 f1 https://a.example payment" ++ (10 ∷ (codes "0 input f1 mousedown" ++ (10 ∷ (codes "0 post f1 f1 https://a.example payment" ++ (10 ∷ (codes "0 input f1 mousedown" ++ (10 ∷ (codes "0 post f1 f1 https://a.example payment" ++ (10 ∷ (codes "0 input f1 mousedown" ++ (10 ∷ (codes "0 post f1 f1 https://a.example payment" ++ (10 ∷ (codes "0 input f1 mousedown" ++ (10 ∷ (codes "0 post f1 f1 https://a.example payment" ++ (10 ∷ (codes "0 input f1 mousedown" ++ (10 ∷ (codes "0 post f1 f1 https://a.example payment" ++ (10 ∷ (codes "0 input f1 mousedown" ++ (10 ∷ (codes "0 post f1 f1 https://a.example payment" ++ (10 ∷ (codes "0 input f1 mousedown" ++ (10 ∷ (codes "0 post f1 f1 https://a.example payment" ++ (10 ∷ (codes "0 input f1 mousedown" ++ (10 ∷ (codes "0 post f1 f1 https://a.example payment" ++ (10 ∷ (codes "0 input f1 mousedown" ++ (10 ∷ (codes "0 post f1 f1 https://a.example payment" ++ (10 ∷ (codes "0 input f1 mousedown" ++ (10 ∷ (codes "0 post f1 f1 https://a.example payment" ++ (10 ∷ (codes "0 input f1 mousedown" ++ (10 ∷ (codes "0 post f1 f1 https://a.example payment" ++ (10 ∷ (codes "0 input f1 mousedown" ++ (10 ∷ (codes "0 post f1 f1 https://a.example payment" ++ (10 ∷ (codes "0 input f1 mousedown" ++ (10 ∷ (codes "0 post f1 f1 https://a.example payment" ++ (10 ∷ (codes "0 input f1 mousedown" ++ (10 ∷ (codes "0 post f1 f1 https://a.example payment" ++ (10 ∷ (codes "0 input f1 mousedown" ++ (10 ∷ (codes "0 post f1 f1 https://a.example payment" ++ (10 ∷ (codes "0 input f1 mousedown" ++ (10 ∷ (codes "0 post f1 f1 https://a.example payment" ++ (10 ∷ (codes "0 input f1 mousedown" ++ (10 ∷ (codes "0 post f1 f1 https://a.example payment" ++ (10 ∷ (codes "0 input f1 mousedown" ++ (10 ∷ (codes "0 post f1 f1 https://a.example payment" ++ (10 ∷ (codes "0 input f1 mousedown" ++ (10 ∷ (codes "0 post f1 f1 https://a.example payment" ++ (10 ∷ (codes "0 input f1 mousedown" ++ (10 ∷ (codes "0 post f1 f1 https://a.example payment" ++ (10 ∷ (codes "0 input f1 mousedown" ++ (10 ∷ (codes "0 post f1 f1 https://a.example payment" ++ (10 ∷ (codes "0 input f1 mousedown" ++ (10 ∷ (codes "0 post f1 f1 https://a.example payment" ++ (10 ∷ (codes "0 input f1 mousedown" ++ (10 ∷ (codes "0 post f1 f1 https://a.example payment" ++ (10 ∷ (codes "0 input f1 mousedown" ++ (10 ∷ (codes "0 post f1 f1 https://a.example payment" ++ (10 ∷ (codes "0 input f1 mousedown" ++ (10 ∷ (codes "0 post f1 f1 https://a.example payment" ++ (10 ∷ (codes "0 input f1 mousedown" ++ (10 ∷ (codes "0 post f1 f1 https://a.example payment" ++ (10 ∷ (codes "0 input f1 mousedown" ++ (10 ∷ (codes "0 post f1 f1 https://a.example payment" ++ (10 ∷ (codes "0 input f1 mousedown" ++ (10 ∷ (codes "0 post f1 f1 https://a.example payment" ++ (10 ∷ (codes "0 input f1 mousedown" ++ (10 ∷ (codes "0 post f1 f1 https://a.example payment" ++ (10 ∷ (codes "0 input f1 mousedown" ++ (10 ∷ (codes "0 post f1 f1 https://a.example payment" ++ (10 ∷ (codes "0 input f1 mousedown" ++ (10 ∷ (codes "0 post f1 f1 https://a.example payment" ++ (10 ∷ (codes "0 input f1 mousedown" ++ (10 ∷ (codes "0 post f1 f1 https://a.example payment" ++ (10 ∷ (codes "0 input f1 mousedown" ++ (10 ∷ (codes "0 post f1 f1 https://a.example payment" ++ (10 ∷ (codes "0 input f1 mousedown" ++ (10 ∷ (codes "0 post f1 f1 https://a.example payment" ++ (10 ∷ (codes "0 input f1 mousedown" ++ (10 ∷ (codes "0 post f1 f1 https://a.example payment" ++ (10 ∷ (codes "0 input f1 mousedown" ++ (10 ∷ (codes "0 post f1 f1 https://a.example payment" ++ (10 ∷ (codes "0 input f1 mousedown" ++ (10 ∷ (codes "0 post f1 f1 https://a.example payment" ++ (10 ∷ (codes "0 input f1 mousedown" ++ (10 ∷ (codes "0 post f1 f1 https://a.example payment" ++ (10 ∷ (codes "0 input f1 mousedown" ++ (10 ∷ (codes "0 post f1 f1 https://a.example payment" ++ (10 ∷ (codes "0 input f1 mousedown" ++ (10 ∷ (codes "0 post f1 f1 https://a.example payment" ++ (10 ∷ (codes "0 input f1 mousedown" ++ (10 ∷ (codes "0 post f1 f1 https://a.example payment" ++ (10 ∷ (codes "0 input f1 mousedown" ++ (10 ∷ (codes "0 post f1 f1 https://a.example payment" ++ (10 ∷ (codes "0 input f1 mousedown" ++ (10 ∷ (codes "0 post f1 f1 https://a.example payment" ++ (10 ∷ (codes "0 input f1 mousedown" ++ (10 ∷ (codes "0 post f1 f1 https://a.example payment" ++ (10 ∷ (codes "0 input f1 mousedown" ++ (10 ∷ (codes "0 post f1 f1 https://a.example payment" ++ (10 ∷ (codes "0 input f1 mousedown" ++ (10 ∷ (codes "0 post f1 f1 https://a.example payment" ++ (10 ∷ (codes "0 input f1 mousedown" ++ (10 ∷ (codes "0 post f1 f1 https://a.example payment" ++ (10 ∷ (codes "0 input f1 mousedown" ++ (10 ∷ (codes "0 post f1 f1 https://a.example payment" ++ (10 ∷ (codes "0 input f1 mousedown" ++ (10 ∷ (codes "0 post f1 f1 https://a.example payment" ++ (10 ∷ (codes "0 input f1 mousedown" ++ (10 ∷ (codes "0 post f1 f1 https://a.example payment" ++ (10 ∷ (codes "0 input f1 mousedown" ++ (10 ∷ (codes "0 post f1 f1 https://a.example payment" ++ (10 ∷ (codes "0 input f1 mousedown" ++ (10 ∷ (codes "0 post f1 f1 https://a.example payment" ++ (10 ∷ (codes "0 input f1 mousedown" ++ (10 ∷ (codes "0 post f1 f1 https://a.example payment" ++ (10 ∷ (codes "0 input f1 mousedown" ++ (10 ∷ (codes "0 post f1 f1 https://a.example payment" ++ (10 ∷ (codes "0 input f1 mousedown" ++ (10 ∷ (codes "0 post f1 f1 https://a.example payment" ++ (10 ∷ (codes "0 input f1 mousedown" ++ (10 ∷ (codes "0 post f1 f1 https://a.example payment" ++ (10 ∷ (codes "0 input f1 mousedown" ++ (10 ∷ (codes "0 post f1 f1 https://a.example payment" ++ (10 ∷ (codes "0 input f1 mousedown" ++ (10 ∷ (codes "0 post f1 f1 https://a.example payment" ++ (10 ∷ (codes "0 input f1 mousedown" ++ (10 ∷ (codes "0 post f1 f1 https://a.example payment" ++ (10 ∷ (codes "0 input f1 mousedown" ++ (10 ∷ (codes "0 post f1 f1 https://a.example payment" ++ (10 ∷ (codes "0 input f1 mousedown" ++ (10 ∷ (codes "0 post f1 f1 https://a.example payment" ++ (10 ∷ (codes "0 input f1 mousedown" ++ (10 ∷ (codes "0 post f1 f1 https://a.example payment" ++ (10 ∷ (codes "0 input f1 mousedown" ++ (10 ∷ (codes "0 post f1 f1 https://a.example payment" ++ (10 ∷ (codes "0 input f1 mousedown" ++ (10 ∷ (codes "0 post f1 f1 https://a.example payment" ++ (10 ∷ (codes "0 input f1 mousedown" ++ (10 ∷ (codes "0 post f1 f1 https://a.example payment" ++ (10 ∷ (codes "0 input f1 mousedown" ++ (10 ∷ (codes "0 post f1 f1 https://a.example payment" ++ (10 ∷ (codes "0 input f1 mousedown" ++ (10 ∷ (codes "0 post f1 f1 https://a.example payment" ++ (10 ∷ (codes "0 input f1 mousedown" ++ (10 ∷ (codes "0 post f1 f1 https://a.example payment" ++ (10 ∷ (codes "0 input f1 mousedown" ++ (10 ∷ (codes "0 post f1 f1 https://a.example payment" ++ (10 ∷ (codes "0 input f1 mousedown" ++ (10 ∷ (codes "0 post f1 f1 https://a.example payment" ++ (10 ∷ (codes "0 input f1 mousedown" ++ (10 ∷ (codes "0 post f1 f1 https://a.example payment" ++ (10 ∷ (codes "0 input f1 mousedown" ++ (10 ∷ (codes "0 post f1 f1 https://a.example payment" ++ (10 ∷ (codes "0 input f1 mousedown" ++ (10 ∷ (codes "0 post f1 f1 https://a.example payment" ++ (10 ∷ (codes "0 input f1 mousedown" ++ (10 ∷ (codes "0 post f1 f1 https://a.example payment" ++ (10 ∷ (codes "0 input f1 mousedown" ++ (10 ∷ (codes "0 post f1 f1 https://a.example payment" ++ (10 ∷ (codes "0 input f1 mousedown" ++ (10 ∷ (codes "0 post f1 f1 https://a.example payment" ++ (10 ∷ (codes "0 input f1 mousedown" ++ (10 ∷ (codes "0 post f1 f1 https://a.example payment" ++ (10 ∷ (codes "0 input f1 mousedown" ++ (10 ∷ (codes "0 post f1 f1 https://a.example payment" ++ (10 ∷ (codes "0 input f1 mousedown" ++ (10 ∷ (codes "0 post f1 f1 https://a.example payment" ++ (10 ∷ (codes "0 input f1 mousedown" ++ (10 ∷ (codes "0 post f1 f1 https://a.example payment" ++ (10 ∷ (codes "0 input f1 mousedown" ++ (10 ∷ (codes "0 post f1 f1 https://a.example payment" ++ (10 ∷ (codes "0 input f1 mousedown" ++ (10 ∷ (codes "0 post f1 f1 https://a.example payment" ++ (10 ∷ (codes "0 input f1 mousedown" ++ (10 ∷ (codes "0 post f1 f1 https://a.example payment" ++ (10 ∷ (codes "0 input f1 mousedown" ++ (10 ∷ (codes "0 post f1 f1 https://a.example payment" ++ (10 ∷ (codes "0 input f1 mousedown" ++ (10 ∷ (codes "0 post f1 f1 https://a.example payment" ++ (10 ∷ (codes "0 input f1 mousedown" ++ (10 ∷ (codes "0 post f1 f1 https://a.example payment" ++ (10 ∷ (codes "0 input f1 mousedown" ++ (10 ∷ (codes "0 post f1 f1 https://a.example payment" ++ (10 ∷ (codes "0 input f1 mousedown" ++ (10 ∷ (codes "0 post f1 f1 https://a.example payment" ++ (10 ∷ (codes "0 input f1 mousedown" ++ (10 ∷ (codes "0 post f1 f1 https://a.example payment" ++ (10 ∷ (codes "0 input f1 mousedown" ++ (10 ∷ (codes "0 post f1 f1 https://a.example payment" ++ (10 ∷ (codes "0 input f1 mousedown" ++ (10 ∷ (codes "0 post f1 f1 https://a.example payment" ++ (10 ∷ (codes "0 input f1 mousedown" ++ (10 ∷ (codes "0 post f1 f1 https://a.example payment" ++ (10 ∷ (codes "0 input f1 mousedown" ++ (10 ∷ (codes "0 post f1 f1 https://a.example payment" ++ (10 ∷ (codes "0 input f1 mousedown" ++ (10 ∷ (codes "0 post f1 f1 https://a.example payment" ++ (10 ∷ (codes "0 input f1 mousedown" ++ (10 ∷ (codes "0 post f1 f1 https://a.example payment" ++ (10 ∷ (codes "0 input f1 mousedown" ++ (10 ∷ (codes "0 post f1 f1 https://a.example payment" ++ (10 ∷ (codes "0 input f1 mousedown" ++ (10 ∷ (codes "0 post f1 f1 https://a.example payment" ++ (10 ∷ (codes "0 input f1 mousedown" ++ (10 ∷ (codes "0 post f1 f1 https://a.example payment" ++ (10 ∷ (codes "0 input f1 mousedown" ++ (10 ∷ (codes "0 post f1 f1 https://a.example payment" ++ (10 ∷ (codes "0 input f1 mousedown" ++ (10 ∷ (codes "0 post f1 f1 https://a.example payment" ++ (10 ∷ (codes "0 input f1 mousedown" ++ (10 ∷ (codes "0 post f1 f1 https://a.example payment" ++ (10 ∷ (codes "0 input f1 mousedown" ++ (10 ∷ (codes "0 post f1 f1 https://a.example payment" ++ (10 ∷ (codes "0 input f1 mousedown" ++ (10 ∷ (codes "0 post f1 f1 https://a.example payment" ++ (10 ∷ (codes "0 input f1 mousedown" ++ (10 ∷ (codes "0 post f1 f1 https://a.example payment" ++ (10 ∷ (codes "0 input f1 mousedown" ++ (10 ∷ (codes "0 post f1 f1 https://a.example payment" ++ (10 ∷ (codes "0 input f1 mousedown" ++ (10 ∷ (codes "0 post f1 f1 https://a.example payment" ++ (10 ∷ (codes "0 input f1 mousedown" ++ (10 ∷ (codes "0 post f1 f1 https://a.example payment" ++ (10 ∷ (codes "0 input f1 mousedown" ++ (10 ∷ (codes "0 post f1 f1 https://a.example payment" ++ (10 ∷ (codes "0 input f1 mousedown" ++ (10 ∷ (codes "0 post f1 f1 https://a.example payment" ++ (10 ∷ (codes "0 input f1 mousedown" ++ (10 ∷ (codes "0 post f1 f1 https://a.example payment" ++ (10 ∷ (codes "0 input f1 mousedown" ++ (10 ∷ (codes "0 post f1 f1 https://a.example payment" ++ (10 ∷ [])))))))))))))))))))))))))))))))))))))))))))))))))))))))))))))))))))))))))))))))))))))))))))))))))))))))))))))))))))))))))))))))))))))))))))))))))))))))))))))))))))))))))))))))))))))))))))))))))))))))))))))))))))))))))))))))))))))))))))))))))))))))))))))))))))))))))))))))))))))))))))))))))))))))))))))))))))))))))))))))))))))))))))))))))))))))))))))))))))))))))))))))))))))))))))))))))))))))))))))))))))))))))))))))))))))))))))))))))))))))))))))))))))))))))))))))))))))))))))))))))))))))))))))))))))))))))))))))))))))))))))))))))))))))))))))))))))))))))))))))))))))))))))))))))))))))))))))))))))))))))))))))))))))))))))))))))))))))))))))))))))))))))))))))))))))))))))))))))))))))))))))))))))))))))))))))))))))))))))))))))))))))))))))))))))))))))))))))))))))))))))))))))))))))))))))))))))))))))))))))))))))))))))))))))))))))))))))))))))))))))))))))))))))))))))))))))))))))))))))))))))))))))))))))))))))))))))))))))))))))))))))))))))))))))))))))))))))))))))))))))))))))))))))))))))))))))))))))))))))))))))))))))))))))))))))))))))))

-- the output
unfoldable pub output : List ℕ
output = codes "1 frame f1 doc d1 https://a.example" ++ (10 ∷ (codes "2 activated 1" ++ (10 ∷ (codes "3 message m3" ++ (10 ∷ (codes "4 activated 1" ++ (10 ∷ (codes "5 message m5" ++ (10 ∷ (codes "6 activated 1" ++ (10 ∷ (codes "7 message m7" ++ (10 ∷ (codes "8 activated 1" ++ (10 ∷ (codes "9 message m9" ++ (10 ∷ (codes "10 activated 1" ++ (10 ∷ (codes "11 message m11" ++ (10 ∷ (codes "12 activated 1" ++ (10 ∷ (codes "13 message m13" ++ (10 ∷ (codes "14 activated 1" ++ (10 ∷ (codes "15 message m15" ++ (10 ∷ (codes "16 activated 1" ++ (10 ∷ (codes "17 message m17" ++ (10 ∷ (codes "18 activated 1" ++ (10 ∷ (codes "19 message m19" ++ (10 ∷ (codes "20 activated 1" ++ (10 ∷ (codes "21 message m21" ++ (10 ∷ (codes "22 activated 1" ++ (10 ∷ (codes "23 message m23" ++ (10 ∷ (codes "24 activated 1" ++ (10 ∷ (codes "25 message m25" ++ (10 ∷ (codes "26 activated 1" ++ (10 ∷ (codes "27 message m27" ++ (10 ∷ (codes "28 activated 1" ++ (10 ∷ (codes "29 message m29" ++ (10 ∷ (codes "30 activated 1" ++ (10 ∷ (codes "31 message m31" ++ (10 ∷ (codes "32 activated 1" ++ (10 ∷ (codes "33 message m33" ++ (10 ∷ (codes "34 activated 1" ++ (10 ∷ (codes "35 message m35" ++ (10 ∷ (codes "36 activated 1" ++ (10 ∷ (codes "37 message m37" ++ (10 ∷ (codes "38 activated 1" ++ (10 ∷ (codes "39 message m39" ++ (10 ∷ (codes "40 activated 1" ++ (10 ∷ (codes "41 message m41" ++ (10 ∷ (codes "42 activated 1" ++ (10 ∷ (codes "43 message m43" ++ (10 ∷ (codes "44 activated 1" ++ (10 ∷ (codes "45 message m45" ++ (10 ∷ (codes "46 activated 1" ++ (10 ∷ (codes "47 message m47" ++ (10 ∷ (codes "48 activated 1" ++ (10 ∷ (codes "49 message m49" ++ (10 ∷ (codes "50 activated 1" ++ (10 ∷ (codes "51 message m51" ++ (10 ∷ (codes "52 activated 1" ++ (10 ∷ (codes "53 message m53" ++ (10 ∷ (codes "54 activated 1" ++ (10 ∷ (codes "55 message m55" ++ (10 ∷ (codes "56 activated 1" ++ (10 ∷ (codes "57 message m57" ++ (10 ∷ (codes "58 activated 1" ++ (10 ∷ (codes "59 message m59" ++ (10 ∷ (codes "60 activated 1" ++ (10 ∷ (codes "61 message m61" ++ (10 ∷ (codes "62 activated 1" ++ (10 ∷ (codes "63 message m63" ++ (10 ∷ (codes "64 activated 1" ++ (10 ∷ (codes "65 message m65" ++ (10 ∷ (codes "66 activated 1" ++ (10 ∷ (codes "67 message m67" ++ (10 ∷ (codes "68 activated 1" ++ (10 ∷ (codes "69 message m69" ++ (10 ∷ (codes "70 activated 1" ++ (10 ∷ (codes "71 message m71" ++ (10 ∷ (codes "72 activated 1" ++ (10 ∷ (codes "73 message m73" ++ (10 ∷ (codes "74 activated 1" ++ (10 ∷ (codes "75 message m75" ++ (10 ∷ (codes "76 activated 1" ++ (10 ∷ (codes "77 message m77" ++ (10 ∷ (codes "78 activated 1" ++ (10 ∷ (codes "79 message m79" ++ (10 ∷ (codes "80 activated 1" ++ (10 ∷ (codes "81 message m81" ++ (10 ∷ (codes "82 activated 1" ++ (10 ∷ (codes "83 message m83" ++ (10 ∷ (codes "84 activated 1" ++ (10 ∷ (codes "85 message m85" ++ (10 ∷ (codes "86 activated 1" ++ (10 ∷ (codes "87 message m87" ++ (10 ∷ (codes "88 activated 1" ++ (10 ∷ (codes "89 message m89" ++ (10 ∷ (codes "90 activated 1" ++ (10 ∷ (codes "91 message m91" ++ (10 ∷ (codes "92 activated 1" ++ (10 ∷ (codes "93 message m93" ++ (10 ∷ (codes "94 activated 1" ++ (10 ∷ (codes "95 message m95" ++ (10 ∷ (codes "96 activated 1" ++ (10 ∷ (codes "97 message m97" ++ (10 ∷ (codes "98 activated 1" ++ (10 ∷ (codes "99 message m99" ++ (10 ∷ (codes "100 activated 1" ++ (10 ∷ (codes "101 message m101" ++ (10 ∷ (codes "102 activated 1" ++ (10 ∷ (codes "103 message m103" ++ (10 ∷ (codes "104 activated 1" ++ (10 ∷ (codes "105 message m105" ++ (10 ∷ (codes "106 activated 1" ++ (10 ∷ (codes "107 message m107" ++ (10 ∷ (codes "108 activated 1" ++ (10 ∷ (codes "109 message m109" ++ (10 ∷ (codes "110 activated 1" ++ (10 ∷ (codes "111 message m111" ++ (10 ∷ (codes "112 activated 1" ++ (10 ∷ (codes "113 message m113" ++ (10 ∷ (codes "114 activated 1" ++ (10 ∷ (codes "115 message m115" ++ (10 ∷ (codes "116 activated 1" ++ (10 ∷ (codes "117 message m117" ++ (10 ∷ (codes "118 activated 1" ++ (10 ∷ (codes "119 message m119" ++ (10 ∷ (codes "120 activated 1" ++ (10 ∷ (codes "121 message m121" ++ (10 ∷ (codes "122 activated 1" ++ (10 ∷ (codes "123 message m123" ++ (10 ∷ (codes "124 activated 1" ++ (10 ∷ (codes "125 message m125" ++ (10 ∷ (codes "126 activated 1" ++ (10 ∷ (codes "127 message m127" ++ (10 ∷ (codes "128 activated 1" ++ (10 ∷ (codes "129 message m129" ++ (10 ∷ (codes "130 activated 1" ++ (10 ∷ (codes "131 message m131" ++ (10 ∷ (codes "132 activated 1" ++ (10 ∷ (codes "133 message m133" ++ (10 ∷ (codes "134 activated 1" ++ (10 ∷ (codes "135 message m135" ++ (10 ∷ (codes "136 activated 1" ++ (10 ∷ (codes "137 message m137" ++ (10 ∷ (codes "138 activated 1" ++ (10 ∷ (codes "139 message m139" ++ (10 ∷ (codes "140 activated 1" ++ (10 ∷ (codes "141 message m141" ++ (10 ∷ (codes "142 activated 1" ++ (10 ∷ (codes "143 message m143" ++ (10 ∷ (codes "144 activated 1" ++ (10 ∷ (codes "145 message m145" ++ (10 ∷ (codes "146 activated 1" ++ (10 ∷ (codes "147 message m147" ++ (10 ∷ (codes "148 activated 1" ++ (10 ∷ (codes "149 message m149" ++ (10 ∷ (codes "150 activated 1" ++ (10 ∷ (codes "151 message m151" ++ (10 ∷ (codes "152 activated 1" ++ (10 ∷ (codes "153 message m153" ++ (10 ∷ (codes "154 activated 1" ++ (10 ∷ (codes "155 message m155" ++ (10 ∷ (codes "156 activated 1" ++ (10 ∷ (codes "157 message m157" ++ (10 ∷ (codes "158 activated 1" ++ (10 ∷ (codes "159 message m159" ++ (10 ∷ (codes "160 activated 1" ++ (10 ∷ (codes "161 message m161" ++ (10 ∷ (codes "162 activated 1" ++ (10 ∷ (codes "163 message m163" ++ (10 ∷ (codes "164 activated 1" ++ (10 ∷ (codes "165 message m165" ++ (10 ∷ (codes "166 activated 1" ++ (10 ∷ (codes "167 message m167" ++ (10 ∷ (codes "168 activated 1" ++ (10 ∷ (codes "169 message m169" ++ (10 ∷ (codes "170 activated 1" ++ (10 ∷ (codes "171 message m171" ++ (10 ∷ (codes "172 activated 1" ++ (10 ∷ (codes "173 message m173" ++ (10 ∷ (codes "174 activated 1" ++ (10 ∷ (codes "175 message m175" ++ (10 ∷ (codes "176 activated 1" ++ (10 ∷ (codes "177 message m177" ++ (10 ∷ (codes "178 activated 1" ++ (10 ∷ (codes "179 message m179" ++ (10 ∷ (codes "180 activated 1" ++ (10 ∷ (codes "181 message m181" ++ (10 ∷ (codes "182 activated 1" ++ (10 ∷ (codes "183 message m183" ++ (10 ∷ (codes "184 activated 1" ++ (10 ∷ (codes "185 message m185" ++ (10 ∷ (codes "186 activated 1" ++ (10 ∷ (codes "187 message m187" ++ (10 ∷ (codes "188 activated 1" ++ (10 ∷ (codes "189 message m189" ++ (10 ∷ (codes "190 activated 1" ++ (10 ∷ (codes "191 message m191" ++ (10 ∷ (codes "192 activated 1" ++ (10 ∷ (codes "193 message m193" ++ (10 ∷ (codes "194 activated 1" ++ (10 ∷ (codes "195 message m195" ++ (10 ∷ (codes "196 activated 1" ++ (10 ∷ (codes "197 message m197" ++ (10 ∷ (codes "198 activated 1" ++ (10 ∷ (codes "199 message m199" ++ (10 ∷ (codes "200 activated 1" ++ (10 ∷ (codes "201 message m201" ++ (10 ∷ (codes "202 activated 1" ++ (10 ∷ (codes "203 message m203" ++ (10 ∷ (codes "204 activated 1" ++ (10 ∷ (codes "205 message m205" ++ (10 ∷ (codes "206 activated 1" ++ (10 ∷ (codes "207 message m207" ++ (10 ∷ (codes "208 activated 1" ++ (10 ∷ (codes "209 message m209" ++ (10 ∷ (codes "210 activated 1" ++ (10 ∷ (codes "211 message m211" ++ (10 ∷ (codes "212 activated 1" ++ (10 ∷ (codes "213 message m213" ++ (10 ∷ (codes "214 activated 1" ++ (10 ∷ (codes "215 message m215" ++ (10 ∷ (codes "216 activated 1" ++ (10 ∷ (codes "217 message m217" ++ (10 ∷ (codes "218 activated 1" ++ (10 ∷ (codes "219 message m219" ++ (10 ∷ (codes "220 activated 1" ++ (10 ∷ (codes "221 message m221" ++ (10 ∷ (codes "222 activated 1" ++ (10 ∷ (codes "223 message m223" ++ (10 ∷ (codes "224 activated 1" ++ (10 ∷ (codes "225 message m225" ++ (10 ∷ (codes "226 activated 1" ++ (10 ∷ (codes "227 message m227" ++ (10 ∷ (codes "228 activated 1" ++ (10 ∷ (codes "229 message m229" ++ (10 ∷ (codes "230 activated 1" ++ (10 ∷ (codes "231 message m231" ++ (10 ∷ (codes "232 activated 1" ++ (10 ∷ (codes "233 message m233" ++ (10 ∷ (codes "234 activated 1" ++ (10 ∷ (codes "235 message m235" ++ (10 ∷ (codes "236 activated 1" ++ (10 ∷ (codes "237 message m237" ++ (10 ∷ (codes "238 activated 1" ++ (10 ∷ (codes "239 message m239" ++ (10 ∷ (codes "240 activated 1" ++ (10 ∷ (codes "241 message m241" ++ (10 ∷ (codes "242 activated 1" ++ (10 ∷ (codes "243 message m243" ++ (10 ∷ (codes "244 activated 1" ++ (10 ∷ (codes "245 message m245" ++ (10 ∷ (codes "246 activated 1" ++ (10 ∷ (codes "247 message m247" ++ (10 ∷ (codes "248 activated 1" ++ (10 ∷ (codes "249 message m249" ++ (10 ∷ (codes "250 activated 1" ++ (10 ∷ (codes "251 message m251" ++ (10 ∷ (codes "252 activated 1" ++ (10 ∷ (codes "253 message m253" ++ (10 ∷ (codes "254 activated 1" ++ (10 ∷ (codes "255 message m255" ++ (10 ∷ (codes "256 activated 1" ++ (10 ∷ (codes "257 message m257" ++ (10 ∷ (codes "258 activated 1" ++ (10 ∷ (codes "259 message m259" ++ (10 ∷ (codes "260 activated 1" ++ (10 ∷ (codes "261 message m261" ++ (10 ∷ (codes "262 activated 1" ++ (10 ∷ (codes "263 message m263" ++ (10 ∷ (codes "264 activated 1" ++ (10 ∷ (codes "265 message m265" ++ (10 ∷ (codes "266 activated 1" ++ (10 ∷ (codes "267 message m267" ++ (10 ∷ (codes "268 activated 1" ++ (10 ∷ (codes "269 message m269" ++ (10 ∷ (codes "270 activated 1" ++ (10 ∷ (codes "271 message m271" ++ (10 ∷ (codes "272 activated 1" ++ (10 ∷ (codes "273 message m273" ++ (10 ∷ (codes "274 activated 1" ++ (10 ∷ (codes "275 message m275" ++ (10 ∷ (codes "276 activated 1" ++ (10 ∷ (codes "277 message m277" ++ (10 ∷ (codes "278 activated 1" ++ (10 ∷ (codes "279 message m279" ++ (10 ∷ (codes "280 activated 1" ++ (10 ∷ (codes "281 message m281" ++ (10 ∷ (codes "282 activated 1" ++ (10 ∷ (codes "283 message m283" ++ (10 ∷ (codes "284 activated 1" ++ (10 ∷ (codes "285 message m285" ++ (10 ∷ (codes "286 activated 1" ++ (10 ∷ (codes "287 message m287" ++ (10 ∷ (codes "288 activated 1" ++ (10 ∷ (codes "289 message m289" ++ (10 ∷ (codes "290 activated 1" ++ (10 ∷ (codes "291 message m291" ++ (10 ∷ (codes "292 activated 1" ++ (10 ∷ (codes "293 message m293" ++ (10 ∷ (codes "294 activated 1" ++ (10 ∷ (codes "295 message m295" ++ (10 ∷ (codes "296 activated 1" ++ (10 ∷ (codes "297 message m297" ++ (10 ∷ (codes "298 activated 1" ++ (10 ∷ (codes "299 message m299" ++ (10 ∷ (codes "300 activated 1" ++ (10 ∷ (codes "301 message m301" ++ (10 ∷ (codes "302 activated 1" ++ (10 ∷ (codes "303 message m303" ++ (10 ∷ (codes "304 activated 1" ++ (10 ∷ (codes "305 message m305" ++ (10 ∷ (codes "306 activated 1" ++ (10 ∷ (codes "307 message m307" ++ (10 ∷ (codes "308 activated 1" ++ (10 ∷ (codes "309 message m309" ++ (10 ∷ (codes "310 activated 1" ++ (10 ∷ (codes "311 message m311" ++ (10 ∷ (codes "312 activated 1" ++ (10 ∷ (codes "313 message m313" ++ (10 ∷ (codes "314 activated 1" ++ (10 ∷ (codes "315 message m315" ++ (10 ∷ (codes "316 activated 1" ++ (10 ∷ (codes "317 message m317" ++ (10 ∷ (codes "318 activated 1" ++ (10 ∷ (codes "319 message m319" ++ (10 ∷ (codes "320 activated 1" ++ (10 ∷ (codes "321 message m321" ++ (10 ∷ (codes "322 activated 1" ++ (10 ∷ (codes "323 message m323" ++ (10 ∷ (codes "324 activated 1" ++ (10 ∷ (codes "325 message m325" ++ (10 ∷ (codes "326 activated 1" ++ (10 ∷ (codes "327 message m327" ++ (10 ∷ (codes "328 activated 1" ++ (10 ∷ (codes "329 message m329" ++ (10 ∷ (codes "330 activated 1" ++ (10 ∷ (codes "331 message m331" ++ (10 ∷ (codes "332 activated 1" ++ (10 ∷ (codes "333 message m333" ++ (10 ∷ (codes "334 activated 1" ++ (10 ∷ (codes "335 message m335" ++ (10 ∷ (codes "336 activated 1" ++ (10 ∷ (codes "337 message m337" ++ (10 ∷ (codes "338 activated 1" ++ (10 ∷ (codes "339 message m339" ++ (10 ∷ (codes "340 activated 1" ++ (10 ∷ (codes "341 message m341" ++ (10 ∷ (codes "342 activated 1" ++ (10 ∷ (codes "343 message m343" ++ (10 ∷ (codes "344 activated 1" ++ (10 ∷ (codes "345 message m345" ++ (10 ∷ (codes "346 activated 1" ++ (10 ∷ (codes "347 message m347" ++ (10 ∷ (codes "348 activated 1" ++ (10 ∷ (codes "349 message m349" ++ (10 ∷ (codes "350 activated 1" ++ (10 ∷ (codes "351 message m351" ++ (10 ∷ (codes "352 activated 1" ++ (10 ∷ (codes "353 message m353" ++ (10 ∷ (codes "354 activated 1" ++ (10 ∷ (codes "355 message m355" ++ (10 ∷ (codes "356 activated 1" ++ (10 ∷ (codes "357 message m357" ++ (10 ∷ (codes "358 activated 1" ++ (10 ∷ (codes "359 message m359" ++ (10 ∷ (codes "360 activated 1" ++ (10 ∷ (codes "361 message m361" ++ (10 ∷ (codes "362 activated 1" ++ (10 ∷ (codes "363 message m363" ++ (10 ∷ (codes "364 activated 1" ++ (10 ∷ (codes "365 message m365" ++ (10 ∷ (codes "366 activated 1" ++ (10 ∷ (codes "367 message m367" ++ (10 ∷ (codes "368 activated 1" ++ (10 ∷ (codes "369 message m369" ++ (10 ∷ (codes "370 activated 1" ++ (10 ∷ (codes "371 message m371" ++ (10 ∷ (codes "372 activated 1" ++ (10 ∷ (codes "373 message m373" ++ (10 ∷ (codes "374 activated 1" ++ (10 ∷ (codes "375 message m375" ++ (10 ∷ (codes "376 activated 1" ++ (10 ∷ (codes "377 message m377" ++ (10 ∷ (codes "378 activated 1" ++ (10 ∷ (codes "379 message m379" ++ (10 ∷ (codes "380 activated 1" ++ (10 ∷ (codes "381 message m381" ++ (10 ∷ (codes "382 activated 1" ++ (10 ∷ (codes "383 message m383" ++ (10 ∷ (codes "384 activated 1" ++ (10 ∷ (codes "385 message m385" ++ (10 ∷ (codes "386 activated 1" ++ (10 ∷ (codes "387 message m387" ++ (10 ∷ (codes "388 activated 1" ++ (10 ∷ (codes "389 message m389" ++ (10 ∷ (codes "390 activated 1" ++ (10 ∷ (codes "391 message m391" ++ (10 ∷ (codes "392 activated 1" ++ (10 ∷ (codes "393 message m393" ++ (10 ∷ (codes "394 activated 1" ++ (10 ∷ (codes "395 message m395" ++ (10 ∷ (codes "396 activated 1" ++ (10 ∷ (codes "397 message m397" ++ (10 ∷ (codes "398 activated 1" ++ (10 ∷ (codes "399 message m399" ++ (10 ∷ (codes "400 activated 1" ++ (10 ∷ (codes "401 message m401" ++ (10 ∷ (codes "402 activated 1" ++ (10 ∷ (codes "403 message m403" ++ (10 ∷ (codes "404 activated 1" ++ (10 ∷ (codes "405 message m405" ++ (10 ∷ (codes "406 activated 1" ++ (10 ∷ (codes "407 message m407" ++ (10 ∷ (codes "408 activated 1" ++ (10 ∷ (codes "409 message m409" ++ (10 ∷ (codes "410 activated 1" ++ (10 ∷ (codes "411 message m411" ++ (10 ∷ (codes "412 activated 1" ++ (10 ∷ (codes "413 message m413" ++ (10 ∷ (codes "414 activated 1" ++ (10 ∷ (codes "415 message m415" ++ (10 ∷ (codes "416 activated 1" ++ (10 ∷ (codes "417 message m417" ++ (10 ∷ (codes "418 activated 1" ++ (10 ∷ (codes "419 message m419" ++ (10 ∷ (codes "420 activated 1" ++ (10 ∷ (codes "421 message m421" ++ (10 ∷ (codes "422 activated 1" ++ (10 ∷ (codes "423 message m423" ++ (10 ∷ (codes "424 activated 1" ++ (10 ∷ (codes "425 message m425" ++ (10 ∷ (codes "426 activated 1" ++ (10 ∷ (codes "427 message m427" ++ (10 ∷ (codes "428 activated 1" ++ (10 ∷ (codes "429 message m429" ++ (10 ∷ (codes "430 activated 1" ++ (10 ∷ (codes "431 message m431" ++ (10 ∷ (codes "432 activated 1" ++ (10 ∷ (codes "433 message m433" ++ (10 ∷ (codes "434 activated 1" ++ (10 ∷ (codes "435 message m435" ++ (10 ∷ (codes "436 activated 1" ++ (10 ∷ (codes "437 message m437" ++ (10 ∷ (codes "438 activated 1" ++ (10 ∷ (codes "439 message m439" ++ (10 ∷ (codes "440 activated 1" ++ (10 ∷ (codes "441 message m441" ++ (10 ∷ (codes "442 activated 1" ++ (10 ∷ (codes "443 message m443" ++ (10 ∷ (codes "444 activated 1" ++ (10 ∷ (codes "445 message m445" ++ (10 ∷ (codes "446 activated 1" ++ (10 ∷ (codes "447 message m447" ++ (10 ∷ (codes "448 activated 1" ++ (10 ∷ (codes "449 message m449" ++ (10 ∷ (codes "450 activated 1" ++ (10 ∷ (codes "451 message m451" ++ (10 ∷ (codes "452 activated 1" ++ (10 ∷ (codes "453 message m453" ++ (10 ∷ (codes "454 activated 1" ++ (10 ∷ (codes "455 message m455" ++ (10 ∷ (codes "456 activated 1" ++ (10 ∷ (codes "457 message m457" ++ (10 ∷ (codes "458 activated 1" ++ (10 ∷ (codes "459 message m459" ++ (10 ∷ (codes "460 activated 1" ++ (10 ∷ (codes "461 message m461" ++ (10 ∷ (codes "462 activated 1" ++ (10 ∷ (codes "463 message m463" ++ (10 ∷ (codes "464 activated 1" ++ (10 ∷ (codes "465 message m465" ++ (10 ∷ (codes "466 activated 1" ++ (10 ∷ (codes "467 message m467" ++ (10 ∷ (codes "468 activated 1" ++ (10 ∷ (codes "469 message m469" ++ (10 ∷ (codes "470 activated 1" ++ (10 ∷ (codes "471 message m471" ++ (10 ∷ (codes "472 activated 1" ++ (10 ∷ (codes "473 message m473" ++ (10 ∷ (codes "474 activated 1" ++ (10 ∷ (codes "475 message m475" ++ (10 ∷ (codes "476 activated 1" ++ (10 ∷ (codes "477 message m477" ++ (10 ∷ (codes "478 activated 1" ++ (10 ∷ (codes "479 message m479" ++ (10 ∷ (codes "480 activated 1" ++ (10 ∷ (codes "481 message m481" ++ (10 ∷ (codes "482 activated 1" ++ (10 ∷ (codes "483 message m483" ++ (10 ∷ (codes "484 activated 1" ++ (10 ∷ (codes "485 message m485" ++ (10 ∷ (codes "486 activated 1" ++ (10 ∷ (codes "487 message m487" ++ (10 ∷ (codes "488 activated 1" ++ (10 ∷ (codes "489 message m489" ++ (10 ∷ (codes "490 activated 1" ++ (10 ∷ (codes "491 message m491" ++ (10 ∷ (codes "492 activated 1" ++ (10 ∷ (codes "493 message m493" ++ (10 ∷ (codes "494 activated 1" ++ (10 ∷ (codes "495 message m495" ++ (10 ∷ (codes "496 activated 1" ++ (10 ∷ (codes "497 message m497" ++ (10 ∷ (codes "498 activated 1" ++ (10 ∷ (codes "499 message m499" ++ (10 ∷ (codes "500 activated 1" ++ (10 ∷ (codes "501 message m501" ++ (10 ∷ (codes "502 activated 1" ++ (10 ∷ (codes "503 message m503" ++ (10 ∷ (codes "504 activated 1" ++ (10 ∷ (codes "505 message m505" ++ (10 ∷ (codes "506 activated 1" ++ (10 ∷ (codes "507 message m507" ++ (10 ∷ (codes "508 activated 1" ++ (10 ∷ (codes "509 message m509" ++ (10 ∷ (codes "510 activated 1" ++ (10 ∷ (codes "511 message m511" ++ (10 ∷ (codes "512 activated 1" ++ (10 ∷ (codes "513 message m513" ++ (10 ∷ (codes "514 activated 1" ++ (10 ∷ (codes "515 refused limit-pending" ++ (10 ∷ [])))))))))))))))))))))))))))))))))))))))))))))))))))))))))))))))))))))))))))))))))))))))))))))))))))))))))))))))))))))))))))))))))))))))))))))))))))))))))))))))))))))))))))))))))))))))))))))))))))))))))))))))))))))))))))))))))))))))))))))))))))))))))))))))))))))))))))))))))))))))))))))))))))))))))))))))))))))))))))))))))))))))))))))))))))))))))))))))))))))))))))))))))))))))))))))))))))))))))))))))))))))))))))))))))))))))))))))))))))))))))))))))))))))))))))))))))))))))))))))))))))))))))))))))))))))))))))))))))))))))))))))))))))))))))))))))))))))))))))))))))))))))))))))))))))))))))))))))))))))))))))))))))))))))))))))))))))))))))))))))))))))))))))))))))))))))))))))))))))))))))))))))))))))))))))))))))))))))))))))))))))))))))))))))))))))))))))))))))))))))))))))))))))))))))))))))))))))))))))))))))))))))))))))))))))))))))))))))))))))))))))))))))))))))))))))))))))))))))))))))))))))))))))))))))))))))))))))))))))))))))))))))))))))))))))))))))))))))))))))))))))))))))))))))))))))))))))))))))))))))))))))))))))))))))))))))))))))
