-- The lines that are still to come.
use Rattle.std.proofs.Common.{◌≡◌, ℕ, suc, ◌+◌, ◌-◌, ◌<◌, [], ◌++◌, refl, arith}
use Rattle.pe_generator.specs.Generated.{next_state, drawn, pause, choice, line_of, lines_from}

-- the first of them, and the lines behind it
pub lines_from-more : (count before state time : ℕ) → before < count →
    lines_from (count - before) before state time ≡
    line_of before (time + pause (drawn (next_state state))) (choice (drawn (next_state state))) ++
    lines_from (count - (before + 1)) (before + 1) (next_state state) (time + pause (drawn (next_state state)))
unfolding lines_from
lines_from-more count before state time h = let e : count - before ≡ suc (count - (before + 1)) = omega arith in rw e refl

-- none is still to come
pub lines_from-none : (count before state time : ℕ) → count - before ≡ 0 → lines_from (count - before) before state time ≡ []
unfolding lines_from
lines_from-none count before state time h = rw h refl
