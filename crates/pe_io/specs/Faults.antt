-- What the calls of a source and a sink do to their counts of faults.
use Rattle.std.specs.Prelude.{◌≡◌, ◌≢◌, ℕ, ◌+◌, ◌-◌, ◌^◌, ◌<◌, ◌≤◌, min, OnOk, OnErr, Result}

-- the number after n, where the greatest u64 stays as it is
abbrev pub next_u64 : ℕ → ℕ
next_u64 n = min (n + 1) (2 ^ 64 - 1)

-- the count rose, unless it was the greatest u64
abbrev pub Rises : ℕ → ℕ → Type 0
Rises before now = before ≢ 2 ^ 64 - 1 → before < now

-- the count never falls, an `Err` raises it, and an `Ok` leaves it
pub record CountsFaults {T E : Type 0} (before now : ℕ) (result : Result T E) : Type 0 where
  pub later : before ≤ now
  pub failed : OnErr result (Rises before now)
  pub kept : OnOk result (now ≡ before)
