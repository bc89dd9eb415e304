-- A host that stands below another.
use Rattle.std.proofs.Common.{◌≡◌, ℕ, suc, ◌+◌, ◌-◌, ◌<◌, ◌≤◌, Bool, true, false, nat_eq, nat_lt, ◌==◌, ◌&&◌, List, ◌∷◌, length, drop, get_or, refl, ap, arith, drop-cons}
use Rattle.std.specs.List.{ends_with}
use Rattle.std.specs.Cmp.Lexicographic.{pointwise}
use Rattle.std.proofs.lemmas.Bool.Decides.{nat_tests}
use Rattle.pe_allowlist.specs.Expressions.{is_host_below}

eq_sym : (a b : ℕ) → (a == b) ≡ (b == a)
eq_sym a b = grind (arith, nat_tests)

-- a dot and the other text, from a place on
split_at_dot : (host above : List ℕ) (j : ℕ) → j < length host
    → pointwise nat_eq (46 ∷ above) (drop j host) ≡ ((get_or host j 0 == 46) && pointwise nat_eq above (drop (suc j) host))
split_at_dot host above j h =
    rw (drop-cons host j 0 h) (ap (λ (b : Bool). b && pointwise nat_eq above (drop (suc j) host)) (eq_sym 46 (get_or host j 0)))

-- the test by the byte before the other text
pub host_below : (host above : List ℕ) (n : ℕ) → n ≡ length host - length above → 1 < n
    → is_host_below host above ≡ ((get_or host (n - 1) 0 == 46) && ends_with nat_eq host above)
host_below host above n h k =
    let longer : nat_lt (length above + 1) (length host) ≡ true = grind (arith, nat_tests) in
    let start : length host - suc (length above) ≡ n - 1 = omega arith in
    let behind : length host - length above ≡ suc (n - 1) = omega arith in
    rw (longer, start, behind) (split_at_dot host above (n - 1) (omega arith))

-- a text that leaves no byte before the dot
pub host_short : (host above : List ℕ) → length host ≤ length above + 1 → is_host_below host above ≡ false
host_short host above h =
    let shorter : nat_lt (length above + 1) (length host) ≡ false = grind (arith, nat_tests) in
    rw shorter refl
