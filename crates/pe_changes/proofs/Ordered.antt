-- The changes of the definitions stand in order.
use Rattle.std.proofs.Common.{◌≡◌, ℕ, zero, suc, ◌+◌, ◌-◌, ◌<◌, Bool, true, false, not, ◌&&◌, ◌==◌, nat_lt, List, [], ◌∷◌, flat_map, Option, Some, None, option_to_list, refl, sym, ◌∙◌, ap, arith, true≢false}
use Rattle.std.specs.Bool.{Decides}
use Rattle.std.specs.Cmp.{IsStrictWeakOrder}
use Rattle.std.proofs.lemmas.Cmp.{then_total, on_total, nat_cmp_total}
use Rattle.std.proofs.lemmas.List.Sorted.{ranks_by}
use Rattle.std.specs.Ordering.{is_lt, nat_cmp, ordering_then}
use Rattle.std.proofs.lemmas.Bool.Decides.{nat_tests, Decides-and, Decides-like, Decides-eqb}
use Rattle.pe_base.specs.declared.state.State.{State}
use Rattle.pe_base.specs.declared.state.State.TheVariants.{Granted, Denied, Prompt}
use Rattle.pe_events.specs.declared.answer.Change.{Change}
use Rattle.pe_rules.specs.History.{RepliedHistory, some_if, clock}
use Rattle.pe_rules.specs.Statuses.{Status, live_statuses}
use Rattle.pe_rules.specs.Changes.{is_same_state, change_of, numbers_above, change_at, changes_at, changes_before}
use Rattle.pe_laws.specs.StatusesLaws.{Each, AreRising}
use Rattle.pe_changes.proofs.Counts.{each-append, each-weaker}
use Rattle.pe_changes.proofs.Order.{IsStrict, strict-flat}

-- the change comes before the other: by time, and by status at one time
abbrev pub comes_before : Change → Change → Bool
comes_before c d = is_lt (ordering_then (nat_cmp c.time d.time) (nat_cmp c.status d.status))

-- the two changes are one
abbrev pub is_same_change : Change → Change → Bool
is_same_change c d = c.time == d.time && (c.status == d.status && is_same_state c.state d.state)

-- ---- the test of two changes

same-state-decides : (a b : State) → Decides (is_same_state a b) (a ≡ b)
same-state-decides Granted Granted = (λ h. refl, λ h. refl)
same-state-decides Denied Denied = (λ h. refl, λ h. refl)
same-state-decides Prompt Prompt = (λ h. refl, λ h. refl)
same-state-decides Granted Denied = (λ h. absurd (true≢false (sym h)), λ h. absurd cc)
same-state-decides Granted Prompt = (λ h. absurd (true≢false (sym h)), λ h. absurd cc)
same-state-decides Denied Granted = (λ h. absurd (true≢false (sym h)), λ h. absurd cc)
same-state-decides Denied Prompt = (λ h. absurd (true≢false (sym h)), λ h. absurd cc)
same-state-decides Prompt Granted = (λ h. absurd (true≢false (sym h)), λ h. absurd cc)
same-state-decides Prompt Denied = (λ h. absurd (true≢false (sym h)), λ h. absurd cc)

parts : (a b m n : ℕ) (x y : State) → a ≡ b → m ≡ n → x ≡ y → ◌≡◌ {A = ℕ × ℕ × State} (a, m, x) (b, n, y)
parts a b m n x y e f g = cc

from-parts : (c d : Change) → c.time ≡ d.time → c.status ≡ d.status → c.state ≡ d.state → c ≡ d
from-parts c d t s k = ap (λ (p : ℕ × ℕ × State). let x : Change = record { time = p.0; status = p.1; state = p.2 } in x) (parts c.time d.time c.status d.status c.state d.state t s k)

pub same-change-decides : (c d : Change) → Decides (is_same_change c d) (c ≡ d)
same-change-decides c d =
    Decides-like (c.time == d.time && (c.status == d.status && is_same_state c.state d.state))
    (λ e. from-parts c d e.0 e.1.0 e.1.1)
    (λ e. (ap (λ (x : Change). x.time) e, (ap (λ (x : Change). x.status) e, ap (λ (x : Change). x.state) e)))
    (Decides-and (c.time == d.time) (c.status == d.status && is_same_state c.state d.state) (Decides-eqb c.time d.time)
    (Decides-and (c.status == d.status) (is_same_state c.state d.state) (Decides-eqb c.status d.status) (same-state-decides c.state d.state)))

-- ---- the order

pub comes-order : IsStrictWeakOrder comes_before
comes-order = ranks_by (then_total (on_total (λ (c : Change). c.time) nat_cmp_total) (on_total (λ (c : Change). c.status) nat_cmp_total)) (λ (c : Change). c)

number-before : (a b m n : ℕ) → a < b → is_lt (ordering_then (nat_cmp a b) (nat_cmp m n)) ≡ true
number-before a b m n lt = let k : nat_lt a b ≡ true = grind (arith, nat_tests) in rw k refl

number-same : (a b m n : ℕ) → a ≡ b → m < n → is_lt (ordering_then (nat_cmp a b) (nat_cmp m n)) ≡ true
number-same a b m n e lt =
    let k : nat_lt a b ≡ false = grind (arith, nat_tests) in
    let l : (a == b) ≡ true = grind (arith, nat_tests) in
    let o : nat_lt m n ≡ true = grind (arith, nat_tests) in
    rw (k, l, o) refl

is-before : (a b : ℕ) → nat_lt a b ≡ true → a < b
is-before a b h = grind (arith, nat_tests)

before-is : (a b : ℕ) → a < b → nat_lt a b ≡ true
before-is a b h = grind (arith, nat_tests)

-- ---- statuses rise

abbrev pub is_older : Status → Status → Bool
is_older x y = nat_lt x.number y.number

strict-option : {A : Type 0} (less : A → A → Bool) (o : Option A) → IsStrict less (option_to_list o)
strict-option less None = tt
strict-option less (Some x) = (tt, tt)

pub strict-rising : (xs : List Status) → AreRising xs → IsStrict is_older xs
strict-rising [] h = tt
strict-rising (x ∷ xs) h = (each-weaker (λ y. x.number < y.number) (λ y. is_older x y ≡ true) xs (λ y lt. before-is x.number y.number lt) h.0, strict-rising xs h.1)

-- ---- changes rise

abbrev pub IsOf : ℕ → Status → Change → Type 0
IsOf now x c = (c.time ≡ now) × (c.status ≡ x.number)

pub of-change : (now : ℕ) (x : Status) (a b : State) → Each (IsOf now x) (option_to_list (change_of now x a b))
of-change now x a b = by_test (not (is_same_state a b))
  where
    by_test : (t : Bool) → Each (IsOf now x) (option_to_list (some_if t (record { time = now; status = x.number; state = b })))
    by_test true = ((refl, refl), tt)
    by_test false = tt

-- changes at one time rise by status
pub changes-rise : (now : ℕ) (a b : Status → State) (xs : List Status) → IsStrict is_older xs → IsStrict comes_before (flat_map (λ x. option_to_list (change_of now x (a x) (b x))) xs)
changes-rise now a b xs h =
    strict-flat is_older comes_before (IsOf now) (λ x. option_to_list (change_of now x (a x) (b x))) (λ x. strict-option comes_before (change_of now x (a x) (b x))) (λ x. of-change now x (a x) (b x))
    (λ x y c d older p q. number-same c.time d.time c.status d.status (p.0 ∙ sym q.0) (let k = is-before x.number y.number older in omega (arith, p.1, q.1))) xs h

each-flat : {A C : Type 0} (P : C → Type 0) (f : A → List C) (xs : List A) → ((x : A) → Each P (f x)) → Each P (flat_map f xs)
each-flat P f [] h = tt
each-flat P f (x ∷ xs) h = each-append P (f x) (flat_map f xs) (h x) (each-flat P f xs h)

at-rise : (T : RepliedHistory) (now : ℕ) → AreRising (live_statuses T) → IsStrict comes_before (changes_at T now)
unfolding changes_at change_at
at-rise T now rising = changes-rise now _ _ (live_statuses T) (strict-rising (live_statuses T) rising)

at-time : (T : RepliedHistory) (now : ℕ) → Each (λ (c : Change). c.time ≡ now) (changes_at T now)
unfolding changes_at change_at
at-time T now = each-flat (λ (c : Change). c.time ≡ now) _ (live_statuses T) (λ x. each-weaker (IsOf now x) (λ (c : Change). c.time ≡ now) _ (λ c p. p.0) (of-change now x _ _))

numbers-rise : (n from : ℕ) → IsStrict nat_lt (numbers_above from n) × Each (λ m. from < m) (numbers_above from n)
unfolding numbers_above
numbers-rise zero from = (tt, tt)
numbers-rise (suc n) from =
    let rest = numbers-rise n (from + 1) in (
      (each-weaker (λ m. from + 1 < m) (λ m. nat_lt (from + 1) m ≡ true) (numbers_above (from + 1) n) (λ m lt. before-is (from + 1) m lt) rest.1, rest.0),
      (omega arith, each-weaker (λ m. from + 1 < m) (λ m. from < m) (numbers_above (from + 1) n) (λ m lt. omega arith) rest.1),
    )

pub before-rise : (T : RepliedHistory) (now : ℕ) → AreRising (live_statuses T) → IsStrict comes_before (changes_before T now)
unfolding changes_before
before-rise T now rising =
    strict-flat nat_lt comes_before (λ m (c : Change). c.time ≡ m) (changes_at T) (λ m. at-rise T m rising) (at-time T)
    (λ m n c d lt p q. number-before c.time d.time c.status d.status (let k = is-before m n lt in omega (arith, p, q))) (numbers_above (clock T) (now - clock T)) (numbers-rise (now - clock T) (clock T)).0
