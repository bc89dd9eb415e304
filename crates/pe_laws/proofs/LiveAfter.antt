-- The changes that a step brings by itself are those of the statuses that are live after it.
use Rattle.std.proofs.Common.{◌≡◌, ℕ, suc, ◌<◌, Bool, true, false, ◌==◌, List, [], ◌∷◌, length, filter, flat_map, option_to_list, refl, sym, ◌∙◌, ap, arith, cond}
use Rattle.std.specs.List.{list_any}
use Rattle.std.proofs.lemmas.Bool.Decides.{nat_tests}
use Rattle.pe_rules.specs.History.{Step, RepliedHistory}
use Rattle.pe_rules.specs.Statuses.{Status, live_statuses}
use Rattle.pe_rules.specs.Changes.{change_between, is_live_in, changes_after}
use Rattle.pe_laws.specs.Effects.{effects}
use Rattle.pe_laws.specs.StatusesLaws.{leaves, Each, AreRising}
use Rattle.pe_laws.proofs.Numbers.{is_same}
use Rattle.pe_laws.proofs.Each.{filter-agree}
use Rattle.pe_laws.proofs.Statuses.{live-rise, no-status-by, live-unmade}

not-same : (a b : ℕ) → a < b → (b == a) ≡ false
not-same a b h = grind (arith, nat_tests)

not-same-back : (a b : ℕ) → a < b → (a == b) ≡ false
not-same-back a b h = grind (arith, nat_tests)

none-later : (x : Status) (test : Status → Bool) (ys : List Status) → Each (λ y. x.number < y.number) ys → list_any (λ y. y.number == x.number) (filter test ys) ≡ false
none-later x test [] h = refl
none-later x test (y ∷ ys) h = by_test (test y) (none-later x test ys h.1)
  where
    by_test : (b : Bool) → list_any (λ y. y.number == x.number) (filter test ys) ≡ false → list_any (λ y. y.number == x.number) (cond b (y ∷ filter test ys) (filter test ys)) ≡ false
    by_test true rest = rw (not-same x.number y.number h.0) rest
    by_test false rest = rest

-- of statuses that rise, the number of one stands among those that pass where it passes
number-filtered : (test : Status → Bool) (xs : List Status) → AreRising xs → Each (λ x. list_any (λ y. y.number == x.number) (filter test xs) ≡ test x) xs
number-filtered test [] h = tt
number-filtered test (x ∷ xs) h = (here (test x) refl, rest (test x) xs h.0 (number-filtered test xs h.1))
  where
    here : (b : Bool) → test x ≡ b → list_any (λ y. y.number == x.number) (cond b (x ∷ filter test xs) (filter test xs)) ≡ test x
    here true is = rw (is_same x.number, is) refl
    here false is = none-later x test xs h.0 ∙ sym is

    rest : (b : Bool) (ys : List Status) → Each (λ y. x.number < y.number) ys → Each (λ z. list_any (λ y. y.number == z.number) (filter test xs) ≡ test z) ys
        → Each (λ z. list_any (λ y. y.number == z.number) (cond b (x ∷ filter test xs) (filter test xs)) ≡ test z) ys
    rest b [] later k = tt
    rest true (y ∷ ys) later k = (rw (not-same-back x.number y.number later.0) k.0, rest true ys later.1 k.1)
    rest false (y ∷ ys) later k = (k.0, rest false ys later.1 k.1)

still-live : (s : Step) (T : RepliedHistory) → live_statuses (s ∷ T) ≡ filter (leaves s T) (live_statuses T) → filter (is_live_in (s ∷ T)) (live_statuses T) ≡ live_statuses (s ∷ T)
still-live s T left =
    filter-agree (λ x. list_any (λ y. y.number == x.number) (filter (leaves s T) (live_statuses T)) ≡ leaves s T x) (is_live_in (s ∷ T)) (leaves s T) (live_statuses T)
    (λ x is. ap (list_any (λ (y : Status). y.number == x.number)) left ∙ is) (number-filtered (leaves s T) (live_statuses T) (live-rise T))
    ∙ sym left

pub after-live : (s : Step) (T : RepliedHistory) (now : ℕ) → (effects s.event s.item).makes_status ≡ false
    → changes_after T (s ∷ T) now ≡ flat_map (λ x. option_to_list (change_between T (s ∷ T) now x)) (live_statuses (s ∷ T))
unfolding changes_after
after-live s T now unmade =
    ap (flat_map (λ x. option_to_list (change_between T (s ∷ T) now x))) (still-live s T (live-unmade s T (no-status-by s.event s.item T (suc (length T)) unmade)))
