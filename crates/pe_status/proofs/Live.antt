-- The statuses that are live, where those that were registered stand under the numbers of their pairs.
use Rattle.std.proofs.Common.{◌≡◌, ℕ, ◌<◌, ◌≤◌, Bool, true, false, cond, ◌||◌, List, [], ◌∷◌, ◌++◌, Option, Some, None, refl, sym, ap, ◌∙◌, arith, true≢false}
use Rattle.std.specs.Prelude.{◌==◌, option_and_then, is_some}
use Rattle.std.specs.List.{cons_option}
use Rattle.std.proofs.lemmas.Bool.Decides.{nat_tests, Decides-eqb}
use Rattle.pe_status.specs.declared.giving.Given.{Given}
use Rattle.pe_status.specs.declared.registered.Registered.{Registered}
use Rattle.pe_status.specs.Registry.{status_of, was_given, AreBelow, AreAbove, AreRising}
use Rattle.pe_status.specs.Kept.{numbers, pair_given, live_rows}
use Rattle.pe_status.proofs.Listed.{nos, self-test, later-test, found-above}

-- the status under a number
abbrev pub row_of : (ℕ → ℕ → Option Registered) → List Given → ℕ → Option Registered
row_of at gs n = option_and_then (λ g. at g n) (pair_given gs n)

pub given-above : (gs : List Given) (m n : ℕ) → n ≤ m → AreAbove m (numbers gs) → pair_given gs n ≡ None
given-above [] m n le above = refl
given-above (g ∷ gs) m n le above =
    ap (λ (b : Bool). cond b (Some g.pair) (pair_given gs n)) (later-test g.no n (omega (arith, le, above.0))) ∙ given-above gs m n le above.1

pub given-below : (gs : List Given) (m n p : ℕ) → AreBelow m (numbers gs) → pair_given gs n ≡ Some p → n < m
given-below [] m n p below h = absurd cc
given-below (g ∷ gs) m n p below h = by_test (given-below gs m n p below.1) (g.no == n) refl h
  where
    by_test : (pair_given gs n ≡ Some p → n < m) → (b : Bool) → (g.no == n) ≡ b → cond b (Some g.pair) (pair_given gs n) ≡ Some p → n < m
    by_test rest true e k = let is = (Decides-eqb g.no n).0 e in omega (arith, is, below.0)
    by_test rest false e k = rest k

pub given-none : (gs : List Given) (m : ℕ) → AreBelow m (numbers gs) → pair_given gs m ≡ None
given-none [] m below = refl
given-none (g ∷ gs) m below =
    ap (λ (b : Bool). cond b (Some g.pair) (pair_given gs m)) (earlier g.no below.0) ∙ given-none gs m below.1
  where
    earlier : (a : ℕ) → a < m → (a == m) ≡ false
    earlier a lt = grind (arith, nat_tests)

pub given-push : (x : Given) (gs : List Given) (n : ℕ) → AreBelow x.no (numbers gs) → pair_given (gs ++ x ∷ []) n ≡ cond (x.no == n) (Some x.pair) (pair_given gs n)
given-push x [] n below = refl
given-push x (g ∷ gs) n below = ap (cond (g.no == n) (Some g.pair)) (given-push x gs n below.1) ∙ by_tests (g.no == n) refl (x.no == n) refl
  where
    by_tests : (b : Bool) → (g.no == n) ≡ b → (c : Bool) → (x.no == n) ≡ c
        → cond b (Some g.pair) (cond c (Some x.pair) (pair_given gs n)) ≡ cond c (Some x.pair) (cond b (Some g.pair) (pair_given gs n))
    by_tests true e true f =
        let here = (Decides-eqb g.no n).0 e in
        let there = (Decides-eqb x.no n).0 f in
        absurd (omega (arith, here, there, below.0))
    by_tests true e false f = refl
    by_tests false e true f = refl
    by_tests false e false f = refl

pub was-given : (gs : List Given) (n : ℕ) → was_given (numbers gs) n ≡ is_some (pair_given gs n)
was-given [] n = refl
was-given (g ∷ gs) n = elim (g.no == n) as (λ b. b || was_given (numbers gs) n ≡ is_some (cond b (Some g.pair) (pair_given gs n))) [ true ↦ refl | false ↦ was-given gs n ]

pub rising-push : (ns : List ℕ) (n : ℕ) → AreRising ns → AreBelow n ns → AreRising (ns ++ n ∷ [])
rising-push [] n rising below = (tt, tt)
rising-push (m ∷ ns) n rising below = (above m ns rising.0 below.0, rising-push ns n rising.1 below.1)
  where
    above : (k : ℕ) (ms : List ℕ) → AreAbove k ms → k < n → AreAbove k (ms ++ n ∷ [])
    above k [] a lt = (lt, tt)
    above k (x ∷ xs) a lt = (a.0, above k xs a.1 lt)

pub numbers-push : (gs : List Given) (x : Given) → numbers (gs ++ x ∷ []) ≡ numbers gs ++ x.no ∷ []
numbers-push [] x = refl
numbers-push (g ∷ gs) x = ap (λ (ns : List ℕ). g.no ∷ ns) (numbers-push gs x)

pub given-later : (ns : List ℕ) (n m : ℕ) → was_given ns m ≡ true → was_given (ns ++ n ∷ []) m ≡ true
given-later [] n m h = absurd (true≢false (sym h))
given-later (k ∷ ns) n m h = by_test (given-later ns n m) (k == m) h
  where
    by_test : (was_given ns m ≡ true → was_given (ns ++ n ∷ []) m ≡ true) → (b : Bool) → b || was_given ns m ≡ true → b || was_given (ns ++ n ∷ []) m ≡ true
    by_test rest true e = refl
    by_test rest false e = rest e

pub given-last : (ns : List ℕ) (n : ℕ) → was_given (ns ++ n ∷ []) n ≡ true
given-last [] n = ap (λ (b : Bool). b || false) (self-test n)
given-last (k ∷ ns) n = by_test (given-last ns n) (k == n)
  where
    by_test : was_given (ns ++ n ∷ []) n ≡ true → (b : Bool) → b || was_given (ns ++ n ∷ []) n ≡ true
    by_test rest true = refl
    by_test rest false = rest

pub not-given : (ns : List ℕ) (n : ℕ) → AreBelow n ns → was_given ns n ≡ true → ⊥
not-given [] n below h = true≢false (sym h)
not-given (k ∷ ns) n below h = by_test (not-given ns n below.1) (k == n) refl h
  where
    by_test : (was_given ns n ≡ true → ⊥) → (b : Bool) → (k == n) ≡ b → b || was_given ns n ≡ true → ⊥
    by_test rest true e g = let is = (Decides-eqb k n).0 e in omega (arith, is, below.0)
    by_test rest false e g = rest g

module _ (at : ℕ → ℕ → Option Registered) (own : (g n : ℕ) (r : Registered) → at g n ≡ Some r → r.no ≡ n) where
  pub above-live : (gs : List Given) (m : ℕ) → AreAbove m (numbers gs) → AreAbove m (nos (live_rows at gs))
  above-live [] m above = tt
  above-live (g ∷ gs) m above = by_row (at g.pair g.no) refl (above-live gs m above.1)
    where
      by_row : (o : Option Registered) → at g.pair g.no ≡ o → AreAbove m (nos (live_rows at gs)) → AreAbove m (nos (cons_option o (live_rows at gs)))
      by_row None e rest = rest
      by_row (Some r) e rest = let is = own g.pair g.no r e in (omega (arith, is, above.0), rest)

  pub rising-live : (gs : List Given) → AreRising (numbers gs) → AreRising (nos (live_rows at gs))
  rising-live [] rising = tt
  rising-live (g ∷ gs) rising = by_row (at g.pair g.no) refl (above-live gs g.no rising.0) (rising-live gs rising.1)
    where
      by_row : (o : Option Registered) → at g.pair g.no ≡ o → AreAbove g.no (nos (live_rows at gs)) → AreRising (nos (live_rows at gs)) → AreRising (nos (cons_option o (live_rows at gs)))
      by_row None e above rest = rest
      by_row (Some r) e above rest = (rw (own g.pair g.no r e) above, rest)

  pub below-live : (gs : List Given) (m : ℕ) → AreBelow m (numbers gs) → AreBelow m (nos (live_rows at gs))
  below-live [] m below = tt
  below-live (g ∷ gs) m below = by_row (at g.pair g.no) refl (below-live gs m below.1)
    where
      by_row : (o : Option Registered) → at g.pair g.no ≡ o → AreBelow m (nos (live_rows at gs)) → AreBelow m (nos (cons_option o (live_rows at gs)))
      by_row None e rest = rest
      by_row (Some r) e rest = let is = own g.pair g.no r e in (omega (arith, is, below.0), rest)

  -- the live status of a number is what stands under it and its pair
  pub found-live : (gs : List Given) (n : ℕ) → AreRising (numbers gs) → status_of (live_rows at gs) n ≡ row_of at gs n
  unfolding status_of
  found-live [] n rising = refl
  found-live (g ∷ gs) n rising = by_test (found-live gs n rising.1) (g.no == n) refl (at g.pair g.no) refl
    where
      by_test : status_of (live_rows at gs) n ≡ row_of at gs n → (b : Bool) → (g.no == n) ≡ b → (o : Option Registered) → at g.pair g.no ≡ o
          → status_of (cons_option o (live_rows at gs)) n ≡ option_and_then (λ p. at p n) (cond b (Some g.pair) (pair_given gs n))
      by_test rest true e None f =
          let is = (Decides-eqb g.no n).0 e in
          found-above n g.no (live_rows at gs) (omega (arith, is)) (above-live gs g.no rising.0) ∙ sym (ap (at g.pair) (sym is) ∙ f)
      by_test rest true e (Some r) f =
          let is = (Decides-eqb g.no n).0 e in
          let named = own g.pair g.no r f in
          ap (λ (c : Bool). cond c (Some r) (status_of (live_rows at gs) n)) ((Decides-eqb r.no n).1 (named ∙ is)) ∙ sym (ap (at g.pair) (sym is) ∙ f)
      by_test rest false e None f = rest
      by_test rest false e (Some r) f =
          ap (λ (c : Bool). cond c (Some r) (status_of (live_rows at gs) n)) (ap (λ (k : ℕ). k == n) (own g.pair g.no r f) ∙ e) ∙ rest

pub live-same : (at to : ℕ → ℕ → Option Registered) → ((g n : ℕ) → to g n ≡ at g n) → (gs : List Given) → live_rows to gs ≡ live_rows at gs
live-same at to same [] = refl
live-same at to same (g ∷ gs) = ap (λ (o : Option Registered). cons_option o (live_rows to gs)) (same g.pair g.no) ∙ ap (cons_option (at g.pair g.no)) (live-same at to same gs)

-- the statuses before a number are as before, where what stands under it is put there
pub live-before : (at to : ℕ → ℕ → Option Registered) (m : ℕ) → ((g n : ℕ) → n < m → to g n ≡ at g n) → (gs : List Given) → AreBelow m (numbers gs) → live_rows to gs ≡ live_rows at gs
live-before at to m same [] below = refl
live-before at to m same (g ∷ gs) below =
    ap (λ (o : Option Registered). cons_option o (live_rows to gs)) (same g.pair g.no below.0) ∙ ap (cons_option (at g.pair g.no)) (live-before at to m same gs below.1)

pub live-push : (at : ℕ → ℕ → Option Registered) (gs : List Given) (x : Given) → live_rows at (gs ++ x ∷ []) ≡ live_rows at gs ++ cons_option (at x.pair x.no) []
live-push at [] x = refl
live-push at (g ∷ gs) x = ap (cons_option (at g.pair g.no)) (live-push at gs x) ∙ by_row (at g.pair g.no)
  where
    by_row : (o : Option Registered) → cons_option o (live_rows at gs ++ cons_option (at x.pair x.no) []) ≡ cons_option o (live_rows at gs) ++ cons_option (at x.pair x.no) []
    by_row None = refl
    by_row (Some r) = refl
