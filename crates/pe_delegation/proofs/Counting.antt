-- How many messages of a page wait, with one more and with one less.
use Rattle.std.proofs.Common.{◌≡◌, ℕ, ◌+◌, Bool, true, false, cond, not, List, [], ◌∷◌, ◌++◌, length, filter, Some, nat_eq, refl, sym, ap, ◌∙◌, subst, arith}
use Rattle.std.specs.Prelude.{◌==◌}
use Rattle.std.specs.List.Sorted.{IsStrictlySortedBy}
use Rattle.pe_delegation.specs.declared.message.Message.{Message}
use Rattle.pe_delegation.specs.Posted.{message_of, waiting_count, without, IsInOrder}
use Rattle.pe_delegation.proofs.Listed.{without-later}

-- a page has one more with one of its own
pub count-push : (page n : ℕ) (m : Message) (es : List (ℕ × Message)) → waiting_count page (es ++ (n, m) ∷ []) ≡ waiting_count page es + cond (m.page == page) 1 0
unfolding waiting_count
count-push page n m [] = by_test (m.page == page)
  where
    by_test : (b : Bool) → length {A = ℕ × Message} (cond b ((n, m) ∷ []) []) ≡ 0 + cond b 1 0
    by_test true = refl
    by_test false = refl
count-push page n m (e ∷ es) = by_test (e.1.page == page) (cond (m.page == page) 1 0) (count-push page n m es)
  where
    by_test : (b : Bool) (k : ℕ) → waiting_count page (es ++ (n, m) ∷ []) ≡ waiting_count page es + k
        → length (cond b (e ∷ filter (λ x. x.1.page == page) (es ++ (n, m) ∷ [])) (filter (λ x. x.1.page == page) (es ++ (n, m) ∷ [])))
        ≡ length (cond b (e ∷ filter (λ x. x.1.page == page) es) (filter (λ x. x.1.page == page) es)) + k
    by_test true k h = omega (arith, h)
    by_test false k h = h

-- a page has one less without one of its own
pub count-without : (page n : ℕ) (m : Message) (es : List (ℕ × Message)) → IsInOrder es → message_of es n ≡ Some m → waiting_count page es ≡ waiting_count page (without n es) + cond (m.page == page) 1 0
unfolding waiting_count message_of without IsInOrder IsStrictlySortedBy
count-without page n m [] order h = absurd cc
count-without page n m (e ∷ es) order h = by_test (count-without page n m es order.1) (nat_eq n e.0) refl h
  where
    one : (b : Bool) → length (cond b (e ∷ filter (λ x. x.1.page == page) es) (filter (λ x. x.1.page == page) es)) ≡ waiting_count page es + cond b 1 0
    one true = omega arith
    one false = omega arith

    more : (b : Bool) (k : ℕ) → waiting_count page es ≡ waiting_count page (without n es) + k
        → length (cond b (e ∷ filter (λ x. x.1.page == page) es) (filter (λ x. x.1.page == page) es))
        ≡ length (cond b (e ∷ filter (λ x. x.1.page == page) (without n es)) (filter (λ x. x.1.page == page) (without n es))) + k
    more true k g = omega (arith, g)
    more false k g = g

    by_test : (message_of es n ≡ Some m → waiting_count page es ≡ waiting_count page (without n es) + cond (m.page == page) 1 0)
        → (b : Bool) → nat_eq n e.0 ≡ b → cond b (Some e.1) (message_of es n) ≡ Some m
        → waiting_count page (e ∷ es) ≡ waiting_count page (cond (not b) (e ∷ without n es) (without n es)) + cond (m.page == page) 1 0
    by_test rest true f k =
        let is : e.1 ≡ m = cc in
        subst (λ (x : Message). waiting_count page (e ∷ es) ≡ waiting_count page es + cond (x.page == page) 1 0) is (one (e.1.page == page))
        ∙ ap (λ (xs : List (ℕ × Message)). waiting_count page xs + cond (m.page == page) 1 0) (sym (without-later n e.0 es f order.0))
    by_test rest false f k = more (e.1.page == page) (cond (m.page == page) 1 0) (rest k)
