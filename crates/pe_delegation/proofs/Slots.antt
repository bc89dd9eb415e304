-- The messages that wait, by the numbers that were given and the slot of each.
use Rattle.std.proofs.Common.{◌≡◌, ℕ, zero, suc, ◌<◌, Bool, true, false, cond, not, ◌||◌, List, [], ◌∷◌, ◌++◌, length, get_or, set, Option, None, Some, nat_eq, refl, sym, ap, ◌∙◌, arith, true≢false}
use Rattle.std.specs.List.{AllByRecursion, list_any}
use Rattle.std.specs.List.Sorted.{IsStrictlySortedBy}
use Rattle.std.specs.Map.{keys_of}
use Rattle.std.specs.Ordering.{nat_cmp}
use Rattle.std.specs.declared.cmp.Ordering.TheVariants.{Less}
use Rattle.std.proofs.lemmas.Bool.Decides.{nat_tests}
use Rattle.std.proofs.lemmas.Map.Keys.{Less-from_sorted, sorted_head, sorted_tail}
use Rattle.pe_delegation.specs.declared.message.Message.{Message}
use Rattle.pe_delegation.specs.Posted.{message_of, was_given, without, IsInOrder}
use Rattle.pe_delegation.specs.Kept.{IsRising, waiting_in}
use Rattle.pe_delegation.proofs.Listed.{without-later, none-later}

same : (a b : ℕ) → a ≡ b → nat_eq b a ≡ true
same a b h = grind (arith, nat_tests)

apart : (a b c : ℕ) → nat_cmp a b ≡ Less → b ≡ c → nat_eq c a ≡ false
apart a b c h e = grind (arith, nat_tests)

-- what is below each number is below that of each message
above-in : (k : ℕ) (ns : List ℕ) (os : List (Option Message)) → AllByRecursion (λ y. nat_cmp k y ≡ Less) ns → AllByRecursion (λ y. nat_cmp k y ≡ Less) (keys_of (waiting_in ns os))
above-in k [] os h = tt
above-in k (n ∷ ns) [] h = tt
above-in k (n ∷ ns) (None ∷ os) h = above-in k ns os h.1
above-in k (n ∷ ns) (Some m ∷ os) h = (h.0, above-in k ns os h.1)

-- the messages stand in order
pub in-order : (ns : List ℕ) (os : List (Option Message)) → IsRising ns → IsInOrder (waiting_in ns os)
unfolding IsInOrder IsStrictlySortedBy
in-order [] os rising = tt
in-order (n ∷ ns) [] rising = tt
in-order (n ∷ ns) (None ∷ os) rising = in-order ns os rising.1
in-order (n ∷ ns) (Some m ∷ os) rising = (above-in n ns os rising.0, in-order ns os rising.1)

-- the number at a later place is above the first
later : (k : ℕ) (ns : List ℕ) (at : ℕ) → IsRising (k ∷ ns) → at < length ns → nat_cmp k (get_or ns at 0) ≡ Less
later k ns at rising lt = Less-from_sorted nat_cmp (k ∷ ns) 0 (suc at) 0 rising (omega arith) (omega (arith, lt))

-- the message of a number is that of the slot at its place
pub found-at : (ns : List ℕ) (os : List (Option Message)) (n at : ℕ) (d : Option Message) → IsRising ns → length os ≡ length ns → at < length ns → get_or ns at 0 ≡ n → message_of (waiting_in ns os) n ≡ get_or os at d
unfolding message_of
found-at [] os n at d rising len lt is = absurd (omega (arith, lt))
found-at (k ∷ ns) [] n at d rising len lt is = absurd (omega (arith, len))
found-at (k ∷ ns) (None ∷ os) n zero d rising len lt is = none-later n k (waiting_in ns os) (same k n is) (above-in k ns os (sorted_head nat_cmp k ns rising))
found-at (k ∷ ns) (Some m ∷ os) n zero d rising len lt is = ap (λ (b : Bool). cond b (Some m) (message_of (waiting_in ns os) n)) (same k n is)
found-at (k ∷ ns) (None ∷ os) n (suc at) d rising len lt is = found-at ns os n at d (sorted_tail nat_cmp k ns rising) (omega (arith, len)) (omega (arith, lt)) is
found-at (k ∷ ns) (Some m ∷ os) n (suc at) d rising len lt is =
    ap (λ (b : Bool). cond b (Some m) (message_of (waiting_in ns os) n)) (apart k (get_or ns at 0) n (later k ns at rising (omega (arith, lt))) is)
    ∙ found-at ns os n at d (sorted_tail nat_cmp k ns rising) (omega (arith, len)) (omega (arith, lt)) is

-- a number that was not given has no message
pub found-none : (ns : List ℕ) (os : List (Option Message)) (n : ℕ) → was_given ns n ≡ false → message_of (waiting_in ns os) n ≡ None
unfolding was_given message_of
found-none [] os n h = refl
found-none (k ∷ ns) [] n h = refl
found-none (k ∷ ns) (o ∷ os) n h = by_test o (nat_eq n k) refl (found-none ns os n) h
  where
    by_test : (o : Option Message) (b : Bool) → nat_eq n k ≡ b → (list_any (nat_eq n) ns ≡ false → message_of (waiting_in ns os) n ≡ None) → b || list_any (nat_eq n) ns ≡ false → message_of (waiting_in (k ∷ ns) (o ∷ os)) n ≡ None
    by_test o true e none g = absurd (true≢false g)
    by_test None false e none g = none g
    by_test (Some m) false e none g = ap (λ (b : Bool). cond b (Some m) (message_of (waiting_in ns os) n)) e ∙ none g

-- where the slot at its place is emptied, the message of a number waits no longer
pub settled-at : (ns : List ℕ) (os : List (Option Message)) (n at : ℕ) → IsRising ns → length os ≡ length ns → at < length ns → get_or ns at 0 ≡ n → waiting_in ns (set os at None) ≡ without n (waiting_in ns os)
unfolding without
settled-at [] os n at rising len lt is = absurd (omega (arith, lt))
settled-at (k ∷ ns) [] n at rising len lt is = absurd (omega (arith, len))
settled-at (k ∷ ns) (None ∷ os) n zero rising len lt is = sym (without-later n k (waiting_in ns os) (same k n is) (above-in k ns os (sorted_head nat_cmp k ns rising)))
settled-at (k ∷ ns) (Some m ∷ os) n zero rising len lt is =
    sym (ap (λ (b : Bool). cond (not b) ((k, m) ∷ without n (waiting_in ns os)) (without n (waiting_in ns os))) (same k n is)
    ∙ without-later n k (waiting_in ns os) (same k n is) (above-in k ns os (sorted_head nat_cmp k ns rising)))
settled-at (k ∷ ns) (None ∷ os) n (suc at) rising len lt is = settled-at ns os n at (sorted_tail nat_cmp k ns rising) (omega (arith, len)) (omega (arith, lt)) is
settled-at (k ∷ ns) (Some m ∷ os) n (suc at) rising len lt is =
    ap (λ (es : List (ℕ × Message)). (k, m) ∷ es) (settled-at ns os n at (sorted_tail nat_cmp k ns rising) (omega (arith, len)) (omega (arith, lt)) is)
    ∙ sym (ap (λ (b : Bool). cond (not b) ((k, m) ∷ without n (waiting_in ns os)) (without n (waiting_in ns os))) (apart k (get_or ns at 0) n (later k ns at rising (omega (arith, lt))) is))

-- a message that is posted comes last
pub waiting-push : (ns : List ℕ) (os : List (Option Message)) (n : ℕ) (m : Message) → length os ≡ length ns → waiting_in (ns ++ n ∷ []) (os ++ Some m ∷ []) ≡ waiting_in ns os ++ (n, m) ∷ []
waiting-push [] [] n m len = refl
waiting-push [] (o ∷ os) n m len = absurd (omega (arith, len))
waiting-push (k ∷ ns) [] n m len = absurd (omega (arith, len))
waiting-push (k ∷ ns) (None ∷ os) n m len = waiting-push ns os n m (omega (arith, len))
waiting-push (k ∷ ns) (Some x ∷ os) n m len = ap (λ (es : List (ℕ × Message)). (k, x) ∷ es) (waiting-push ns os n m (omega (arith, len)))
