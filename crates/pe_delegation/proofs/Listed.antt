-- The waiting messages, with one more and with one less.
use Rattle.std.proofs.Common.{◌≡◌, ℕ, ◌<◌, Bool, true, false, cond, not, List, [], ◌∷◌, ◌++◌, None, Some, IsSome, is_some, nat_eq, refl, sym, ap, ◌∙◌, arith, Option}
use Rattle.std.specs.List.{AllByRecursion}
use Rattle.std.specs.Map.{keys_of}
use Rattle.std.specs.Ordering.{nat_cmp}
use Rattle.std.specs.declared.cmp.Ordering.TheVariants.{Less}
use Rattle.std.proofs.lemmas.Bool.Decides.{nat_tests}
use Rattle.pe_delegation.specs.declared.message.Message.{Message}
use Rattle.pe_delegation.specs.Posted.{message_of, without}

-- none of the messages behind one has its number
pub without-later : (n k : ℕ) (es : List (ℕ × Message)) → nat_eq n k ≡ true → AllByRecursion (λ q. nat_cmp k q ≡ Less) (keys_of es) → without n es ≡ es
unfolding without
without-later n k [] is h = refl
without-later n k (e ∷ es) is h = ap (λ b. cond (not b) (e ∷ without n es) (without n es)) (other n k e.0 is h.0) ∙ ap (λ l. e ∷ l) (without-later n k es is h.1)
  where
    other : (a b c : ℕ) → nat_eq a b ≡ true → nat_cmp b c ≡ Less → nat_eq a c ≡ false
    other a b c x y = grind (arith, nat_tests)

-- nor is one found there
pub none-later : (n k : ℕ) (es : List (ℕ × Message)) → nat_eq n k ≡ true → AllByRecursion (λ q. nat_cmp k q ≡ Less) (keys_of es) → message_of es n ≡ None
unfolding message_of
none-later n k [] is h = refl
none-later n k (e ∷ es) is h = ap (λ b. cond b (Some e.1) (message_of es n)) (other n k e.0 is h.0) ∙ none-later n k es is h.1
  where
    other : (a b c : ℕ) → nat_eq a b ≡ true → nat_cmp b c ≡ Less → nat_eq a c ≡ false
    other a b c x y = grind (arith, nat_tests)

same-number : (a b : ℕ) → a ≡ b → nat_eq a b ≡ true
same-number a b h = grind (arith, nat_tests)

other-number : (a b c : ℕ) → nat_eq a b ≡ false → nat_eq c b ≡ true → nat_eq a c ≡ false
other-number a b c x y = grind (arith, nat_tests)

one-number : (a b c : ℕ) → nat_eq a b ≡ true → nat_eq c b ≡ true → nat_eq a c ≡ true
one-number a b c x y = grind (arith, nat_tests)

-- what is found without a number
pub found-without : (n k : ℕ) (es : List (ℕ × Message)) → message_of (without n es) k ≡ cond (nat_eq n k) None (message_of es k)
unfolding without message_of
found-without n k [] = by_test (nat_eq n k)
  where
    by_test : (b : Bool) → ◌≡◌ {A = Option Message} None (cond b None None)
    by_test true = refl
    by_test false = refl
found-without n k (e ∷ es) = by_tests (nat_eq n e.0) refl (nat_eq k e.0) refl (found-without n k es)
  where
    by_tests : (b : Bool) → nat_eq n e.0 ≡ b → (c : Bool) → nat_eq k e.0 ≡ c → message_of (without n es) k ≡ cond (nat_eq n k) None (message_of es k)
        → message_of (cond (not b) (e ∷ without n es) (without n es)) k ≡ cond (nat_eq n k) None (cond c (Some e.1) (message_of es k))
    by_tests true f true g rest =
        rest ∙ ap (λ (d : Bool). cond d None (message_of es k)) (one-number n e.0 k f g) ∙ sym (ap (λ (d : Bool). cond d None (Some e.1)) (one-number n e.0 k f g))
    by_tests true f false g rest = rest
    by_tests false f true g rest =
        ap (λ (d : Bool). cond d (Some e.1) (message_of (without n es) k)) g ∙ sym (ap (λ (d : Bool). cond d None (Some e.1)) (other-number n e.0 k f g))
    by_tests false f false g rest = ap (λ (d : Bool). cond d (Some e.1) (message_of (without n es) k)) g ∙ rest

-- what is found with one more, of a number above all others
pub found-with : (es : List (ℕ × Message)) (n k : ℕ) (m : Message) → ((j : ℕ) → IsSome (message_of es j) → j < n) → message_of (es ++ (n, m) ∷ []) k ≡ cond (nat_eq n k) (Some m) (message_of es k)
unfolding message_of
found-with [] n k m h = ap (λ (d : Bool). cond d (Some m) None) (turned k n)
  where
    turned : (a b : ℕ) → nat_eq a b ≡ nat_eq b a
    turned a b = grind (arith, nat_tests)
found-with (e ∷ es) n k m h = by_test (found-with es n k m (λ j s. h j (there j s))) (nat_eq k e.0) refl
  where
    here : IsSome (message_of (e ∷ es) e.0)
    here = ap (λ (d : Bool). is_some (cond d (Some e.1) (message_of es e.0))) (same-number e.0 e.0 refl)

    there : (j : ℕ) → IsSome (message_of es j) → IsSome (message_of (e ∷ es) j)
    there j s = elim (nat_eq j e.0) as (λ b. IsSome (cond b (Some e.1) (message_of es j))) [ true ↦ refl | false ↦ s ]

    apart : (a b c : ℕ) → nat_eq b c ≡ true → c < a → nat_eq a b ≡ false
    apart a b c g lt = grind (arith, nat_tests)

    by_test : message_of (es ++ (n, m) ∷ []) k ≡ cond (nat_eq n k) (Some m) (message_of es k) → (b : Bool) → nat_eq k e.0 ≡ b → cond b (Some e.1) (message_of (es ++ (n, m) ∷ []) k) ≡ cond (nat_eq n k) (Some m) (cond b (Some e.1) (message_of es k))
    by_test rest true g = sym (ap (λ (d : Bool). cond d (Some m) (Some e.1)) (apart n k e.0 g (h e.0 here)))
    by_test rest false g = rest
