-- The messages are kept after each change.
use Rattle.std.proofs.Common.{◌≡◌, ℕ, ◌+◌, ◌-◌, ◌<◌, ◌≤◌, Bool, true, false, cond, ◌||◌, List, [], ◌∷◌, ◌++◌, length, get_or, set, Option, Some, None, IsSome, nat_eq, refl, sym, ap, subst, ◌∙◌, true≢false, arith}
use Rattle.std.specs.Prelude.{◌==◌, is_none, if◌then◌else◌}
use Rattle.std.specs.List.Sorted.{IsStrictlySortedBy}
use Rattle.std.proofs.lemmas.Bool.Decides.{Decides-eqb}
use Rattle.std.proofs.lemmas.List.{length-set, length_push}
use Rattle.pe_base.specs.declared.limits.TheConstants.{MESSAGE_LIMIT}
use Rattle.pe_delegation.specs.declared.message.DeliverFault.TheVariants.{Unknown, Settled}
use Rattle.pe_delegation.specs.declared.message.Message.{Message}
use Rattle.pe_delegation.specs.Posted.{message_of, was_given, deliver_fault, waiting_count, without, IsInOrder}
use Rattle.pe_delegation.specs.Kept.{IsRising, IsPlaceOf, waiting_in, IsKept}
use Rattle.pe_delegation.proofs.Counting.{count-push, count-without}
use Rattle.pe_delegation.proofs.Listed.{found-with, found-without}
use Rattle.pe_delegation.proofs.Numbers.{given-at, given-with, rising-push}
use Rattle.pe_delegation.proofs.Slots.{in-order, found-at, found-none, settled-at, waiting-push}

none-rising : IsRising []
unfolding IsStrictlySortedBy
none-rising = tt

none-counted : (p : ℕ) → waiting_count p [] ≡ 0
unfolding waiting_count
none-counted p = refl

-- no message was posted
pub nothing-kept : (ns : List ℕ) (os : List (Option Message)) (count : ℕ → ℕ) → ns ≡ [] → os ≡ [] → ((p : ℕ) → count p ≡ 0) → IsKept ns os count
nothing-kept ns os count none empty zero = subst (λ ks. IsKept ks os count) (sym none) (subst (λ xs. IsKept [] xs count) (sym empty) (record {
  rising = none-rising;
  slots = refl;
  counted = λ p. zero p ∙ sym (none-counted p);
  few = λ p. let is = zero p in omega (arith, is);
}))

module _ (ns : List ℕ) (os : List (Option Message)) (count : ℕ → ℕ) (k : IsKept ns os count) where
  pub order : IsInOrder (waiting_in ns os)
  order = in-order ns os k.rising

  -- what is found at the place of a number
  pub found : (n place : ℕ) (o : Option Message) → IsPlaceOf ns n (Some place) → o ≡ get_or os place o → message_of (waiting_in ns os) n ≡ o
  found n place o at is = found-at ns os n place o k.rising k.slots at.0 at.1 ∙ sym is

  -- why a message is not delivered, by what is found at the place of its number
  known-fault : (n place : ℕ) (o : Option Message) → IsPlaceOf ns n (Some place) → message_of (waiting_in ns os) n ≡ o → (if is_none o then Some Settled else None) ≡ deliver_fault (record { waiting = waiting_in ns os; given = ns }) n
  known-fault n place o at is =
      ap (λ x. if is_none x then Some Settled else None) (sym is)
      ∙ ap (λ b. if b then (if is_none (message_of (waiting_in ns os) n) then Some Settled else None) else Some Unknown) (sym (given-at ns n place at))

  pub fault-settled : (n place : ℕ) (o : Option Message) → IsPlaceOf ns n (Some place) → o ≡ get_or os place o → o ≡ None → Some Settled ≡ deliver_fault (record { waiting = waiting_in ns os; given = ns }) n
  fault-settled n place o at is none = known-fault n place None at (found n place o at is ∙ none)

  pub fault-none : (n place : ℕ) (o : Option Message) (m : Message) → IsPlaceOf ns n (Some place) → o ≡ get_or os place o → o ≡ Some m → None ≡ deliver_fault (record { waiting = waiting_in ns os; given = ns }) n
  fault-none n place o m at is some = known-fault n place (Some m) at (found n place o at is ∙ some)

  -- a message is settled
  pub settled-waiting : (n place : ℕ) (xs : List (Option Message)) → IsPlaceOf ns n (Some place) → xs ≡ set os place None → waiting_in ns xs ≡ without n (waiting_in ns os)
  settled-waiting n place xs at is = ap (waiting_in ns) is ∙ settled-at ns os n place k.rising k.slots at.0 at.1

  pub settled-found : (n place : ℕ) (xs : List (Option Message)) → IsPlaceOf ns n (Some place) → xs ≡ set os place None → (j : ℕ) → message_of (waiting_in ns xs) j ≡ cond (nat_eq n j) None (message_of (waiting_in ns os) j)
  settled-found n place xs at is j = ap (λ es. message_of es j) (settled-waiting n place xs at is) ∙ found-without n j (waiting_in ns os)

  pub settled-kept : (n place : ℕ) (xs : List (Option Message)) (counts : ℕ → ℕ) (m : Message) → IsPlaceOf ns n (Some place) → xs ≡ set os place None → message_of (waiting_in ns os) n ≡ Some m
      → ((p : ℕ) → counts p ≡ cond (m.page == p) (count p - 1) (count p)) → IsKept ns xs counts
  settled-kept n place xs counts m at is some fell = record {
    rising = k.rising;
    slots = ap length is ∙ length-set os place None ∙ k.slots;
    counted = λ p. by_test p (m.page == p) (fell p) (k.counted p ∙ count-without p n m (waiting_in ns os) order some) ∙ ap (waiting_count p) (sym (settled-waiting n place xs at is));
    few = λ p. few p (m.page == p) (fell p) (k.few p);
  }
    where
      by_test : (p : ℕ) (b : Bool) → counts p ≡ cond b (count p - 1) (count p) → count p ≡ waiting_count p (without n (waiting_in ns os)) + cond b 1 0 → counts p ≡ waiting_count p (without n (waiting_in ns os))
      by_test p true f c = omega (arith, f, c)
      by_test p false f c = omega (arith, f, c)

      few : (p : ℕ) (b : Bool) → counts p ≡ cond b (count p - 1) (count p) → count p ≤ MESSAGE_LIMIT → counts p ≤ MESSAGE_LIMIT
      few p true f le = omega (arith, f, le)
      few p false f le = omega (arith, f, le)

  module _ (n : ℕ) (m : Message) (above : (j : ℕ) → was_given ns j ≡ true → j < n) (ks : List ℕ) (xs : List (Option Message)) (given : ks ≡ ns ++ n ∷ []) (slots : xs ≡ os ++ Some m ∷ []) where
    -- a message is posted
    pub posted-waiting : waiting_in ks xs ≡ waiting_in ns os ++ (n, m) ∷ []
    posted-waiting = ap (λ hs. waiting_in hs xs) given ∙ ap (waiting_in (ns ++ n ∷ [])) slots ∙ waiting-push ns os n m k.slots

    pub posted-known : (j : ℕ) → was_given ks j ≡ (nat_eq n j || was_given ns j)
    posted-known j = ap (λ hs. was_given hs j) given ∙ given-with ns n j

    below : (j : ℕ) → IsSome (message_of (waiting_in ns os) j) → j < n
    below j some = by_test (was_given ns j) refl
      where
        by_test : (b : Bool) → was_given ns j ≡ b → j < n
        by_test true e = above j e
        by_test false e = absurd (true≢false (sym (subst IsSome (found-none ns os j e) some)))

    pub posted-found : (j : ℕ) → message_of (waiting_in ks xs) j ≡ cond (nat_eq n j) (Some m) (message_of (waiting_in ns os) j)
    posted-found j = ap (λ es. message_of es j) posted-waiting ∙ found-with (waiting_in ns os) n j m below

    pub posted-kept : (counts : ℕ → ℕ) → count m.page < MESSAGE_LIMIT → ((p : ℕ) → counts p ≡ cond (m.page == p) (count p + 1) (count p)) → IsKept ks xs counts
    posted-kept counts room rose = record {
      rising = subst IsRising (sym given) (rising-push ns n k.rising above);
      slots = ap length slots ∙ length_push os (Some m) ∙ ap (λ l. l + 1) k.slots ∙ sym (ap length given ∙ length_push ns n);
      counted = λ p. number p (m.page == p) (rose p) (k.counted p) ∙ sym (ap (waiting_count p) posted-waiting ∙ count-push p n m (waiting_in ns os));
      few = λ p. few p (m.page == p) refl (rose p);
    }
      where
        number : (p : ℕ) (b : Bool) → counts p ≡ cond b (count p + 1) (count p) → count p ≡ waiting_count p (waiting_in ns os) → counts p ≡ waiting_count p (waiting_in ns os) + cond b 1 0
        number p true r c = omega (arith, r, c)
        number p false r c = omega (arith, r, c)

        few : (p : ℕ) (b : Bool) → (m.page == p) ≡ b → counts p ≡ cond b (count p + 1) (count p) → counts p ≤ MESSAGE_LIMIT
        few p true e r =
            let own : count p < MESSAGE_LIMIT = subst (λ q. count q < MESSAGE_LIMIT) ((Decides-eqb m.page p).0 e) room in
            omega (arith, r, own)
        few p false e r = let le = k.few p in omega (arith, r, le)
