-- The map of live handles, through an insert, a removal and a write.
use Rattle.std.proofs.Common.{◌≡◌, ◌≢◌, inl, inr, ℕ, ◌+◌, ◌<◌, ◌≤◌, Bool, true, false, cond, List, [], ◌∷◌, ◌++◌, length, get_or, Option, None, Some, IsSome, Result, Ok, Err, refl, sym, ap, subst, ◌∙◌, arith, length-append, length-set, get_or-set_same, get_or-set_other}
use Rattle.std.specs.Prelude.{◌==◌, IfOk, OnErr}
use Rattle.std.proofs.lemmas.Bool.Decides.{nat_tests}
use Rattle.pe_arena.specs.declared.handle.Handle.{Handle}
use Rattle.pe_arena.specs.Slots.{Slot, Slots, slot_at, mark, value, live, put, holding, with_value, IsNext, IsGiven, Updates, StayDead}
use Rattle.pe_arena.proofs.Kept.{same_or_not}
use Rattle.pe_arena.proofs.Lists.{get_or-push_before, get_or-push_last}
use Rattle.pe_arena.proofs.Seen.{put-within, put-last, get_or-past, live-within, cond-test}

same_handle : (a b : Handle) → a.slot ≡ b.slot → a.generation ≡ b.generation → a ≡ b
same_handle a b p q = (λ i. record { slot = p i; generation = q i })

-- another handle of the same slot has another generation
other_generation : (a b : Handle) → a ≢ b → a.slot ≡ b.slot → a.generation ≢ b.generation
other_generation a b ne p = λ q. ne (same_handle a b p q)

put-here : {A : Type 0} (xs : List A) (i : ℕ) (x d : A) → i ≤ length xs → get_or (put xs i x) i d ≡ x
put-here xs i x d le = elim (same_or_not i (length xs)) as (λ _. get_or (put xs i x) i d ≡ x) [
  | inl e ↦ ap (λ ys. get_or ys i d) (put-last xs i x e) ∙ ap (λ n. get_or (xs ++ x ∷ []) n d) e ∙ get_or-push_last xs x d
  | inr ne ↦ let lt : i < length xs = omega arith in ap (λ ys. get_or ys i d) (put-within xs i x lt) ∙ get_or-set_same xs i x d lt
]

put-there : {A : Type 0} (xs : List A) (i j : ℕ) (x d : A) → i ≤ length xs → j ≢ i → get_or (put xs i x) j d ≡ get_or xs j d
put-there xs i j x d le differ = elim (same_or_not i (length xs)) as (λ _. get_or (put xs i x) j d ≡ get_or xs j d) [
  | inl e ↦ ap (λ ys. get_or ys j d) (put-last xs i x e) ∙ get_or-push_before xs x d j (λ q. differ (q ∙ sym e))
  | inr ne ↦ let lt : i < length xs = omega arith in ap (λ ys. get_or ys j d) (put-within xs i x lt) ∙ get_or-set_other xs i j x d differ
]

module _ {T : Type 0} where
  either_none : (b : Bool) → let none : Option T = None in cond b none none ≡ none
  either_none true = refl
  either_none false = refl

  -- what a handle of a slot names
  named : Slot T → ℕ → Option T
  named x g = cond (x.mark == g + 1) x.value None

  named-none : (x : Slot T) (g : ℕ) → x.value ≡ None → named x g ≡ None
  unfolding named
  named-none x g e = ap (λ o. cond (x.mark == g + 1) o None) e ∙ either_none (x.mark == g + 1)

  named-last : (x : Slot T) (g : ℕ) → x.mark ≡ g + 1 → named x g ≡ x.value
  unfolding named
  named-last x g e = let t : (x.mark == g + 1) ≡ true = grind (arith, nat_tests) in ap (λ b. cond b x.value None) t

  named-other : (x : Slot T) (g : ℕ) → x.mark ≢ g + 1 → named x g ≡ None
  unfolding named
  named-other x g e = let t : (x.mark == g + 1) ≡ false = grind (arith, nat_tests) in ap (λ b. cond b x.value None) t

  live-named : (s : Slots T) (h : Handle) → live s h ≡ named (slot_at s h.slot) h.generation
  unfolding named
  live-named s h = refl

  named-mark : (x : Slot T) (g : ℕ) → IsSome (named x g) → x.mark ≡ g + 1
  unfolding named
  named-mark x g p = let t : (x.mark == g + 1) ≡ true = cond-test _ _ p in grind (arith, nat_tests)

  -- a slot was written, and each other one is as it was
  record Writes (old new : Slots T) (i : ℕ) (x : Slot T) : Type 0 where
    here : slot_at new i ≡ x
    there : (j : ℕ) → j ≢ i → slot_at new j ≡ slot_at old j

  -- of a slot that named nothing else before and names nothing else then, one handle alone changes
  Updates-write : (old new : Slots T) (h : Handle) (x : Slot T) (o : Option T) → Writes old new h.slot x →
      named x h.generation ≡ o →
      ((g : ℕ) → g ≢ h.generation → named x g ≡ named (slot_at old h.slot) g) →
      Updates old new h o
  Updates-write old new h x o w now then = record {
    changed = live-named new h ∙ ap (λ y. named y h.generation) w.here ∙ now;
    others = λ other ne. elim (same_or_not other.slot h.slot) as (λ _. live new other ≡ live old other) [
      | inl p ↦
          live-named new other
          ∙ ap (λ n. named (slot_at new n) other.generation) p
          ∙ ap (λ y. named y other.generation) w.here
          ∙ then other.generation (other_generation other h ne p)
          ∙ ap (λ n. named (slot_at old n) other.generation) (sym p)
          ∙ sym (live-named old other)
      | inr d ↦ live-named new other ∙ ap (λ y. named y other.generation) (w.there other.slot d) ∙ sym (live-named old other)
    ];
  }

  -- and where the mark does not fall, no dead handle lives again
  StayDead-write : (old new : Slots T) (h : Handle) (x : Slot T) (o : Option T) → Writes old new h.slot x → Updates old new h o →
      mark old h.slot ≤ x.mark → (h.generation < mark old h.slot → o ≡ None) → StayDead old new
  StayDead-write old new h x o w up rises none d dead = record {
    given = elim (same_or_not d.slot h.slot) as (λ _. d.generation < mark new d.slot) [
      | inl p ↦
          let now = ap (λ n. mark new n) p ∙ ap (λ y. y.mark) w.here in
          let then = ap (λ n. mark old n) p in
          omega (arith, now, then, dead.given)
      | inr ne ↦
          let same = ap (λ y. y.mark) (w.there d.slot ne) in
          omega (arith, same, dead.given)
    ];
    gone = elim (same_or_not d.slot h.slot) as (λ _. live new d ≡ None) [
      | inl p ↦ elim (same_or_not d.generation h.generation) as (λ _. live new d ≡ None) [
        | inl q ↦
            let then = ap (λ n. mark old n) p in
            ap (live new) (same_handle d h p q) ∙ up.changed ∙ none (omega (arith, then, dead.given))
        | inr ne ↦ up.others d (λ e. ne (ap (λ y. y.generation) e)) ∙ dead.gone
      ]
      | inr ne ↦ up.others d (λ e. ne (ap (λ y. y.slot) e)) ∙ dead.gone
    ];
  }

  -- an insert writes the slot that it takes
  Writes-holding : (s : Slots T) (i : ℕ) (v : T) → i ≤ length s.slots → Writes s (holding s i v) i (record { mark = mark s i + 1; value = Some v })
  Writes-holding s i v le = record {
    here = put-here s.slots i _ _ le;
    there = λ j ne. put-there s.slots i j _ _ le ne;
  }

  next-within : (s : Slots T) (i : ℕ) → IsNext s i → i ≤ length s.slots
  next-within s i n = elim n as (λ _. i ≤ length s.slots) [ inl f ↦ (let m = f.made in omega arith) | inr e ↦ (let p = e.1 in omega arith) ]

  next-empty : (s : Slots T) (i : ℕ) → IsNext s i → value s i ≡ None
  next-empty s i n = elim n as (λ _. value s i ≡ None) [
    | inl f ↦ f.empty
    | inr e ↦ ap (λ (x : Slot T). x.value) (get_or-past s.slots i (record { mark = s.first; value = None }) e.1)
  ]

  Updates-holding : (s : Slots T) (h : Handle) (v : T) → IsNext s h.slot → h.generation ≡ mark s h.slot → Updates s (holding s h.slot v) h (Some v)
  Updates-holding s h v next g =
      Updates-write s (holding s h.slot v) h (record { mark = mark s h.slot + 1; value = Some v }) (Some v) (Writes-holding s h.slot v (next-within s h.slot next))
      (named-last _ _ (ap (λ n. n + 1) (sym g)))
      (λ k ne. named-other (record { mark = mark s h.slot + 1; value = Some v }) k (omega arith) ∙ sym (named-none (slot_at s h.slot) k (next-empty s h.slot next)))

  -- what an insert does to the map of live handles
  pub insert-updates : {E : Type 0} (r : Result Handle E) (old new : Slots T) (v : T) → IfOk r (λ h. IsNext old h.slot) → IfOk r (λ h. h.generation ≡ mark old h.slot) → IfOk r (λ h. new ≡ holding old h.slot v) → IfOk r (λ h. Updates old new h (Some v))
  insert-updates (Ok h) old new v next g e = subst (λ n. Updates old n h (Some v)) (sym e) (Updates-holding old h v next g)
  insert-updates (Err x) old new v next g e = tt

  -- and to the dead ones
  pub insert-dead : {E : Type 0} (r : Result Handle E) (old new : Slots T) (v : T) → IfOk r (λ h. IsNext old h.slot) → IfOk r (λ h. h.generation ≡ mark old h.slot) → IfOk r (λ h. new ≡ holding old h.slot v) → OnErr r (new ≡ old) → StayDead old new
  insert-dead (Ok h) old new v next g e same =
      subst (λ n. StayDead old n) (sym e)
      (StayDead-write old (holding old h.slot v) h (record { mark = mark old h.slot + 1; value = Some v }) (Some v)
      (Writes-holding old h.slot v (next-within old h.slot next)) (Updates-holding old h v next g) (omega arith) (λ lt. absurd (omega arith)))
  insert-dead (Err x) old new v next g e same = subst (λ n. StayDead old n) (sym same) (λ h dead. dead)

  live-mark : (s : Slots T) (h : Handle) → IsSome (live s h) → mark s h.slot ≡ h.generation + 1
  live-mark s h p = named-mark (slot_at s h.slot) h.generation (subst IsSome (live-named s h) p)

  -- what a write through `get_mut` does to the map of live handles
  pub write_updates : (s : Slots T) (h : Handle) (v : T) → IsSome (live s h) → Updates s (with_value s h.slot v) h (Some v)
  write_updates s h v p =
      let m = live-mark s h p in
      Updates-write s (with_value s h.slot v) h (record { mark = mark s h.slot; value = Some v }) (Some v)
      (record {
        here = get_or-set_same s.slots h.slot _ _ (live-within s h p);
        there = λ j ne. get_or-set_other s.slots h.slot j _ _ ne;
      })
      (named-last _ _ m)
      (λ k ne. named-other (record { mark = mark s h.slot; value = Some v }) k (omega arith) ∙ sym (named-other (slot_at s h.slot) k (omega arith)))

  -- the marks after an insert
  mark-holding : (s : Slots T) (i : ℕ) (v : T) → IsNext s i → mark (holding s i v) i ≡ mark s i + 1
  mark-holding s i v next = ap (λ x. x.mark) ((Writes-holding s i v (next-within s i next)).here)

  mark-other-holding : (s : Slots T) (i : ℕ) (v : T) → IsNext s i → (j : ℕ) → j ≢ i → mark (holding s i v) j ≡ mark s j
  mark-other-holding s i v next j ne = ap (λ x. x.mark) ((Writes-holding s i v (next-within s i next)).there j ne)

  mark-le-holding : (s : Slots T) (i : ℕ) (v : T) → IsNext s i → (j : ℕ) → mark s j ≤ mark (holding s i v) j
  mark-le-holding s i v next j = elim (same_or_not j i) as (λ _. mark s j ≤ mark (holding s i v) j) [
    | inl e ↦
        let now = ap (mark (holding s i v)) e ∙ mark-holding s i v next in
        let then = ap (mark s) e in
        omega (arith, now, then)
    | inr ne ↦
        let same = mark-other-holding s i v next j ne in
        omega (arith, same)
  ]

  -- and how many slots were made then
  length-holding : (s : Slots T) (i : ℕ) (v : T) → IsNext s i → length (holding s i v).slots ≤ length s.slots + 1
  length-holding s i v next =
      let le = next-within s i next in
      let x : Slot T = record { mark = mark s i + 1; value = Some v } in
      elim (same_or_not i (length s.slots)) as (λ _. length (holding s i v).slots ≤ length s.slots + 1) [
        | inl e ↦
            let n = ap length (put-last s.slots i x e) ∙ length-append s.slots (x ∷ []) in
            omega (arith, n)
        | inr ne ↦
            let n = ap length (put-within s.slots i x (omega arith)) ∙ length-set s.slots i x in
            omega (arith, n)
      ]

  -- a handle whose generation is its slot's mark is not live
  unlive-next : (s : Slots T) (h : Handle) → h.generation ≡ mark s h.slot → live s h ≡ None
  unlive-next s h e = live-named s h ∙ named-other (slot_at s h.slot) h.generation (omega arith)

  -- the handle that is given was not live
  pub insert-new : {E : Type 0} (r : Result Handle E) (old : Slots T) → IfOk r (λ h. h.generation ≡ mark old h.slot) → IfOk r (λ h. live old h ≡ None)
  insert-new (Ok h) old g = unlive-next old h g
  insert-new (Err x) old g = tt

  -- and its slot gave it last
  pub insert-given : {E : Type 0} (r : Result Handle E) (old new : Slots T) (v : T) → IfOk r (λ h. IsNext old h.slot) → IfOk r (λ h. h.generation ≡ mark old h.slot) → IfOk r (λ h. new ≡ holding old h.slot v) → IfOk r (λ h. IsGiven old new h)
  insert-given (Ok h) old new v next g e = subst (λ n. IsGiven old n h) (sym e) (record {
    last = mark-holding old h.slot v next ∙ ap (λ n. n + 1) (sym g);
    others = mark-other-holding old h.slot v next;
    rising = mark-le-holding old h.slot v next;
    most = length-holding old h.slot v next;
  })
  insert-given (Err x) old new v next g e = tt
