-- A list of handles, and the same list without one of them.
use Rattle.std.proofs.Common.{◌≡◌, inl, inr, Bool, true, false, cond, ◌||◌, List, [], ◌∷◌, ◌++◌, None, Some, is_none, refl, sym, ap, subst, ◌∙◌, true≢false}
use Rattle.std.specs.Prelude.{filter, not, unwrap_or}
use Rattle.std.proofs.lemmas.List.{append-nil}
use Rattle.pe_arena.specs.declared.handle.Handle.{Handle}
use Rattle.pe_frames.specs.Forest.{same_handle, has_handle, last_of}
use Rattle.pe_frames.specs.Order.{is_named, head_of, after, AreOnce}
use Rattle.pe_frames.specs.Neighbours.{before}
use Rattle.pe_frames.proofs.Handles.{has-append, other-turned, same_handle-Decides, same_or_other, same-itself}
use Rattle.std.proofs.lemmas.Bool.{cases_Bool, or_parts}
use Rattle.pe_frames.proofs.Children.{head-absent, before-absent}

-- the handle stands between these
pub record Parts (h : Handle) (ks : List Handle) : Type 0 where
  pub front : List Handle
  pub back : List Handle
  pub is : ks ≡ front ++ h ∷ back

pub parts-of : (h : Handle) (ks : List Handle) → has_handle h ks ≡ true → Parts h ks
parts-of h [] e = absurd (true≢false (sym e))
parts-of h (k ∷ ks) e = elim (same_or_other k h) as (λ _. Parts h (k ∷ ks)) [
  | inl t ↦ record { front = []; back = ks; is = ap (λ x. x ∷ ks) ((same_handle-Decides k h).0 t) }
  | inr f ↦
      let p = parts-of h ks (ap (λ b. b || has_handle h ks) (sym f) ∙ e) in
      record { front = k ∷ p.front; back = p.back; is = ap (λ x. k ∷ x) p.is }
]

-- what of a list without repeats is so of its parts
once-back : (h : Handle) (xs ys : List Handle) → AreOnce (xs ++ h ∷ ys) → has_handle h ys ≡ false
once-back h [] ys once = once.0
once-back h (a ∷ xs) ys once = once-back h xs ys once.1

once-front : (h : Handle) (xs ys : List Handle) → AreOnce (xs ++ h ∷ ys) → has_handle h xs ≡ false
once-front h [] ys once = refl
once-front h (a ∷ xs) ys once =
    let parts = or_parts (has_handle a xs) (has_handle a (h ∷ ys)) (sym (has-append a xs (h ∷ ys)) ∙ once.0) in
    let other = or_parts (same_handle h a) (has_handle a ys) parts.1 in
    ap (λ b. b || has_handle h xs) (other-turned h a other.0) ∙ once-front h xs ys once.1

once-head : (h a : Handle) (xs ys : List Handle) → AreOnce (a ∷ xs ++ h ∷ ys) → has_handle a ys ≡ false
once-head h a xs ys once =
    let parts = or_parts (has_handle a xs) (has_handle a (h ∷ ys)) (sym (has-append a xs (h ∷ ys)) ∙ once.0) in
    (or_parts (same_handle h a) (has_handle a ys) parts.1).1

-- without the handle
pub without-absent : (h : Handle) (ks : List Handle) → has_handle h ks ≡ false → filter (λ k. not (same_handle k h)) ks ≡ ks
without-absent h [] e = refl
without-absent h (k ∷ ks) e =
    let parts = or_parts (same_handle k h) (has_handle h ks) e in
    ap (λ b. cond (not b) (k ∷ filter (λ x. not (same_handle x h)) ks) (filter (λ x. not (same_handle x h)) ks)) parts.0
    ∙ ap (λ x. k ∷ x) (without-absent h ks parts.1)

filter-part : (h : Handle) (xs ys : List Handle) → AreOnce (xs ++ h ∷ ys) → filter (λ k. not (same_handle k h)) (xs ++ h ∷ ys) ≡ xs ++ ys
filter-part h [] ys once =
    ap (λ b. cond (not b) (h ∷ filter (λ x. not (same_handle x h)) ys) (filter (λ x. not (same_handle x h)) ys)) (same-itself h)
    ∙ without-absent h ys once.0
filter-part h (a ∷ xs) ys once =
    ap (λ b. cond (not b) (a ∷ filter (λ x. not (same_handle x h)) (xs ++ h ∷ ys)) (filter (λ x. not (same_handle x h)) (xs ++ h ∷ ys))) (or_parts (same_handle a h) (has_handle h xs) (once-front h (a ∷ xs) ys once)).0
    ∙ ap (λ x. a ∷ x) (filter-part h xs ys once.1)

-- what stands before and behind it
after-part : (h : Handle) (xs ys : List Handle) → AreOnce (xs ++ h ∷ ys) → after h (xs ++ h ∷ ys) ≡ head_of ys
after-part h [] ys once = ap (λ b. cond b (head_of ys) (after h ys)) (same-itself h)
after-part h (a ∷ xs) ys once =
    ap (λ b. cond b (head_of (xs ++ h ∷ ys)) (after h (xs ++ h ∷ ys))) (or_parts (same_handle a h) (has_handle h xs) (once-front h (a ∷ xs) ys once)).0
    ∙ after-part h xs ys once.1

before-none : (h : Handle) (ys : List Handle) → has_handle h ys ≡ false → before h (h ∷ ys) ≡ None
before-none h ys e = ap (λ b. cond b (Some h) (before h ys)) (head-absent h ys e) ∙ before-absent h ys e

before-part : (h : Handle) (xs ys : List Handle) → AreOnce (xs ++ h ∷ ys) → before h (xs ++ h ∷ ys) ≡ last_of xs
before-part h [] ys once = before-none h ys once.0
before-part h (a ∷ []) ys once = ap (λ b. cond b (Some a) (before h (h ∷ ys))) (same-itself h)
before-part h (a ∷ b ∷ xs) ys once =
    ap (λ t. cond t (Some a) (before h ((b ∷ xs) ++ h ∷ ys))) (or_parts (same_handle b h) (has_handle h xs) (once-front h (b ∷ xs) ys once.1)).0
    ∙ before-part h (b ∷ xs) ys once.1

-- the ends of the list without it
head-part : (h : Handle) (xs ys : List Handle) → head_of (xs ++ ys) ≡ cond (is_none (last_of xs)) (head_of ys) (head_of (xs ++ h ∷ ys))
head-part h [] ys = refl
head-part h (a ∷ xs) ys = refl

last-append : (xs : List Handle) (b : Handle) (ys : List Handle) → last_of (xs ++ b ∷ ys) ≡ last_of (b ∷ ys)
last-append [] b ys = refl
last-append (a ∷ xs) b ys = ap (λ o. Some (unwrap_or o a)) (last-append xs b ys)

last-part : (h : Handle) (xs ys : List Handle) → last_of (xs ++ ys) ≡ cond (is_none (head_of ys)) (last_of xs) (last_of (xs ++ h ∷ ys))
last-part h xs [] = ap last_of (append-nil xs)
last-part h xs (b ∷ ys) = last-append xs b ys ∙ sym (last-append xs h (b ∷ ys))

last-not : (k : Handle) (xs : List Handle) → has_handle k xs ≡ false → is_named (last_of xs) k ≡ false
last-not k [] e = refl
last-not k (a ∷ []) e = (or_parts (same_handle a k) false e).0
last-not k (a ∷ b ∷ xs) e = last-not k (b ∷ xs) (or_parts (same_handle a k) (has_handle k (b ∷ xs)) e).1

-- the neighbours of another in the list without it
after-other : (h k : Handle) (xs ys : List Handle) → AreOnce (xs ++ h ∷ ys) → same_handle h k ≡ false → after k (xs ++ ys) ≡ cond (is_named (last_of xs) k) (head_of ys) (after k (xs ++ h ∷ ys))
after-other h k [] ys once ne = sym (ap (λ b. cond b (head_of ys) (after k ys)) ne)
after-other h k (a ∷ []) ys once ne = by_test (same_handle a k)
  where
    by_test : (b : Bool) → cond b (head_of ys) (after k ys) ≡ cond b (head_of ys) (cond b (Some h) (cond (same_handle h k) (head_of ys) (after k ys)))
    by_test true = refl
    by_test false = sym (ap (λ b. cond b (head_of ys) (after k ys)) ne)
after-other h k (a ∷ b ∷ xs) ys once ne = elim (same_or_other a k) as (λ _. cond (same_handle a k) (Some b) (after k ((b ∷ xs) ++ ys)) ≡ cond (is_named (last_of (b ∷ xs)) k) (head_of ys) (cond (same_handle a k) (Some b) (after k ((b ∷ xs) ++ h ∷ ys)))) [
  | inl t ↦
      let absent = (or_parts (has_handle a (b ∷ xs)) (has_handle a (h ∷ ys)) (sym (has-append a (b ∷ xs) (h ∷ ys)) ∙ once.0)).0 in
      let none = last-not k (b ∷ xs) (ap (λ x. has_handle x (b ∷ xs)) (sym ((same_handle-Decides a k).0 t)) ∙ absent) in
      ap (λ c. cond c (Some b) (after k ((b ∷ xs) ++ ys))) t
      ∙ sym (ap (λ c. cond c (Some b) (after k ((b ∷ xs) ++ h ∷ ys))) t)
      ∙ sym (ap (λ c. cond c (head_of ys) (cond (same_handle a k) (Some b) (after k ((b ∷ xs) ++ h ∷ ys)))) none)
  | inr f ↦
      ap (λ c. cond c (Some b) (after k ((b ∷ xs) ++ ys))) f
      ∙ after-other h k (b ∷ xs) ys once.1 ne
      ∙ sym (ap (λ c. cond (is_named (last_of (b ∷ xs)) k) (head_of ys) (cond c (Some b) (after k ((b ∷ xs) ++ h ∷ ys)))) f)
]

head-first : (k : Handle) (ys : List Handle) → AreOnce ys → is_named (head_of ys) k ≡ true → before k ys ≡ None
head-first k [] once t = refl
head-first k (b ∷ ys) once t =
    let bk = (same_handle-Decides b k).0 t in
    ap (λ x. before x (b ∷ ys)) (sym bk) ∙ before-none b ys once.0

before-other : (h k : Handle) (xs ys : List Handle) → AreOnce (xs ++ h ∷ ys) → same_handle h k ≡ false → before k (xs ++ ys) ≡ cond (is_named (head_of ys) k) (last_of xs) (before k (xs ++ h ∷ ys))
before-other h k [] ys once ne = elim (cases_Bool (is_named (head_of ys) k)) as (λ _. before k ys ≡ cond (is_named (head_of ys) k) None (cond (is_named (head_of ys) k) (Some h) (before k ys))) [
  | inl t ↦ head-first k ys once.1 t ∙ sym (ap (λ b. cond b None (cond (is_named (head_of ys) k) (Some h) (before k ys))) t)
  | inr f ↦ sym (ap (λ b. cond b None (cond b (Some h) (before k ys))) f)
]
before-other h k (a ∷ []) ys once ne =
    by_test (is_named (head_of ys) k)
    ∙ sym (ap (λ b. cond (is_named (head_of ys) k) (Some a) (cond b (Some a) (before k (h ∷ ys)))) ne)
  where
    by_test : (b : Bool) → cond b (Some a) (before k ys) ≡ cond b (Some a) (cond b (Some h) (before k ys))
    by_test true = refl
    by_test false = refl
before-other h k (a ∷ b ∷ xs) ys once ne = elim (same_or_other b k) as (λ _. cond (same_handle b k) (Some a) (before k ((b ∷ xs) ++ ys)) ≡ cond (is_named (head_of ys) k) (last_of (b ∷ xs)) (cond (same_handle b k) (Some a) (before k ((b ∷ xs) ++ h ∷ ys)))) [
  | inl t ↦
      let none = head-absent k ys (ap (λ x. has_handle x ys) (sym ((same_handle-Decides b k).0 t)) ∙ once-head h b xs ys once.1) in
      ap (λ c. cond c (Some a) (before k ((b ∷ xs) ++ ys))) t
      ∙ sym (ap (λ c. cond c (Some a) (before k ((b ∷ xs) ++ h ∷ ys))) t)
      ∙ sym (ap (λ c. cond c (last_of (b ∷ xs)) (cond (same_handle b k) (Some a) (before k ((b ∷ xs) ++ h ∷ ys)))) none)
  | inr f ↦
      ap (λ c. cond c (Some a) (before k ((b ∷ xs) ++ ys))) f
      ∙ before-other h k (b ∷ xs) ys once.1 ne
      ∙ sym (ap (λ c. cond (is_named (head_of ys) k) (last_of (b ∷ xs)) (cond c (Some a) (before k ((b ∷ xs) ++ h ∷ ys)))) f)
]

-- the list without one of its handles
abbrev pub without : Handle → List Handle → List Handle
without h ks = filter (λ k. not (same_handle k h)) ks

module _ (h : Handle) (ks : List Handle) (once : AreOnce ks) (has : has_handle h ks ≡ true) where
  once-parts : AreOnce ((parts-of h ks has).front ++ h ∷ (parts-of h ks has).back)
  once-parts = subst AreOnce (parts-of h ks has).is once

  is-without : without h ks ≡ (parts-of h ks has).front ++ (parts-of h ks has).back
  is-without = ap (without h) (parts-of h ks has).is ∙ filter-part h (parts-of h ks has).front (parts-of h ks has).back once-parts

  is-before : before h ks ≡ last_of (parts-of h ks has).front
  is-before = ap (before h) (parts-of h ks has).is ∙ before-part h (parts-of h ks has).front (parts-of h ks has).back once-parts

  is-after : after h ks ≡ head_of (parts-of h ks has).back
  is-after = ap (after h) (parts-of h ks has).is ∙ after-part h (parts-of h ks has).front (parts-of h ks has).back once-parts

  pub head-without : head_of (without h ks) ≡ cond (is_none (before h ks)) (after h ks) (head_of ks)
  head-without =
      ap head_of is-without ∙ head-part h (parts-of h ks has).front (parts-of h ks has).back
      ∙ (λ i. cond (is_none (sym is-before i)) (sym is-after i) (head_of (sym (parts-of h ks has).is i)))

  pub last-without : last_of (without h ks) ≡ cond (is_none (after h ks)) (before h ks) (last_of ks)
  last-without =
      ap last_of is-without ∙ last-part h (parts-of h ks has).front (parts-of h ks has).back
      ∙ (λ i. cond (is_none (sym is-after i)) (sym is-before i) (last_of (sym (parts-of h ks has).is i)))

  pub after-without : (k : Handle) → same_handle h k ≡ false → after k (without h ks) ≡ cond (is_named (before h ks) k) (after h ks) (after k ks)
  after-without k ne =
      ap (after k) is-without ∙ after-other h k (parts-of h ks has).front (parts-of h ks has).back once-parts ne
      ∙ (λ i. cond (is_named (sym is-before i) k) (sym is-after i) (after k (sym (parts-of h ks has).is i)))

  pub before-without : (k : Handle) → same_handle h k ≡ false → before k (without h ks) ≡ cond (is_named (after h ks) k) (before h ks) (before k ks)
  before-without k ne =
      ap (before k) is-without ∙ before-other h k (parts-of h ks has).front (parts-of h ks has).back once-parts ne
      ∙ (λ i. cond (is_named (sym is-after i) k) (sym is-before i) (before k (sym (parts-of h ks has).is i)))

  -- it is no neighbour of its own
  pub after-itself : is_named (after h ks) h ≡ false
  after-itself = ap (λ o. is_named o h) is-after ∙ head-absent h (parts-of h ks has).back (once-back h (parts-of h ks has).front (parts-of h ks has).back once-parts)

  pub before-itself : is_named (before h ks) h ≡ false
  before-itself = ap (λ o. is_named o h) is-before ∙ last-not h (parts-of h ks has).front (once-front h (parts-of h ks has).front (parts-of h ks has).back once-parts)
