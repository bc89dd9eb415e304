-- The handles that a walk visits, one behind the other.
use Rattle.std.proofs.Common.{◌≡◌, inl, inr, ◌≤◌, true, false, cond, ◌||◌, List, [], ◌∷◌, ◌++◌, length, None, Some, refl, sym, ap, ◌∙◌, arith, true≢false}
use Rattle.pe_arena.specs.declared.handle.Handle.{Handle}
use Rattle.pe_frames.specs.Forest.{same_handle, has_handle}
use Rattle.pe_frames.specs.Order.{head_of, after, AreOnce}
use Rattle.pe_frames.specs.Walk.{visited}
use Rattle.pe_frames.proofs.Lemmas.{some_same}
use Rattle.std.proofs.lemmas.Bool.{false_from_ne_true, or_from, or_right}
use Rattle.pe_frames.proofs.Handles.{same_handle-Decides, same_or_other, no_head}

-- the list begins with this one
record Begins (ks : List Handle) (h : Handle) : Type 0 where
  back : List Handle
  is : ks ≡ h ∷ back

begins : (ks : List Handle) (h : Handle) → head_of ks ≡ Some h → Begins ks h
begins [] h q = absurd cc
begins (k ∷ ks) h q = record { back = ks; is = ap (λ x. x ∷ ks) (some_same q) }

head-listed : (h : Handle) (ks : List Handle) → has_handle h (h ∷ ks) ≡ true
head-listed h ks = ap (λ b. b || has_handle h ks) ((same_handle-Decides h h).1 refl)

-- what is listed behind a handle that is listed once is another
other-listed : (k h : Handle) (ks : List Handle) → has_handle k ks ≡ false → has_handle h ks ≡ true → same_handle k h ≡ false
other-listed k h ks once listed = false_from_ne_true (same_handle k h) (λ t. true≢false (sym listed ∙ ap (λ j. has_handle j ks) (sym ((same_handle-Decides k h).0 t)) ∙ once))

-- what stands behind a handle is listed
pub next-listed : (h next : Handle) (ks : List Handle) → after h ks ≡ Some next → has_handle next ks ≡ true
next-listed h next [] q = absurd cc
next-listed h next (k ∷ ks) q = elim (same_or_other k h) as (λ _. has_handle next (k ∷ ks) ≡ true) [
  | inl t ↦
      let b = begins ks next (sym (ap (λ b. cond b (head_of ks) (after h ks)) t) ∙ q) in
      or_right (same_handle k next) (has_handle next ks) (ap (has_handle next) b.is ∙ head-listed next b.back)
  | inr f ↦ or_right (same_handle k next) (has_handle next ks) (next-listed h next ks (sym (ap (λ b. cond b (head_of ks) (after h ks)) f) ∙ q))
]

-- the first of a list is visited alone
pub visited-first : (h : Handle) (ks : List Handle) → visited h (h ∷ ks) ≡ h ∷ []
visited-first h ks = ap (λ b. h ∷ cond b [] (visited h ks)) ((same_handle-Decides h h).1 refl)

-- one more is visited
pub visited-next : (ks : List Handle) → AreOnce ks → (h next : Handle) → after h ks ≡ Some next → visited next ks ≡ visited h ks ++ next ∷ []
visited-next [] once h next q = absurd cc
visited-next (k ∷ ks) once h next q = elim (same_or_other k h) as (λ _. visited next (k ∷ ks) ≡ visited h (k ∷ ks) ++ next ∷ []) [
  | inl t ↦
      let b = begins ks next (sym (ap (λ b. cond b (head_of ks) (after h ks)) t) ∙ q) in
      let listed = ap (has_handle next) b.is ∙ head-listed next b.back in
      ap (λ b. k ∷ cond b [] (visited next ks)) (other-listed k next ks once.0 listed)
      ∙ ap (λ js. k ∷ visited next js) b.is
      ∙ ap (λ js. k ∷ js) (visited-first next b.back)
      ∙ sym (ap (λ b. (k ∷ cond b [] (visited h ks)) ++ next ∷ []) t)
  | inr f ↦
      let later = sym (ap (λ b. cond b (head_of ks) (after h ks)) f) ∙ q in
      ap (λ b. k ∷ cond b [] (visited next ks)) (other-listed k next ks once.0 (next-listed h next ks later))
      ∙ ap (λ js. k ∷ js) (visited-next ks once.1 h next later)
      ∙ sym (ap (λ b. (k ∷ cond b [] (visited h ks)) ++ next ∷ []) f)
]

-- which was not visited before
pub visited-new : (ks : List Handle) → AreOnce ks → (h next : Handle) → after h ks ≡ Some next → has_handle next (visited h ks) ≡ false
visited-new [] once h next q = absurd cc
visited-new (k ∷ ks) once h next q = elim (same_or_other k h) as (λ _. has_handle next (visited h (k ∷ ks)) ≡ false) [
  | inl t ↦
      let b = begins ks next (sym (ap (λ b. cond b (head_of ks) (after h ks)) t) ∙ q) in
      let listed = ap (has_handle next) b.is ∙ head-listed next b.back in
      ap (λ b. has_handle next (k ∷ cond b [] (visited h ks))) t ∙ ap (λ b. b || false) (other-listed k next ks once.0 listed)
  | inr f ↦
      let later = sym (ap (λ b. cond b (head_of ks) (after h ks)) f) ∙ q in
      ap (λ b. has_handle next (k ∷ cond b [] (visited h ks))) f
      ∙ or_from (same_handle k next) (has_handle next (visited h ks)) (other-listed k next ks once.0 (next-listed h next ks later)) (visited-new ks once.1 h next later)
]

-- where nothing stands behind the last, all are visited
pub visited-last : (ks : List Handle) (h : Handle) → has_handle h ks ≡ true → after h ks ≡ None → visited h ks ≡ ks
visited-last [] h t q = refl
visited-last (k ∷ ks) h t q = elim (same_or_other k h) as (λ _. visited h (k ∷ ks) ≡ k ∷ ks) [
  | inl s ↦ ap (λ b. k ∷ cond b [] (visited h ks)) s ∙ ap (λ js. k ∷ js) (sym (no_head ks (sym (ap (λ b. cond b (head_of ks) (after h ks)) s) ∙ q)))
  | inr f ↦
      ap (λ b. k ∷ cond b [] (visited h ks)) f
      ∙ ap (λ js. k ∷ js) (visited-last ks h (sym (ap (λ b. b || has_handle h ks) f) ∙ t) (sym (ap (λ b. cond b (head_of ks) (after h ks)) f) ∙ q))
]

-- no more are visited than are listed
pub visited-within : (ks : List Handle) (h : Handle) → length (visited h ks) ≤ length ks
visited-within [] h = omega arith
visited-within (k ∷ ks) h = elim (same_or_other k h) as (λ _. length (visited h (k ∷ ks)) ≤ length (k ∷ ks)) [
  | inl t ↦ let n = ap (λ b. length (k ∷ cond b [] (visited h ks))) t in omega (arith, n)
  | inr f ↦
      let n = ap (λ b. length (k ∷ cond b [] (visited h ks))) f in
      let rest = visited-within ks h in
      omega (arith, n, rest)
]
