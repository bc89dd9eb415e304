-- The frames on the way up from a frame and those below it, together.
use Rattle.std.proofs.Common.{◌≡◌, inl, inr, ◌+◌, suc, Bool, true, false, cond, ◌||◌, ◌&&◌, List, [], ◌∷◌, map, length, Some, is_some, refl, sym, ap, subst, ◌∙◌, arith, true≢false}
use Rattle.std.specs.Prelude.{filter}
use Rattle.pe_arena.specs.declared.handle.Handle.{Handle}
use Rattle.pe_frames.specs.Forest.{Entry, has_handle, same_handle, depth_of, entry_of, is_under, AreFrames}
use Rattle.pe_frames.proofs.Lemmas.{some_same}
use Rattle.std.proofs.lemmas.Bool.{and_from, and_parts}
use Rattle.pe_frames.proofs.Handles.{same_handle-Decides, same-itself, same_or_other}
use Rattle.pe_frames.proofs.Below.{entry-handle}
use Rattle.pe_frames.proofs.Upward.{under-itself}
use Rattle.pe_frames.proofs.Laws.{root-live}
use Rattle.pe_frames.proofs.Counted.{own-each, own-once, live-listed, same-count}
use Rattle.pe_frames.proofs.Climbed.{path-counted}

-- what passes one of two tests, and what passes both, are together what passes each
either-and-both : {A : Type 0} (p q : A → Bool) (xs : List A) → length (filter (λ x. p x || q x) xs) + length (filter (λ x. p x && q x) xs) ≡ length (filter p xs) + length (filter q xs)
either-and-both p q [] = refl
either-and-both {A} p q (x ∷ xs) = by_tests (p x) (q x) (either-and-both p q xs)
  where
    by_tests : (a b : Bool) → length (filter (λ y. p y || q y) xs) + length (filter (λ y. p y && q y) xs) ≡ length (filter p xs) + length (filter q xs)
        → length (cond (a || b) (x ∷ filter (λ y. p y || q y) xs) (filter (λ y. p y || q y) xs)) + length (cond (a && b) (x ∷ filter (λ y. p y && q y) xs) (filter (λ y. p y && q y) xs)) ≡ length (cond a (x ∷ filter p xs) (filter p xs)) + length (cond b (x ∷ filter q xs) (filter q xs))
    by_tests true true r = omega (arith, r)
    by_tests true false r = omega (arith, r)
    by_tests false true r = omega (arith, r)
    by_tests false false r = r

module _ {D : Type 0} where
  -- no two frames are above each other
  both-ways : (es : List (Entry D)) → AreFrames es → (h k : Handle) (e x : Entry D) → entry_of es h ≡ Some e → entry_of es k ≡ Some x → is_under k e ≡ true → is_under h x ≡ true → h ≡ k
  both-ways [] are h k e x f g up down = absurd cc
  both-ways (y ∷ ys) are h k e x f g up down = elim (same_or_other y.handle h) as (λ _. h ≡ k) [
    | inl t ↦ elim (same_or_other y.handle k) as (λ _. h ≡ k) [
      | inl u ↦ sym ((same_handle-Decides y.handle h).0 t) ∙ (same_handle-Decides y.handle k).0 u
      | inr u ↦ gone h k x t (older k x u g) down
    ]
    | inr t ↦ elim (same_or_other y.handle k) as (λ _. h ≡ k) [
      | inl u ↦ gone k h e u (older h e t f) up
      | inr u ↦ both-ways ys are.1 h k e x (older h e t f) (older k x u g) up down
    ]
  ]
    where
      older : (j : Handle) (a : Entry D) → same_handle y.handle j ≡ false → entry_of (y ∷ ys) j ≡ Some a → entry_of ys j ≡ Some a
      older j a t f = sym (ap (λ b. cond b (Some y) (entry_of ys j)) t) ∙ f

      gone : {p : Type 0} (j i : Handle) (a : Entry D) → same_handle y.handle j ≡ true → entry_of ys i ≡ Some a → is_under j a ≡ true → p
      gone j i a t f under = absurd (true≢false (sym (root-live ys are.1 j i a f under) ∙ ap (λ n. is_some (entry_of ys n)) (sym ((same_handle-Decides y.handle j).0 t)) ∙ ap is_some are.0.new))

  -- where the frame passes, the frames on the way up from it and those below it that pass have it alone in common
  pub related-counted : (es : List (Entry D)) → AreFrames es → (h : Handle) (e : Entry D) → entry_of es h ≡ Some e → (keep : Entry D → Bool) → keep e ≡ true
      → length (filter (λ x. is_under x.handle e || (is_under h x && keep x)) es) + 1 ≡ depth_of e + length (filter (λ x. is_under h x && keep x) es)
  related-counted es are h e f keep keeps =
      let all = either-and-both (λ x. is_under x.handle e) (λ x. is_under h x && keep x) es in
      let up = path-counted es are h e f in
      let one = same-count es (λ x. is_under x.handle e && (is_under h x && keep x)) (λ x. true) es (e ∷ []) (own-each es are) (own, tt) (own-once es are) (refl, tt) to from in
      omega (arith, all, up, one)
    where
      handle : e.handle ≡ h
      handle = entry-handle es h e f

      own : entry_of es e.handle ≡ Some e
      own = ap (entry_of es) handle ∙ f

      to : (k : Handle) (x : Entry D) → entry_of es k ≡ Some x → (is_under x.handle e && (is_under h x && keep x)) ≡ true → has_handle k (map (λ (y : Entry D). y.handle) es) ≡ true → (true ≡ true) × (has_handle k (e.handle ∷ []) ≡ true)
      to k x g t listed =
          let parts = and_parts (is_under x.handle e) (is_under h x && keep x) t in
          let below = and_parts (is_under h x) (keep x) parts.1 in
          let same = both-ways es are h k e x f g (ap (λ j. is_under j e) (sym (entry-handle es k x g)) ∙ parts.0) below.0 in
          (refl, ap (λ j. has_handle k (j ∷ [])) (handle ∙ same) ∙ ap (λ b. b || false) (same-itself k))

      from : (k : Handle) (x : Entry D) → entry_of es k ≡ Some x → true ≡ true → has_handle k (e.handle ∷ []) ≡ true → ((is_under x.handle e && (is_under h x && keep x)) ≡ true) × (has_handle k (map (λ (y : Entry D). y.handle) es) ≡ true)
      from k x g t listed =
          let it : e ≡ x = by_test (same_handle e.handle k) refl listed in (
            subst (λ (y : Entry D). (is_under y.handle e && (is_under h y && keep y)) ≡ true) it
                (and_from (is_under e.handle e) (is_under h e && keep e) (under-itself e) (and_from (is_under h e) (keep e) (ap (λ j. is_under j e) (sym handle) ∙ under-itself e) keeps)),
            live-listed es k x g,
          )
        where
          by_test : (b : Bool) → same_handle e.handle k ≡ b → (b || false) ≡ true → e ≡ x
          by_test true q t = some_same (sym own ∙ ap (entry_of es) ((same_handle-Decides e.handle k).0 q) ∙ g)
          by_test false q t = absurd (true≢false (sym t))
