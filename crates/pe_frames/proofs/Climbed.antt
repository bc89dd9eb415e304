-- The way up from a frame, as callers see it.
use Rattle.std.proofs.Common.{◌≡◌, ◌⊎◌, inl, inr, ◌≤◌, ℕ, suc, Bool, true, false, cond, ◌||◌, List, [], ◌∷◌, ◌++◌, length, length-append, Option, None, Some, is_some, refl, sym, ap, subst, ◌∙◌, arith, true≢false}
use Rattle.std.specs.Prelude.{IsSomeAnd, filter, unwrap_or}
use Rattle.std.specs.Option.{option_map, option_and_then}
use Rattle.pe_base.specs.declared.limits.TheConstants.{DEPTH_LIMIT}
use Rattle.pe_arena.specs.declared.handle.Handle.{Handle}
use Rattle.pe_frames.specs.Forest.{Entry, has_handle, same_handle, first_of, path, parent_of, path_of, top_of, depth_of, entry_of, is_under, AreFrames}
use Rattle.pe_frames.proofs.Below.{entry-handle}
use Rattle.pe_frames.proofs.Handles.{first-push, has-push, other-turned, same_or_other}
use Rattle.pe_frames.proofs.Tree.{IsTree}
use Rattle.pe_frames.proofs.Upward.{above-none, under-itself}
use Rattle.pe_frames.proofs.Climbing.{steps-of}
use Rattle.pe_frames.proofs.Laws.{root-live}
use Rattle.pe_frames.proofs.Lemmas.{some_same}
use Rattle.std.proofs.lemmas.Bool.{false_from_ne_true}
use Rattle.std.proofs.Math.Bool.{or-false}

module _ {D : Type 0} (es : List (Entry D)) (tree : IsTree es DEPTH_LIMIT) where
  -- the path of a frame is that of its parent, and the frame
  pub path-up : (h p : Handle) → option_and_then parent_of (entry_of es h) ≡ Some p → path_of es h ≡ path_of es p ++ h ∷ []
  path-up h p q =
      let s = steps-of es tree h p q in
      ap (λ o. unwrap_or (option_map path o) []) s.found
      ∙ ap (λ ks. ks ++ s.entry.handle ∷ []) s.up.above
      ∙ ap (λ k. path s.up.entry ++ k ∷ []) (entry-handle es h s.entry s.found)
      ∙ sym (ap (λ o. unwrap_or (option_map path o) [] ++ h ∷ []) s.up.found)

  -- both are of one page
  pub top-up : (h p : Handle) → option_and_then parent_of (entry_of es h) ≡ Some p → option_map top_of (entry_of es p) ≡ option_map top_of (entry_of es h)
  top-up h p q =
      let s = steps-of es tree h p q in
      ap (option_map top_of) s.up.found
      ∙ ap Some (sym (ap (λ ks. first_of ks s.entry.handle) s.up.above ∙ first-push s.up.entry.above s.up.entry.handle s.entry.handle))
      ∙ sym (ap (option_map top_of) s.found)

  -- a frame without a parent is the top frame of its page
  pub top-alone : (h : Handle) (e : Entry D) → entry_of es h ≡ Some e → parent_of e ≡ None → top_of e ≡ h
  top-alone h e f q = ap (λ ks. first_of ks e.handle) (above-none e q) ∙ entry-handle es h e f

module _ {D : Type 0} where
  -- how many frames have one of these handles
  abbrev named_by : List Handle → List (Entry D) → ℕ
  named_by ks es = length (filter (λ x. has_handle x.handle ks) es)

  none-named : (es : List (Entry D)) → named_by [] es ≡ 0
  none-named [] = refl
  none-named (x ∷ xs) = none-named xs

  -- a handle that no frame has counts for none
  absent-one : (es : List (Entry D)) (k : Handle) → entry_of es k ≡ None → (ks : List Handle) → named_by (ks ++ k ∷ []) es ≡ named_by ks es
  absent-one [] k n ks = refl
  absent-one (x ∷ xs) k n ks = elim (same_or_other x.handle k) as (λ _. named_by (ks ++ k ∷ []) (x ∷ xs) ≡ named_by ks (x ∷ xs)) [
    | inl t ↦ absurd (true≢false (ap (λ b. is_some (cond b (Some x) (entry_of xs k))) (sym t) ∙ ap is_some n))
    | inr t ↦
        ap (λ b. length (cond b (x ∷ filter (λ y. has_handle y.handle (ks ++ k ∷ [])) xs) (filter (λ y. has_handle y.handle (ks ++ k ∷ [])) xs)))
        (has-push x.handle k ks ∙ ap (λ b. has_handle x.handle ks || b) (other-turned x.handle k t) ∙ or-false (has_handle x.handle ks))
        ∙ by_test (has_handle x.handle ks) (absent-one xs k (sym (ap (λ b. cond b (Some x) (entry_of xs k)) t) ∙ n) ks)
  ]
    where
      by_test : (b : Bool) → named_by (ks ++ k ∷ []) xs ≡ named_by ks xs
          → length (cond b (x ∷ filter (λ y. has_handle y.handle (ks ++ k ∷ [])) xs) (filter (λ y. has_handle y.handle (ks ++ k ∷ [])) xs)) ≡ length (cond b (x ∷ filter (λ y. has_handle y.handle ks) xs) (filter (λ y. has_handle y.handle ks) xs))
      by_test true r = ap suc r
      by_test false r = r

  -- on the path of the newest frame there is one more than on that of its parent
  newest-counted : (y : Entry D) (ys : List (Entry D)) → entry_of ys y.handle ≡ None → (y.above ≡ []) ⊎ ((p : Handle) × IsSomeAnd (entry_of ys p) (λ a. y.above ≡ path a))
      → ((p : Handle) (a : Entry D) → entry_of ys p ≡ Some a → named_by (path a) ys ≡ depth_of a) → named_by (path y) (y ∷ ys) ≡ depth_of y
  newest-counted y ys new below older =
      ap (λ b. length (cond b (y ∷ filter (λ x. has_handle x.handle (path y)) ys) (filter (λ x. has_handle x.handle (path y)) ys))) (under-itself y)
      ∙ (let same = absent-one ys y.handle new y.above in let rest = by_above below in omega (arith, same, rest))
    where
      by_entry : (p : Handle) (o : Option (Entry D)) → entry_of ys p ≡ o → IsSomeAnd o (λ a. y.above ≡ path a) → named_by y.above ys ≡ length y.above
      by_entry p None f w = absurd w
      by_entry p (Some a) f w =
          let there = older p a f in
          let long = length-append a.above (a.handle ∷ []) in
          subst (λ ks. named_by ks ys ≡ length ks) (sym w) (omega (arith, there, long))

      by_above : (y.above ≡ []) ⊎ ((p : Handle) × IsSomeAnd (entry_of ys p) (λ a. y.above ≡ path a)) → named_by y.above ys ≡ length y.above
      by_above (inl n) = subst (λ ks. named_by ks ys ≡ length ks) (sym n) (none-named ys)
      by_above (inr w) = by_entry w.0 (entry_of ys w.0) refl w.1

  -- as many frames stand on the way up from a live one as its depth says
  pub path-counted : (es : List (Entry D)) → AreFrames es → (h : Handle) (e : Entry D) → entry_of es h ≡ Some e → length (filter (λ x. is_under x.handle e) es) ≡ depth_of e
  path-counted [] are h e f = absurd cc
  path-counted (y ∷ ys) are h e f = elim (same_or_other y.handle h) as (λ _. named_by (path e) (y ∷ ys) ≡ depth_of e) [
    | inl t ↦
        let same : y ≡ e = some_same (sym (ap (λ b. cond b (Some y) (entry_of ys h)) t) ∙ f) in
        subst (λ z. named_by (path z) (y ∷ ys) ≡ depth_of z) same (newest-counted y ys are.0.new are.0.below (λ p a g. path-counted ys are.1 p a g))
    | inr t ↦
        let g = sym (ap (λ b. cond b (Some y) (entry_of ys h)) t) ∙ f in
        ap (λ b. length (cond b (y ∷ filter (λ x. is_under x.handle e) ys) (filter (λ x. is_under x.handle e) ys)))
        (false_from_ne_true (is_under y.handle e) (λ u. true≢false (sym (root-live ys are.1 y.handle h e g u) ∙ ap is_some are.0.new)))
        ∙ path-counted ys are.1 h e g
  ]

  -- which has a limit
  pub path-short : (es : List (Entry D)) → AreFrames es → (h : Handle) (e : Entry D) → entry_of es h ≡ Some e → depth_of e ≤ DEPTH_LIMIT
  path-short [] are h e f = absurd cc
  path-short (y ∷ ys) are h e f = elim (same_or_other y.handle h) as (λ _. depth_of e ≤ DEPTH_LIMIT) [
    | inl t ↦
        let same : y ≡ e = some_same (sym (ap (λ b. cond b (Some y) (entry_of ys h)) t) ∙ f) in
        subst (λ z. depth_of z ≤ DEPTH_LIMIT) same are.0.shallow
    | inr t ↦ path-short ys are.1 h e (sym (ap (λ b. cond b (Some y) (entry_of ys h)) t) ∙ f)
  ]
