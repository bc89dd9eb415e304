-- Where the frames below one stand among those below another, in tree order.
use Rattle.std.proofs.Common.{◌≡◌, inl, inr, ℕ, zero, suc, ◌≤◌, true, false, ◌||◌, List, [], ◌∷◌, ◌++◌, length, length-append, append_assoc, Some, refl, sym, ap, ◌∙◌, arith, true≢false}
use Rattle.std.proofs.lemmas.List.{append-nil}
use Rattle.pe_arena.specs.declared.handle.Handle.{Handle}
use Rattle.pe_frames.specs.Forest.{Entry, same_handle, has_handle, last_of, path, parent_of, entry_of, is_under}
use Rattle.pe_frames.specs.Order.{children}
use Rattle.pe_frames.proofs.Handles.{has-append, same_handle-Decides, same_or_other}
use Rattle.pe_frames.proofs.Below.{entry-handle}
use Rattle.pe_frames.proofs.Tree.{IsTree}
use Rattle.pe_frames.proofs.TreeOrder.{walk, walks, walks-append, walk-is}
use Rattle.std.proofs.Math.Bool.{or-false, or-true}
use Rattle.pe_frames.proofs.Lemmas.{some_same}

-- the last of a list that has one
record LastOf (ks : List Handle) : Type 0 where
  last : Handle
  is : last_of ks ≡ Some last

last-some : (k : Handle) (ks : List Handle) → has_handle k ks ≡ true → LastOf ks
last-some k [] t = absurd (true≢false (sym t))
last-some k (x ∷ ks) t = record { last = _; is = refl }

module _ {D : Type 0} where
  -- the walk of the frame is a part of the root's
  pub record Stands (es : List (Entry D)) (n : ℕ) (root e : Entry D) : Type 0 where
    pub front : List Handle
    pub back : List Handle
    pub is : walk n es root ≡ front ++ (walk n es e ++ back)

  -- a frame that is not the root is below it where its parent is the root or below it
  pub under-other : (root : Handle) (e : Entry D) → same_handle e.handle root ≡ false → is_under root e ≡ has_handle root e.above
  under-other root e f = has-append root e.above (e.handle ∷ []) ∙ ap (λ b. has_handle root e.above || (b || false)) f ∙ or-false (has_handle root e.above)

  -- a frame is below itself
  pub under-same : (root : Handle) (e : Entry D) → same_handle e.handle root ≡ true → is_under root e ≡ true
  under-same root e t = has-append root e.above (e.handle ∷ []) ∙ ap (λ b. has_handle root e.above || (b || false)) t ∙ or-true (has_handle root e.above)

  -- the live parent of a live frame, where the frame is below the root and not the root
  pub record IsUp (es : List (Entry D)) (root : Handle) (e : Entry D) : Type 0 where
    pub entry : Entry D
    pub found : entry_of es entry.handle ≡ Some entry
    pub parent : parent_of e ≡ Some entry.handle
    pub above : e.above ≡ path entry
    pub under : is_under root entry ≡ true

  -- the live frame of a handle
  pub record LiveAt (es : List (Entry D)) (k : Handle) : Type 0 where
    pub entry : Entry D
    pub found : entry_of es k ≡ Some entry

  module _ (es : List (Entry D)) (levels : ℕ) (tree : IsTree es levels) where
    pub up-of : (root : Handle) (e : Entry D) → entry_of es e.handle ≡ Some e → is_under root e ≡ true → same_handle e.handle root ≡ false → IsUp es root e
    up-of root e f under other =
        let above = sym (under-other root e other) ∙ under in
        let last = last-some root e.above above in
        let p = tree.parent last.last e (record { found = f; parent = last.is }) in
        let handle = entry-handle es last.last p.entry p.found in
        record {
          entry = p.entry;
          found = ap (entry_of es) handle ∙ p.found;
          parent = last.is ∙ ap Some (sym handle);
          above = p.above;
          under = ap (has_handle root) (sym p.above) ∙ above;
        }

    -- what holds of the root, and of a frame where it holds of its parent, holds of each frame below the root
    climb : (root : Handle) (P : Entry D → Type 0) → ((e : Entry D) → entry_of es e.handle ≡ Some e → e.handle ≡ root → P e) → ((e : Entry D) → entry_of es e.handle ≡ Some e → (up : IsUp es root e) → P up.entry → P e)
        → (m : ℕ) (e : Entry D) → entry_of es e.handle ≡ Some e → length e.above ≤ m → is_under root e ≡ true → P e
    climb root P here step zero e f long under = elim (same_or_other e.handle root) as (λ _. P e) [
      | inl t ↦ here e f ((same_handle-Decides e.handle root).0 t)
      | inr t ↦
          let up = up-of root e f under t in
          let some = ap length up.above ∙ length-append up.entry.above (up.entry.handle ∷ []) in
          absurd (omega (arith, long, some))
    ]
    climb root P here step (suc m) e f long under = elim (same_or_other e.handle root) as (λ _. P e) [
      | inl t ↦ here e f ((same_handle-Decides e.handle root).0 t)
      | inr t ↦
          let up = up-of root e f under t in
          let some = ap length up.above ∙ length-append up.entry.above (up.entry.handle ∷ []) in
          step e f up (climb root P here step m up.entry up.found (omega (arith, long, some)) up.under)
    ]

    -- what a live frame is below is live
    pub root-live : (root : Handle) (e : Entry D) → entry_of es e.handle ≡ Some e → is_under root e ≡ true → LiveAt es root
    root-live root e f under = climb root (λ _. LiveAt es root) (λ x g q. record { entry = x; found = ap (entry_of es) (sym q) ∙ g }) (λ x g up live. live) (length e.above) e f (omega arith) under

    -- with enough levels, where the walk of a frame stands, that of its child stands in it
    pub split-below : (n : ℕ) → levels ≤ n → (root a c : Entry D) (front back : List Handle) (before behind : List (Entry D)) → entry_of es a.handle ≡ Some a → children es a.handle ≡ before ++ c ∷ behind
        → walk n es root ≡ front ++ (walk n es a ++ back) → walk n es root ≡ (front ++ a.handle ∷ walks n es before) ++ (walk n es c ++ (walks n es behind ++ back))
    split-below n enough root a c front back before behind f kids is =
        is
        ∙ ap (λ ks. front ++ (ks ++ back)) (walk-is es levels tree n enough a f ∙ ap (λ cs. a.handle ∷ walks n es cs) kids ∙ ap (λ ks. a.handle ∷ ks) (walks-append n es before (c ∷ behind)))
        ∙ ap (λ ks. front ++ a.handle ∷ ks) (append_assoc (walks n es before) (walk n es c ++ walks n es behind) back ∙ ap (λ ks. walks n es before ++ ks) (append_assoc (walk n es c) (walks n es behind) back))
        ∙ sym (append_assoc front (a.handle ∷ walks n es before) (walk n es c ++ (walks n es behind ++ back)))

    -- the walk of each frame below the root is a part of the root's
    pub stands-of : (n : ℕ) → levels ≤ n → (root e : Entry D) → entry_of es root.handle ≡ Some root → entry_of es e.handle ≡ Some e → is_under root.handle e ≡ true → Stands es n root e
    stands-of n enough root e g f under = climb root.handle (λ x. Stands es n root x) here step (length e.above) e f (omega arith) under
      where
        here : (x : Entry D) → entry_of es x.handle ≡ Some x → x.handle ≡ root.handle → Stands es n root x
        here x h q = record { front = []; back = []; is = ap (walk n es) (some_same (sym g ∙ ap (entry_of es) (sym q) ∙ h)) ∙ sym (append-nil (walk n es x)) }

        step : (x : Entry D) → entry_of es x.handle ≡ Some x → (up : IsUp es root.handle x) → Stands es n root up.entry → Stands es n root x
        step x h up at =
            let among = tree.listed up.entry.handle x (record { found = h; parent = up.parent }) in
            record {
              front = at.front ++ up.entry.handle ∷ walks n es among.front;
              back = walks n es among.back ++ at.back;
              is = split-below n enough root up.entry x at.front at.back among.front among.back up.found among.is at.is;
            }

    -- each frame below the root is in its walk
    pub walk-all : (n : ℕ) → levels ≤ n → (root e : Entry D) → entry_of es root.handle ≡ Some root → entry_of es e.handle ≡ Some e → is_under root.handle e ≡ true → has_handle e.handle (walk n es root) ≡ true
    walk-all n enough root e g f under =
        let at = stands-of n enough root e g f under in
        ap (has_handle e.handle) (at.is ∙ ap (λ ks. at.front ++ (ks ++ at.back)) (walk-is es levels tree n enough e f))
        ∙ has-append e.handle at.front (e.handle ∷ (walks n es (children es e.handle) ++ at.back))
        ∙ ap (λ b. has_handle e.handle at.front || (b || has_handle e.handle (walks n es (children es e.handle) ++ at.back))) ((same_handle-Decides e.handle e.handle).1 refl)
        ∙ or-true (has_handle e.handle at.front)
