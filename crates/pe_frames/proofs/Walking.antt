-- What stands directly behind a frame in tree order, and what behind all below it.
use Rattle.std.proofs.Common.{◌≡◌, ℕ, zero, suc, ◌≤◌, Bool, true, false, cond, ◌||◌, List, [], ◌∷◌, ◌++◌, map, append_assoc, Option, None, Some, refl, sym, ap, subst, ◌∙◌, true≢false}
use Rattle.std.specs.Prelude.{unwrap_or}
use Rattle.std.proofs.lemmas.List.{append-nil, map-append}
use Rattle.pe_arena.specs.declared.handle.Handle.{Handle}
use Rattle.pe_frames.specs.Forest.{Entry, same_handle, has_handle, last_of, entry_of, is_under}
use Rattle.pe_frames.specs.Order.{head_of, after, children, child_handles, AreOnce}
use Rattle.pe_frames.proofs.Handles.{has-append, same_handle-Decides}
use Rattle.std.proofs.lemmas.Bool.{false_from_ne_true}
use Rattle.pe_frames.proofs.Tree.{IsTree}
use Rattle.pe_frames.proofs.TreeOrder.{walk, walks, walk-is, walk-once, walk-zero, walk-suc}
use Rattle.pe_frames.proofs.Subtrees.{IsUp, split-below, stands-of}

-- what stands directly behind a handle that stands once
pub after-split : (front : List Handle) (k : Handle) (back : List Handle) → AreOnce (front ++ k ∷ back) → after k (front ++ k ∷ back) ≡ head_of back
after-split [] k back once = ap (λ b. cond b (head_of back) (after k back)) ((same_handle-Decides k k).1 refl)
after-split (x ∷ front) k back once = ap (λ b. cond b (head_of (front ++ k ∷ back)) (after k (front ++ k ∷ back))) other ∙ after-split front k back once.1
  where
    or_true : (u v : Bool) → (u || (true || v)) ≡ true
    or_true true v = refl
    or_true false v = refl

    among : has_handle k (front ++ k ∷ back) ≡ true
    among = has-append k front (k ∷ back) ∙ ap (λ b. has_handle k front || (b || has_handle k back)) ((same_handle-Decides k k).1 refl) ∙ or_true (has_handle k front) (has_handle k back)

    other : same_handle x k ≡ false
    other = false_from_ne_true (same_handle x k) (λ t. true≢false (sym among ∙ ap (λ j. has_handle j (front ++ k ∷ back)) (sym ((same_handle-Decides x k).0 t)) ∙ once.0))

-- what stands behind the last of some that stand in a row
after-last : (front : List Handle) (d k : Handle) (ks back : List Handle) → AreOnce (front ++ k ∷ (ks ++ back)) → after (unwrap_or (last_of (k ∷ ks)) d) (front ++ k ∷ (ks ++ back)) ≡ head_of back
after-last front d k [] back once = after-split front k back once
after-last front d k (x ∷ ks) back once =
    let same = append_assoc front (k ∷ []) (x ∷ (ks ++ back)) in
    ap (after (unwrap_or (last_of (x ∷ ks)) d)) (sym same) ∙ after-last (front ++ k ∷ []) d x ks back (subst AreOnce (sym same) once)

module _ {D : Type 0} where
  -- what stands behind the frame and all below it, in the root's walk
  abbrev pub beyond : ℕ → List (Entry D) → Entry D → Entry D → Option Handle
  beyond n es root e = after (unwrap_or (last_of (walk n es e)) e.handle) (walk n es root)

  head-walk : (n : ℕ) (es : List (Entry D)) (c : Entry D) (ks : List Handle) → head_of (walk n es c ++ ks) ≡ Some c.handle
  head-walk zero es c ks = ap (λ js. head_of (js ++ ks)) (walk-zero es c)
  head-walk (suc n) es c ks = ap (λ js. head_of (js ++ ks)) (walk-suc n es c)

  head-walks : (n : ℕ) (es cs : List (Entry D)) (ks : List Handle) (c : Handle) → head_of (map (λ (x : Entry D). x.handle) cs) ≡ Some c → head_of (walks n es cs ++ ks) ≡ Some c
  head-walks n es [] ks c q = absurd cc
  head-walks n es (x ∷ cs) ks c q = ap head_of (append_assoc (walk n es x) (walks n es cs) ks) ∙ head-walk n es x (walks n es cs ++ ks) ∙ q

  no-walks : (n : ℕ) (es cs : List (Entry D)) → head_of (map (λ (x : Entry D). x.handle) cs) ≡ None → walks n es cs ≡ []
  no-walks n es [] q = refl
  no-walks n es (x ∷ cs) q = absurd cc

  module _ (es : List (Entry D)) (levels : ℕ) (tree : IsTree es levels) (n : ℕ) (enough : levels ≤ n) (root : Entry D) (lives : entry_of es root.handle ≡ Some root) where
    -- where the walk of a frame stands in the root's, what is behind it
    beyond-split : (e : Entry D) → entry_of es e.handle ≡ Some e → (front back : List Handle) → walk n es root ≡ front ++ (walk n es e ++ back) → beyond n es root e ≡ head_of back
    beyond-split e f front back is =
        let own = walk-is es levels tree n enough e f in
        let whole : walk n es root ≡ front ++ e.handle ∷ (walks n es (children es e.handle) ++ back) = is ∙ ap (λ ks. front ++ (ks ++ back)) own in
        ap (λ ks. after (unwrap_or (last_of ks) e.handle) (walk n es root)) own
        ∙ ap (after (unwrap_or (last_of (e.handle ∷ walks n es (children es e.handle))) e.handle)) whole
        ∙ after-last front e.handle e.handle (walks n es (children es e.handle)) back (subst AreOnce whole (walk-once es levels tree n root lives))

    -- what stands behind a child is the first of those behind it
    behind-child : (p : Handle) (c : Entry D) (before behind : List (Entry D)) → children es p ≡ before ++ c ∷ behind → after c.handle (child_handles es p) ≡ head_of (map (λ (x : Entry D). x.handle) behind)
    behind-child p c before behind is =
        let whole : child_handles es p ≡ map (λ (x : Entry D). x.handle) before ++ c.handle ∷ map (λ (x : Entry D). x.handle) behind =
        ap (map (λ (x : Entry D). x.handle)) is ∙ map-append (λ (x : Entry D). x.handle) before (c ∷ behind) in
        ap (after c.handle) whole ∙ after-split (map (λ (x : Entry D). x.handle) before) c.handle (map (λ (x : Entry D). x.handle) behind) (subst AreOnce whole (tree.once p))

    -- nothing is behind the root and all below it
    pub beyond-root : beyond n es root root ≡ None
    beyond-root = beyond-split root lives [] [] (sym (append-nil (walk n es root)))

    -- the first child stands behind the frame
    pub next-first : (e : Entry D) → entry_of es e.handle ≡ Some e → is_under root.handle e ≡ true → (c : Handle) → head_of (child_handles es e.handle) ≡ Some c → after e.handle (walk n es root) ≡ Some c
    next-first e f under c q =
        let at = stands-of es levels tree n enough root e lives f under in
        let whole : walk n es root ≡ at.front ++ e.handle ∷ (walks n es (children es e.handle) ++ at.back) = at.is ∙ ap (λ ks. at.front ++ (ks ++ at.back)) (walk-is es levels tree n enough e f) in
        ap (after e.handle) whole
        ∙ after-split at.front e.handle (walks n es (children es e.handle) ++ at.back) (subst AreOnce whole (walk-once es levels tree n root lives))
        ∙ head-walks n es (children es e.handle) at.back c q

    -- where there is no child, what is behind all below it
    pub next-none : (e : Entry D) → entry_of es e.handle ≡ Some e → head_of (child_handles es e.handle) ≡ None → beyond n es root e ≡ after e.handle (walk n es root)
    next-none e f q = ap (λ ks. after (unwrap_or (last_of ks) e.handle) (walk n es root)) (walk-is es levels tree n enough e f ∙ ap (λ ks. e.handle ∷ ks) (no-walks n es (children es e.handle) q))

    -- the later sibling is behind the frame and all below it
    pub beyond-later : (e : Entry D) → entry_of es e.handle ≡ Some e → (up : IsUp es root.handle e) → (c : Handle) → after e.handle (child_handles es up.entry.handle) ≡ Some c → beyond n es root e ≡ Some c
    beyond-later e f up c q =
        let at = stands-of es levels tree n enough root up.entry lives up.found up.under in
        let among = tree.listed up.entry.handle e (record { found = f; parent = up.parent }) in
        beyond-split e f (at.front ++ up.entry.handle ∷ walks n es among.front) (walks n es among.back ++ at.back) (split-below es levels tree n enough root up.entry e at.front at.back among.front among.back up.found among.is at.is)
        ∙ head-walks n es among.back at.back c (sym (behind-child up.entry.handle e among.front among.back among.is) ∙ q)

    -- and where there is none, what is behind all below the parent
    pub beyond-none : (e : Entry D) → entry_of es e.handle ≡ Some e → (up : IsUp es root.handle e) → after e.handle (child_handles es up.entry.handle) ≡ None → beyond n es root e ≡ beyond n es root up.entry
    beyond-none e f up q =
        let at = stands-of es levels tree n enough root up.entry lives up.found up.under in
        let among = tree.listed up.entry.handle e (record { found = f; parent = up.parent }) in
        beyond-split e f (at.front ++ up.entry.handle ∷ walks n es among.front) (walks n es among.back ++ at.back) (split-below es levels tree n enough root up.entry e at.front at.back among.front among.back up.found among.is at.is)
        ∙ ap (λ ks. head_of (ks ++ at.back)) (no-walks n es among.back (sym (behind-child up.entry.handle e among.front among.back among.is) ∙ q))
        ∙ sym (beyond-split up.entry up.found at.front at.back at.is)
