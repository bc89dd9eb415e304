-- The frames below another, in tree order: they are live, they stand below it, and none stands there twice.
use Rattle.std.proofs.Common.{◌≡◌, inl, inr, ℕ, zero, suc, ◌+◌, ◌≤◌, true, false, ◌||◌, List, [], ◌∷◌, ◌++◌, map, length, length-append, append_assoc, Some, refl, sym, ap, subst, ◌∙◌, arith, true≢false}
use Rattle.std.specs.List.{flat_map}
use Rattle.std.proofs.lemmas.List.{append-nil, append_cancel_left, map-append}
use Rattle.pe_arena.specs.declared.handle.Handle.{Handle}
use Rattle.pe_frames.specs.Forest.{Entry, same_handle, has_handle, path, entry_of}
use Rattle.pe_frames.specs.Order.{children, tree_order, AreOnce}
use Rattle.pe_frames.proofs.Handles.{has-append, same_handle-Decides}
use Rattle.std.proofs.lemmas.Bool.{false_from_ne_true, or_cases, or_from}
use Rattle.pe_frames.proofs.Tree.{Each, each-append, each-map, IsChild, IsTree}
use Rattle.std.proofs.Math.Bool.{or-true}
use Rattle.pe_frames.proofs.Lemmas.{some_same}

-- two lists that share no handle, and each of which has none twice
once-append : (a b : List Handle) → AreOnce a → AreOnce b → ((k : Handle) → has_handle k a ≡ true → has_handle k b ≡ true → ⊥) → AreOnce (a ++ b)
once-append [] b p q apart = q
once-append (x ∷ a) b p q apart = (
  has-append x a b ∙ or_from (has_handle x a) (has_handle x b) p.0 (false_from_ne_true (has_handle x b) (λ t. apart x (ap (λ u. u || has_handle x a) ((same_handle-Decides x x).1 refl)) t)),
  once-append a b p.1 q (λ k s t. apart k (ap (λ u. same_handle x k || u) s ∙ or-true (same_handle x k)) t),
)

module _ {D : Type 0} where
  -- the handles of the frame and those below it, in tree order
  abbrev pub walk : ℕ → List (Entry D) → Entry D → List Handle
  walk n es e = map (λ x. x.handle) (tree_order n es e)

  -- the same of each of these frames, one behind the other
  abbrev pub walks : ℕ → List (Entry D) → List (Entry D) → List Handle
  walks n es [] = []
  walks n es (c ∷ cs) = walk n es c ++ walks n es cs

  walks-are : (n : ℕ) (es cs : List (Entry D)) → map (λ (x : Entry D). x.handle) (flat_map (tree_order n es) cs) ≡ walks n es cs
  walks-are n es [] = refl
  walks-are n es (c ∷ cs) = map-append (λ (x : Entry D). x.handle) (tree_order n es c) (flat_map (tree_order n es) cs) ∙ ap (λ ks. walk n es c ++ ks) (walks-are n es cs)

  pub walk-zero : (es : List (Entry D)) (e : Entry D) → walk zero es e ≡ e.handle ∷ []
  unfolding tree_order
  walk-zero es e = refl

  pub walk-suc : (n : ℕ) (es : List (Entry D)) (e : Entry D) → walk (suc n) es e ≡ e.handle ∷ walks n es (children es e.handle)
  unfolding tree_order
  walk-suc n es e = ap (λ ks. e.handle ∷ ks) (walks-are n es (children es e.handle))

  pub walks-append : (n : ℕ) (es cs ds : List (Entry D)) → walks n es (cs ++ ds) ≡ walks n es cs ++ walks n es ds
  walks-append n es [] ds = refl
  walks-append n es (c ∷ cs) ds = ap (λ ks. walk n es c ++ ks) (walks-append n es cs ds) ∙ sym (append_assoc (walk n es c) (walks n es cs) (walks n es ds))

  -- a live frame directly below another
  pub record IsNext (es : List (Entry D)) (e c : Entry D) : Type 0 where
    pub found : entry_of es c.handle ≡ Some c
    pub above : c.above ≡ path e

  -- the live frame of the handle is the other or below it
  pub record UnderAt (es : List (Entry D)) (e : Entry D) (k : Handle) : Type 0 where
    pub entry : Entry D
    pub found : entry_of es k ≡ Some entry
    pub rest : List Handle
    pub is : path entry ≡ path e ++ rest

  -- the live frame of the handle is below the other, by way of one of these
  record BelowAt (es : List (Entry D)) (e : Entry D) (cs : List (Entry D)) (k : Handle) : Type 0 where
    entry : Entry D
    found : entry_of es k ≡ Some entry
    child : Handle
    listed : has_handle child (map (λ (c : Entry D). c.handle) cs) ≡ true
    rest : List Handle
    is : path entry ≡ path e ++ child ∷ rest

  module _ (es : List (Entry D)) (levels : ℕ) (tree : IsTree es levels) where
    -- the children of a live frame stand directly below it
    pub children-next : (e : Entry D) → entry_of es e.handle ≡ Some e → Each (IsNext es e) (children es e.handle)
    children-next e f = each-map (IsChild es e.handle) (IsNext es e) (λ c is.
        let p = tree.parent e.handle c is in
        let same : p.entry ≡ e = some_same (sym p.found ∙ f) in
        record { found = is.found; above = p.above ∙ ap path same }) (children es e.handle) (tree.born e.handle)

    below-each : (n : ℕ) (k : Handle) → ((c : Entry D) → entry_of es c.handle ≡ Some c → has_handle k (walk n es c) ≡ true → UnderAt es c k)
        → (e : Entry D) (cs : List (Entry D)) → Each (IsNext es e) cs → has_handle k (walks n es cs) ≡ true → BelowAt es e cs k
    below-each n k under e [] next t = absurd (true≢false (sym t))
    below-each n k under e (c ∷ cs) next t = elim (or_cases (has_handle k (walk n es c)) (has_handle k (walks n es cs)) (sym (has-append k (walk n es c) (walks n es cs)) ∙ t)) as (λ _. BelowAt es e (c ∷ cs) k) [
      | inl a ↦
          let u = under c next.0.found a in
          record {
            entry = u.entry;
            found = u.found;
            child = c.handle;
            listed = ap (λ b. b || has_handle c.handle (map (λ (x : Entry D). x.handle) cs)) ((same_handle-Decides c.handle c.handle).1 refl);
            rest = u.rest;
            is = u.is ∙ ap (λ ks. (ks ++ c.handle ∷ []) ++ u.rest) next.0.above ∙ append_assoc (path e) (c.handle ∷ []) u.rest;
          }
      | inr b ↦
          let u : BelowAt es e cs k = below-each n k under e cs next.1 b in
          record {
            entry = u.entry;
            found = u.found;
            child = u.child;
            listed = ap (λ v. same_handle c.handle u.child || v) u.listed ∙ or-true (same_handle c.handle u.child);
            rest = u.rest;
            is = u.is;
          }
    ]

    itself : (e : Entry D) → entry_of es e.handle ≡ Some e → (k : Handle) → same_handle e.handle k ≡ true → UnderAt es e k
    itself e f k t = record { entry = e; found = ap (entry_of es) (sym ((same_handle-Decides e.handle k).0 t)) ∙ f; rest = []; is = sym (append-nil (path e)) }

    -- each handle of the walk is of a live frame, which is the first one or below it
    pub walk-under : (n : ℕ) (e : Entry D) → entry_of es e.handle ≡ Some e → (k : Handle) → has_handle k (walk n es e) ≡ true → UnderAt es e k
    walk-under zero e f k t = elim (or_cases (same_handle e.handle k) false (sym (ap (has_handle k) (walk-zero es e)) ∙ t)) as (λ _. UnderAt es e k) [
      | inl a ↦ itself e f k a
      | inr b ↦ absurd (true≢false (sym b))
    ]
    walk-under (suc n) e f k t = elim (or_cases (same_handle e.handle k) (has_handle k (walks n es (children es e.handle))) (sym (ap (has_handle k) (walk-suc n es e)) ∙ t)) as (λ _. UnderAt es e k) [
      | inl a ↦ itself e f k a
      | inr b ↦
          let u = below-each n k (λ c g s. walk-under n c g k s) e (children es e.handle) (children-next e f) b in
          record { entry = u.entry; found = u.found; rest = u.child ∷ u.rest; is = u.is }
    ]

    live-each : (n : ℕ) → ((c : Entry D) → entry_of es c.handle ≡ Some c → Each (λ x. entry_of es x.handle ≡ Some x) (tree_order n es c)) → (e : Entry D) (cs : List (Entry D)) → Each (IsNext es e) cs → Each (λ x. entry_of es x.handle ≡ Some x) (flat_map (tree_order n es) cs)
    live-each n each e [] next = tt
    live-each n each e (c ∷ cs) next = each-append (λ (x : Entry D). entry_of es x.handle ≡ Some x) (tree_order n es c) (flat_map (tree_order n es) cs) (each c next.0.found) (live-each n each e cs next.1)

    -- each frame of the walk is the live frame of its handle
    pub walk-live : (n : ℕ) (e : Entry D) → entry_of es e.handle ≡ Some e → Each (λ x. entry_of es x.handle ≡ Some x) (tree_order n es e)
    unfolding tree_order
    walk-live zero e f = (f, tt)
    walk-live (suc n) e f = (f, live-each n (λ c g. walk-live n c g) e (children es e.handle) (children-next e f))

    walks-below : (n : ℕ) (e : Entry D) (cs : List (Entry D)) → Each (IsNext es e) cs → (k : Handle) → has_handle k (walks n es cs) ≡ true → BelowAt es e cs k
    walks-below n e cs next k t = below-each n k (λ c g s. walk-under n c g k s) e cs next t

    walks-once : (n : ℕ) → ((c : Entry D) → entry_of es c.handle ≡ Some c → AreOnce (walk n es c)) → (e : Entry D) (cs : List (Entry D)) → Each (IsNext es e) cs → AreOnce (map (λ (c : Entry D). c.handle) cs) → AreOnce (walks n es cs)
    walks-once n each e [] next once = tt
    walks-once n each e (c ∷ cs) next once = once-append (walk n es c) (walks n es cs) (each c next.0.found) (walks-once n each e cs next.1 once.1) (λ k s t.
        let u = walk-under n c next.0.found k s in
        let b = walks-below n e cs next.1 k t in
        let same : u.entry ≡ b.entry = some_same (sym u.found ∙ b.found) in
        let ways : path e ++ c.handle ∷ u.rest ≡ path e ++ b.child ∷ b.rest =
        sym (append_assoc (path e) (c.handle ∷ []) u.rest) ∙ ap (λ ks. (ks ++ c.handle ∷ []) ++ u.rest) (sym next.0.above) ∙ sym u.is ∙ ap path same ∙ b.is in
        let heads : c.handle ∷ u.rest ≡ b.child ∷ b.rest = append_cancel_left (path e) (c.handle ∷ u.rest) (b.child ∷ b.rest) ways in
        let one : c.handle ≡ b.child = head_same heads in
        true≢false (sym b.listed ∙ ap (λ j. has_handle j (map (λ (x : Entry D). x.handle) cs)) (sym one) ∙ once.0))
      where
        head_same : {x y : Handle} {xs ys : List Handle} → x ∷ xs ≡ y ∷ ys → x ≡ y
        head_same q = cc

    -- no handle stands twice in the walk
    pub walk-once : (n : ℕ) (e : Entry D) → entry_of es e.handle ≡ Some e → AreOnce (walk n es e)
    walk-once zero e f = subst AreOnce (sym (walk-zero es e)) (refl, tt)
    walk-once (suc n) e f = subst AreOnce (sym (walk-suc n es e)) (
      false_from_ne_true (has_handle e.handle (walks n es (children es e.handle))) (λ t.
          let b = walks-below n e (children es e.handle) (children-next e f) e.handle t in
          let same : b.entry ≡ e = some_same (sym b.found ∙ f) in
          let long = ap length (sym b.is ∙ ap path same) in
          let more = length-append (path e) (b.child ∷ b.rest) in
          absurd (omega (arith, long, more))),
      walks-once n (λ c g. walk-once n c g) e (children es e.handle) (children-next e f) (tree.once e.handle),
    )

    no-children : (e : Entry D) → levels ≤ length e.above → (cs : List (Entry D)) → Each (IsNext es e) cs → cs ≡ []
    no-children e deep [] next = refl
    no-children e deep (c ∷ cs) next =
        let few = tree.shallow c next.0.found in
        let long = ap length next.0.above ∙ length-append e.above (e.handle ∷ []) in
        absurd (omega (arith, deep, few, long))

    walks-stable : (n : ℕ) (e : Entry D) → levels ≤ length e.above + suc n → ((c : Entry D) → entry_of es c.handle ≡ Some c → levels ≤ length c.above + n → walk n es c ≡ walk (suc n) es c) → (cs : List (Entry D)) → Each (IsNext es e) cs → walks n es cs ≡ walks (suc n) es cs
    walks-stable n e deep each [] next = refl
    walks-stable n e deep each (c ∷ cs) next =
        let long = ap length next.0.above ∙ length-append e.above (e.handle ∷ []) in
        let one = each c next.0.found (omega (arith, deep, long)) in
        ap (λ ks. ks ++ walks n es cs) one ∙ ap (λ ks. walk (suc n) es c ++ ks) (walks-stable n e deep each cs next.1)

    -- with enough levels, one more finds no more
    walk-stable : (n : ℕ) (e : Entry D) → entry_of es e.handle ≡ Some e → levels ≤ length e.above + n → walk n es e ≡ walk (suc n) es e
    walk-stable zero e f deep =
        walk-zero es e
        ∙ ap (λ cs. e.handle ∷ walks zero es cs) (sym (no-children e (omega (arith, deep)) (children es e.handle) (children-next e f)))
        ∙ sym (walk-suc zero es e)
    walk-stable (suc n) e f deep =
        walk-suc n es e
        ∙ ap (λ ks. e.handle ∷ ks) (walks-stable n e deep (λ c g d. walk-stable n c g d) (children es e.handle) (children-next e f))
        ∙ sym (walk-suc (suc n) es e)

    -- with enough levels, the frame stands before the walks of its children
    pub walk-is : (n : ℕ) → levels ≤ n → (e : Entry D) → entry_of es e.handle ≡ Some e → walk n es e ≡ e.handle ∷ walks n es (children es e.handle)
    walk-is n enough e f = walk-stable n e f (omega (arith, enough)) ∙ walk-suc n es e
