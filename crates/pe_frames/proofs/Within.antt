-- The frames within a subtree: the root and those below it.
use Rattle.std.proofs.Common.{◌≡◌, inl, inr, Bool, true, false, cond, ◌||◌, List, [], ◌∷◌, ◌++◌, length, length-append, None, Some, refl, sym, ap, subst, ◌∙◌, arith, true≢false}
use Rattle.std.specs.Prelude.{filter, not}
use Rattle.pe_base.specs.declared.limits.TheConstants.{DEPTH_LIMIT}
use Rattle.pe_arena.specs.declared.handle.Handle.{Handle}
use Rattle.pe_frames.specs.Forest.{Entry, path, same_handle, has_handle, first_of, entry_of, is_under, parent_of, top_of}
use Rattle.pe_frames.specs.Order.{is_child, handles_under}
use Rattle.pe_frames.specs.Neighbours.{children_newest_first}
use Rattle.pe_frames.specs.Kept.{Kept, entries_in, AreNodes, AreApart}
use Rattle.pe_frames.proofs.Handles.{other-turned, same_handle-Decides, same_or_other, first-push, named_is}
use Rattle.std.proofs.lemmas.Bool.{false_from_ne_true, cases_Bool}
use Rattle.pe_frames.proofs.Below.{entry-handle}
use Rattle.pe_frames.proofs.Upward.{above-none, under-parent, under-top, under-itself}
use Rattle.pe_frames.proofs.Tree.{Each, IsTree, IsParent}
use Rattle.pe_frames.proofs.TreeOrder.{walk-under}
use Rattle.pe_frames.proofs.Under.{handles-live, handles-all, handles-are, its-own}
use Rattle.pe_frames.proofs.Cuts.{each-live, filter-agree}
use Rattle.pe_frames.proofs.Without.{without}
use Rattle.pe_frames.proofs.Lemmas.{some_same}

filter-all : {A : Type 0} (p : A → Bool) (xs : List A) → Each (λ x. p x ≡ true) xs → filter p xs ≡ xs
filter-all p [] each = refl
filter-all p (x ∷ xs) each = ap (λ b. cond b (x ∷ filter p xs) (filter p xs)) each.0 ∙ ap (λ ys. x ∷ ys) (filter-all p xs each.1)

filter-none : {A : Type 0} (p : A → Bool) (xs : List A) → Each (λ x. p x ≡ false) xs → filter p xs ≡ []
filter-none p [] each = refl
filter-none p (x ∷ xs) each = ap (λ b. cond b (x ∷ filter p xs) (filter p xs)) each.0 ∙ filter-none p xs each.1

first-path : (ks : List Handle) (k : Handle) (rest : List Handle) (d : Handle) → first_of ((ks ++ k ∷ []) ++ rest) d ≡ first_of ks k
first-path [] k rest d = refl
first-path (x ∷ ks) k rest d = refl

module _ {D : Type 0} where
  -- the children that stay are those of what stays
  pub children_newest_first-stays : (gone : Handle → Bool) (stays : Entry D → Bool) (es : List (Entry D)) → Each (λ x. stays x ≡ not (gone x.handle)) es → (q : Handle) → children_newest_first (filter stays es) q ≡ filter (λ k. not (gone k)) (children_newest_first es q)
  children_newest_first-stays gone stays [] each q = refl
  children_newest_first-stays gone stays (x ∷ es) each q = ap (λ b. children_newest_first (cond b (x ∷ filter stays es) (filter stays es)) q) each.0 ∙ by_test (not (gone x.handle)) (is_child q x) refl refl (children_newest_first-stays gone stays es each.1 q)
    where
      by_test : (a b : Bool) → not (gone x.handle) ≡ a → is_child q x ≡ b → children_newest_first (filter stays es) q ≡ filter (λ k. not (gone k)) (children_newest_first es q)
          → children_newest_first (cond a (x ∷ filter stays es) (filter stays es)) q ≡ filter (λ k. not (gone k)) (cond b (x.handle ∷ children_newest_first es q) (children_newest_first es q))
      by_test true true g c rest =
          ap (λ t. cond t (x.handle ∷ children_newest_first (filter stays es) q) (children_newest_first (filter stays es) q)) c
          ∙ ap (λ ks. x.handle ∷ ks) rest
          ∙ sym (ap (λ t. cond t (x.handle ∷ filter (λ k. not (gone k)) (children_newest_first es q)) (filter (λ k. not (gone k)) (children_newest_first es q))) g)
      by_test true false g c rest = ap (λ t. cond t (x.handle ∷ children_newest_first (filter stays es) q) (children_newest_first (filter stays es) q)) c ∙ rest
      by_test false true g c rest = rest ∙ sym (ap (λ t. cond t (x.handle ∷ filter (λ k. not (gone k)) (children_newest_first es q)) (filter (λ k. not (gone k)) (children_newest_first es q))) g)
      by_test false false g c rest = rest

  -- what is so of each frame with this parent is so of each child
  pub children_newest_first-each : (P : Handle → Type 0) (es : List (Entry D)) (q : Handle) → Each (λ x. is_child q x ≡ true → P x.handle) es → Each P (children_newest_first es q)
  children_newest_first-each P [] q each = tt
  children_newest_first-each P (x ∷ es) q each = by_test (is_child q x) each.0 (children_newest_first-each P es q each.1)
    where
      by_test : (b : Bool) → (b ≡ true → P x.handle) → Each P (children_newest_first es q) → Each P (cond b (x.handle ∷ children_newest_first es q) (children_newest_first es q))
      by_test true f rest = (f refl, rest)
      by_test false f rest = rest

  module _ (es : List (Entry D)) (tree : IsTree es DEPTH_LIMIT) (h : Handle) (e : Entry D) (found : entry_of es h ≡ Some e) where
    pub embedder-of : (k : Handle) (x : Entry D) (p : Handle) → entry_of es k ≡ Some x → parent_of x ≡ Some p → IsParent es p x
    embedder-of k x p f q = tree.parent p x (record { found = its-own es k x f; parent = q })

    -- the handle of a live frame goes with the subtree where the frame is within it
    pub goes-under : (k : Handle) (x : Entry D) → entry_of es k ≡ Some x → has_handle k (handles_under es h) ≡ is_under h x
    goes-under k x f = elim (cases_Bool (is_under h x)) as (λ _. has_handle k (handles_under es h) ≡ is_under h x) [
      | inl t ↦ handles-all es tree h k e x found f t ∙ sym t
      | inr u ↦ false_from_ne_true (has_handle k (handles_under es h)) (λ t.
          let l = handles-live es tree h k t in
          let same : l.entry ≡ x = some_same (sym l.found ∙ f) in
          true≢false (sym l.under ∙ ap (is_under h) same ∙ u)) ∙ sym u
    ]

    -- the way to such a frame leads by the root
    record ByRoot (x : Entry D) : Type 0 where
      rest : List Handle
      is : path x ≡ path e ++ rest

    by-root : (k : Handle) (x : Entry D) → entry_of es k ≡ Some x → has_handle k (handles_under es h) ≡ true → ByRoot x
    by-root k x f t =
        let u = walk-under es DEPTH_LIMIT tree DEPTH_LIMIT e (its-own es h e found) k (ap (has_handle k) (sym (handles-are es h e found)) ∙ t) in
        let same : u.entry ≡ x = some_same (sym u.found ∙ f) in
        record { rest = u.rest; is = ap path (sym same) ∙ u.is }

    -- the root goes
    pub root-goes : has_handle h (handles_under es h) ≡ true
    root-goes = goes-under h e found ∙ ap (λ k. is_under k e) (sym (entry-handle es h e found)) ∙ under-itself e

    -- the frame that embeds it stays
    pub parent-stays : (p : Handle) → parent_of e ≡ Some p → has_handle p (handles_under es h) ≡ false
    parent-stays p q = false_from_ne_true (has_handle p (handles_under es h)) (λ t.
        let a = embedder-of h e p found q in
        let way = by-root p a.entry a.found t in
        let long = ap length a.above in
        let more = ap length way.is ∙ length-append (path e) way.rest in
        let own = length-append e.above (e.handle ∷ []) in
        absurd (omega (arith, long, more, own)))

    -- each other frame goes where the frame that embeds it goes
    pub child-goes : (k : Handle) (x : Entry D) (p : Handle) → entry_of es k ≡ Some x → parent_of x ≡ Some p → same_handle k h ≡ false → has_handle k (handles_under es h) ≡ has_handle p (handles_under es h)
    child-goes k x p f q other =
        let a = embedder-of k x p f q in
        goes-under k x f
        ∙ under-parent h x a.entry a.above (ap (λ j. same_handle j h) (entry-handle es k x f) ∙ other)
        ∙ sym (goes-under p a.entry a.found)

    -- the children of the root go
    pub child-of-root : (k : Handle) (x : Entry D) → entry_of es k ≡ Some x → parent_of x ≡ Some h → has_handle k (handles_under es h) ≡ true
    child-of-root k x f q = elim (same_or_other k h) as (λ _. has_handle k (handles_under es h) ≡ true) [
      | inl t ↦ ap (λ j. has_handle j (handles_under es h)) ((same_handle-Decides k h).0 t) ∙ root-goes
      | inr u ↦ child-goes k x h f q u ∙ root-goes
    ]

    -- and are not the root
    pub child-not-root : (k : Handle) (x : Entry D) → entry_of es k ≡ Some x → parent_of x ≡ Some h → same_handle k h ≡ false
    child-not-root k x f q = false_from_ne_true (same_handle k h) (λ t.
        let kh = (same_handle-Decides k h).0 t in
        let same : x ≡ e = some_same (sym f ∙ ap (entry_of es) kh ∙ found) in
        true≢false (sym root-goes ∙ parent-stays h (ap (λ (y : Entry D). parent_of y) (sym same) ∙ q)))

    -- a top frame goes where it is the root
    pub top-goes : (k : Handle) (x : Entry D) → entry_of es k ≡ Some x → parent_of x ≡ None → has_handle k (handles_under es h) ≡ same_handle k h
    top-goes k x f q = goes-under k x f ∙ under-top h x (above-none x q) ∙ ap (λ j. same_handle j h) (entry-handle es k x f)

    -- what goes is of one page
    pub page-goes : (k : Handle) (x : Entry D) → entry_of es k ≡ Some x → has_handle k (handles_under es h) ≡ true → top_of x ≡ top_of e
    page-goes k x f t =
        let way = by-root k x f t in
        sym (first-push x.above x.handle h) ∙ ap (λ ks. first_of ks h) way.is ∙ first-path e.above e.handle way.rest h

    module _ (xs : List (Kept D)) (are : AreNodes xs) (apart : AreApart xs) (kept_as : es ≡ entries_in xs) where
      each-child : (P : Handle → Type 0) (q : Handle) → ((x : Entry D) → entry_of es x.handle ≡ Some x → parent_of x ≡ Some q → P x.handle) → Each P (children_newest_first es q)
      each-child P q all = children_newest_first-each P es q
          (subst (Each (λ x. is_child q x ≡ true → P x.handle)) (sym kept_as)
          (each-live (λ x. is_child q x ≡ true → P x.handle) xs are apart (λ x f c. all x (subst (λ fs. entry_of fs x.handle ≡ Some x) (sym kept_as) f) (named_is (parent_of x) q c))))

      -- of the children of a frame that stays, the root alone goes
      pub children-less : (q : Handle) → has_handle q (handles_under es h) ≡ false → filter (λ k. not (has_handle k (handles_under es h))) (children_newest_first es q) ≡ without h (children_newest_first es q)
      children-less q g = filter-agree (λ k. not (has_handle k (handles_under es h))) (λ k. not (same_handle k h)) (children_newest_first es q)
          (each-child (λ k. not (has_handle k (handles_under es h)) ≡ not (same_handle k h)) q (λ x f par. elim (same_or_other x.handle h) as (λ _. not (has_handle x.handle (handles_under es h)) ≡ not (same_handle x.handle h)) [
            | inl t ↦ ap not (ap (λ j. has_handle j (handles_under es h)) ((same_handle-Decides x.handle h).0 t) ∙ root-goes ∙ sym t)
            | inr u ↦ ap not (child-goes x.handle x q f par u ∙ g ∙ sym u)
          ]))

      module _ (below : List Handle) (is : h ∷ below ≡ handles_under es h) (once : has_handle h below ≡ false) where
        goes-below : (k : Handle) → same_handle h k ≡ false → has_handle k below ≡ has_handle k (handles_under es h)
        goes-below k u = sym (ap (λ b. b || has_handle k below) u) ∙ ap (has_handle k) is

        -- of the children of another frame that stays, none is below the root
        pub children-same : (q : Handle) → same_handle h q ≡ false → has_handle q below ≡ false → filter (λ k. not (has_handle k below)) (children_newest_first es q) ≡ children_newest_first es q
        children-same q other g = filter-all (λ k. not (has_handle k below)) (children_newest_first es q)
            (each-child (λ k. not (has_handle k below) ≡ true) q (λ x f par. ap not (elim (same_or_other x.handle h) as (λ _. has_handle x.handle below ≡ false) [
              | inl t ↦ ap (λ j. has_handle j below) ((same_handle-Decides x.handle h).0 t) ∙ once
              | inr u ↦ goes-below x.handle (other-turned x.handle h u) ∙ child-goes x.handle x q f par u ∙ sym (goes-below q other) ∙ g
            ])))

        -- and all children of the root are
        pub children-none : filter (λ k. not (has_handle k below)) (children_newest_first es h) ≡ []
        children-none = filter-none (λ k. not (has_handle k below)) (children_newest_first es h)
            (each-child (λ k. not (has_handle k below) ≡ false) h (λ x f par. ap not (goes-below x.handle (other-turned x.handle h (child-not-root x.handle x f par)) ∙ child-of-root x.handle x f par)))
