-- The frames, once some of their documents are changed.
use Rattle.std.proofs.Common.{◌≡◌, inl, inr, zero, suc, ℕ, Bool, true, false, cond, ◌||◌, List, [], ◌∷◌, ◌++◌, map, Option, None, Some, is_some, refl, sym, ap, ◌∙◌, true≢false}
use Rattle.std.specs.List.{flat_map}
use Rattle.std.specs.Option.{option_map}
use Rattle.std.proofs.lemmas.List.{map-append}
use Rattle.pe_base.specs.declared.limits.TheConstants.{DEPTH_LIMIT}
use Rattle.pe_arena.specs.declared.handle.Handle.{Handle}
use Rattle.pe_frames.specs.Forest.{Entry, same_handle, has_handle, entry_of, is_under, top_of, with_document, AreFrames}
use Rattle.pe_frames.specs.Order.{after, is_child, children, tree_order, handles_under}
use Rattle.pe_frames.specs.Walk.{visited, is_of_page, changed_where, changed_in, changed_to, changed_under, changed_page}
use Rattle.pe_frames.proofs.Lemmas.{some_same}
use Rattle.std.proofs.lemmas.Bool.{cases_Bool}
use Rattle.pe_frames.proofs.Handles.{has-push, other-turned, same_handle-Decides}
use Rattle.pe_frames.proofs.Below.{entry-handle}
use Rattle.pe_frames.proofs.Tree.{Each, each-map, IsTree}
use Rattle.pe_frames.proofs.Under.{handles-once}
use Rattle.pe_frames.proofs.Visited.{visited-next, visited-new, visited-last}
use Rattle.pe_frames.proofs.Counted.{IsOwn, own-each, under-entry, page-under, first-visited}

map-same : {A B : Type 0} (f g : A → B) (xs : List A) → Each (λ x. f x ≡ g x) xs → map f xs ≡ map g xs
map-same f g [] p = refl
map-same f g (x ∷ xs) p = ap (λ y. y ∷ map f xs) p.0 ∙ ap (λ ys. g x ∷ ys) (map-same f g xs p.1)

map-twice : {A : Type 0} (f g : A → A) (xs : List A) → map f (map g xs) ≡ map (λ x. f (g x)) xs
map-twice f g [] = refl
map-twice f g (x ∷ xs) = ap (λ ys. f (g x) ∷ ys) (map-twice f g xs)

module _ {D : Type 0} where
  module _ (passes : Entry D → Bool) (change : Entry D → D) where
    abbrev new : Entry D → Entry D
    new = changed_where passes change

    pub entry-changed : (es : List (Entry D)) (k : Handle) → entry_of (map (changed_where passes change) es) k ≡ option_map (changed_where passes change) (entry_of es k)
    entry-changed [] k = refl
    entry-changed (e ∷ es) k = by_test (same_handle e.handle k) (entry-changed es k)
      where
        by_test : (b : Bool) → entry_of (map new es) k ≡ option_map new (entry_of es k) → cond b (Some (new e)) (entry_of (map new es) k) ≡ option_map new (cond b (Some e) (entry_of es k))
        by_test true rest = refl
        by_test false rest = rest

    children-changed : (es : List (Entry D)) (p : Handle) → children (map new es) p ≡ map new (children es p)
    children-changed [] p = refl
    children-changed (e ∷ es) p =
        ap (λ cs. cs ++ cond (is_child p e) (new e ∷ []) []) (children-changed es p)
        ∙ ap (λ cs. map new (children es p) ++ cs) (by_test (is_child p e))
        ∙ sym (map-append new (children es p) (cond (is_child p e) (e ∷ []) []))
      where
        by_test : (b : Bool) → cond b (new e ∷ []) [] ≡ map new (cond b (e ∷ []) [])
        by_test true = refl
        by_test false = refl

    flat-changed : (F G : Entry D → List (Entry D)) → ((e : Entry D) → F (new e) ≡ map new (G e)) → (cs : List (Entry D)) → flat_map F (map new cs) ≡ map new (flat_map G cs)
    flat-changed F G p [] = refl
    flat-changed F G p (c ∷ cs) = ap (λ xs. xs ++ flat_map F (map new cs)) (p c) ∙ ap (λ xs. map new (G c) ++ xs) (flat-changed F G p cs) ∙ sym (map-append new (G c) (flat_map G cs))

    order-changed : (n : ℕ) (es : List (Entry D)) (e : Entry D) → tree_order n (map new es) (new e) ≡ map new (tree_order n es e)
    unfolding tree_order
    order-changed zero es e = refl
    order-changed (suc n) es e =
        ap (λ xs. new e ∷ xs) (ap (flat_map (tree_order n (map new es))) (children-changed es e.handle)
        ∙ flat-changed (tree_order n (map new es)) (tree_order n es) (order-changed n es) (children es e.handle))

    handles-changed : (xs : List (Entry D)) → map (λ (x : Entry D). x.handle) (map new xs) ≡ map (λ (x : Entry D). x.handle) xs
    handles-changed [] = refl
    handles-changed (x ∷ xs) = ap (λ ks. x.handle ∷ ks) (handles-changed xs)

    -- documents do not tell what stands below a frame
    pub under-changed : (es : List (Entry D)) (root : Handle) → handles_under (map (changed_where passes change) es) root ≡ handles_under es root
    under-changed es root = by_entry (entry_of es root) refl
      where
        by_entry : (o : Option (Entry D)) → entry_of es root ≡ o → handles_under (map new es) root ≡ handles_under es root
        by_entry None f = rw (entry-changed es root ∙ ap (option_map new) f, f) refl
        by_entry (Some e) f = rw (entry-changed es root ∙ ap (option_map new) f, f) (ap (map (λ (x : Entry D). x.handle)) (order-changed DEPTH_LIMIT es e) ∙ handles-changed (tree_order DEPTH_LIMIT es e))

  -- a handle before the others stands for one behind them
  pushed : (change : Entry D → D) (next : Handle) (done : List Handle) (x : Entry D) → changed_where (λ y. same_handle next y.handle || has_handle y.handle done) change x ≡ changed_in change (done ++ next ∷ []) x
  pushed change next done x = ap (λ b. record x { doc = cond b (change x) x.doc }) (turned (same_handle next x.handle) (has_handle x.handle done) ∙ sym (has-push x.handle next done))
    where
      turned : (a b : Bool) → (a || b) ≡ (b || a)
      turned true true = refl
      turned true false = refl
      turned false true = refl
      turned false false = refl

  module _ (es : List (Entry D)) (are : AreFrames es) where
    -- where two changes agree on each live frame
    same-changes : (f g : Entry D → Entry D) → ((x : Entry D) → IsOwn es x → f x ≡ g x) → map f es ≡ map g es
    same-changes f g p = map-same f g es (each-map (IsOwn es) (λ x. f x ≡ g x) p es (own-each es are))

    module _ (passes : Entry D → Bool) (change : Entry D → D) (next : Handle) (e : Entry D) (found : entry_of es next ≡ Some e) where
      pub one-more : (x : Entry D) → IsOwn es x → with_document next (change e) (changed_where passes change x) ≡ changed_where (λ y. same_handle next y.handle || passes y) change x
      one-more x own = elim (cases_Bool (same_handle x.handle next)) as (λ _. with_document next (change e) (changed_where passes change x) ≡ changed_where (λ y. same_handle next y.handle || passes y) change x) [
        | inl t ↦
            let same = (same_handle-Decides x.handle next).0 t in
            let it : x ≡ e = some_same (sym own ∙ ap (entry_of es) same ∙ found) in
            ap (λ d. record x { doc = d }) (
            ap (λ b. cond b (change e) (cond (passes x) (change x) x.doc)) t
            ∙ ap change (sym it)
            ∙ sym (ap (λ b. cond (b || passes x) (change x) x.doc) ((same_handle-Decides next x.handle).1 (sym same))))
        | inr t ↦
            ap (λ d. record x { doc = d }) (
            ap (λ b. cond b (change e) (cond (passes x) (change x) x.doc)) t
            ∙ sym (ap (λ b. cond (b || passes x) (change x) x.doc) (other-turned x.handle next t)))
      ]

      -- a frame that is changed is one more of those that pass
      pub written-one : map (with_document next (change e)) (map (changed_where passes change) es) ≡ map (changed_where (λ y. same_handle next y.handle || passes y) change) es
      written-one = map-twice (with_document next (change e)) (changed_where passes change) es ∙ same-changes (λ x. with_document next (change e) (changed_where passes change x)) (changed_where (λ y. same_handle next y.handle || passes y) change) one-more

    module _ (change : Entry D → D) (done : List Handle) (next : Handle) (fresh : has_handle next done ≡ false) (e : Entry D) (found : entry_of es next ≡ Some e) where
      -- a frame that was not changed yet is as it was
      pub unvisited : entry_of (map (changed_in change done) es) next ≡ Some e
      unvisited =
          entry-changed (λ x. has_handle x.handle done) change es next
          ∙ ap (option_map (changed_in change done)) found
          ∙ ap (λ b. Some (record e { doc = cond b (change e) e.doc })) (ap (λ k. has_handle k done) (entry-handle es next e found) ∙ fresh)

      one-entry : (x : Entry D) → IsOwn es x → with_document next (change e) (changed_in change done x) ≡ changed_in change (done ++ next ∷ []) x
      one-entry x own = one-more (λ y. has_handle y.handle done) change next e found x own ∙ pushed change next done x

      -- one more frame is changed
      pub changed-one : map (with_document next (change e)) (map (changed_in change done) es) ≡ map (changed_in change (done ++ next ∷ [])) es
      changed-one = map-twice (with_document next (change e)) (changed_in change done) es ∙ same-changes (λ x. with_document next (change e) (changed_in change done x)) (changed_in change (done ++ next ∷ [])) one-entry

      -- where the change leaves its document, nothing has to be written
      pub changed-none : change e ≡ e.doc → map (changed_in change done) es ≡ map (changed_in change (done ++ next ∷ [])) es
      changed-none still = same-changes (changed_in change done) (changed_in change (done ++ next ∷ [])) (λ x own. sym (by_test x own) ∙ one-entry x own)
        where
          by_test : (x : Entry D) → IsOwn es x → with_document next (change e) (changed_in change done x) ≡ changed_in change done x
          by_test x own = elim (cases_Bool (same_handle x.handle next)) as (λ _. with_document next (change e) (changed_in change done x) ≡ changed_in change done x) [
            | inl t ↦
                let same = (same_handle-Decides x.handle next).0 t in
                let it : x ≡ e = some_same (sym own ∙ ap (entry_of es) same ∙ found) in
                ap (λ d. record x { doc = d }) (
                ap (λ b. cond b (change e) (cond (has_handle x.handle done) (change x) x.doc)) t
                ∙ still
                ∙ ap (λ (y : Entry D). y.doc) (sym it)
                ∙ sym (ap (λ b. cond b (change x) x.doc) (ap (λ k. has_handle k done) same ∙ fresh)))
            | inr t ↦ ap (λ d. record x { doc = d }) (ap (λ b. cond b (change e) (cond (has_handle x.handle done) (change x) x.doc)) t)
          ]

    module _ (tree : IsTree es DEPTH_LIMIT) (change : Entry D → D) where
      -- the first frame of the walk is changed
      pub changed-first : (root : Handle) (e : Entry D) → entry_of es root ≡ Some e → map (with_document root (change e)) es ≡ changed_to change es root root
      changed-first root e f =
          ap (map (with_document root (change e))) (sym (none es))
          ∙ changed-one change [] root refl e f
          ∙ ap (λ ks. map (changed_in change ks) es) (sym (first-visited es are tree root (ap is_some f)))
        where
          none : (xs : List (Entry D)) → map (changed_in change []) xs ≡ xs
          none [] = refl
          none (x ∷ xs) = ap (λ ys. x ∷ ys) (none xs)

      module _ (root h next : Handle) (behind : after h (handles_under es root) ≡ Some next) where
        fresh-next : has_handle next (visited h (handles_under es root)) ≡ false
        fresh-next = visited-new (handles_under es root) (handles-once es tree root) h next behind

        more : map (changed_in change (visited h (handles_under es root) ++ next ∷ [])) es ≡ changed_to change es root next
        more = ap (λ ks. map (changed_in change ks) es) (sym (visited-next (handles_under es root) (handles-once es tree root) h next behind))

        -- what the walk comes to next is as it was
        next-unvisited : (e : Entry D) → entry_of es next ≡ Some e → entry_of (changed_to change es root h) next ≡ Some e
        next-unvisited = unvisited change (visited h (handles_under es root)) next fresh-next

        pub same-unvisited : entry_of (changed_to change es root h) next ≡ entry_of es next
        same-unvisited = by_entry (entry_of es next) refl
          where
            by_entry : (o : Option (Entry D)) → entry_of es next ≡ o → entry_of (changed_to change es root h) next ≡ entry_of es next
            by_entry None f = entry-changed (λ x. has_handle x.handle (visited h (handles_under es root))) change es next ∙ ap (option_map (changed_in change (visited h (handles_under es root)))) f ∙ sym f
            by_entry (Some e) f = next-unvisited e f ∙ sym f

        pub changed-next : (e : Entry D) → entry_of es next ≡ Some e → map (with_document next (change e)) (changed_to change es root h) ≡ changed_to change es root next
        changed-next e f = changed-one change (visited h (handles_under es root)) next fresh-next e f ∙ more

        pub skipped-next : (e : Entry D) → entry_of es next ≡ Some e → change e ≡ e.doc → changed_to change es root h ≡ changed_to change es root next
        skipped-next e f still = changed-none change (visited h (handles_under es root)) next fresh-next e f still ∙ more

      -- at the end of the walk the root and each below it is changed
      pub changed-last : (root h : Handle) → has_handle h (handles_under es root) ≡ true → after h (handles_under es root) ≡ None → changed_to change es root h ≡ changed_under change es root
      changed-last root h t q =
          ap (λ ks. map (changed_in change ks) es) (visited-last (handles_under es root) h t q)
          ∙ same-changes (changed_in change (handles_under es root)) (changed_where (is_under root) change) (λ x own. ap (λ b. record x { doc = cond b (change x) x.doc }) (under-entry es are tree root x.handle x own))

      -- below a top frame that is its page
      pub changed-pages : (h : Handle) (e : Entry D) → entry_of es h ≡ Some e → changed_under change es (top_of e) ≡ changed_page change es (top_of e)
      changed-pages h e f = same-changes (changed_where (is_under (top_of e)) change) (changed_where (is_of_page (top_of e)) change) (λ x own. ap (λ b. record x { doc = cond b (change x) x.doc }) (page-under es are tree h x.handle e x f own))
