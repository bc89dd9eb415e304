-- A frame that is closed with all below it, step by step.
use Rattle.std.proofs.Common.{◌≡◌, inl, inr, ℕ, ◌+◌, ◌-◌, ◌≤◌, Bool, true, false, cond, ◌||◌, ◌&&◌, List, [], ◌∷◌, length, Option, None, Some, IsSome, is_some, is_none, refl, sym, ap, subst, ◌∙◌, arith, true≢false}
use Rattle.std.specs.Prelude.{◌==◌, filter, not, IfSome}
use Rattle.std.specs.Option.{option_map}
use Rattle.pe_arena.specs.declared.handle.Handle.{Handle}
use Rattle.pe_arena.specs.Slots.{Slots, live}
use Rattle.pe_frames.specs.declared.row.Row.{Row}
use Rattle.pe_frames.specs.declared.node.Node.{Node}
use Rattle.pe_frames.specs.Forest.{Entry, first_of, last_of, same_handle, has_handle, entry_of, parent_of, top_of, is_top, is_under, page_count, IsDead, StayDead}
use Rattle.pe_frames.specs.Order.{is_named, after, handles_under, closed}
use Rattle.pe_frames.specs.Neighbours.{before, siblings, links_in, changed_at, unlinked, with_fewer_frames, Rewrites, Removes}
use Rattle.pe_frames.specs.Kept.{kept, entries_in, HasLinks, Sweeps, forest_in, IsForest}
use Rattle.pe_frames.proofs.Nodes.{found-live, entries-nodes}
use Rattle.pe_frames.proofs.Handles.{same_handle-Decides, same_or_other, is_named-of, top-none}
use Rattle.pe_frames.proofs.Pages.{top-found}
use Rattle.std.proofs.lemmas.Bool.{false_from_ne_true}
use Rattle.pe_frames.proofs.Sizes.{TopRow-live}
use Rattle.pe_frames.proofs.Below.{entry-handle}
use Rattle.pe_frames.proofs.Upward.{above-none}
use Rattle.pe_frames.proofs.Children.{born}
use Rattle.pe_frames.proofs.Writes.{Rewrites-then, SameMarks-then}
use Rattle.pe_frames.proofs.Under.{tree-forest, handles-live, handles-once}
use Rattle.pe_frames.proofs.Cuts.{frame-of, IsForest-cut, entries-cut, StayDead-cut, IsDead-cut}
use Rattle.pe_frames.proofs.Without.{after-itself, before-itself}
use Rattle.pe_frames.proofs.Within.{goes-under, root-goes, parent-stays, child-goes, top-goes, page-goes, embedder-of}
use Rattle.pe_frames.proofs.Unlinked.{at-keeps, unlinked-node, unlinked-size, child-listed, siblings-once, after-has, before-has, links-closed}
use Rattle.pe_frames.proofs.Leaving.{Changes, stayed, Leaves, page-less, pages-same, pages-one, IsCut-left, sized-left, length-left}
use Rattle.pe_frames.proofs.Lemmas.{if_each, some_same, node_some, some_row}

module _ {D : Type 0} where
  -- the top frame of the page that is left, once the frame is removed
  abbrev pub page_left : Entry D → Option Handle
  page_left e = cond (is_none (parent_of e)) None (Some (top_of e))

  -- a live frame has a row
  pub row-lives : (s : Slots (Row D)) (order : List Handle) (pages : ℕ) → IsForest s order pages → (k : Handle) → IsSome (entry_of (entries_in (kept s order [])) k) → IsSome (live s k)
  row-lives s order pages is k p = some_row (live s k) (subst IsSome (sym (found-live s order k is.listed is.nodes)) (node_some (entry_of (entries_in (kept s order [])) k) p))

  module _ (s : Slots (Row D)) (order : List Handle) (pages : ℕ) (is : IsForest s order pages) (h : Handle) (e : Entry D) (found : entry_of (entries_in (kept s order [])) h ≡ Some e) where
    -- the frames that go
    leaves-closed : Leaves s order (handles_under (entries_in (kept s order [])) h) (λ x. not (is_under h x)) (top_of e)
    leaves-closed =
        let es = entries_in (kept s order []) in
        let tree = tree-forest s order pages is in
        record {
          once = handles-once es tree h;
          alive = λ k t. (let l = handles-live es tree h k t in ap is_some l.found);
          agree = λ x f. ap not (sym (goes-under es tree h e found x.handle x f));
          rooted = λ k x p f q g. sym (child-goes es tree h e found k x p f q (false_from_ne_true (same_handle k h) (λ t. true≢false (sym (root-goes es tree h e found) ∙ ap (λ j. has_handle j (handles_under es h)) (sym ((same_handle-Decides k h).0 t)) ∙ g)))) ∙ g;
          page = λ x f t. page-goes es tree h e found x.handle x f t;
        }

    -- no more frames go than the page has
    pub few-go : length (handles_under (entries_in (kept s order [])) h) ≤ 256
    few-go =
        let top = TopRow-live s order pages is h e found in
        let less = page-less s order pages is (handles_under (entries_in (kept s order [])) h) (λ x. not (is_under h x)) (top_of e) leaves-closed in
        let size = top.sized.size in
        let within = top.sized.within in
        omega (arith, less, size, within)

    -- what is not the frame, and is a child of its parent, stays
    sibling-stays : (k : Handle) → has_handle k (siblings (entries_in (kept s order [])) (parent_of e)) ≡ true → same_handle k h ≡ false → IsSome (live s k) × (has_handle k (handles_under (entries_in (kept s order [])) h) ≡ false)
    sibling-stays k t other = by_parent (parent_of e) refl t
      where
        by_parent : (o : Option Handle) → parent_of e ≡ o → has_handle k (siblings (entries_in (kept s order [])) o) ≡ true → IsSome (live s k) × (has_handle k (handles_under (entries_in (kept s order [])) h) ≡ false)
        by_parent None q t = absurd (true≢false (sym t))
        by_parent (Some p) q t =
            let b = born (kept s order []) p k is.nodes is.apart t in
            let x = frame-of (entry_of (entries_in (kept s order [])) k) b.node (entries-nodes (kept s order []) k is.nodes ∙ b.found) in
            let par = ap (λ (n : Node D). n.parent) x.node ∙ b.parent in (
              row-lives s order pages is k (ap is_some x.found),
              child-goes (entries_in (kept s order [])) (tree-forest s order pages is) h e found k x.entry p x.found par other
                  ∙ parent-stays (entries_in (kept s order [])) (tree-forest s order pages is) h e found p q,
            )

    -- the frame is one of the children of its parent
    own-sibling : (p : Handle) → parent_of e ≡ Some p → has_handle h (siblings (entries_in (kept s order [])) (parent_of e)) ≡ true
    own-sibling p q = ap (λ o. has_handle h (siblings (entries_in (kept s order [])) o)) q ∙ child-listed (entries_in (kept s order [])) h p e found q

    no-siblings : (k : Handle) → has_handle k (siblings (entries_in (kept s order [])) (parent_of e)) ≡ true → has_handle h (siblings (entries_in (kept s order [])) (parent_of e)) ≡ true
    no-siblings k t = by_parent (parent_of e) refl t
      where
        by_parent : (o : Option Handle) → parent_of e ≡ o → has_handle k (siblings (entries_in (kept s order [])) o) ≡ true → has_handle h (siblings (entries_in (kept s order [])) (parent_of e)) ≡ true
        by_parent None q t = absurd (true≢false (sym t))
        by_parent (Some p) q t = own-sibling p q

    earlier-stays : (k : Handle) → after h (siblings (entries_in (kept s order [])) (parent_of e)) ≡ Some k → IsSome (live s k) × (has_handle k (handles_under (entries_in (kept s order [])) h) ≡ false)
    earlier-stays k q =
        let ks = siblings (entries_in (kept s order [])) (parent_of e) in
        let has = after-has h k ks (is_named-of (after h ks) k q) in
        sibling-stays k has (ap (λ o. is_named o h) (sym q) ∙ after-itself h ks (siblings-once (kept s order []) is.nodes is.apart (parent_of e)) (no-siblings k has))

    later-stays : (k : Handle) → before h (siblings (entries_in (kept s order [])) (parent_of e)) ≡ Some k → IsSome (live s k) × (has_handle k (handles_under (entries_in (kept s order [])) h) ≡ false)
    later-stays k q =
        let ks = siblings (entries_in (kept s order [])) (parent_of e) in
        let has = before-has h k ks (is_named-of (before h ks) k q) in
        sibling-stays k has (ap (λ o. is_named o h) (sym q) ∙ before-itself h ks (siblings-once (kept s order []) is.nodes is.apart (parent_of e)) (no-siblings k has))

    -- the top frame of the page stays, where the frame is none
    top-stays : (p : Handle) → parent_of e ≡ Some p → has_handle (top_of e) (handles_under (entries_in (kept s order [])) h) ≡ false
    top-stays p q =
        let es = entries_in (kept s order []) in
        let has = top-found (kept s order []) is.nodes is.apart h e found in
        top-goes es (tree-forest s order pages is) h e found (top_of e) has.top has.found (ap last_of has.bare)
        ∙ false_from_ne_true (same_handle (top_of e) h) (λ t.
        let same : has.top ≡ e = some_same (sym has.found ∙ ap (entry_of es) ((same_handle-Decides (top_of e) h).0 t) ∙ found) in
        true≢false (sym (ap is_some (sym (ap last_of (ap (λ (y : Entry D). y.above) (sym same) ∙ has.bare)) ∙ q))))

    -- where the frame is a top frame, it is that of its page
    top-alone : parent_of e ≡ None → top_of e ≡ h
    top-alone q = (λ i. first_of (above-none e q i) e.handle) ∙ entry-handle (entries_in (kept s order [])) h e found

    -- how many pages go
    pub pages-gone : page_count (entries_in (kept s order [])) ≡ page_count (filter (λ x. not (is_under h x)) (entries_in (kept s order []))) + cond (is_none (parent_of e)) 1 0
    pages-gone = by_parent (parent_of e) refl
      where
        below-top : (x : Entry D) → entry_of (entries_in (kept s order [])) x.handle ≡ Some x → has_handle x.handle (handles_under (entries_in (kept s order [])) h) ≡ true → is_top x ≡ true → x ≡ e
        below-top x f t top =
            let g = top-goes (entries_in (kept s order [])) (tree-forest s order pages is) h e found x.handle x f (top-none x.above top) in
            some_same (sym f ∙ ap (entry_of (entries_in (kept s order []))) ((same_handle-Decides x.handle h).0 (sym g ∙ t)) ∙ found)

        one-top : parent_of e ≡ None → (x : Entry D) → entry_of (entries_in (kept s order [])) x.handle ≡ Some x → (is_top x && has_handle x.handle (handles_under (entries_in (kept s order [])) h)) ≡ same_handle h x.handle
        one-top q x f = elim (same_or_other h x.handle) as (λ _. (is_top x && has_handle x.handle (handles_under (entries_in (kept s order [])) h)) ≡ same_handle h x.handle) [
          | inl t ↦
              let hx = (same_handle-Decides h x.handle).0 t in
              let same : e ≡ x = some_same (sym found ∙ ap (entry_of (entries_in (kept s order []))) hx ∙ f) in
              ap (λ ks. (length ks == 0) && has_handle x.handle (handles_under (entries_in (kept s order [])) h)) (ap (λ (y : Entry D). y.above) (sym same) ∙ above-none e q)
              ∙ ap (λ k. has_handle k (handles_under (entries_in (kept s order [])) h)) (sym hx)
              ∙ root-goes (entries_in (kept s order [])) (tree-forest s order pages is) h e found
              ∙ sym t
          | inr u ↦ neither (is_top x) (has_handle x.handle (handles_under (entries_in (kept s order [])) h)) (λ a b.
              true≢false (sym ((same_handle-Decides h x.handle).1 (sym (entry-handle (entries_in (kept s order [])) h e found) ∙ ap (λ (y : Entry D). y.handle) (sym (below-top x f b a)))) ∙ u)) ∙ sym u
        ]
          where
            neither : (a b : Bool) → (a ≡ true → b ≡ true → ⊥) → (a && b) ≡ false
            neither true true n = absurd (n refl refl)
            neither true false n = refl
            neither false b n = refl

        by_parent : (o : Option Handle) → parent_of e ≡ o → page_count (entries_in (kept s order [])) ≡ page_count (filter (λ x. not (is_under h x)) (entries_in (kept s order []))) + cond (is_none o) 1 0
        by_parent None q = pages-one s order pages is (handles_under (entries_in (kept s order [])) h) (λ x. not (is_under h x)) (top_of e) leaves-closed h (ap is_some found) (one-top q)
        by_parent (Some p) q =
            let same = pages-same s order pages is (handles_under (entries_in (kept s order [])) h) (λ x. not (is_under h x)) (top_of e) leaves-closed (λ x f t. false_from_ne_true (is_top x) (λ top.
            let xe = below-top x f t top in
            true≢false (sym (ap is_some (sym (top-none x.above top) ∙ ap (λ (y : Entry D). parent_of y) xe ∙ q))))) in
            omega (arith, same)

    module _ (below : List Handle) (all : h ∷ below ≡ handles_under (entries_in (kept s order [])) h) (one two : Slots (Row D)) (taken : Removes s one (h ∷ [])) (emptied : Removes one two below) where
      live-two : (k : Handle) → live two k ≡ cond (has_handle k (handles_under (entries_in (kept s order [])) h)) None (live s k)
      live-two k = emptied.rows k ∙ ap (cond (has_handle k below) None) (taken.rows k) ∙ both (has_handle k below) (same_handle h k) (live s k) ∙ ap (λ ks. cond (has_handle k ks) None (live s k)) all
        where
          both : (a b : Bool) (o : Option (Row D)) → cond a None (cond (b || false) None o) ≡ cond (b || a) None o
          both true true o = refl
          both true false o = refl
          both false true o = refl
          both false false o = refl

      lives-two : (k : Handle) → IsSome (live s k) × (has_handle k (handles_under (entries_in (kept s order [])) h) ≡ false) → IsSome (live two k)
      lives-two k p = subst IsSome (sym (live-two k ∙ ap (λ b. cond b None (live s k)) p.1)) p.0

      pub earlier-lives : IfSome (links_in (entries_in (kept s order [])) h (parent_of e)).earlier (λ k. IsSome (live two k))
      earlier-lives = if_each (λ k. IsSome (live two k)) (after h (siblings (entries_in (kept s order [])) (parent_of e))) (λ k q. lives-two k (earlier-stays k q))

      pub later-lives : IfSome (links_in (entries_in (kept s order [])) h (parent_of e)).later (λ k. IsSome (live two k))
      later-lives = if_each (λ k. IsSome (live two k)) (before h (siblings (entries_in (kept s order [])) (parent_of e))) (λ k q. lives-two k (later-stays k q))

      pub parent-lives : IfSome (parent_of e) (λ k. IsSome (live two k))
      parent-lives = if_each (λ k. IsSome (live two k)) (parent_of e) (λ p q.
          let a = embedder-of (entries_in (kept s order [])) (tree-forest s order pages is) h e found h e p found q in
          lives-two p (row-lives s order pages is p (ap is_some a.found), parent-stays (entries_in (kept s order [])) (tree-forest s order pages is) h e found p q))

      module _ (three : Slots (Row D)) (mended : Rewrites two three (unlinked (links_in (entries_in (kept s order [])) h (parent_of e)) (parent_of e))) where
        -- the row of the page's top frame
        record TopThree (o : Option (Row D)) : Type 0 where
          row : Row D
          here : o ≡ Some row
          size : length (handles_under (entries_in (kept s order [])) h) ≤ row.size

        top-three : (p : Handle) → parent_of e ≡ Some p → TopThree (live three (top_of e))
        top-three p q =
            let es = entries_in (kept s order []) in
            let top = TopRow-live s order pages is h e found in
            let less = page-less s order pages is (handles_under es h) (λ x. not (is_under h x)) (top_of e) leaves-closed in
            let size = top.sized.size in
            let same = unlinked-size (links_in es h (parent_of e)) (parent_of e) (top_of e) top.row in
            record {
              row = unlinked (links_in es h (parent_of e)) (parent_of e) (top_of e) top.row;
              here =
                  mended.rows (top_of e)
                  ∙ ap (option_map (unlinked (links_in es h (parent_of e)) (parent_of e) (top_of e))) (live-two (top_of e) ∙ ap (λ b. cond b None (live s (top_of e))) (top-stays p q) ∙ top.found);
              size = omega (arith, less, size, same);
            }

        if_left : (P : Handle → Type 0) → ((p : Handle) → parent_of e ≡ Some p → P (top_of e)) → IfSome (page_left e) P
        if_left P f = by_parent (parent_of e) refl
          where
            by_parent : (o : Option Handle) → parent_of e ≡ o → IfSome (cond (is_none o) None (Some (top_of e))) P
            by_parent None q = tt
            by_parent (Some p) q = f p q

        pub page-lives : IfSome (page_left e) (λ k. IsSome (live three k))
        page-lives = if_left (λ k. IsSome (live three k)) (λ p q. let top = top-three p q in ap is_some top.here)

        pub page-large : IfSome (page_left e) (λ k. IfSome (live three k) (λ r. length (handles_under (entries_in (kept s order [])) h) ≤ r.size))
        page-large = if_left (λ k. IfSome (live three k) (λ r. length (handles_under (entries_in (kept s order [])) h) ≤ r.size)) (λ p q.
            let top = top-three p q in
            subst (λ o. IfSome o (λ (r : Row D). length (handles_under (entries_in (kept s order [])) h) ≤ r.size)) (sym top.here) top.size)

        module _ (t : Slots (Row D)) (shrunk : Rewrites three t (changed_at (page_left e) (with_fewer_frames (length (handles_under (entries_in (kept s order [])) h))))) where
          changes-closed : Changes s t (λ k. has_handle k (handles_under (entries_in (kept s order [])) h)) (λ k r. changed_at (page_left e) (with_fewer_frames (length (handles_under (entries_in (kept s order [])) h))) k (unlinked (links_in (entries_in (kept s order [])) h (parent_of e)) (parent_of e) k r))
          changes-closed =
              let es = entries_in (kept s order []) in
              let l = links_in es h (parent_of e) in
              let n = length (handles_under es h) in
              let both = Rewrites-then two three t (unlinked l (parent_of e)) (changed_at (page_left e) (with_fewer_frames n)) mended shrunk in
              record {
                rows = λ k. both.rows k ∙ ap (option_map (λ r. changed_at (page_left e) (with_fewer_frames n) k (unlinked l (parent_of e) k r))) (live-two k);
                keeps = λ k r. at-keeps (λ (x : Row D). x.node) (page_left e) (with_fewer_frames n) (λ x. refl) k (unlinked l (parent_of e) k r) ∙ unlinked-node l (parent_of e) k r;
                same = SameMarks-then s one t taken.same (SameMarks-then one two t emptied.same both.same);
              }

          size-changed : (k : Handle) (r : Row D) → (changed_at (page_left e) (with_fewer_frames (length (handles_under (entries_in (kept s order [])) h))) k (unlinked (links_in (entries_in (kept s order [])) h (parent_of e)) (parent_of e) k r)).size
              ≡ cond (is_named (page_left e) k) (r.size - length (handles_under (entries_in (kept s order [])) h)) r.size
          size-changed k r =
              let es = entries_in (kept s order []) in
              let l = links_in es h (parent_of e) in
              by_test (is_named (page_left e) k) (length (handles_under es h)) (unlinked l (parent_of e) k r)
              ∙ ap (λ m. cond (is_named (page_left e) k) (m - length (handles_under es h)) m) (unlinked-size l (parent_of e) k r)
            where
              by_test : (b : Bool) (n : ℕ) (x : Row D) → (cond b (with_fewer_frames n x) x).size ≡ cond b (x.size - n) x.size
              by_test true n x = refl
              by_test false n x = refl

          page-named : (k : Handle) → has_handle k (handles_under (entries_in (kept s order [])) h) ≡ false → is_named (page_left e) k ≡ same_handle (top_of e) k
          page-named k g = by_parent (parent_of e) refl
            where
              by_parent : (o : Option Handle) → parent_of e ≡ o → is_named (cond (is_none o) None (Some (top_of e))) k ≡ same_handle (top_of e) k
              by_parent (Some p) q = refl
              by_parent None q = sym (false_from_ne_true (same_handle (top_of e) k) (λ t.
                  let kh = sym ((same_handle-Decides (top_of e) k).0 t) ∙ top-alone q in
                  true≢false (sym (ap (λ j. has_handle j (handles_under (entries_in (kept s order [])) h)) kh ∙ root-goes (entries_in (kept s order [])) (tree-forest s order pages is) h e found) ∙ g)))

          links-left : (k : Handle) (r : Row D) → live t k ≡ Some r → HasLinks (filter (λ x. not (is_under h x)) (entries_in (kept s order []))) k r
          links-left k x f =
              let es = entries_in (kept s order []) in
              let l = links_in es h (parent_of e) in
              let n = length (handles_under es h) in
              let was = stayed s t (λ j. has_handle j (handles_under es h)) (λ j r. changed_at (page_left e) (with_fewer_frames n) j (unlinked l (parent_of e) j r)) changes-closed k x f in
              let fr = frame-of (entry_of es k) was.row.node (sym (found-live s order k is.listed is.nodes) ∙ ap (option_map (λ r. r.node)) was.found) in
              let ne : same_handle h k ≡ false = false_from_ne_true (same_handle h k) (λ t.
              true≢false (sym (root-goes es (tree-forest s order pages is) h e found) ∙ ap (λ j. has_handle j (handles_under es h)) ((same_handle-Decides h k).0 t) ∙ was.here)) in
              subst (HasLinks (filter (λ y. not (is_under h y)) es) k) was.is
              (shrunk-links (filter (λ y. not (is_under h y)) es) (is_named (page_left e) k) n k (unlinked l (parent_of e) k was.row)
              (links-closed (kept s order []) is.nodes is.apart h e found (tree-forest s order pages is) k fr.entry fr.found ne was.here was.row (sym (ap (λ (m : Node D). m.parent) fr.node)) (is.linked k was.row was.found)))
            where
              shrunk-links : (es : List (Entry D)) (b : Bool) (n : ℕ) (k : Handle) (r : Row D) → HasLinks es k r → HasLinks es k (cond b (with_fewer_frames n r) r)
              shrunk-links es true n k r has = has
              shrunk-links es false n k r has = has

          pub length-closed : length (kept s order []) ≡ length (kept t order []) + length (handles_under (entries_in (kept s order [])) h)
          length-closed =
              let es = entries_in (kept s order []) in
              let ks = handles_under es h in
              let l = links_in es h (parent_of e) in
              length-left s order pages is ks (λ x. not (is_under h x)) (top_of e) leaves-closed t (λ k r. changed_at (page_left e) (with_fewer_frames (length ks)) k (unlinked l (parent_of e) k r)) changes-closed

          module _ (swept : List Handle) (sweeps : Sweeps t order swept) where
            pub IsForest-closed : (count : ℕ) → count + cond (is_none (parent_of e)) 1 0 ≡ pages → IsForest t swept count
            IsForest-closed count less =
                let es = entries_in (kept s order []) in
                let ks = handles_under es h in
                let l = links_in es h (parent_of e) in
                let gone = pages-gone in
                let paged = is.paged in
                let few = is.few in
                IsForest-cut s t order pages is (λ k. has_handle k ks) (λ x. not (is_under h x))
                (IsCut-left s order pages is ks (λ x. not (is_under h x)) (top_of e) leaves-closed t (λ k r. changed_at (page_left e) (with_fewer_frames (length ks)) k (unlinked l (parent_of e) k r)) changes-closed)
                swept sweeps count (omega (arith, less, gone, paged)) (omega (arith, less, few))
                (sized-left s order pages is ks (λ x. not (is_under h x)) (top_of e) leaves-closed t (λ k r. changed_at (page_left e) (with_fewer_frames (length ks)) k (unlinked l (parent_of e) k r)) changes-closed (page_left e) size-changed page-named)
                links-left

            pub entries-closed : (forest_in t swept).entries ≡ closed h (forest_in s order).entries
            entries-closed =
                let es = entries_in (kept s order []) in
                let ks = handles_under es h in
                let l = links_in es h (parent_of e) in
                entries-cut s t order pages is (λ k. has_handle k ks) (λ x. not (is_under h x))
                (IsCut-left s order pages is ks (λ x. not (is_under h x)) (top_of e) leaves-closed t (λ k r. changed_at (page_left e) (with_fewer_frames (length ks)) k (unlinked l (parent_of e) k r)) changes-closed)
                swept sweeps

            pub StayDead-closed : StayDead (forest_in s order) (forest_in t swept)
            StayDead-closed =
                let es = entries_in (kept s order []) in
                let ks = handles_under es h in
                let l = links_in es h (parent_of e) in
                StayDead-cut s t order pages is (λ k. has_handle k ks) (λ x. not (is_under h x))
                (IsCut-left s order pages is ks (λ x. not (is_under h x)) (top_of e) leaves-closed t (λ k r. changed_at (page_left e) (with_fewer_frames (length ks)) k (unlinked l (parent_of e) k r)) changes-closed)
                swept sweeps

            pub IsDead-closed : (k : Handle) → IsSome (entry_of (forest_in s order).entries k) → entry_of (forest_in t swept).entries k ≡ None → IsDead (forest_in t swept) k
            IsDead-closed =
                let es = entries_in (kept s order []) in
                let ks = handles_under es h in
                let l = links_in es h (parent_of e) in
                IsDead-cut s t order pages is (λ k. has_handle k ks) (λ x. not (is_under h x))
                (IsCut-left s order pages is ks (λ x. not (is_under h x)) (top_of e) leaves-closed t (λ k r. changed_at (page_left e) (with_fewer_frames (length ks)) k (unlinked l (parent_of e) k r)) changes-closed)
                swept sweeps
