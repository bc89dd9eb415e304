-- A frame that is navigated: it shows another document, and those below it go.
use Rattle.std.proofs.Common.{◌≡◌, inl, inr, ℕ, ◌+◌, ◌-◌, ◌≤◌, Bool, true, false, cond, ◌||◌, List, [], ◌∷◌, map, length, Option, None, Some, IsSome, is_some, refl, sym, ap, subst, ◌∙◌, arith, true≢false}
use Rattle.std.specs.Prelude.{filter, not, IfSome}
use Rattle.std.specs.Option.{option_map}
use Rattle.pe_arena.specs.declared.handle.Handle.{Handle}
use Rattle.pe_arena.specs.Slots.{Slots, live, with_value, Updates}
use Rattle.pe_frames.specs.declared.row.Row.{Row}
use Rattle.pe_frames.specs.declared.row.Neighbours.{Neighbours}
use Rattle.pe_frames.specs.declared.row.FramePosition.{FramePosition}
use Rattle.pe_frames.specs.declared.node.Node.{Node}
use Rattle.pe_frames.specs.Forest.{Forest, Entry, last_of, same_handle, has_handle, entry_of, parent_of, top_of, is_top, is_under, with_document, IsDead, StayDead}
use Rattle.pe_frames.specs.Order.{is_named, handles_under, docs_under, navigated}
use Rattle.pe_frames.specs.Neighbours.{links_by, children_newest_first, siblings, changed_at, with_fewer_frames, renewed, doc_before, docs_at, SameMarks, Rewrites, Removes}
use Rattle.pe_frames.specs.Kept.{kept, entries_in, standing_in, HasLinks, Sweeps, IsSwept, forest_in, IsForest}
use Rattle.pe_frames.proofs.Nodes.{found-live}
use Rattle.pe_frames.proofs.Handles.{other-turned, same_handle-Decides, same_or_other, top-none}
use Rattle.pe_frames.proofs.Pages.{top-found}
use Rattle.std.proofs.lemmas.Bool.{false_from_ne_true, or_parts}
use Rattle.pe_frames.proofs.Sizes.{TopRow-live}
use Rattle.pe_frames.proofs.Writes.{Rewrites-one, SameMarks-then}
use Rattle.pe_frames.proofs.Written.{entry_of-with_document, children_newest_first-with_document, IsForest-written, forest-written, length-written}
use Rattle.pe_frames.proofs.Tree.{Each}
use Rattle.pe_frames.proofs.Under.{tree-forest, handles-live}
use Rattle.pe_frames.proofs.Cuts.{each-live, frame-of, IsForest-cut, entries-cut, StayDead-cut, IsDead-cut}
use Rattle.pe_frames.proofs.Within.{goes-under, parent-stays, child-goes, top-goes, page-goes, children_newest_first-stays, children-same, children-none}
use Rattle.pe_frames.proofs.Unlinked.{at-keeps}
use Rattle.pe_frames.proofs.Leaving.{Changes, stayed, Leaves, page-less, pages-same, IsCut-left, sized-left, length-left}
use Rattle.pe_frames.proofs.Standings.{stands-at}
use Rattle.pe_frames.proofs.Closed.{row-lives}
use Rattle.pe_frames.proofs.Documents.{docs-same, docs-below}
use Rattle.pe_frames.proofs.Closing.{LeavesAt, root-once, once-left}
use Rattle.pe_frames.proofs.Lemmas.{some_same}

module _ {D : Type 0} where
  -- the row with another document
  abbrev pub redoc : D → Row D → Row D
  redoc w r = record r { node = record r.node { doc = w } }

  -- and with no child
  abbrev pub childless : Row D → Row D
  childless r = record r { links = record r.links { first = None; last = None } }

  -- the frame and all that is not below it
  abbrev pub spares : Handle → Entry D → Bool
  spares h x = same_handle x.handle h || not (is_under h x)

  filter-with_document : (h : Handle) (w : D) (es : List (Entry D)) → filter (spares h) (map (with_document h w) es) ≡ map (with_document h w) (filter (spares h) es)
  filter-with_document h w [] = refl
  filter-with_document h w (x ∷ es) = by_test (spares h x) (filter-with_document h w es)
    where
      by_test : (b : Bool) → filter (spares h) (map (with_document h w) es) ≡ map (with_document h w) (filter (spares h) es)
          → cond b (with_document h w x ∷ filter (spares h) (map (with_document h w) es)) (filter (spares h) (map (with_document h w) es)) ≡ map (with_document h w) (cond b (x ∷ filter (spares h) es) (filter (spares h) es))
      by_test true rest = ap (λ ys. with_document h w x ∷ ys) rest
      by_test false rest = rest

  -- the live frame before the write
  record WasFrame (es : List (Entry D)) (h : Handle) (w : D) (k : Handle) (y : Entry D) : Type 0 where
    entry : Entry D
    found : entry_of es k ≡ Some entry
    is : with_document h w entry ≡ y

  was-frame : (es : List (Entry D)) (h : Handle) (w : D) (k : Handle) (y : Entry D) → entry_of (map (with_document h w) es) k ≡ Some y → WasFrame es h w k y
  was-frame es h w k y f = by_entry (entry_of es k) refl (sym (entry_of-with_document h w es k) ∙ f)
    where
      by_entry : (o : Option (Entry D)) → entry_of es k ≡ o → option_map (with_document h w) o ≡ Some y → WasFrame es h w k y
      by_entry None g e = absurd (true≢false (sym (ap is_some e)))
      by_entry (Some x) g e = record { entry = x; found = g; is = some_same e }

  some_redone : (h : Handle) (w : D) (o : Option (Entry D)) → IsSome o → IsSome (option_map (with_document h w) o)
  some_redone h w None p = p
  some_redone h w (Some x) p = refl

  turn-marks : (a b : Slots (Row D)) → SameMarks a b → SameMarks b a
  turn-marks a b same = record { marks = sym same.marks; made = sym same.made; limit = sym same.limit; first = sym same.first }

  -- the row of the frame
  pub record RowAt (s : Slots (Row D)) (h : Handle) : Type 0 where
    pub row : Row D
    pub found : live s h ≡ Some row

  pub row-at : (s : Slots (Row D)) (order : List Handle) (pages : ℕ) → IsForest s order pages → (h : Handle) → IsSome (entry_of (entries_in (kept s order [])) h) → RowAt s h
  row-at s order pages is h p = by_row (live s h) refl (row-lives s order pages is h p)
    where
      by_row : (o : Option (Row D)) → live s h ≡ o → IsSome o → RowAt s h
      by_row None f q = absurd (true≢false (sym q))
      by_row (Some r) f q = record { row = r; found = f }

  -- the frame that stands here has a row
  pub live-here : (s : Slots (Row D)) (order : List Handle) (pages : ℕ) → IsForest s order pages → (f : Forest D) → forest_in s order ≡ f → (h : Handle) (o : Option FramePosition) (here : FramePosition) → o ≡ Some here → o ≡ option_map (standing_in f.entries h) (entry_of f.entries h) → IsSome (live s h)
  live-here s order pages is f view h o here some value =
      let at = stands-at (entries_in (kept s order [])) h o here some (subst (λ (g : Forest D). o ≡ option_map (standing_in g.entries h) (entry_of g.entries h)) (sym view) value) in
      row-lives s order pages is h (ap is_some at.found)

  module _ (s : Slots (Row D)) (order : List Handle) (pages : ℕ) (is : IsForest s order pages) (h : Handle) (here : FramePosition) (below : List Handle) (leaves : LeavesAt s order h here below) (w : D) (r : Row D) (found : live s h ≡ Some r) (alone : (x : Row D) → Updates s (with_value s h.slot x) h (Some x)) where
    -- the frames that were, and those with the document
    abbrev olds : List (Entry D)
    olds = entries_in (kept s order [])

    abbrev news : List (Entry D)
    news = entries_in (kept (with_value s h.slot (redoc w r)) order [])

    with_document-news : news ≡ map (with_document h w) olds
    with_document-news = ap (λ (f : Forest D). f.entries) (forest-written h w s r found alone order pages is)

    was : (k : Handle) (y : Entry D) → entry_of news k ≡ Some y → WasFrame olds h w k y
    was k y f = was-frame olds h w k y (sym (ap (λ es. entry_of es k) with_document-news) ∙ f)

    goes : (k : Handle) → same_handle h k ≡ false → has_handle k below ≡ has_handle k (handles_under olds h)
    goes k u = ap (λ b. b || has_handle k below) (sym u) ∙ ap (has_handle k) leaves.all

    stays-both : (k : Handle) → has_handle k (handles_under olds h) ≡ false → (same_handle h k ≡ false) × (has_handle k below ≡ false)
    stays-both k g = or_parts (same_handle h k) (has_handle k below) (ap (has_handle k) leaves.all ∙ g)

    below-goes : (k : Handle) → has_handle k below ≡ true → (same_handle h k ≡ false) × (has_handle k (handles_under olds h) ≡ true)
    below-goes k t =
        let u = false_from_ne_true (same_handle h k) (λ q. true≢false (sym t ∙ ap (λ j. has_handle j below) (sym ((same_handle-Decides h k).0 q)) ∙ root-once s order pages is h here below leaves)) in
        (u, sym (goes k u) ∙ t)

    itself : (k : Handle) → same_handle h k ≡ true → has_handle k below ≡ false
    itself k t = ap (λ j. has_handle j below) (sym ((same_handle-Decides h k).0 t)) ∙ root-once s order pages is h here below leaves

    spares-agree : (k : Handle) (x : Entry D) → entry_of olds k ≡ Some x → (same_handle k h || not (is_under h x)) ≡ not (has_handle k below)
    spares-agree k x f = elim (same_or_other h k) as (λ _. (same_handle k h || not (is_under h x)) ≡ not (has_handle k below)) [
      | inl t ↦ ap (λ b. b || not (is_under h x)) ((same_handle-Decides k h).1 (sym ((same_handle-Decides h k).0 t))) ∙ ap not (sym (itself k t))
      | inr u ↦ ap (λ b. b || not (is_under h x)) (other-turned h k u) ∙ ap not (sym (goes k u ∙ goes-under olds (tree-forest s order pages is) h leaves.entry leaves.found k x f))
    ]

    -- the parent of what stays is the root, or stays too
    parent-kept : (k : Handle) (x : Entry D) (p : Handle) → entry_of olds k ≡ Some x → parent_of x ≡ Some p → has_handle k below ≡ false → has_handle p (handles_under olds h) ≡ false
    parent-kept k x p f q g = elim (same_or_other h k) as (λ _. has_handle p (handles_under olds h) ≡ false) [
      | inl t ↦
          let hk = (same_handle-Decides h k).0 t in
          let same : leaves.entry ≡ x = some_same (sym leaves.found ∙ ap (entry_of olds) hk ∙ f) in
          parent-stays olds (tree-forest s order pages is) h leaves.entry leaves.found p (ap (λ (y : Entry D). parent_of y) same ∙ q)
      | inr u ↦ sym (child-goes olds (tree-forest s order pages is) h leaves.entry leaves.found k x p f q (other-turned h k u)) ∙ sym (goes k u) ∙ g
    ]

    leaves-below : Leaves (with_value s h.slot (redoc w r)) order below (spares h) (top_of leaves.entry)
    leaves-below = record {
      once = once-left s order pages is h here below leaves;
      alive = λ k t.
          (let l = handles-live olds (tree-forest s order pages is) h k (below-goes k t).1 in
          subst IsSome (sym (ap (λ es. entry_of es k) with_document-news ∙ entry_of-with_document h w olds k)) (some_redone h w (entry_of olds k) (ap is_some l.found)));
      agree = λ y f.
          (let b = was y.handle y f in
          ap (λ (x : Entry D). same_handle y.handle h || not (is_under h x)) (sym b.is) ∙ spares-agree y.handle b.entry b.found);
      rooted = λ k y p f q g.
          (let b = was k y f in
          (stays-both p (parent-kept k b.entry p b.found (ap (λ (x : Entry D). parent_of x) b.is ∙ q) g)).1);
      page = λ y f t.
          (let b = was y.handle y f in
          ap (λ (x : Entry D). top_of x) (sym b.is) ∙ page-goes olds (tree-forest s order pages is) h leaves.entry leaves.found y.handle b.entry b.found (below-goes y.handle t).1);
    }

    is-written : IsForest (with_value s h.slot (redoc w r)) order pages
    is-written = IsForest-written h w s r found alone order pages is

    each-spared : Each (λ x. spares h x ≡ not (has_handle x.handle below)) news
    each-spared = each-live (λ x. spares h x ≡ not (has_handle x.handle below)) (kept (with_value s h.slot (redoc w r)) order []) is-written.nodes is-written.apart leaves-below.agree

    children_newest_first-news : (q : Handle) → children_newest_first news q ≡ children_newest_first olds q
    children_newest_first-news q = ap (λ es. children_newest_first es q) with_document-news ∙ children_newest_first-with_document h w olds q

    children_newest_first-kept : (q : Handle) → same_handle h q ≡ false → has_handle q below ≡ false → children_newest_first (filter (spares h) news) q ≡ children_newest_first news q
    children_newest_first-kept q u g =
        children_newest_first-stays (λ k. has_handle k below) (spares h) news each-spared q
        ∙ ap (filter (λ k. not (has_handle k below))) (children_newest_first-news q)
        ∙ children-same olds (tree-forest s order pages is) h leaves.entry leaves.found (kept s order []) is.nodes is.apart refl below leaves.all (root-once s order pages is h here below leaves) q u g
        ∙ sym (children_newest_first-news q)

    children_newest_first-none : children_newest_first (filter (spares h) news) h ≡ []
    children_newest_first-none =
        children_newest_first-stays (λ k. has_handle k below) (spares h) news each-spared h
        ∙ ap (filter (λ k. not (has_handle k below))) (children_newest_first-news h)
        ∙ children-none olds (tree-forest s order pages is) h leaves.entry leaves.found (kept s order []) is.nodes is.apart refl below leaves.all (root-once s order pages is h here below leaves)

    siblings-kept : (o : Option Handle) → ((q : Handle) → o ≡ Some q → has_handle q (handles_under olds h) ≡ false) → siblings (filter (spares h) news) o ≡ siblings news o
    siblings-kept None g = refl
    siblings-kept (Some q) g = let both = stays-both q (g q refl) in children_newest_first-kept q both.0 both.1

    -- the links of each frame that stays
    links-kept : (k : Handle) (x : Row D) → live (with_value s h.slot (redoc w r)) k ≡ Some x → has_handle k below ≡ false → HasLinks (filter (spares h) news) k (changed_at (Some h) childless k x)
    links-kept k x f g = by_test (same_handle h k) refl
      where
        parent-out : (q : Handle) → x.node.parent ≡ Some q → has_handle q (handles_under olds h) ≡ false
        parent-out q e =
            let y = frame-of (entry_of news k) x.node (sym (found-live (with_value s h.slot (redoc w r)) order k is-written.listed is-written.nodes) ∙ ap (option_map (λ z. z.node)) f) in
            let b = was k y.entry y.found in
            parent-kept k b.entry q b.found (ap (λ (z : Entry D). parent_of z) b.is ∙ ap (λ (n : Node D). n.parent) y.node ∙ e) g

        has : HasLinks news k x
        has = is-written.linked k x f

        by_test : (b : Bool) → same_handle h k ≡ b → HasLinks (filter (spares h) news) k (cond b (childless x) x)
        by_test true t =
            ap (λ (l : Neighbours). record { first = None; last = None; earlier = l.earlier; later = l.later }) has
            ∙ sym (ap (λ ks. links_by (children_newest_first (filter (spares h) news) k) ks k) (siblings-kept x.node.parent parent-out)
            ∙ ap (λ ks. links_by ks (siblings news x.node.parent) k) (ap (children_newest_first (filter (spares h) news)) (sym ((same_handle-Decides h k).0 t)) ∙ children_newest_first-none))
        by_test false u =
            has
            ∙ sym (ap (λ ks. links_by (children_newest_first (filter (spares h) news) k) ks k) (siblings-kept x.node.parent parent-out)
            ∙ ap (λ ks. links_by ks (siblings news x.node.parent) k) (children_newest_first-kept k u g))

    -- no top frame goes
    low-goes : (y : Entry D) → entry_of news y.handle ≡ Some y → has_handle y.handle below ≡ true → is_top y ≡ false
    low-goes y f t = false_from_ne_true (is_top y) (λ top.
        let b = was y.handle y f in
        let both = below-goes y.handle t in
        let g = top-goes olds (tree-forest s order pages is) h leaves.entry leaves.found y.handle b.entry b.found (top-none b.entry.above (ap (λ (x : Entry D). is_top x) b.is ∙ top)) in
        true≢false (sym (sym g ∙ both.1) ∙ other-turned h y.handle both.0))

    root-written : (e : Entry D) → entry_of olds h ≡ Some e → entry_of news h ≡ Some (with_document h w e)
    root-written e f = ap (λ es. entry_of es h) with_document-news ∙ entry_of-with_document h w olds h ∙ ap (option_map (with_document h w)) f

    top-spared : has_handle (top_of leaves.entry) below ≡ false
    top-spared =
        let has = top-found (kept s order []) is.nodes is.apart h leaves.entry leaves.found in
        let g = top-goes olds (tree-forest s order pages is) h leaves.entry leaves.found (top_of leaves.entry) has.top has.found (ap last_of has.bare) in
        false_from_ne_true (has_handle (top_of leaves.entry) below) (λ t.
        let both = below-goes (top_of leaves.entry) t in
        true≢false (sym (sym g ∙ both.1) ∙ other-turned h (top_of leaves.entry) both.0))

    -- the steps of the code
    module _ (one two : Slots (Row D)) (renew : IfSome (live s h) (λ x. one ≡ with_value s h.slot (renewed w x))) (emptied : Removes one two below) where
      writes : Rewrites s (with_value s h.slot (redoc w r)) (changed_at (Some h) (redoc w))
      writes = Rewrites-one s (with_value s h.slot (redoc w r)) h (redoc w) (ap is_some found) alone (subst (λ o. IfSome o (λ x. with_value s h.slot (redoc w r) ≡ with_value s h.slot (redoc w x))) (sym found) refl)

      renews : Rewrites s one (changed_at (Some h) (renewed w))
      renews = Rewrites-one s one h (renewed w) (ap is_some found) alone renew

      clears : Rewrites (with_value s h.slot (redoc w r)) one (changed_at (Some h) childless)
      clears = record {
        rows = λ k. renews.rows k ∙ in_two (same_handle h k) (live s k) ∙ ap (option_map (changed_at (Some h) childless k)) (sym (writes.rows k));
        same = SameMarks-then (with_value s h.slot (redoc w r)) s one (turn-marks s (with_value s h.slot (redoc w r)) writes.same) renews.same;
      }
        where
          in_two : (b : Bool) (o : Option (Row D)) → option_map (λ x. cond b (renewed w x) x) o ≡ option_map (λ x. cond b (childless x) x) (option_map (λ x. cond b (redoc w x) x) o)
          in_two true None = refl
          in_two false None = refl
          in_two true (Some x) = refl
          in_two false (Some x) = refl

      -- the documents, that of the frame first
      pub docs-navigated : r.node.doc ∷ docs_at one below ≡ docs_under (entries_in (kept s order [])) h
      docs-navigated =
          ap (λ ds. r.node.doc ∷ ds) (docs-same s one below (λ k t. renews.rows k ∙ other (same_handle h k) (live s k) (below-goes k t).0))
          ∙ sym (ap (λ (o : Option (Row D)). doc_before o (docs_at s below)) found)
          ∙ ap (docs_at s) leaves.all
          ∙ docs-below s order pages is h
        where
          other : (b : Bool) (o : Option (Row D)) → b ≡ false → option_map (λ x. cond b (renewed w x) x) o ≡ o
          other b None u = refl
          other b (Some x) u = ap (λ c. Some (cond c (renewed w x) x)) u

      -- the row of the page's top frame
      record TopTwo : Type 0 where
        row : Row D
        at_two : live two (top_of leaves.entry) ≡ Some row
        size : length below ≤ row.size

      top-two : TopTwo
      top-two =
          let top = TopRow-live (with_value s h.slot (redoc w r)) order pages is-written h (with_document h w leaves.entry) (root-written leaves.entry leaves.found) in
          let less = page-less (with_value s h.slot (redoc w r)) order pages is-written below (spares h) (top_of leaves.entry) leaves-below in
          let size = top.sized.size in
          let same = at-keeps (λ (x : Row D). x.size) (Some h) childless (λ x. refl) (top_of leaves.entry) top.row in
          record {
            row = changed_at (Some h) childless (top_of leaves.entry) top.row;
            at_two =
                emptied.rows (top_of leaves.entry)
                ∙ ap (λ b. cond b None (live one (top_of leaves.entry))) top-spared
                ∙ clears.rows (top_of leaves.entry)
                ∙ ap (option_map (changed_at (Some h) childless (top_of leaves.entry))) top.found;
            size = omega (arith, less, size, same);
          }

      top-here : (o : Option Handle) → o ≡ Some here.top → o ≡ Some (top_of leaves.entry)
      top-here o e = e ∙ ap (λ (x : FramePosition). Some x.top) leaves.here_is

      pub top-lives : (o : Option Handle) → o ≡ Some here.top → IfSome o (λ k. IsSome (live two k))
      top-lives o e = subst (λ x. IfSome x (λ k. IsSome (live two k))) (sym (top-here o e)) (ap is_some top-two.at_two)

      pub top-large : (o : Option Handle) → o ≡ Some here.top → (n : ℕ) → n ≡ length below → IfSome o (λ k. IfSome (live two k) (λ x. n ≤ x.size))
      top-large o e n many =
          let top = top-two in
          let size = top.size in
          subst (λ x. IfSome x (λ k. IfSome (live two k) (λ y. n ≤ y.size))) (sym (top-here o e))
          (subst (λ x. IfSome x (λ (y : Row D). n ≤ y.size)) (sym top.at_two) (omega (arith, size, many)))

      module _ (o : Option Handle) (named : o ≡ Some here.top) (n : ℕ) (many : n ≡ length below) (t : Slots (Row D)) (shrunk : Rewrites two t (changed_at o (with_fewer_frames n))) (swept : List Handle) (sweeps : Sweeps t order swept) where
        shrinks : Rewrites two t (changed_at (Some (top_of leaves.entry)) (with_fewer_frames (length below)))
        shrinks = subst (λ m. Rewrites two t (changed_at (Some (top_of leaves.entry)) (with_fewer_frames m))) many (subst (λ x. Rewrites two t (changed_at x (with_fewer_frames n))) (top-here o named) shrunk)

        changes : Changes (with_value s h.slot (redoc w r)) t (λ k. has_handle k below) (λ k x. changed_at (Some (top_of leaves.entry)) (with_fewer_frames (length below)) k (changed_at (Some h) childless k x))
        changes = record {
          rows = λ k.
              shrinks.rows k
              ∙ ap (option_map (changed_at (Some (top_of leaves.entry)) (with_fewer_frames (length below)) k)) (emptied.rows k ∙ ap (cond (has_handle k below) None) (clears.rows k))
              ∙ in_turn (has_handle k below) (changed_at (Some (top_of leaves.entry)) (with_fewer_frames (length below)) k) (changed_at (Some h) childless k) (live (with_value s h.slot (redoc w r)) k);
          keeps = λ k x.
              at-keeps (λ (y : Row D). y.node) (Some (top_of leaves.entry)) (with_fewer_frames (length below)) (λ y. refl) k (changed_at (Some h) childless k x)
              ∙ at-keeps (λ (y : Row D). y.node) (Some h) childless (λ y. refl) k x;
          same = SameMarks-then (with_value s h.slot (redoc w r)) one t clears.same (SameMarks-then one two t emptied.same shrinks.same);
        }
          where
            in_turn : (b : Bool) (f g : Row D → Row D) (p : Option (Row D)) → option_map f (cond b None (option_map g p)) ≡ option_map (λ x. f (g x)) (cond b None p)
            in_turn true f g p = refl
            in_turn false f g None = refl
            in_turn false f g (Some x) = refl

        sizes : (k : Handle) (x : Row D) → (changed_at (Some (top_of leaves.entry)) (with_fewer_frames (length below)) k (changed_at (Some h) childless k x)).size ≡ cond (is_named (Some (top_of leaves.entry)) k) (x.size - length below) x.size
        sizes k x =
            by_test (same_handle (top_of leaves.entry) k) (changed_at (Some h) childless k x)
            ∙ ap (λ m. cond (same_handle (top_of leaves.entry) k) (m - length below) m) (at-keeps (λ (y : Row D). y.size) (Some h) childless (λ y. refl) k x)
          where
            by_test : (b : Bool) (y : Row D) → (cond b (with_fewer_frames (length below) y) y).size ≡ cond b (y.size - length below) y.size
            by_test true y = refl
            by_test false y = refl

        links-then : (k : Handle) (x : Row D) → live t k ≡ Some x → HasLinks (filter (spares h) news) k x
        links-then k x f =
            let b = stayed (with_value s h.slot (redoc w r)) t (λ j. has_handle j below) (λ j y. changed_at (Some (top_of leaves.entry)) (with_fewer_frames (length below)) j (changed_at (Some h) childless j y)) changes k x f in
            subst (HasLinks (filter (spares h) news) k) b.is
            (shrunk-links (same_handle (top_of leaves.entry) k) (changed_at (Some h) childless k b.row) (links-kept k b.row b.found b.here))
          where
            shrunk-links : (b : Bool) (y : Row D) → HasLinks (filter (spares h) news) k y → HasLinks (filter (spares h) news) k (cond b (with_fewer_frames (length below) y) y)
            shrunk-links true y has = has
            shrunk-links false y has = has

        -- the dead handles, before the list is swept
        pub dead-navigated : (dead : ℕ) → IsSwept s order dead → length order ≡ length (kept t order []) + (dead + n)
        dead-navigated dead was =
            let counted = was.counted in
            let same = length-written h w s r found alone order pages is in
            let fewer = length-left (with_value s h.slot (redoc w r)) order pages is-written below (spares h) (top_of leaves.entry) leaves-below t (λ k x. changed_at (Some (top_of leaves.entry)) (with_fewer_frames (length below)) k (changed_at (Some h) childless k x)) changes in
            omega (arith, counted, same, fewer, many)

        pub IsForest-navigated : IsForest t swept pages
        IsForest-navigated =
            IsForest-cut (with_value s h.slot (redoc w r)) t order pages is-written (λ k. has_handle k below) (spares h)
            (IsCut-left (with_value s h.slot (redoc w r)) order pages is-written below (spares h) (top_of leaves.entry) leaves-below t (λ k x. changed_at (Some (top_of leaves.entry)) (with_fewer_frames (length below)) k (changed_at (Some h) childless k x)) changes)
            swept sweeps pages
            (is-written.paged ∙ pages-same (with_value s h.slot (redoc w r)) order pages is-written below (spares h) (top_of leaves.entry) leaves-below low-goes)
            is.few
            (sized-left (with_value s h.slot (redoc w r)) order pages is-written below (spares h) (top_of leaves.entry) leaves-below t (λ k x. changed_at (Some (top_of leaves.entry)) (with_fewer_frames (length below)) k (changed_at (Some h) childless k x)) changes (Some (top_of leaves.entry)) sizes (λ k g. refl))
            links-then

        pub entries-navigated : (forest_in t swept).entries ≡ navigated h w (forest_in s order).entries
        entries-navigated =
            entries-cut (with_value s h.slot (redoc w r)) t order pages is-written (λ k. has_handle k below) (spares h)
            (IsCut-left (with_value s h.slot (redoc w r)) order pages is-written below (spares h) (top_of leaves.entry) leaves-below t (λ k x. changed_at (Some (top_of leaves.entry)) (with_fewer_frames (length below)) k (changed_at (Some h) childless k x)) changes)
            swept sweeps
            ∙ ap (filter (spares h)) with_document-news
            ∙ filter-with_document h w olds

        pub marks-navigated : (forest_in t swept).marks ≡ (forest_in s order).marks
        marks-navigated = shrinks.same.marks ∙ emptied.same.marks ∙ renews.same.marks

        pub made-navigated : (forest_in t swept).made ≡ (forest_in s order).made
        made-navigated = shrinks.same.made ∙ emptied.same.made ∙ renews.same.made

        pub StayDead-navigated : StayDead (forest_in s order) (forest_in t swept)
        StayDead-navigated k dead =
            StayDead-cut (with_value s h.slot (redoc w r)) t order pages is-written (λ j. has_handle j below) (spares h)
            (IsCut-left (with_value s h.slot (redoc w r)) order pages is-written below (spares h) (top_of leaves.entry) leaves-below t (λ j x. changed_at (Some (top_of leaves.entry)) (with_fewer_frames (length below)) j (changed_at (Some h) childless j x)) changes)
            swept sweeps k
            (subst (λ (f : Forest D). IsDead f k) (sym (forest-written h w s r found alone order pages is))
            (record { given = dead.given; gone = entry_of-with_document h w olds k ∙ ap (option_map (with_document h w)) dead.gone }))

        pub IsDead-navigated : (k : Handle) → IsSome (entry_of (forest_in s order).entries k) → entry_of (forest_in t swept).entries k ≡ None → IsDead (forest_in t swept) k
        IsDead-navigated k some none =
            IsDead-cut (with_value s h.slot (redoc w r)) t order pages is-written (λ j. has_handle j below) (spares h)
            (IsCut-left (with_value s h.slot (redoc w r)) order pages is-written below (spares h) (top_of leaves.entry) leaves-below t (λ j x. changed_at (Some (top_of leaves.entry)) (with_fewer_frames (length below)) j (changed_at (Some h) childless j x)) changes)
            swept sweeps k
            (subst IsSome (sym (ap (λ es. entry_of es k) with_document-news ∙ entry_of-with_document h w olds k)) (some_redone h w (entry_of olds k) some))
            none
