-- The list of frames, through a write of a document.
use Rattle.std.proofs.Common.{◌≡◌, inl, inr, ℕ, ◌+◌, Bool, true, false, cond, List, [], ◌∷◌, map, length, length-set, Option, None, Some, IsSome, is_some, refl, sym, ap, subst, ◌∙◌, arith, true≢false}
use Rattle.std.specs.Prelude.{filter, unwrap_or}
use Rattle.std.specs.Option.{option_map}
use Rattle.std.proofs.lemmas.List.{length-map}
use Rattle.pe_arena.specs.declared.handle.Handle.{Handle}
use Rattle.pe_arena.specs.Slots.{Slot, Slots, live, mark, with_value, Updates}
use Rattle.pe_frames.specs.declared.row.Row.{Row}
use Rattle.pe_frames.specs.declared.node.Node.{Node}
use Rattle.pe_frames.specs.Forest.{Entry, path, same_handle, entry_of, node_in, top_of, is_top, page_size, page_count, with_document, with_doc}
use Rattle.pe_frames.specs.Order.{is_child}
use Rattle.pe_frames.specs.Kept.{above_in, Kept, joined, kept, shown, node_at, entry_in, entries_in, AreNodes, AreApart, forest_in, IsForest, IsSwept}
use Rattle.pe_frames.specs.Neighbours.{links_by, children_newest_first, links_in}
use Rattle.pe_frames.proofs.Writes.{map-set_same, mark-kept, SameMarks-write}
use Rattle.pe_frames.proofs.Handles.{same_handle-Decides, same_or_other}
use Rattle.pe_frames.proofs.Lemmas.{some_same}

module _ {D : Type 0} (h : Handle) (w : D) where
  -- the kept frame with this document, if it is the named one
  abbrev redo : Kept D → Kept D
  redo x = record x { node = record x.node { doc = cond (same_handle x.handle h) w x.node.doc } }

  -- the node with this document, if it is the named one's
  abbrev renode : Handle → Node D → Node D
  renode k n = record n { doc = cond (same_handle k h) w n.doc }

  pub entry_of-with_document : (es : List (Entry D)) (p : Handle) → entry_of (map (with_document h w) es) p ≡ option_map (with_document h w) (entry_of es p)
  entry_of-with_document [] p = refl
  entry_of-with_document (e ∷ es) p = by_test (same_handle e.handle p) (entry_of-with_document es p)
    where
      by_test : (b : Bool) → entry_of (map (with_document h w) es) p ≡ option_map (with_document h w) (entry_of es p) → cond b (Some (with_document h w e)) (entry_of (map (with_document h w) es) p) ≡ option_map (with_document h w) (cond b (Some e) (entry_of es p))
      by_test true rest = refl
      by_test false rest = rest

  path-with_document : (o : Option (Entry D)) → unwrap_or (option_map path (option_map (with_document h w) o)) [] ≡ unwrap_or (option_map path o) []
  path-with_document None = refl
  path-with_document (Some e) = refl

  above-with_document : (es : List (Entry D)) (p : Option Handle) → above_in (map (with_document h w) es) p ≡ above_in es p
  above-with_document es None = refl
  above-with_document es (Some p) = ap (λ o. unwrap_or (option_map path o) []) (entry_of-with_document es p) ∙ path-with_document (entry_of es p)

  entry-redo : (es fs : List (Entry D)) (x : Kept D) → fs ≡ map (with_document h w) es → entry_in fs (redo x) ≡ with_document h w (entry_in es x)
  entry-redo es fs x e =
      ap (λ ks. record { handle = x.handle; above = ks; frame = x.node.frame; doc = cond (same_handle x.handle h) w x.node.doc })
      (ap (λ gs. above_in gs x.node.parent) e ∙ above-with_document es x.node.parent)

  entries-redo : (xs : List (Kept D)) → entries_in (map redo xs) ≡ map (with_document h w) (entries_in xs)
  entries-redo [] = refl
  entries-redo (x ∷ xs) =
      let rest = entries-redo xs in
      ap (λ e. e ∷ entries_in (map redo xs)) (entry-redo (entries_in xs) (entries_in (map redo xs)) x rest)
      ∙ ap (λ es. with_document h w (entry_in (entries_in xs) x) ∷ es) rest

  nodes-redo : (xs : List (Kept D)) → AreNodes xs → AreNodes (map redo xs)
  nodes-redo [] are = tt
  nodes-redo (x ∷ xs) are = (
    ap node_in (entry-redo (entries_in xs) (entries_in (map redo xs)) x (entries-redo xs))
        ∙ ap (renode x.handle) are.0,
    nodes-redo xs are.1,
  )

  absent-redo : (xs : List (Kept D)) (k : Handle) → node_at xs k ≡ None → node_at (map redo xs) k ≡ None
  absent-redo [] k e = refl
  absent-redo (x ∷ xs) k e = by_test (same_handle x.handle k) e (λ f. absent-redo xs k f)
    where
      by_test : (b : Bool) → cond b (Some x.node) (node_at xs k) ≡ None → (node_at xs k ≡ None → node_at (map redo xs) k ≡ None) → cond b (Some (redo x).node) (node_at (map redo xs) k) ≡ None
      by_test true f rest = absurd (true≢false (ap is_some f))
      by_test false f rest = rest f

  apart-redo : (xs : List (Kept D)) → AreApart xs → AreApart (map redo xs)
  apart-redo [] are = tt
  apart-redo (x ∷ xs) are = (absent-redo xs x.handle are.0, apart-redo xs are.1)

  size-with_document : (es : List (Entry D)) (k : Handle) → page_size (map (with_document h w) es) k ≡ page_size es k
  size-with_document [] k = refl
  size-with_document (e ∷ es) k = by_test (same_handle (top_of e) k) (size-with_document es k)
    where
      by_test : (b : Bool) → page_size (map (with_document h w) es) k ≡ page_size es k
          → length (cond b (with_document h w e ∷ filter (λ y. same_handle (top_of y) k) (map (with_document h w) es)) (filter (λ y. same_handle (top_of y) k) (map (with_document h w) es)))
          ≡ length (cond b (e ∷ filter (λ y. same_handle (top_of y) k) es) (filter (λ y. same_handle (top_of y) k) es))
      by_test true rest = omega (arith, rest)
      by_test false rest = rest

  count-with_document : (es : List (Entry D)) → page_count (map (with_document h w) es) ≡ page_count es
  count-with_document [] = refl
  count-with_document (e ∷ es) = by_test (is_top e) (count-with_document es)
    where
      by_test : (b : Bool) → page_count (map (with_document h w) es) ≡ page_count es
          → length (cond b (with_document h w e ∷ filter is_top (map (with_document h w) es)) (filter is_top (map (with_document h w) es))) ≡ length (cond b (e ∷ filter is_top es) (filter is_top es))
      by_test true rest = omega (arith, rest)
      by_test false rest = rest

  pub children_newest_first-with_document : (es : List (Entry D)) (p : Handle) → children_newest_first (map (with_document h w) es) p ≡ children_newest_first es p
  children_newest_first-with_document [] p = refl
  children_newest_first-with_document (e ∷ es) p = ap (λ ks. cond (is_child p e) (e.handle ∷ ks) ks) (children_newest_first-with_document es p)

  links-with_document : (es : List (Entry D)) (k : Handle) (p : Option Handle) → links_in (map (with_document h w) es) k p ≡ links_in es k p
  links-with_document es k None = ap (λ ks. links_by ks [] k) (children_newest_first-with_document es k)
  links-with_document es k (Some p) = ap (λ ks. links_by ks (children_newest_first (map (with_document h w) es) p) k) (children_newest_first-with_document es k) ∙ ap (λ ks. links_by (children_newest_first es k) ks k) (children_newest_first-with_document es p)

  -- the row of the named frame was written
  module _ (s : Slots (Row D)) (r : Row D) (found : live s h ≡ Some r) (alone : (x : Row D) → Updates s (with_value s h.slot x) h (Some x)) where
    after : Row D
    after = record r { node = record r.node { doc = w } }

    up : Updates s (with_value s h.slot (record r { node = record r.node { doc = w } })) h (Some (record r { node = record r.node { doc = w } }))
    up = alone (record r { node = record r.node { doc = w } })

    shown-redo : (k : Handle) → shown (with_value s h.slot (record r { node = record r.node { doc = w } })) k ≡ option_map (renode k) (shown s k)
    shown-redo k = elim (same_or_other k h) as (λ _. shown (with_value s h.slot (record r { node = record r.node { doc = w } })) k ≡ option_map (renode k) (shown s k)) [
      | inl e ↦
          let kh = (same_handle-Decides k h).0 e in
          ap (shown (with_value s h.slot (record r { node = record r.node { doc = w } }))) kh
          ∙ ap (option_map (λ y. y.node)) up.changed
          ∙ ap (λ b. Some (record r.node { doc = cond b w r.node.doc })) (sym e)
          ∙ ap (λ o. option_map (renode k) (option_map (λ y. y.node) o)) (sym (ap (live s) kh ∙ found))
      | inr e ↦
          ap (option_map (λ y. y.node)) (up.others k (λ q. true≢false (sym ((same_handle-Decides k h).1 q) ∙ e)))
          ∙ unchanged (shown s k)
          ∙ ap (λ b. option_map (λ (n : Node D). record n { doc = cond b w n.doc }) (shown s k)) (sym e)
    ]
      where
        unchanged : (o : Option (Node D)) → o ≡ option_map (λ (n : Node D). record n { doc = n.doc }) o
        unchanged None = refl
        unchanged (Some n) = refl

    joined-redo : (k : Handle) (o : Option (Node D)) (xs : List (Kept D)) → joined k (option_map (renode k) o) (map redo xs) ≡ map redo (joined k o xs)
    joined-redo k None xs = refl
    joined-redo k (Some n) xs = refl

    kept-redo : (hs : List Handle) (xs : List (Kept D)) → kept (with_value s h.slot (record r { node = record r.node { doc = w } })) hs (map redo xs) ≡ map redo (kept s hs xs)
    unfolding kept
    kept-redo [] xs = refl
    kept-redo (k ∷ hs) xs =
        ap (λ ys. kept (with_value s h.slot (record r { node = record r.node { doc = w } })) hs ys) (ap (λ o. joined k o (map redo xs)) (shown-redo k) ∙ joined-redo k (shown s k) xs)
        ∙ kept-redo hs (joined k (shown s k) xs)

    -- every other row is as it was, and this one but for the document
    row-redo : (k : Handle) (x : Row D) → live (with_value s h.slot (record r { node = record r.node { doc = w } })) k ≡ Some x → (y : Row D) × (live s k ≡ Some y) × (x.size ≡ y.size) × (x.node.parent ≡ y.node.parent) × (x.node.depth ≡ y.node.depth) × (x.links ≡ y.links)
    row-redo k x e = elim (same_or_other k h) as (λ _. (y : Row D) × (live s k ≡ Some y) × (x.size ≡ y.size) × (x.node.parent ≡ y.node.parent) × (x.node.depth ≡ y.node.depth) × (x.links ≡ y.links)) [
      | inl q ↦
          let kh = (same_handle-Decides k h).0 q in
          let rx : x ≡ record r { node = record r.node { doc = w } } = some_same (sym e ∙ ap (live (with_value s h.slot (record r { node = record r.node { doc = w } }))) kh ∙ up.changed) in
          (r, ap (live s) kh ∙ found, ap (λ z. z.size) rx, ap (λ z. z.node.parent) rx, ap (λ z. z.node.depth) rx, ap (λ z. z.links) rx)
      | inr q ↦ (x, sym (up.others k (λ f. true≢false (sym ((same_handle-Decides k h).1 f) ∙ q))) ∙ e, refl, refl, refl, refl)
    ]

    shown_row : (o : Option (Row D)) (n : Node D) → option_map (λ y. y.node) o ≡ Some n → (x : Row D) × (o ≡ Some x) × (x.node ≡ n)
    shown_row None n e = absurd cc
    shown_row (Some x) n e = (x, refl, some_same e)

    still_shown : (o : Option (Node D)) (k : Handle) → IsSome (option_map (renode k) o) → IsSome o
    still_shown None k p = p
    still_shown (Some n) k p = refl

    module _ (order : List Handle) (pages : ℕ) (is : IsForest s order pages) where
      entries-written : entries_in (kept (with_value s h.slot (record r { node = record r.node { doc = w } })) order []) ≡ map (with_document h w) (entries_in (kept s order []))
      entries-written = ap entries_in (kept-redo order []) ∙ entries-redo (kept s order [])

      -- as many frames are kept
      pub length-written : length (kept (with_value s h.slot (record r { node = record r.node { doc = w } })) order []) ≡ length (kept s order [])
      length-written = ap length (kept-redo order []) ∙ length-map (kept s order []) redo

      pub IsSwept-written : (dead : ℕ) → IsSwept s order dead → IsSwept (with_value s h.slot (record r { node = record r.node { doc = w } })) order dead
      IsSwept-written dead swept = record { counted = swept.counted ∙ ap (λ n. n + dead) (sym length-written); half = swept.half }

      pub IsForest-written : IsForest (with_value s h.slot (record r { node = record r.node { doc = w } })) order pages
      IsForest-written = record {
        listed = λ k p. is.listed k (still_shown (shown s k) k (subst IsSome (shown-redo k) p));
        given = λ k e. (let a = is.given k e in let b = mark-kept s (with_value s h.slot (record r { node = record r.node { doc = w } })) (SameMarks-write s h.slot (record r { node = record r.node { doc = w } })) k.slot in omega arith);
        nodes = subst AreNodes (sym (kept-redo order [])) (nodes-redo (kept s order []) is.nodes);
        apart = subst AreApart (sym (kept-redo order [])) (apart-redo (kept s order []) is.apart);
        sized = λ k x e p.
            (let row = row-redo k x e in
            let was = is.sized k row.0 row.1 (sym row.3 ∙ p) in
            let same = ap (λ es. page_size es k) entries-written ∙ size-with_document (entries_in (kept s order [])) k in
            let a = was.size in
            let b = was.within in
            let c = row.2 in
            record { size = c ∙ a ∙ sym same; within = omega arith });
        linked = λ k x e.
            (let row = row-redo k x e in
            row.5
            ∙ is.linked k row.0 row.1
            ∙ ap (links_in (entries_in (kept s order [])) k) (sym row.3)
            ∙ sym (ap (λ es. links_in es k x.node.parent) entries-written ∙ links-with_document (entries_in (kept s order [])) k x.node.parent));
        shallow = λ k n e.
            (let x = shown_row (live (with_value s h.slot (record r { node = record r.node { doc = w } })) k) n e in
            let row = row-redo k x.0 x.1 in
            let a = is.shallow k row.0.node (ap (option_map (λ y. y.node)) row.1) in
            let b = ap (λ z. z.depth) x.2 in
            let c = row.4 in
            omega arith);
        paged = is.paged ∙ sym (ap page_count entries-written ∙ count-with_document (entries_in (kept s order [])));
        few = is.few;
        counted = (let n = length-set s.slots h.slot (record { mark = mark s h.slot; value = Some (record r { node = record r.node { doc = w } }) }) in let a = is.counted in omega arith);
        wide = is.wide;
        first = is.first;
      }

      pub forest-written : forest_in (with_value s h.slot (record r { node = record r.node { doc = w } })) order ≡ with_doc (forest_in s order) h w
      forest-written =
          ap (λ es. record { entries = es; marks = map (λ x. x.mark) (with_value s h.slot (record r { node = record r.node { doc = w } })).slots; made = s.made }) entries-written
          ∙ ap (λ ms. record { entries = map (with_document h w) (entries_in (kept s order [])); marks = ms; made = s.made })
          (map-set_same (λ (x : Slot (Row D)). x.mark) s.slots h.slot (record { mark = mark s h.slot; value = Some (record r { node = record r.node { doc = w } }) }) (record { mark = s.first; value = None }) refl)
