-- A frame that another embeds, as it is made step by step.
use Rattle.std.proofs.Common.{◌≡◌, ◌≢◌, ℕ, ◌+◌, ◌≤◌, Bool, true, false, cond, List, [], ◌∷◌, ◌++◌, None, Some, IsSome, is_some, refl, sym, ap, subst, ◌∙◌, arith, true≢false}
use Rattle.std.specs.Prelude.{IfSome}
use Rattle.std.specs.Option.{option_map}
use Rattle.pe_arena.specs.declared.handle.Handle.{Handle}
use Rattle.pe_arena.specs.Slots.{Slots, live, mark, holding, with_value, IsGiven, Updates}
use Rattle.pe_frames.specs.declared.row.Row.{Row}
use Rattle.pe_frames.specs.declared.node.Node.{Node}
use Rattle.pe_frames.specs.declared.node.NewPosition.{NewPosition}
use Rattle.pe_frames.specs.Forest.{Gives, StayDead, same_handle, parent_of, top_of, entry_of, node_in, page_size, page_count}
use Rattle.pe_frames.specs.Order.{head_of}
use Rattle.pe_frames.specs.Neighbours.{Rewrites, changed_at, children_newest_first, linked}
use Rattle.pe_frames.specs.Kept.{kept, node_at, entry_in, entries_in, HasLinks, forest_in, IsForest, IsSwept}
use Rattle.pe_frames.proofs.Nodes.{kept-live, found-live}
use Rattle.pe_frames.proofs.Handles.{same_handle-Decides}
use Rattle.pe_frames.proofs.Pages.{entry-absent}
use Rattle.std.proofs.lemmas.Bool.{false_from_ne_true}
use Rattle.pe_frames.proofs.Writes.{Rewrites-one, Rewrites-then, still-live}
use Rattle.pe_frames.proofs.Below.{IsBelow, IsCounted, IsCounted-below, room_is, node-below, top-entry, pages-below}
use Rattle.pe_frames.proofs.Kin.{child-absent, childless}
use Rattle.pe_frames.proofs.Linked.{linked-node, linked-size, grown, grown-node, grown-size, grown-links, links-new, links-old, last-is-child, last-kept}
use Rattle.pe_frames.proofs.Opened.{Steps, Makes, Makes-steps, each-row, sized-below, IsForest-made, StayDead-made, new-made, Gives-made, entries-made, IsSwept-made}
use Rattle.pe_frames.proofs.Lemmas.{if_each, some_same, some_row}

module _ {D : Type 0} where
  -- a row was taken in for a frame below a live one
  pub record Embeds (s mid : Slots (Row D)) (order : List Handle) (p : Handle) (place : NewPosition) (h : Handle) (frame : ℕ) (doc : D) (row : Row D) : Type 0 where
    pub below : IsBelow (entries_in (kept s order [])) p place
    pub room : page_size (entries_in (kept s order [])) place.top ≢ 256
    pub deep : place.depth ≤ 64
    pub new : live s h ≡ None
    pub given : IsGiven s mid h
    pub fresh : h.generation ≡ mark s h.slot
    pub slots : mid ≡ holding s h.slot row
    pub taken : Updates s mid h (Some row)
    pub node : row.node ≡ record { frame = frame; parent = Some p; top = place.top; depth = place.depth; doc = doc }
    pub links : row.links ≡ record { first = None; last = None; earlier = place.last; later = None }

  module _ (s mid : Slots (Row D)) (order : List Handle) (pages : ℕ) (is : IsForest s order pages) (p : Handle) (place : NewPosition) (h : Handle) (frame : ℕ) (doc : D) (row : Row D) (embeds : Embeds s mid order p place h frame doc row) where
    counted : IsCounted s mid (entries_in (kept s order [])) h place.top
    counted = IsCounted-below s mid order pages is p place embeds.below embeds.room h row embeds.new embeds.taken

    pub top-live : IsSome (live mid place.top)
    top-live = ap is_some counted.found

    pub top-room : IfSome (live mid place.top) (λ r. r.size ≤ 255)
    top-room = room_is (live mid place.top) counted.row counted.found counted.room

    unseen : node_at (kept s order []) h ≡ None
    unseen = kept-live s h order (is.listed h) ∙ ap (option_map (λ r. r.node)) embeds.new

    last-is : place.last ≡ head_of (children_newest_first (entries_in (kept s order [])) p)
    last-is = ap (λ x. x.last) embeds.below.is

    module _ (large : Slots (Row D)) (alone : (r : Row D) → Updates mid (with_value mid place.top.slot r) place.top (Some r)) (written : IfSome (live mid place.top) (λ r. large ≡ with_value mid place.top.slot (record r { size = r.size + 1 }))) where
      growing : Rewrites mid large (changed_at (Some place.top) grown)
      growing = Rewrites-one mid large place.top grown top-live alone written

      live-still : (k : Handle) → IsSome (live s k) → IsSome (live large k)
      live-still k l = still-live mid large (changed_at (Some place.top) grown) growing k (subst IsSome (sym (embeds.taken.others k other)) l)
        where
          other : k ≡ h → ⊥
          other e = true≢false (sym l ∙ ap is_some (ap (live s) e ∙ embeds.new))

      pub parent-live : IsSome (live large p)
      parent-live = live-still p (some_row (live s p) (subst IsSome (sym (found-live s order p is.listed is.nodes ∙ ap (option_map node_in) embeds.below.found)) refl))

      pub last-live : IfSome place.last (λ k. IsSome (live large k))
      last-live = if_each (λ k. IsSome (live large k)) place.last (λ k e.
          live-still k (some_row (live s k) (subst IsSome (kept-live s k order (is.listed k)) (last-kept (kept s order []) is.nodes is.apart p k (sym last-is ∙ e)))))

      module _ (t : Slots (Row D)) (link : Rewrites large t (linked p place.last h)) where
        steps : Steps s mid t h row (λ k r. linked p place.last h k (changed_at (Some place.top) grown k r))
        steps = record {
          new = embeds.new;
          given = embeds.given;
          fresh = embeds.fresh;
          slots = embeds.slots;
          taken = embeds.taken;
          then = Rewrites-then mid large t (changed_at (Some place.top) grown) (linked p place.last h) growing link;
          keeps = λ k r ne. linked-node p place.last h k (changed_at (Some place.top) grown k r) ∙ grown-node place.top k r;
        }

        node-now : (linked p place.last h h (changed_at (Some place.top) grown h row)).node ≡ row.node
        node-now = linked-node p place.last h h (changed_at (Some place.top) grown h row) ∙ grown-node place.top h row

        pub makes-below : Makes s t h row.node
        makes-below = subst (λ (n : Node D). Makes s t h n) node-now (Makes-steps s mid t h row (λ k r. linked p place.last h k (changed_at (Some place.top) grown k r)) steps)

        node-says : node_in (entry_in (entries_in (kept s order [])) (record { handle = h; node = row.node })) ≡ row.node
        node-says = subst (λ (n : Node D). node_in (entry_in (entries_in (kept s order [])) (record { handle = h; node = n })) ≡ n) (sym embeds.node) (node-below (entries_in (kept s order [])) p place embeds.below h frame doc)

        parent-says : parent_of (entry_in (entries_in (kept s order [])) (record { handle = h; node = row.node })) ≡ Some p
        parent-says = ap (λ (n : Node D). n.parent) (node-says ∙ embeds.node)

        top-says : top_of (entry_in (entries_in (kept s order [])) (record { handle = h; node = row.node })) ≡ place.top
        top-says = subst (λ (n : Node D). top_of (entry_in (entries_in (kept s order [])) (record { handle = h; node = n })) ≡ place.top) (sym embeds.node) (top-entry (entries_in (kept s order [])) p place embeds.below h frame doc)

        pages-say : page_count (entry_in (entries_in (kept s order [])) (record { handle = h; node = row.node }) ∷ entries_in (kept s order [])) ≡ page_count (entries_in (kept s order []))
        pages-say = subst (λ (n : Node D). page_count (entry_in (entries_in (kept s order [])) (record { handle = h; node = n }) ∷ entries_in (kept s order [])) ≡ page_count (entries_in (kept s order []))) (sym embeds.node) (pages-below (entries_in (kept s order [])) p place embeds.below h frame doc)

        small : (r : Row D) → live s place.top ≡ Some r → r.size ≤ 255
        small r e = subst (λ (x : Row D). x.size ≤ 255) (some_same (sym counted.before ∙ e)) counted.room

        parent-other : same_handle p h ≡ false
        parent-other = false_from_ne_true (same_handle p h) (λ e.
            let found = ap is_some embeds.below.found in
            let none = entry-absent (kept s order []) h is.nodes unseen in
            true≢false (sym found ∙ ap is_some (ap (entry_of (entries_in (kept s order []))) ((same_handle-Decides p h).0 e) ∙ none)))

        links-here : HasLinks (entry_in (entries_in (kept s order [])) (record { handle = h; node = row.node }) ∷ entries_in (kept s order [])) h (linked p place.last h h (changed_at (Some place.top) grown h row))
        links-here =
            subst (λ o. HasLinks (entry_in (entries_in (kept s order [])) (record { handle = h; node = row.node }) ∷ entries_in (kept s order [])) h (linked p o h h (changed_at (Some place.top) grown h row))) (sym last-is)
            (links-new (entry_in (entries_in (kept s order [])) (record { handle = h; node = row.node })) (entries_in (kept s order [])) p parent-says parent-other
            (childless (kept s order []) is.nodes is.apart h unseen) (child-absent (kept s order []) is.nodes is.apart p h unseen) (changed_at (Some place.top) grown h row)
            (same-links (same_handle place.top h) ∙ embeds.links ∙ ap (λ o. record { first = None; last = None; earlier = o; later = None }) last-is)
            (ap (λ (n : Node D). n.parent) (grown-node place.top h row ∙ embeds.node)))
          where
            same-links : (b : Bool) → (cond b (grown row) row).links ≡ row.links
            same-links true = refl
            same-links false = refl

        links-there : (j : Handle) (r : Row D) → j ≢ h → live s j ≡ Some r → HasLinks (entry_in (entries_in (kept s order [])) (record { handle = h; node = row.node }) ∷ entries_in (kept s order [])) j (linked p place.last h j (changed_at (Some place.top) grown j r))
        links-there j r ne found =
            subst (λ o. HasLinks (entry_in (entries_in (kept s order [])) (record { handle = h; node = row.node }) ∷ entries_in (kept s order [])) j (linked p o h j (changed_at (Some place.top) grown j r))) (sym last-is)
            (links-old (entry_in (entries_in (kept s order [])) (record { handle = h; node = row.node })) (entries_in (kept s order [])) p parent-says j
            (false_from_ne_true (same_handle h j) (λ e. ne (sym ((same_handle-Decides h j).0 e)))) (changed_at (Some place.top) grown j r)
            (grown-links (entries_in (kept s order [])) place.top j r (is.linked j r found))
            (λ f. last-is-child (kept s order []) is.nodes is.apart p j r.node (kept-live s j order (is.listed j) ∙ ap (option_map (λ x. x.node)) found)
            (λ q. f (ap (λ (n : Node D). n.parent) (grown-node place.top j r) ∙ q))))

        pub IsForest-below : IsForest t (order ++ h ∷ []) pages
        IsForest-below =
            let deep = embeds.deep in
            let depth = ap (λ (n : Node D). n.depth) embeds.node in
            IsForest-made s t h row.node makes-below order pages is pages node-says (omega (arith, deep, depth)) is.few (is.paged ∙ sym pages-say)
            (sized-below s mid t h row (λ k r. linked p place.last h k (changed_at (Some place.top) grown k r)) steps order pages is (entry_in (entries_in (kept s order [])) (record { handle = h; node = row.node })) place.top top-says
            (ap (λ (n : Node D). is_some n.parent) (node-now ∙ embeds.node))
            (λ j r ne. linked-size p place.last h j (changed_at (Some place.top) grown j r) ∙ grown-size place.top j r)
            small)
            (each-row s mid t h row (λ k r. linked p place.last h k (changed_at (Some place.top) grown k r)) steps (λ j x. HasLinks (entry_in (entries_in (kept s order [])) (record { handle = h; node = row.node }) ∷ entries_in (kept s order [])) j x) links-here links-there)

        pub entries-below : (forest_in t (order ++ h ∷ [])).entries ≡ entry_in (entries_in (kept s order [])) (record { handle = h; node = record { frame = frame; parent = Some p; top = place.top; depth = place.depth; doc = doc } }) ∷ entries_in (kept s order [])
        entries-below = entries-made s t h row.node makes-below order pages is ∙ ap (λ (n : Node D). entry_in (entries_in (kept s order [])) (record { handle = h; node = n }) ∷ entries_in (kept s order [])) embeds.node

        pub StayDead-below : StayDead (forest_in s order) (forest_in t (order ++ h ∷ []))
        StayDead-below = StayDead-made s t h row.node makes-below order pages is

        pub new-below : entry_of (forest_in s order).entries h ≡ None
        new-below = new-made s t h row.node makes-below order pages is

        pub Gives-below : Gives (forest_in s order) (forest_in t (order ++ h ∷ [])) h
        Gives-below = Gives-made s t h row.node makes-below order pages is

        pub IsSwept-below : (dead : ℕ) → IsSwept s order dead → IsSwept t (order ++ h ∷ []) dead
        IsSwept-below = IsSwept-made s t h row.node makes-below order pages is
