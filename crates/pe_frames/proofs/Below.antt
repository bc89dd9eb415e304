-- A frame that another embeds.
use Rattle.std.proofs.Common.{◌≡◌, ◌≢◌, inl, inr, ℕ, ◌+◌, ◌≤◌, false, cond, List, [], ◌∷◌, length, length-append, Option, None, Some, is_some, refl, sym, ap, subst, ◌∙◌, arith, true≢false}
use Rattle.std.specs.Prelude.{◌==◌, filter, unwrap_or, IsSomeAnd, IfSome}
use Rattle.std.specs.Option.{option_map}
use Rattle.std.proofs.lemmas.Bool.Decides.{nat_tests}
use Rattle.pe_arena.specs.declared.handle.Handle.{Handle}
use Rattle.pe_arena.specs.Slots.{Slots, live, Updates}
use Rattle.pe_frames.specs.declared.row.Row.{Row}
use Rattle.pe_frames.specs.declared.node.Node.{Node}
use Rattle.pe_frames.specs.declared.node.NewPosition.{NewPosition}
use Rattle.pe_frames.specs.Forest.{Entry, path, entry_of, node_in, top_of, depth_of, is_top, first_of, last_of, page_size, page_count}
use Rattle.pe_frames.specs.Order.{head_of}
use Rattle.pe_frames.specs.Neighbours.{children_newest_first}
use Rattle.pe_frames.specs.Kept.{kept, above_in, entry_in, entries_in, IsForest}
use Rattle.pe_frames.proofs.Handles.{same_handle-Decides, same_or_other, first-push, last-push}
use Rattle.pe_frames.proofs.Sizes.{TopRow-live}
use Rattle.pe_frames.proofs.Lemmas.{some_same}

module _ {D : Type 0} where
  -- the frame of a handle has the handle
  pub entry-handle : (es : List (Entry D)) (h : Handle) (e : Entry D) → entry_of es h ≡ Some e → e.handle ≡ h
  entry-handle [] h e f = absurd cc
  entry-handle (x ∷ es) h e f = elim (same_or_other x.handle h) as (λ _. e.handle ≡ h) [
    | inl s ↦
        let same : x ≡ e = some_same (sym (ap (λ b. cond b (Some x) (entry_of es h)) s) ∙ f) in
        ap (λ (y : Entry D). y.handle) (sym same) ∙ (same_handle-Decides x.handle h).0 s
    | inr s ↦ entry-handle es h e (sym (ap (λ b. cond b (Some x) (entry_of es h)) s) ∙ f)
  ]

  -- the place below a live frame
  pub record IsBelow (es : List (Entry D)) (p : Handle) (place : NewPosition) : Type 0 where
    pub entry : Entry D
    pub found : entry_of es p ≡ Some entry
    pub is : place ≡ record { top = top_of entry; depth = depth_of entry + 1; last = head_of (children_newest_first es p) }

  pub below-of : (es : List (Entry D)) (p : Handle) (place : NewPosition) → IsSomeAnd (entry_of es p) (λ e. place ≡ record { top = top_of e; depth = depth_of e + 1; last = head_of (children_newest_first es p) }) → IsBelow es p place
  below-of es p place w = by_entry (entry_of es p) refl w
    where
      by_entry : (o : Option (Entry D)) → entry_of es p ≡ o → IsSomeAnd o (λ e. place ≡ record { top = top_of e; depth = depth_of e + 1; last = head_of (children_newest_first es p) }) → IsBelow es p place
      by_entry None f q = absurd q
      by_entry (Some e) f q = record { entry = e; found = f; is = q }

  module _ (es : List (Entry D)) (p : Handle) (place : NewPosition) (below : IsBelow es p place) (h : Handle) (frame : ℕ) (doc : D) where
    node : Node D
    node = record { frame = frame; parent = Some p; top = place.top; depth = place.depth; doc = doc }

    above : above_in es (Some p) ≡ path below.entry
    above = ap (λ o. unwrap_or (option_map path o) []) below.found

    top-below : first_of (above_in es (Some p)) h ≡ place.top
    top-below = ap (λ ks. first_of ks h) above ∙ first-push below.entry.above below.entry.handle h ∙ ap (λ x. x.top) (sym below.is)

    parent-below : last_of (above_in es (Some p)) ≡ Some p
    parent-below = ap last_of above ∙ last-push below.entry.above below.entry.handle ∙ ap Some (entry-handle es p below.entry below.found)

    depth-below : length (above_in es (Some p)) + 1 ≡ place.depth
    depth-below =
        let n = ap length above ∙ length-append below.entry.above (below.entry.handle ∷ []) in
        let d = ap (λ x. x.depth) below.is in
        omega (arith, n, d)

    -- the new node says what the list says
    pub node-below : node_in (entry_in es (record { handle = h; node = record { frame = frame; parent = Some p; top = place.top; depth = place.depth; doc = doc } })) ≡ record { frame = frame; parent = Some p; top = place.top; depth = place.depth; doc = doc }
    node-below = (λ i. record { frame = frame; parent = parent-below i; top = top-below i; depth = depth-below i; doc = doc })

    pub top-entry : top_of (entry_in es (record { handle = h; node = record { frame = frame; parent = Some p; top = place.top; depth = place.depth; doc = doc } })) ≡ place.top
    top-entry = top-below

    -- and the pages are as many as before
    pub pages-below : page_count (entry_in es (record { handle = h; node = record { frame = frame; parent = Some p; top = place.top; depth = place.depth; doc = doc } }) ∷ es) ≡ page_count es
    pages-below =
        let d = depth-below in
        let n = ap length above ∙ length-append below.entry.above (below.entry.handle ∷ []) in
        let t : (length (above_in es (Some p)) == 0) ≡ false = grind (arith, nat_tests, n) in
        ap (λ b. length (cond b (entry_in es (record { handle = h; node = record { frame = frame; parent = Some p; top = place.top; depth = place.depth; doc = doc } }) ∷ filter is_top es) (filter is_top es))) t

  -- the row of the page's top frame, once the new row was taken in
  pub record IsCounted (s mid : Slots (Row D)) (es : List (Entry D)) (h top : Handle) : Type 0 where
    pub row : Row D
    pub before : live s top ≡ Some row
    pub found : live mid top ≡ Some row
    pub apart : top ≢ h
    pub bare : row.node.parent ≡ None
    pub room : row.size ≤ 255

  pub IsCounted-below : (s mid : Slots (Row D)) (order : List Handle) (pages : ℕ) (is : IsForest s order pages) (p : Handle) (place : NewPosition) → IsBelow (entries_in (kept s order [])) p place → page_size (entries_in (kept s order [])) place.top ≢ 256
      → (h : Handle) (row : Row D) → live s h ≡ None → Updates s mid h (Some row) → IsCounted s mid (entries_in (kept s order [])) h place.top
  IsCounted-below s mid order pages is p place below room h row new up =
      let top = TopRow-live s order pages is p below.entry below.found in
      let same : place.top ≡ top_of below.entry = ap (λ x. x.top) below.is in
      let before : live s place.top ≡ Some top.row = ap (live s) same ∙ top.found in
      let apart : place.top ≢ h = (λ q. true≢false (sym (ap is_some before) ∙ ap is_some (ap (live s) q ∙ new))) in
      let size = top.sized.size in
      let within = top.sized.within in
      let at = ap (page_size (entries_in (kept s order []))) same in
      record {
        row = top.row;
        before = before;
        found = up.others place.top apart ∙ before;
        apart = apart;
        bare = top.bare;
        room = omega (arith, size, within, at, room);
      }

  pub room_is : (o : Option (Row D)) (r : Row D) → o ≡ Some r → r.size ≤ 255 → IfSome o (λ x. x.size ≤ 255)
  room_is None r e f = absurd cc
  room_is (Some y) r e f = let q : r ≡ y = cc in subst (λ (x : Row D). x.size ≤ 255) q f
