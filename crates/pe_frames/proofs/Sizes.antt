-- The row that has the size of a live frame's page.
use Rattle.std.proofs.Common.{◌≡◌, ◌≤◌, ℕ, List, [], Option, None, Some, refl, sym, ap, ◌∙◌}
use Rattle.std.specs.Option.{option_map}
use Rattle.pe_arena.specs.declared.handle.Handle.{Handle}
use Rattle.pe_arena.specs.Slots.{Slots, live}
use Rattle.pe_frames.specs.declared.row.Row.{Row}
use Rattle.pe_frames.specs.declared.node.Node.{Node}
use Rattle.pe_frames.specs.Forest.{Entry, entry_of, node_in, top_of, last_of, page_size}
use Rattle.pe_frames.specs.Kept.{kept, entries_in, shown, IsSized, IsForest}
use Rattle.pe_frames.proofs.Nodes.{found-live}
use Rattle.pe_frames.proofs.Pages.{top-found}

module _ {D : Type 0} where
  -- the row of a top frame
  pub record TopRow (s : Slots (Row D)) (es : List (Entry D)) (k : Handle) : Type 0 where
    pub row : Row D
    pub found : live s k ≡ Some row
    pub bare : row.node.parent ≡ None
    pub sized : IsSized es k row

  -- a node is shown of a row
  record RowOf (o : Option (Row D)) (n : Node D) : Type 0 where
    row : Row D
    found : o ≡ Some row
    node : row.node ≡ n

  row-of : (o : Option (Row D)) (n : Node D) → option_map (λ r. r.node) o ≡ Some n → RowOf o n
  row-of None n e = absurd cc
  row-of (Some r) n e = record { row = r; found = refl; node = (let q : r.node ≡ n = cc in q) }

  -- the top frame of a live frame has a row with the size of the page
  pub TopRow-live : (s : Slots (Row D)) (order : List Handle) (pages : ℕ) → IsForest s order pages → (h : Handle) (e : Entry D) → entry_of (entries_in (kept s order [])) h ≡ Some e → TopRow s (entries_in (kept s order [])) (top_of e)
  TopRow-live s order pages is h e f =
      let has = top-found (kept s order []) is.nodes is.apart h e f in
      let node : shown s (top_of e) ≡ Some (node_in has.top) = found-live s order (top_of e) is.listed is.nodes ∙ ap (option_map node_in) has.found in
      let row = row-of (live s (top_of e)) (node_in has.top) node in
      let bare : row.row.node.parent ≡ None = ap (λ n. n.parent) row.node ∙ ap last_of has.bare in
      record { row = row.row; found = row.found; bare = bare; sized = is.sized (top_of e) row.row row.found bare }

  -- the row at the top frame's handle, and what it says of the page
  pub record PageRow (s : Slots (Row D)) (es : List (Entry D)) (h k : Handle) : Type 0 where
    pub row : Row D
    pub found : live s k ≡ Some row
    pub size : option_map (λ e. page_size es (top_of e)) (entry_of es h) ≡ Some row.size
    pub within : row.size ≤ 256

  pub PageRow-live : (s : Slots (Row D)) (order : List Handle) (pages : ℕ) → IsForest s order pages → (h k : Handle) → option_map top_of (entry_of (entries_in (kept s order [])) h) ≡ Some k → PageRow s (entries_in (kept s order [])) h k
  PageRow-live s order pages is h k e = by_entry (entry_of (entries_in (kept s order [])) h) refl e
    where
      by_entry : (o : Option (Entry D)) → entry_of (entries_in (kept s order [])) h ≡ o → option_map top_of o ≡ Some k → PageRow s (entries_in (kept s order [])) h k
      by_entry None f q = absurd cc
      by_entry (Some e) f q =
          let same : top_of e ≡ k = cc in
          let row = TopRow-live s order pages is h e f in
          record {
            row = row.row;
            found = ap (live s) (sym same) ∙ row.found;
            size = ap (option_map (λ x. page_size (entries_in (kept s order [])) (top_of x))) f ∙ ap Some (sym row.sized.size);
            within = row.sized.within;
          }
