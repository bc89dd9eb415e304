-- How many frames a page has at most, and how many pages there are at most.
use Rattle.std.proofs.Common.{◌≡◌, ℕ, ◌≤◌, List, [], Option, None, Some, refl, subst, arith}
use Rattle.std.specs.Prelude.{IfSome}
use Rattle.pe_base.specs.declared.limits.TheConstants.{PAGE_LIMIT, FRAME_LIMIT}
use Rattle.pe_arena.specs.declared.handle.Handle.{Handle}
use Rattle.pe_arena.specs.Slots.{Slots}
use Rattle.pe_frames.specs.declared.row.Row.{Row}
use Rattle.pe_frames.specs.Forest.{Entry, Forest, entry_of, top_of, page_count, page_size}
use Rattle.pe_frames.specs.Kept.{kept, entries_in, forest_in, IsForest}
use Rattle.pe_frames.proofs.Sizes.{TopRow-live}

module _ {D : Type 0} where
  -- the limits hold
  pub record Bounds (f : Forest D) : Type 0 where
    pub pages : page_count f.entries ≤ PAGE_LIMIT
    pub sizes : (h : Handle) → IfSome (entry_of f.entries h) (λ e. page_size f.entries (top_of e) ≤ FRAME_LIMIT)

  pub bounds-forest : (s : Slots (Row D)) (order : List Handle) (pages : ℕ) → IsForest s order pages → (f : Forest D) → forest_in s order ≡ f → Bounds f
  bounds-forest s order pages is f q = subst Bounds q (record {
    pages = (let few = is.few in let paged = is.paged in omega (arith, few, paged));
    sizes = λ h. by_entry h (entry_of (entries_in (kept s order [])) h) refl;
  })
    where
      by_entry : (h : Handle) (o : Option (Entry D)) → entry_of (entries_in (kept s order [])) h ≡ o → IfSome o (λ e. page_size (entries_in (kept s order [])) (top_of e) ≤ FRAME_LIMIT)
      by_entry h None f = tt
      by_entry h (Some e) f =
          let row = TopRow-live s order pages is h e f in
          let size = row.sized.size in
          let within = row.sized.within in
          omega (arith, size, within)
