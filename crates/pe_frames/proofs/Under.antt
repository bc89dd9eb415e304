-- The handles of a frame and those below it: each is of a live frame below it, all these are there, and none is there twice.
use Rattle.std.proofs.Common.{◌≡◌, ℕ, true, ◌||◌, List, [], Option, None, Some, refl, sym, ap, subst, ◌∙◌, arith, true≢false}
use Rattle.std.specs.Option.{option_map}
use Rattle.pe_base.specs.declared.limits.TheConstants.{DEPTH_LIMIT}
use Rattle.pe_arena.specs.declared.handle.Handle.{Handle}
use Rattle.pe_arena.specs.Slots.{Slots}
use Rattle.pe_frames.specs.declared.row.Row.{Row}
use Rattle.pe_frames.specs.Forest.{Entry, Forest, has_handle, path, entry_of, node_in, is_under}
use Rattle.pe_frames.specs.Order.{in_tree_order, handles_under, AreOnce}
use Rattle.pe_frames.specs.Kept.{kept, entries_in, forest_in, IsForest}
use Rattle.pe_frames.proofs.Nodes.{found-live}
use Rattle.pe_frames.proofs.Handles.{has-append, same_handle-Decides}
use Rattle.pe_frames.proofs.Below.{entry-handle}
use Rattle.pe_frames.proofs.Tree.{Each, IsTree, tree-of}
use Rattle.pe_frames.proofs.TreeOrder.{walk, walk-under, walk-once, walk-live}
use Rattle.pe_frames.proofs.Subtrees.{walk-all, under-same}

module _ {D : Type 0} where
  -- the kept frames are a tree
  pub tree-forest : (s : Slots (Row D)) (order : List Handle) (pages : ℕ) → IsForest s order pages → IsTree (entries_in (kept s order [])) DEPTH_LIMIT
  tree-forest s order pages is = tree-of (kept s order []) DEPTH_LIMIT is.nodes is.apart (λ c f.
      let deep = is.shallow c.handle (node_in c) (found-live s order c.handle is.listed is.nodes ∙ ap (option_map node_in) f) in
      omega (arith, deep))

  -- and so are those that contracts see
  pub tree-seen : (s : Slots (Row D)) (order : List Handle) (pages : ℕ) → IsForest s order pages → (f : Forest D) → forest_in s order ≡ f → IsTree f.entries DEPTH_LIMIT
  tree-seen s order pages is f q = subst (λ (x : Forest D). IsTree x.entries DEPTH_LIMIT) q (tree-forest s order pages is)

  -- the live frame of the handle is the root or below it
  pub record IsUnder (es : List (Entry D)) (root k : Handle) : Type 0 where
    pub entry : Entry D
    pub found : entry_of es k ≡ Some entry
    pub under : is_under root entry ≡ true

  -- the handles below a live frame are its walk
  pub handles-are : (es : List (Entry D)) (h : Handle) (e : Entry D) → entry_of es h ≡ Some e → handles_under es h ≡ walk DEPTH_LIMIT es e
  handles-are es h e f = rw f refl

  pub handles-none : (es : List (Entry D)) (h : Handle) → entry_of es h ≡ None → handles_under es h ≡ []
  handles-none es h f = rw f refl

  -- the frame has its handle
  pub its-own : (es : List (Entry D)) (h : Handle) (e : Entry D) → entry_of es h ≡ Some e → entry_of es e.handle ≡ Some e
  its-own es h e f = ap (entry_of es) (entry-handle es h e f) ∙ f

  module _ (es : List (Entry D)) (tree : IsTree es DEPTH_LIMIT) where
    -- each of the handles is of a live frame, which is the root or below it
    pub handles-live : (h k : Handle) → has_handle k (handles_under es h) ≡ true → IsUnder es h k
    handles-live h k t = by_entry (entry_of es h) refl
      where
        by_entry : (o : Option (Entry D)) → entry_of es h ≡ o → IsUnder es h k
        by_entry None f = absurd (true≢false (sym t ∙ ap (has_handle k) (handles-none es h f)))
        by_entry (Some e) f =
            let u = walk-under es DEPTH_LIMIT tree DEPTH_LIMIT e (its-own es h e f) k (ap (has_handle k) (sym (handles-are es h e f)) ∙ t) in
            record {
              entry = u.entry;
              found = u.found;
              under =
                  ap (has_handle h) u.is
                  ∙ has-append h (path e) u.rest
                  ∙ ap (λ b. b || has_handle h u.rest) (under-same h e ((same_handle-Decides e.handle h).1 (entry-handle es h e f)));
            }

    -- each live frame that is a live root or below it has its handle there
    pub handles-all : (h k : Handle) (e x : Entry D) → entry_of es h ≡ Some e → entry_of es k ≡ Some x → is_under h x ≡ true → has_handle k (handles_under es h) ≡ true
    handles-all h k e x f g under =
        ap (has_handle k) (handles-are es h e f)
        ∙ ap (λ j. has_handle j (walk DEPTH_LIMIT es e)) (sym (entry-handle es k x g))
        ∙ walk-all es DEPTH_LIMIT tree DEPTH_LIMIT (omega arith) e x (its-own es h e f) (its-own es k x g) (ap (λ j. is_under j x) (entry-handle es h e f) ∙ under)

    -- no handle stands there twice
    pub handles-once : (h : Handle) → AreOnce (handles_under es h)
    handles-once h = by_entry (entry_of es h) refl
      where
        by_entry : (o : Option (Entry D)) → entry_of es h ≡ o → AreOnce (handles_under es h)
        by_entry None f = subst AreOnce (sym (handles-none es h f)) tt
        by_entry (Some e) f = subst AreOnce (sym (handles-are es h e f)) (walk-once es DEPTH_LIMIT tree DEPTH_LIMIT e (its-own es h e f))

    -- each of the frames in tree order is the live frame of its handle
    pub frames-live : (h : Handle) → Each (λ x. entry_of es x.handle ≡ Some x) (in_tree_order es h)
    frames-live h = by_entry (entry_of es h) refl
      where
        by_entry : (o : Option (Entry D)) → entry_of es h ≡ o → Each (λ x. entry_of es x.handle ≡ Some x) (in_tree_order es h)
        by_entry None f = rw f tt
        by_entry (Some e) f = rw f (walk-live es DEPTH_LIMIT tree DEPTH_LIMIT e (its-own es h e f))
