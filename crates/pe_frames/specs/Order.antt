-- The frames in order: the children of a frame, and the frames below it.
use Rattle.std.specs.Prelude.{◌≡◌, ⊤, ℕ, zero, suc, Bool, false, not, ◌||◌, List, [], ◌∷◌, ◌++◌, map, filter, Option, None, Some, if◌then◌else◌}
use Rattle.std.specs.List.{flat_map}
use Rattle.pe_arena.specs.declared.handle.Handle.{Handle}
use Rattle.pe_base.specs.declared.limits.TheConstants.{DEPTH_LIMIT}
use Rattle.pe_frames.specs.Forest.{Entry, same_handle, has_handle, parent_of, entry_of, is_under, with_document}

-- whether this is the named handle
abbrev pub is_named : Option Handle → Handle → Bool
is_named None h = false
is_named (Some k) h = same_handle k h

-- the first of the handles, if there is one
abbrev pub head_of : List Handle → Option Handle
head_of [] = None
head_of (k ∷ ks) = Some k

-- what stands directly behind the named one
abbrev pub after : Handle → List Handle → Option Handle
after h [] = None
after h (k ∷ ks) = if same_handle k h then head_of ks else after h ks

-- no handle is listed twice
abbrev pub AreOnce : List Handle → Type 0
AreOnce [] = ⊤
AreOnce (k ∷ ks) = (has_handle k ks ≡ false) × AreOnce ks

module _ {D : Type 0} where
  -- whether the named frame embeds this one
  abbrev pub is_child : Handle → Entry D → Bool
  is_child h e = is_named (parent_of e) h

  -- the frames that the named one embeds, in the order of their making
  abbrev pub children : List (Entry D) → Handle → List (Entry D)
  children [] h = []
  children (e ∷ es) h = children es h ++ (if is_child h e then e ∷ [] else [])

  -- their handles
  abbrev pub child_handles : List (Entry D) → Handle → List Handle
  child_handles es h = map (λ e. e.handle) (children es h)

  -- the first child, or the child behind the named one
  abbrev pub next_child_of : List (Entry D) → Handle → Option Handle → Option Handle
  next_child_of es parent None = head_of (child_handles es parent)
  next_child_of es parent (Some k) = after k (child_handles es parent)

  -- the frame and those below it, at most so many levels deep, in tree order (DOM Standard, "tree order"): the frame, then for each child in turn the child and those below it
  unfoldable pub tree_order : ℕ → List (Entry D) → Entry D → List (Entry D)
  tree_order zero es e = e ∷ []
  tree_order (suc n) es e = e ∷ flat_map (tree_order n es) (children es e.handle)

  -- the named frame and those below it, in tree order
  abbrev pub in_tree_order : List (Entry D) → Handle → List (Entry D)
  in_tree_order es h = of_entry (entry_of es h)
    where
      of_entry : Option (Entry D) → List (Entry D)
      of_entry None = []
      of_entry (Some e) = tree_order DEPTH_LIMIT es e

  -- their handles
  abbrev pub handles_under : List (Entry D) → Handle → List Handle
  handles_under es h = map (λ e. e.handle) (in_tree_order es h)

  -- their documents
  abbrev pub docs_under : List (Entry D) → Handle → List D
  docs_under es h = map (λ e. e.doc) (in_tree_order es h)

  -- the frames without the named one and those below it
  abbrev pub closed : Handle → List (Entry D) → List (Entry D)
  closed h es = filter (λ e. not (is_under h e)) es

  -- the named frame shows this document, and there is none below it
  abbrev pub navigated : Handle → D → List (Entry D) → List (Entry D)
  navigated h doc es = map (with_document h doc) (filter (λ e. same_handle e.handle h || not (is_under h e)) es)
