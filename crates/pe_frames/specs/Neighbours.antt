-- What the rows of frames say of their neighbours, and what a write or a removal leaves of the rows.
use Rattle.std.specs.Prelude.{◌≡◌, ℕ, ◌-◌, cond, is_none, List, [], ◌∷◌, map, Option, None, Some}
use Rattle.std.specs.Option.{option_map}
use Rattle.pe_arena.specs.declared.handle.Handle.{Handle}
use Rattle.pe_arena.specs.Slots.{Slots, live}
use Rattle.pe_frames.specs.declared.row.Row.{Row}
use Rattle.pe_frames.specs.declared.row.Neighbours.{Neighbours}
use Rattle.pe_frames.specs.Forest.{Entry, last_of, has_handle}
use Rattle.pe_frames.specs.Order.{is_named, head_of, after, is_child}

-- what stands directly before the named one
abbrev pub before : Handle → List Handle → Option Handle
before h [] = None
before h (k ∷ ks) = cond (is_named (head_of ks) h) (Some k) (before h ks)

-- the links of the named frame, with the handles of its children and of those of its parent, newest first
abbrev pub links_by : List Handle → List Handle → Handle → Neighbours
links_by own siblings h = record { first = last_of own; last = head_of own; earlier = after h siblings; later = before h siblings }

module _ {D : Type 0} where
  -- the handles of the frames that the named one embeds, newest first
  abbrev pub children_newest_first : List (Entry D) → Handle → List Handle
  children_newest_first [] h = []
  children_newest_first (e ∷ es) h = cond (is_child h e) (e.handle ∷ children_newest_first es h) (children_newest_first es h)

  -- the handles of the frames that this parent embeds, if there is one, newest first
  abbrev pub siblings : List (Entry D) → Option Handle → List Handle
  siblings es None = []
  siblings es (Some p) = children_newest_first es p

  -- the links of the frame with this handle and parent
  abbrev pub links_in : List (Entry D) → Handle → Option Handle → Neighbours
  links_in es h parent = links_by (children_newest_first es h) (siblings es parent) h

  -- the slots have the marks that they had, and as many rows were taken in
  pub record SameMarks (old new : Slots (Row D)) : Type 0 where
    pub marks : map (λ x. x.mark) new.slots ≡ map (λ x. x.mark) old.slots
    pub made : new.made ≡ old.made
    pub limit : new.limit ≡ old.limit
    pub first : new.first ≡ old.first

  -- the row of each live handle was changed so, and no handle lives or dies
  pub record Rewrites (old new : Slots (Row D)) (change : Handle → Row D → Row D) : Type 0 where
    pub rows : (k : Handle) → live new k ≡ option_map (change k) (live old k)
    pub same : SameMarks old new

  -- the change of the named row alone
  abbrev pub changed_at : Option Handle → (Row D → Row D) → Handle → Row D → Row D
  changed_at o f k r = cond (is_named o k) (f r) r

  -- the row, with this first child
  abbrev pub with_first : Option Handle → Row D → Row D
  with_first o r = record r { links = record r.links { first = o } }

  -- with this last child
  abbrev pub with_last : Option Handle → Row D → Row D
  with_last o r = record r { links = record r.links { last = o } }

  -- with this sibling before it
  abbrev pub with_earlier : Option Handle → Row D → Row D
  with_earlier o r = record r { links = record r.links { earlier = o } }

  -- with this sibling behind it
  abbrev pub with_later : Option Handle → Row D → Row D
  with_later o r = record r { links = record r.links { later = o } }

  -- the new frame is the last child of the parent, and stands behind this sibling, if there is one
  abbrev pub linked : Handle → Option Handle → Handle → Handle → Row D → Row D
  linked parent last h k r = changed_at (Some parent) (with_last (Some h)) k (changed_at (cond (is_none last) (Some parent) None) (with_first (Some h)) k (changed_at last (with_later (Some h)) k r))

  -- the frame with these links is gone from among the children of its parent
  abbrev pub unlinked : Neighbours → Option Handle → Handle → Row D → Row D
  unlinked l parent k r =
      changed_at (cond (is_none l.later) parent None) (with_last l.earlier) k
      (changed_at (cond (is_none l.earlier) parent None) (with_first l.later) k
      (changed_at l.later (with_earlier l.earlier) k
      (changed_at l.earlier (with_later l.later) k r)))

  -- the row, with so many frames less in the page
  abbrev pub with_fewer_frames : ℕ → Row D → Row D
  with_fewer_frames n r = record r { size = r.size - n }

  -- with this document, and no child
  abbrev pub renewed : D → Row D → Row D
  renewed doc r = record r { node = record r.node { doc = doc }; links = record r.links { first = None; last = None } }

  -- these handles are dead, and each other has the row that it had
  pub record Removes (old new : Slots (Row D)) (ks : List Handle) : Type 0 where
    pub rows : (k : Handle) → live new k ≡ cond (has_handle k ks) None (live old k)
    pub same : SameMarks old new

  -- the document of the row, if there is one, before these
  abbrev pub doc_before : Option (Row D) → List D → List D
  doc_before None xs = xs
  doc_before (Some r) xs = r.node.doc ∷ xs

  -- the documents of the live ones of the handles
  abbrev pub docs_at : Slots (Row D) → List Handle → List D
  docs_at s [] = []
  docs_at s (k ∷ ks) = doc_before (live s k) (docs_at s ks)
