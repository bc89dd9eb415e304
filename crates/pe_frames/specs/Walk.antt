-- What a walk in tree order visits, and what it leaves of the frames whose documents it changes.
use Rattle.std.specs.Prelude.{Bool, List, [], ◌∷◌, map, if◌then◌else◌}
use Rattle.pe_arena.specs.declared.handle.Handle.{Handle}
use Rattle.pe_frames.specs.Forest.{Entry, same_handle, has_handle, is_under, top_of}
use Rattle.pe_frames.specs.Order.{handles_under}

-- those of the handles that come up to the named one, which is the last of them
abbrev pub visited : Handle → List Handle → List Handle
visited h [] = []
visited h (k ∷ ks) = k ∷ (if same_handle k h then [] else visited h ks)

module _ {D : Type 0} where
  -- whether the frame is of the page of this top frame
  abbrev pub is_of_page : Handle → Entry D → Bool
  is_of_page top e = same_handle (top_of e) top

  -- the frame; where it passes the test, with the document that it is changed to
  abbrev pub changed_where : (Entry D → Bool) → (Entry D → D) → Entry D → Entry D
  changed_where passes change e = record e { doc = if passes e then change e else e.doc }

  -- the same, where the frame is one of these
  abbrev pub changed_in : (Entry D → D) → List Handle → Entry D → Entry D
  changed_in change ks = changed_where (λ e. has_handle e.handle ks) change

  -- the frames, once a walk from the root changed each that it visited, the named one the last
  abbrev pub changed_to : (Entry D → D) → List (Entry D) → Handle → Handle → List (Entry D)
  changed_to change es root h = map (changed_in change (visited h (handles_under es root))) es

  -- the frames, once the root and each below it is changed
  abbrev pub changed_under : (Entry D → D) → List (Entry D) → Handle → List (Entry D)
  changed_under change es root = map (changed_where (is_under root) change) es

  -- the frames, once each of the page of this top frame is changed
  abbrev pub changed_page : (Entry D → D) → List (Entry D) → Handle → List (Entry D)
  changed_page change es top = map (changed_where (is_of_page top) change) es
