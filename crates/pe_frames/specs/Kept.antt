-- How the tree keeps its frames.
use Rattle.std.specs.Prelude.{◌≡◌, ℕ, ◌+◌, ◌-◌, ◌<◌, ◌≤◌, ◌^◌, true, cond, List, [], ◌∷◌, map, length, Option, Some, None, IsSome, unwrap_or, ⊤}
use Rattle.std.specs.Option.{option_map, option_and_then}
use Rattle.pe_arena.specs.declared.handle.Handle.{Handle}
use Rattle.pe_arena.specs.Slots.{Slots, live, mark}
use Rattle.pe_frames.specs.declared.row.Row.{Row}
use Rattle.pe_frames.specs.declared.row.FramePosition.{FramePosition}
use Rattle.pe_frames.specs.declared.node.Node.{Node}
use Rattle.pe_frames.specs.Neighbours.{links_in}
use Rattle.pe_frames.specs.Forest.{parent_of, top_of, depth_of, Entry, Forest, entry_of, path, has_handle, same_handle, node_in, page_size, page_count}

-- a live frame as it is kept: its handle and its node
pub record Kept (D : Type 0) : Type 0 where
  pub handle : Handle
  pub node : Node D

module _ {D : Type 0} where
  -- the frame of the handle, if it is live, before these
  abbrev pub joined : Handle → Option (Node D) → List (Kept D) → List (Kept D)
  joined h None xs = xs
  joined h (Some n) xs = record { handle = h; node = n } ∷ xs

  -- the node of a live handle
  abbrev pub shown : Slots (Row D) → Handle → Option (Node D)
  shown s h = option_map (λ r. r.node) (live s h)

  -- the live frames of the handles, the last one first, before these
  unfoldable pub kept : Slots (Row D) → List Handle → List (Kept D) → List (Kept D)
  kept s [] xs = xs
  kept s (h ∷ hs) xs = kept s hs (joined h (shown s h) xs)

  -- the path to the frame, if there is one
  abbrev pub above_in : List (Entry D) → Option Handle → List Handle
  above_in es p = unwrap_or (option_map path (option_and_then (entry_of es) p)) []

  -- the frame, where these stand behind it
  abbrev pub entry_in : List (Entry D) → Kept D → Entry D
  entry_in es x = record { handle = x.handle; above = above_in es x.node.parent; frame = x.node.frame; doc = x.node.doc }

  -- the frames, newest first: a frame stands before the one that embeds it
  abbrev pub entries_in : List (Kept D) → List (Entry D)
  entries_in [] = []
  entries_in (x ∷ xs) = entry_in (entries_in xs) x ∷ entries_in xs

  -- each node says of its frame what the list says
  abbrev pub AreNodes : List (Kept D) → Type 0
  AreNodes [] = ⊤
  AreNodes (x ∷ xs) = (node_in (entry_in (entries_in xs) x) ≡ x.node) × AreNodes xs

  -- the node that is kept for the handle
  abbrev pub node_at : List (Kept D) → Handle → Option (Node D)
  node_at [] h = None
  node_at (x ∷ xs) h = cond (same_handle x.handle h) (Some x.node) (node_at xs h)

  -- no handle is kept twice
  abbrev pub AreApart : List (Kept D) → Type 0
  AreApart [] = ⊤
  AreApart (x ∷ xs) = (node_at xs x.handle ≡ None) × AreApart xs

  -- the row of a top frame has the size of its page, which is within the limit
  pub record IsSized (es : List (Entry D)) (h : Handle) (r : Row D) : Type 0 where
    pub size : r.size ≡ page_size es h
    pub within : r.size ≤ 256

  -- the row of a frame has its neighbours
  abbrev pub HasLinks : List (Entry D) → Handle → Row D → Type 0
  HasLinks es h r = r.links ≡ links_in es h r.node.parent

  -- where the frame of a row stands, as the row has it
  abbrev pub position_of : Row D → FramePosition
  position_of r = record { parent = r.node.parent; top = r.node.top; depth = r.node.depth; links = r.links }

  -- where the frame with this handle stands
  abbrev pub standing_in : List (Entry D) → Handle → Entry D → FramePosition
  standing_in es h e = record { parent = parent_of e; top = top_of e; depth = depth_of e; links = links_in es h (parent_of e) }

  -- the live ones of the handles are listed as before, and no handle is new
  pub record Sweeps (s : Slots (Row D)) (old new : List Handle) : Type 0 where
    pub same : kept s new [] ≡ kept s old []
    pub listed : (h : Handle) → IsSome (shown s h) → has_handle h old ≡ true → has_handle h new ≡ true
    pub known : (h : Handle) → has_handle h new ≡ true → has_handle h old ≡ true

  -- what contracts see of nodes in this order of making
  abbrev pub forest_in : Slots (Row D) → List Handle → Forest D
  forest_in s order = record { entries = entries_in (kept s order []); marks = map (λ x. x.mark) s.slots; made = s.made }

  -- each live handle is listed, each listed one was given, and what the nodes and the count of pages say is so
  pub record IsForest (s : Slots (Row D)) (order : List Handle) (pages : ℕ) : Type 0 where
    pub listed : (h : Handle) → IsSome (shown s h) → has_handle h order ≡ true
    pub given : (h : Handle) → has_handle h order ≡ true → h.generation < mark s h.slot
    pub nodes : AreNodes (kept s order [])
    pub apart : AreApart (kept s order [])
    pub sized : (h : Handle) (r : Row D) → live s h ≡ Some r → r.node.parent ≡ None → IsSized (entries_in (kept s order [])) h r
    pub linked : (h : Handle) (r : Row D) → live s h ≡ Some r → HasLinks (entries_in (kept s order [])) h r
    pub shallow : (h : Handle) (n : Node D) → shown s h ≡ Some n → n.depth ≤ 64
    pub paged : pages ≡ page_count (entries_in (kept s order []))
    pub few : pages ≤ 64
    pub counted : length s.slots ≤ s.made
    pub wide : s.limit ≡ 2 ^ 32 - 1
    pub first : s.first ≡ 0

  -- each listed handle is of a live frame or dead, and no more than half of them are dead
  pub record IsSwept (s : Slots (Row D)) (order : List Handle) (dead : ℕ) : Type 0 where
    pub counted : length order ≡ length (kept s order []) + dead
    pub half : dead + dead ≤ length order

  -- the frames are as the rows and the list of handles say, and the list is swept of most dead handles
  pub record IsKept (s : Slots (Row D)) (order : List Handle) (pages dead : ℕ) : Type 0 where
    pub forest : IsForest s order pages
    pub swept : IsSwept s order dead
