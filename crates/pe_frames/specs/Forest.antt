-- The frames of all pages, as a list.
use Rattle.std.specs.Prelude.{◌≡◌, ◌≢◌, ◌⊎◌, ℕ, ◌+◌, ◌<◌, ◌≤◌, ⊤, IsSome, IsSomeAnd, Bool, ◌&&◌, ◌==◌, List, [], ◌∷◌, ◌++◌, map, filter, length, Option, Some, None, Result, Ok, Err, unwrap_or, slice_index_or, if◌then◌else◌, refl}
use Rattle.std.specs.List.{list_any}
use Rattle.std.specs.Option.{option_map, option_and_then}
use Rattle.std.specs.Coded.{Coded, code_by, coded×, coded_ℕ, coded_list}
use Rattle.pe_arena.specs.declared.handle.Handle.{Handle}
use Rattle.pe_arena.specs.declared.handle.DocRef.{DocRef}
use Rattle.pe_base.specs.declared.limits.TheConstants.{DEPTH_LIMIT, FRAME_LIMIT}
use Rattle.pe_frames.specs.declared.frames.TreeFault.{TreeFault}
use Rattle.pe_frames.specs.declared.frames.TreeFault.TheVariants.{Stale, TooDeep, TooMany, TooManyPages, Memory}
use Rattle.pe_frames.specs.declared.node.Node.{Node}

-- a frame: its handle, the handles of the frames above it from the top one on, its number and its document
pub record Entry (D : Type 0) : Type 0 where
  pub handle : Handle
  pub above : List Handle
  pub frame : ℕ
  pub doc : D

-- the live frames, newest first, the mark of each slot, which is the least generation that it may yet give, and how many frames were ever made
pub record Forest (D : Type 0) : Type 0 where
  pub entries : List (Entry D)
  pub marks : List ℕ
  pub made : ℕ

-- a handle is stored as the pair of its fields
abbrev pub handle_code : Coded Handle
handle_code = code_by (ℕ × ℕ) (coded× coded_ℕ coded_ℕ) (λ h. (h.slot, h.generation)) (λ p. record { slot = p.0; generation = p.1 }) (λ _. refl)

-- a frame is stored as the tuple of its fields
abbrev pub entry_code : {D : Type 0} → Coded D → Coded (Entry D)
entry_code {D} code =
    code_by
    (Handle × (List Handle × (ℕ × D)))
    (coded× handle_code (coded× (coded_list handle_code) (coded× coded_ℕ code)))
    (λ e. (e.handle, (e.above, (e.frame, e.doc))))
    (λ p. record { handle = p.0; above = p.1.0; frame = p.1.1.0; doc = p.1.1.1 })
    (λ _. refl)

-- the frames are stored as the tuple of their fields
abbrev pub forest_code : {D : Type 0} → Coded D → Coded (Forest D)
forest_code {D} code =
    code_by
    (List (Entry D) × (List ℕ × ℕ))
    (coded× (coded_list (entry_code code)) (coded× (coded_list coded_ℕ) coded_ℕ))
    (λ f. (f.entries, (f.marks, f.made)))
    (λ p. record { entries = p.0; marks = p.1.0; made = p.1.1 })
    (λ _. refl)

-- whether the two are one handle
abbrev pub same_handle : Handle → Handle → Bool
same_handle a b = a.slot == b.slot && a.generation == b.generation

-- whether the handle is one of these
abbrev pub has_handle : Handle → List Handle → Bool
has_handle h ks = list_any (λ k. same_handle k h) ks

-- the last of the handles
abbrev pub last_of : List Handle → Option Handle
last_of [] = None
last_of (k ∷ ks) = Some (unwrap_or (last_of ks) k)

-- the first of the handles, or else this one
abbrev pub first_of : List Handle → Handle → Handle
first_of [] h = h
first_of (k ∷ ks) h = k

-- the refusal of a result; want of memory is none
abbrev pub refusal : {A : Type 0} → Result A TreeFault → Option TreeFault
refusal (Ok x) = None
refusal (Err Memory) = None
refusal (Err Stale) = Some Stale
refusal (Err TooDeep) = Some TooDeep
refusal (Err TooMany) = Some TooMany
refusal (Err TooManyPages) = Some TooManyPages

module _ {D : Type 0} where
  -- the handles on the way from the top frame to this one, its own the last
  abbrev pub path : Entry D → List Handle
  path e = e.above ++ e.handle ∷ []

  -- the frame that embeds it; a top frame has none
  abbrev pub parent_of : Entry D → Option Handle
  parent_of e = last_of e.above

  -- the top frame of its page
  abbrev pub top_of : Entry D → Handle
  top_of e = first_of e.above e.handle

  -- how many frames stand on the way from the top frame to it, both counted
  abbrev pub depth_of : Entry D → ℕ
  depth_of e = length e.above + 1

  -- whether it is the top frame of a page
  abbrev pub is_top : Entry D → Bool
  is_top e = length e.above == 0

  -- whether the frame is the named one or below it
  abbrev pub is_under : Handle → Entry D → Bool
  is_under h e = has_handle h (path e)

  -- the live frame of the handle
  abbrev pub entry_of : List (Entry D) → Handle → Option (Entry D)
  entry_of [] h = None
  entry_of (e ∷ es) h = if same_handle e.handle h then Some e else entry_of es h

  -- what `node` shows of a frame
  abbrev pub node_in : Entry D → Node D
  node_in e = record { frame = e.frame; parent = parent_of e; top = top_of e; depth = depth_of e; doc = e.doc }

  -- what `node` shows of the live frame of the handle
  abbrev pub node_of : List (Entry D) → Handle → Option (Node D)
  node_of es h = option_map node_in (entry_of es h)

  -- the document, if it has this number
  abbrev pub numbered : (D → ℕ) → ℕ → D → Option D
  numbered number n doc = if number doc == n then Some doc else None

  -- the document of this number that the live frame shows
  abbrev pub doc_of : (D → ℕ) → List (Entry D) → DocRef → Option D
  doc_of number es r = option_and_then (λ e. numbered number r.doc e.doc) (entry_of es r.at)

  -- how many frames the page of this top frame has
  abbrev pub page_size : List (Entry D) → Handle → ℕ
  page_size es top = length (filter (λ e. same_handle (top_of e) top) es)

  -- how many pages there are
  abbrev pub page_count : List (Entry D) → ℕ
  page_count es = length (filter is_top es)

  -- the path of the live frame of the handle
  abbrev pub path_of : List (Entry D) → Handle → List Handle
  path_of es h = unwrap_or (option_map path (entry_of es h)) []

  -- why no frame can be embedded in the named one: the first of these that is so
  abbrev pub embed_fault : List (Entry D) → Handle → Option TreeFault
  embed_fault es parent = by_entry es (entry_of es parent)
    where
      by_entry : List (Entry D) → Option (Entry D) → Option TreeFault
      by_entry es None = Some Stale
      by_entry es (Some e) = if depth_of e == DEPTH_LIMIT then Some TooDeep else if page_size es (top_of e) == FRAME_LIMIT then Some TooMany else None

  -- a new frame stands before all others
  abbrev pub opened : Handle → List Handle → ℕ → D → List (Entry D) → List (Entry D)
  opened h above frame doc es = record { handle = h; above = above; frame = frame; doc = doc } ∷ es

  -- the least generation that the slot may yet give
  abbrev pub mark_of : Forest D → ℕ → ℕ
  mark_of f slot = slice_index_or f.marks slot 0

  -- a new frame, before these: no live one has its handle, it is the top one of a page or one of these embeds it, and it is not too deep
  pub record IsNewest (es : List (Entry D)) (e : Entry D) : Type 0 where
    pub new : entry_of es e.handle ≡ None
    pub below : (e.above ≡ []) ⊎ ((p : Handle) × IsSomeAnd (entry_of es p) (λ a. e.above ≡ path a))
    pub shallow : depth_of e ≤ DEPTH_LIMIT

  -- a tree of frames: each stands as a new one before those behind it
  abbrev pub AreFrames : List (Entry D) → Type 0
  AreFrames [] = ⊤
  AreFrames (e ∷ es) = IsNewest es e × AreFrames es

  -- the slot of each live handle gave its generation
  abbrev pub AreGiven : Forest D → Type 0
  AreGiven f = (h : Handle) → IsSome (entry_of f.entries h) → h.generation < mark_of f h.slot

  -- the handle's slot gave its generation last, and the mark of each other slot is as before
  pub record Gives (old new : Forest D) (h : Handle) : Type 0 where
    pub given : mark_of new h.slot ≡ h.generation + 1
    pub others : (slot : ℕ) → slot ≢ h.slot → mark_of new slot ≡ mark_of old slot

  -- the slot gave this generation or a later one, and the handle is not live
  pub record IsDead (f : Forest D) (h : Handle) : Type 0 where
    pub given : h.generation < mark_of f h.slot
    pub gone : entry_of f.entries h ≡ None

  -- each dead handle stays dead
  abbrev pub StayDead : Forest D → Forest D → Type 0
  StayDead old new = (h : Handle) → IsDead old h → IsDead new h

  -- the frame with this document, if it is the named one
  abbrev pub with_document : Handle → D → Entry D → Entry D
  with_document h doc e = record e { doc = if same_handle e.handle h then doc else e.doc }

  -- the named frame shows this document
  abbrev pub with_doc : Forest D → Handle → D → Forest D
  with_doc f h doc = record f { entries = map (with_document h doc) f.entries }
