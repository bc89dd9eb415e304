-- The top frame of a new page, as it is made step by step.
use Rattle.std.proofs.Common.{◌≡◌, ◌≢◌, ℕ, ◌+◌, ◌≤◌, cond, List, [], ◌∷◌, ◌++◌, None, Some, is_some, refl, sym, ap, subst, ◌∙◌, arith}
use Rattle.std.specs.Prelude.{IfSome}
use Rattle.std.specs.Option.{option_map}
use Rattle.pe_arena.specs.declared.handle.Handle.{Handle}
use Rattle.pe_arena.specs.Slots.{Slots, live, mark, holding, with_value, IsGiven, Updates}
use Rattle.pe_frames.specs.declared.row.Row.{Row}
use Rattle.pe_frames.specs.declared.node.Node.{Node}
use Rattle.pe_frames.specs.Forest.{entry_of, Gives, StayDead, same_handle}
use Rattle.pe_frames.specs.Neighbours.{changed_at, links_in}
use Rattle.pe_frames.specs.Kept.{kept, node_at, entry_in, entries_in, HasLinks, forest_in, IsForest, IsSwept}
use Rattle.pe_frames.proofs.Nodes.{kept-live}
use Rattle.pe_frames.proofs.Handles.{same_handle-Decides}
use Rattle.std.proofs.lemmas.Bool.{false_from_ne_true}
use Rattle.pe_frames.proofs.Writes.{Rewrites-one}
use Rattle.pe_frames.proofs.Kin.{childless}
use Rattle.pe_frames.proofs.Linked.{links-top, links-alone}
use Rattle.pe_frames.proofs.Opened.{Steps, Makes, Makes-steps, each-row, sized-top, IsForest-made, StayDead-made, new-made, Gives-made, entries-made, IsSwept-made}

module _ {D : Type 0} where
  -- the row of the frame, which is the top one of its page
  abbrev pub topped : Handle → Row D → Row D
  topped h r = record r { node = record r.node { top = h } }

  -- the new top frame's node
  abbrev pub top_node : Handle → ℕ → D → Node D
  top_node h frame doc = record { frame = frame; parent = None; top = h; depth = 1; doc = doc }

  -- a row was taken in for a top frame, and names it then
  pub record Opens (s mid t : Slots (Row D)) (h : Handle) (frame : ℕ) (doc : D) (row : Row D) : Type 0 where
    pub new : live s h ≡ None
    pub given : IsGiven s mid h
    pub fresh : h.generation ≡ mark s h.slot
    pub slots : mid ≡ holding s h.slot row
    pub taken : Updates s mid h (Some row)
    pub node : (topped h row).node ≡ top_node h frame doc
    pub links : row.links ≡ record { first = None; last = None; earlier = None; later = None }
    pub one : row.size ≡ 1
    pub alone : (r : Row D) → Updates mid (with_value mid h.slot r) h (Some r)
    pub written : IfSome (live mid h) (λ r. t ≡ with_value mid h.slot (record r { node = record r.node { top = h } }))

  module _ (s mid t : Slots (Row D)) (order : List Handle) (pages : ℕ) (is : IsForest s order pages) (h : Handle) (frame : ℕ) (doc : D) (row : Row D) (opens : Opens s mid t h frame doc row) where
    other : (k : Handle) (r : Row D) → k ≢ h → changed_at (Some h) (topped h) k r ≡ r
    other k r ne = ap (λ b. cond b (topped h r) r) (false_from_ne_true (same_handle h k) (λ e. ne (sym ((same_handle-Decides h k).0 e))))

    itself : changed_at (Some h) (topped h) h row ≡ topped h row
    itself = ap (λ b. cond b (topped h row) row) ((same_handle-Decides h h).1 refl)

    steps : Steps s mid t h row (changed_at (Some h) (topped h))
    steps = record {
      new = opens.new;
      given = opens.given;
      fresh = opens.fresh;
      slots = opens.slots;
      taken = opens.taken;
      then = Rewrites-one mid t h (topped h) (ap is_some opens.taken.changed) opens.alone opens.written;
      keeps = λ k r ne. ap (λ (x : Row D). x.node) (other k r ne);
    }

    node-now : (changed_at (Some h) (topped h) h row).node ≡ top_node h frame doc
    node-now = ap (λ (x : Row D). x.node) itself ∙ opens.node

    pub makes-top : Makes s t h (top_node h frame doc)
    makes-top = subst (λ (n : Node D). Makes s t h n) node-now (Makes-steps s mid t h row (changed_at (Some h) (topped h)) steps)

    unseen : node_at (kept s order []) h ≡ None
    unseen = kept-live s h order (is.listed h) ∙ ap (option_map (λ r. r.node)) opens.new

    links-here : HasLinks (entry_in (entries_in (kept s order [])) (record { handle = h; node = top_node h frame doc }) ∷ entries_in (kept s order [])) h (changed_at (Some h) (topped h) h row)
    links-here =
        ap (λ (x : Row D). x.links) itself
        ∙ opens.links
        ∙ sym (links-alone (entry_in (entries_in (kept s order [])) (record { handle = h; node = top_node h frame doc })) (entries_in (kept s order [])) refl h (childless (kept s order []) is.nodes is.apart h unseen))
        ∙ ap (λ (n : Node D). links_in (entry_in (entries_in (kept s order [])) (record { handle = h; node = top_node h frame doc }) ∷ entries_in (kept s order [])) h n.parent) (sym node-now)

    links-there : (j : Handle) (r : Row D) → j ≢ h → live s j ≡ Some r → HasLinks (entry_in (entries_in (kept s order [])) (record { handle = h; node = top_node h frame doc }) ∷ entries_in (kept s order [])) j (changed_at (Some h) (topped h) j r)
    links-there j r ne found =
        subst (λ x. HasLinks (entry_in (entries_in (kept s order [])) (record { handle = h; node = top_node h frame doc }) ∷ entries_in (kept s order [])) j x) (sym (other j r ne))
        (is.linked j r found ∙ sym (links-top (entry_in (entries_in (kept s order [])) (record { handle = h; node = top_node h frame doc })) (entries_in (kept s order [])) refl j r.node.parent))

    pub IsForest-top : pages ≤ 63 → IsForest t (order ++ h ∷ []) (pages + 1)
    IsForest-top few =
        let paged = is.paged in
        IsForest-made s t h (top_node h frame doc) makes-top order pages is (pages + 1) refl (omega arith) (omega (arith, few)) (omega (arith, paged))
        (sized-top s mid t h row (changed_at (Some h) (topped h)) steps order pages is (entry_in (entries_in (kept s order [])) (record { handle = h; node = top_node h frame doc })) refl
        (ap (λ (x : Row D). x.size) itself ∙ opens.one)
        (λ j r ne. ap (λ (x : Row D). x.size) (other j r ne)))
        (each-row s mid t h row (changed_at (Some h) (topped h)) steps (λ j x. HasLinks (entry_in (entries_in (kept s order [])) (record { handle = h; node = top_node h frame doc }) ∷ entries_in (kept s order [])) j x) links-here links-there)

    pub entries-top : (forest_in t (order ++ h ∷ [])).entries ≡ entry_in (entries_in (kept s order [])) (record { handle = h; node = top_node h frame doc }) ∷ entries_in (kept s order [])
    entries-top = entries-made s t h (top_node h frame doc) makes-top order pages is

    pub new-top : entry_of (forest_in s order).entries h ≡ None
    new-top = new-made s t h (top_node h frame doc) makes-top order pages is

    pub Gives-top : Gives (forest_in s order) (forest_in t (order ++ h ∷ [])) h
    Gives-top = Gives-made s t h (top_node h frame doc) makes-top order pages is

    pub StayDead-top : StayDead (forest_in s order) (forest_in t (order ++ h ∷ []))
    StayDead-top = StayDead-made s t h (top_node h frame doc) makes-top order pages is

    pub IsSwept-top : (dead : ℕ) → IsSwept s order dead → IsSwept t (order ++ h ∷ []) dead
    IsSwept-top = IsSwept-made s t h (top_node h frame doc) makes-top order pages is
