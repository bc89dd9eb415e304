-- Where a live frame stands.
use Rattle.std.proofs.Common.{◌≡◌, ℕ, List, [], Option, None, Some, is_some, IsSome, Bor, refl, sym, ap, ◌∙◌, true≢false}
use Rattle.std.specs.Option.{option_map, option_copied}
use Rattle.pe_arena.specs.declared.handle.Handle.{Handle}
use Rattle.pe_arena.specs.Slots.{Slots, live}
use Rattle.pe_frames.specs.declared.row.Row.{Row}
use Rattle.pe_frames.specs.declared.row.FramePosition.{FramePosition}
use Rattle.pe_frames.specs.declared.node.Node.{Node}
use Rattle.pe_frames.specs.Forest.{Entry, entry_of, node_in}
use Rattle.pe_frames.specs.Neighbours.{links_in}
use Rattle.pe_frames.specs.Kept.{kept, entries_in, position_of, standing_in, HasLinks, IsForest}
use Rattle.pe_frames.proofs.Nodes.{found-live}
use Rattle.pe_frames.proofs.Lemmas.{some_same}

-- something is there, where nothing cannot be
pub some-unless : {A : Type 0} (o : Option A) → (o ≡ None → ⊥) → IsSome o
some-unless None not = absurd (not refl)
some-unless (Some x) not = refl

-- a row is lent, where there is an entry and both say the same
pub lent : {T X Y : Type 0} (r : Option (Bor T)) (x : Option X) (of_row : T → Y) (of_entry : X → Y) → IsSome x → option_map of_row (option_copied r) ≡ option_map of_entry x → IsSome r
lent None None of_row of_entry l q = absurd (true≢false (sym l))
lent None (Some e) of_row of_entry l q = absurd (true≢false (sym (ap is_some q)))
lent (Some b) x of_row of_entry l q = refl

module _ {D : Type 0} where
  by_node : (es : List (Entry D)) (h : Handle) (o : Option (Row D)) (e : Option (Entry D)) → ((r : Row D) → o ≡ Some r → HasLinks es h r) → option_map (λ r. r.node) o ≡ option_map node_in e → option_map position_of o ≡ option_map (standing_in es h) e
  by_node es h None None links q = refl
  by_node es h None (Some e) links q = absurd (true≢false (sym (ap is_some q)))
  by_node es h (Some r) None links q = absurd (true≢false (ap is_some q))
  by_node es h (Some r) (Some e) links q =
      let same : r.node ≡ node_in e = some_same q in
      ap (λ l. Some (record { parent = r.node.parent; top = r.node.top; depth = r.node.depth; links = l })) (links r refl)
      ∙ ap (λ (n : Node D). Some (record { parent = n.parent; top = n.top; depth = n.depth; links = links_in es h n.parent })) same

  -- where a live frame stands, by its row
  pub standing-live : (s : Slots (Row D)) (order : List Handle) (pages : ℕ) → IsForest s order pages → (h : Handle) → option_map position_of (live s h) ≡ option_map (standing_in (entries_in (kept s order [])) h) (entry_of (entries_in (kept s order [])) h)
  standing-live s order pages is h = by_node (entries_in (kept s order [])) h (live s h) (entry_of (entries_in (kept s order [])) h) (λ r e. is.linked h r e) (found-live s order h is.listed is.nodes)

  -- nothing stands at a handle of no frame
  pub no-entry : (es : List (Entry D)) (h : Handle) (o : Option FramePosition) → o ≡ None → o ≡ option_map (standing_in es h) (entry_of es h) → entry_of es h ≡ None
  no-entry es h o e q = none (entry_of es h) (sym q ∙ e)
    where
      none : (x : Option (Entry D)) → option_map (standing_in es h) x ≡ None → x ≡ None
      none None f = refl
      none (Some x) f = absurd (true≢false (ap is_some f))

  -- the frame that stands at the handle
  pub record StandsAt (es : List (Entry D)) (h : Handle) (here : FramePosition) : Type 0 where
    pub entry : Entry D
    pub found : entry_of es h ≡ Some entry
    pub is : here ≡ standing_in es h entry

  pub stands-at : (es : List (Entry D)) (h : Handle) (o : Option FramePosition) (here : FramePosition) → o ≡ Some here → o ≡ option_map (standing_in es h) (entry_of es h) → StandsAt es h here
  stands-at es h o here e q = by_entry (entry_of es h) refl (sym e ∙ q)
    where
      by_entry : (x : Option (Entry D)) → entry_of es h ≡ x → Some here ≡ option_map (standing_in es h) x → StandsAt es h here
      by_entry None f q = absurd (true≢false (ap is_some q))
      by_entry (Some x) f q = record { entry = x; found = f; is = some_same q }
