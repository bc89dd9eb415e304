-- The nodes of an arena as the list of frames.
use Rattle.std.proofs.Common.{◌≡◌, inl, inr, ◌-◌, ◌^◌, Bool, true, false, cond, ◌||◌, List, [], ◌∷◌, Option, None, Some, IsSome, is_some, refl, sym, ap, ◌∙◌, arith, true≢false}
use Rattle.std.specs.Option.{option_map, option_and_then}
use Rattle.pe_arena.specs.declared.handle.Handle.{Handle}
use Rattle.pe_arena.specs.Slots.{Slots}
use Rattle.pe_frames.specs.declared.row.Row.{Row}
use Rattle.pe_frames.specs.declared.node.Node.{Node}
use Rattle.pe_frames.specs.Forest.{Entry, same_handle, has_handle, entry_of, node_in, node_of, parent_of, top_of}
use Rattle.pe_frames.specs.Kept.{Kept, joined, kept, shown, node_at, entry_in, entries_in, AreNodes, forest_in, IsForest, IsSwept}
use Rattle.pe_frames.proofs.Handles.{same_handle-Decides, same_or_other}

module _ {D : Type 0} where
  joined-other : (k h : Handle) (o : Option (Node D)) (xs : List (Kept D)) → same_handle k h ≡ false → node_at (joined k o xs) h ≡ node_at xs h
  joined-other k h None xs e = refl
  joined-other k h (Some n) xs e = ap (λ b. cond b (Some n) (node_at xs h)) e

  joined-same : (k h : Handle) (o : Option (Node D)) (n : Node D) (xs : List (Kept D)) → o ≡ Some n → same_handle k h ≡ true → node_at (joined k o xs) h ≡ Some n
  joined-same k h None n xs q e = cc
  joined-same k h (Some m) n xs q e = ap (λ b. cond b (Some m) (node_at xs h)) e ∙ q

  joined-none : (k h : Handle) (o : Option (Node D)) (xs : List (Kept D)) → (same_handle k h ≡ true → o ≡ None) → node_at xs h ≡ None → node_at (joined k o xs) h ≡ None
  joined-none k h None xs f e = e
  joined-none k h (Some m) xs f e = elim (same_or_other k h) as (λ _. cond (same_handle k h) (Some m) (node_at xs h) ≡ None) [
    | inl t ↦ let z = f t in cc
    | inr t ↦ ap (λ b. cond b (Some m) (node_at xs h)) t ∙ e
  ]

  module _ (s : Slots (Row D)) (h : Handle) where
    live_as : (k : Handle) → same_handle k h ≡ true → shown s k ≡ shown s h
    live_as k e = ap (shown s) ((same_handle-Decides k h).0 e)

    kept-keeps : (n : Node D) → shown s h ≡ Some n → (hs : List Handle) (xs : List (Kept D)) → node_at xs h ≡ Some n → node_at (kept s hs xs) h ≡ Some n
    unfolding kept
    kept-keeps n q [] xs e = e
    kept-keeps n q (k ∷ hs) xs e = kept-keeps n q hs (joined k (shown s k) xs) (elim (same_or_other k h) as (λ _. node_at (joined k (shown s k) xs) h ≡ Some n) [
      | inl t ↦ joined-same k h (shown s k) n xs (live_as k t ∙ q) t
      | inr t ↦ joined-other k h (shown s k) xs t ∙ e
    ])

    kept-found : (n : Node D) → shown s h ≡ Some n → (hs : List Handle) (xs : List (Kept D)) → has_handle h hs ≡ true → node_at (kept s hs xs) h ≡ Some n
    unfolding kept
    kept-found n q [] xs e = absurd (true≢false (sym e))
    kept-found n q (k ∷ hs) xs e = elim (same_or_other k h) as (λ _. node_at (kept s hs (joined k (shown s k) xs)) h ≡ Some n) [
      | inl t ↦ kept-keeps n q hs (joined k (shown s k) xs) (joined-same k h (shown s k) n xs (live_as k t ∙ q) t)
      | inr t ↦ kept-found n q hs (joined k (shown s k) xs) (ap (λ b. b || has_handle h hs) (sym t) ∙ e)
    ]

    kept-absent : shown s h ≡ None → (hs : List Handle) (xs : List (Kept D)) → node_at xs h ≡ None → node_at (kept s hs xs) h ≡ None
    unfolding kept
    kept-absent q [] xs e = e
    kept-absent q (k ∷ hs) xs e = kept-absent q hs (joined k (shown s k) xs) (joined-none k h (shown s k) xs (λ t. live_as k t ∙ q) e)

    -- where each live handle is listed, the kept nodes are the live ones
    pub kept-live : (hs : List Handle) → (IsSome (shown s h) → has_handle h hs ≡ true) → node_at (kept s hs []) h ≡ shown s h
    kept-live hs listed = (elim (shown s h) as (λ o. shown s h ≡ o → node_at (kept s hs []) h ≡ o) [
      | None ↦ λ q. kept-absent q hs [] refl
      | Some n ↦ λ q. kept-found n q hs [] (listed (ap is_some q))
    ]) refl

  -- what the list says of a frame is what its node says
  pub entries-nodes : (xs : List (Kept D)) (h : Handle) → AreNodes xs → node_of (entries_in xs) h ≡ node_at xs h
  entries-nodes [] h are = refl
  entries-nodes (x ∷ xs) h are = elim (same_or_other x.handle h) as (λ _. option_map node_in (cond (same_handle x.handle h) (Some (entry_in (entries_in xs) x)) (entry_of (entries_in xs) h)) ≡ cond (same_handle x.handle h) (Some x.node) (node_at xs h)) [
    | inl t ↦ ap (λ b. option_map node_in (cond b (Some (entry_in (entries_in xs) x)) (entry_of (entries_in xs) h))) t ∙ ap Some are.0 ∙ sym (ap (λ b. cond b (Some x.node) (node_at xs h)) t)
    | inr t ↦ ap (λ b. option_map node_in (cond b (Some (entry_in (entries_in xs) x)) (entry_of (entries_in xs) h))) t ∙ entries-nodes xs h are.1 ∙ sym (ap (λ b. cond b (Some x.node) (node_at xs h)) t)
  ]

  -- the live frame of a handle, by its node
  pub found-live : (s : Slots (Row D)) (order : List Handle) (h : Handle) → ((k : Handle) → IsSome (shown s k) → has_handle k order ≡ true) → AreNodes (kept s order []) → shown s h ≡ node_of (entries_in (kept s order [])) h
  found-live s order h listed are = sym (entries-nodes (kept s order []) h are ∙ kept-live s h order (listed h))

  -- what of a frame its node says
  pub node-parent : (o : Option (Entry D)) → option_and_then (λ n. n.parent) (option_map node_in o) ≡ option_and_then parent_of o
  node-parent None = refl
  node-parent (Some e) = refl

  pub node-top : (o : Option (Entry D)) → option_map (λ n. n.top) (option_map node_in o) ≡ option_map top_of o
  node-top None = refl
  node-top (Some e) = refl

  unlive : (b : Bool) (o : Option (Row D)) → o ≡ None → IsSome (option_map (λ r. r.node) (cond b o None)) → ⊥
  unlive true o e p = true≢false (sym p ∙ ap (λ x. is_some (option_map (λ r. r.node) x)) e)
  unlive false o e p = true≢false (sym p)

  -- no frame was made yet
  abbrev pub nothing : Slots (Row D)
  nothing = record { slots = []; limit = 2 ^ 32 - 1; first = 0; made = 0 }

  pub forest-none : forest_in nothing [] ≡ record { entries = []; marks = []; made = 0 }
  unfolding kept
  forest-none = refl

  pub IsForest-none : IsForest nothing [] 0
  unfolding kept
  IsForest-none = record {
    listed = λ h p. absurd (unlive _ None refl p);
    given = λ h p. absurd (true≢false (sym p));
    nodes = tt;
    apart = tt;
    sized = λ h r e. absurd (unlive _ None refl (ap is_some (ap (option_map (λ x. x.node)) e)));
    linked = λ h r e. absurd (unlive _ None refl (ap is_some (ap (option_map (λ x. x.node)) e)));
    shallow = λ h n e. absurd (unlive _ None refl (ap is_some e));
    paged = refl;
    few = omega arith;
    counted = omega arith;
    wide = refl;
    first = refl;
  }

  pub IsSwept-none : IsSwept nothing [] 0
  unfolding kept
  IsSwept-none = record { counted = omega arith; half = omega arith }
