-- Parents and children that live.
use Rattle.std.proofs.Common.{◌≡◌, ◌≢◌, Bool, true, false, cond, List, [], ◌∷◌, Option, None, Some, is_some, refl, sym, ap, ◌∙◌, true≢false}
use Rattle.std.specs.Option.{option_map}
use Rattle.pe_arena.specs.declared.handle.Handle.{Handle}
use Rattle.pe_frames.specs.Forest.{Entry, same_handle, has_handle, last_of, parent_of, entry_of, node_in}
use Rattle.pe_frames.specs.Order.{is_named, head_of, after, is_child, child_handles, next_child_of, AreOnce}
use Rattle.pe_frames.specs.Neighbours.{before, children_newest_first, siblings}
use Rattle.pe_frames.specs.Kept.{Kept, node_at, above_in, entry_in, entries_in, AreNodes, AreApart, standing_in}
use Rattle.pe_frames.proofs.Nodes.{entries-nodes}
use Rattle.pe_frames.proofs.Handles.{same_handle-Decides, last-push}
use Rattle.pe_frames.proofs.Pages.{Above, above-of, nothing, below, entry-absent, node_absent}
use Rattle.std.proofs.lemmas.Bool.{false_from_ne_true}
use Rattle.pe_frames.proofs.Below.{entry-handle}
use Rattle.pe_frames.proofs.Children.{born, first-child, later-child, later-none}
use Rattle.pe_frames.proofs.Lemmas.{some_same}

module _ {D : Type 0} where
  absent_node : (o : Option (Entry D)) → o ≡ None → option_map node_in o ≡ None
  absent_node None e = refl
  absent_node (Some x) e = absurd (true≢false (ap is_some e))

  -- a handle of no frame has no kept node
  pub node-absent : (xs : List (Kept D)) → AreNodes xs → (k : Handle) → entry_of (entries_in xs) k ≡ None → node_at xs k ≡ None
  node-absent xs are k e = sym (entries-nodes xs k are) ∙ absent_node (entry_of (entries_in xs) k) e

  -- a handle that is not kept is no child
  pub child-absent : (xs : List (Kept D)) → AreNodes xs → AreApart xs → (p k : Handle) → node_at xs k ≡ None → has_handle k (children_newest_first (entries_in xs) p) ≡ false
  child-absent xs are apart p k e = false_from_ne_true (has_handle k (children_newest_first (entries_in xs) p)) (λ t.
      let b = born xs p k are apart t in
      true≢false (sym (ap is_some b.found) ∙ ap is_some e))

  -- nothing is a child twice
  pub children-once : (xs : List (Kept D)) → AreNodes xs → AreApart xs → (p : Handle) → AreOnce (children_newest_first (entries_in xs) p)
  children-once [] are apart p = tt
  children-once (x ∷ xs) are apart p = by_test (is_child p (entry_in (entries_in xs) x)) (children-once xs are.1 apart.1 p)
    where
      by_test : (b : Bool) → AreOnce (children_newest_first (entries_in xs) p) → AreOnce (cond b (x.handle ∷ children_newest_first (entries_in xs) p) (children_newest_first (entries_in xs) p))
      by_test true rest = (child-absent xs are.1 apart.1 p x.handle apart.0, rest)
      by_test false rest = rest

  found_or_not : (o : Option (Entry D)) (t : Entry D) → o ≡ Some t → o ≡ None → ⊥
  found_or_not o t e f = true≢false (sym (ap is_some e) ∙ ap is_some f)

  -- a handle that is not kept has no child
  pub childless : (xs : List (Kept D)) → AreNodes xs → AreApart xs → (p : Handle) → node_at xs p ≡ None → children_newest_first (entries_in xs) p ≡ []
  childless [] are apart p e = refl
  childless (x ∷ xs) are apart p e =
      let parts = node_absent (same_handle x.handle p) (Some x.node) (node_at xs p) refl e in
      ap (λ b. cond b (x.handle ∷ children_newest_first (entries_in xs) p) (children_newest_first (entries_in xs) p)) (other parts.1 (above-of (entries_in xs) x.node.parent))
      ∙ childless xs are.1 apart.1 p parts.1
    where
      other : node_at xs p ≡ None → Above (entries_in xs) (above_in (entries_in xs) x.node.parent) → is_named (last_of (above_in (entries_in xs) x.node.parent)) p ≡ false
      other none (nothing q) = ap (λ ks. is_named (last_of ks) p) q
      other none (below j a f q) =
          ap (λ ks. is_named (last_of ks) p) q
          ∙ ap (λ o. is_named o p) (last-push a.above a.handle)
          ∙ false_from_ne_true (same_handle a.handle p) (λ t.
          found_or_not (entry_of (entries_in xs) j) a f
          (ap (entry_of (entries_in xs)) (sym (entry-handle (entries_in xs) j a f) ∙ (same_handle-Decides a.handle p).0 t) ∙ entry-absent xs p are.1 none))

  module _ (xs : List (Kept D)) (are : AreNodes xs) (apart : AreApart xs) (p : Handle) where
    -- the first child stands in the links of the parent
    pub child-first : (e : Entry D) → (standing_in (entries_in xs) p e).links.first ≡ head_of (child_handles (entries_in xs) p)
    child-first e = sym (first-child (entries_in xs) p)

    -- a dead parent has no child
    pub parent-dead : entry_of (entries_in xs) p ≡ None → (o : Option Handle) → next_child_of (entries_in xs) p o ≡ None
    parent-dead e None = first-child (entries_in xs) p ∙ ap last_of (childless xs are apart p (node-absent xs are p e))
    parent-dead e (Some k) = later-none (entries_in xs) p k (ap (has_handle k) (childless xs are apart p (node-absent xs are p e)))

    -- nothing stands behind a dead handle
    pub child-dead : (k : Handle) → entry_of (entries_in xs) k ≡ None → after k (child_handles (entries_in xs) p) ≡ None
    child-dead k e = later-none (entries_in xs) p k (child-absent xs are apart p k (node-absent xs are k e))

    -- nor behind the child of another
    pub child-other : (k : Handle) (e : Entry D) → entry_of (entries_in xs) k ≡ Some e → parent_of e ≢ Some p → after k (child_handles (entries_in xs) p) ≡ None
    child-other k e f ne = later-none (entries_in xs) p k (false_from_ne_true (has_handle k (children_newest_first (entries_in xs) p)) (λ t.
        let b = born xs p k are apart t in
        let same : node_in e ≡ b.node = some_same (sym (ap (option_map node_in) f) ∙ entries-nodes xs k are ∙ b.found) in
        ne (ap (λ n. n.parent) same ∙ b.parent)))

    -- the later sibling stands in the links of the child
    pub child-later : (k : Handle) (e : Entry D) → parent_of e ≡ Some p → (standing_in (entries_in xs) k e).links.later ≡ after k (child_handles (entries_in xs) p)
    child-later k e f = ap (λ o. before k (siblings (entries_in xs) o)) f ∙ sym (later-child (entries_in xs) p k (children-once xs are apart p))
