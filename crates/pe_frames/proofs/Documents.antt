-- The documents of the frames within a subtree.
use Rattle.std.proofs.Common.{◌≡◌, ℕ, true, ◌||◌, List, [], ◌∷◌, ◌++◌, map, Option, None, Some, is_some, refl, sym, ap, ◌∙◌, true≢false}
use Rattle.std.specs.Option.{option_map}
use Rattle.pe_arena.specs.declared.handle.Handle.{Handle}
use Rattle.pe_arena.specs.Slots.{Slots, live}
use Rattle.pe_frames.specs.declared.row.Row.{Row}
use Rattle.pe_frames.specs.declared.node.Node.{Node}
use Rattle.pe_frames.specs.Forest.{Entry, same_handle, has_handle, entry_of, node_in}
use Rattle.pe_frames.specs.Order.{in_tree_order, handles_under, docs_under}
use Rattle.pe_frames.specs.Neighbours.{doc_before, docs_at}
use Rattle.pe_frames.specs.Kept.{kept, entries_in, IsForest}
use Rattle.pe_frames.proofs.Nodes.{found-live}
use Rattle.pe_frames.proofs.Handles.{same_handle-Decides}
use Rattle.pe_frames.proofs.Tree.{Each}
use Rattle.pe_frames.proofs.Under.{tree-forest, frames-live}
use Rattle.std.proofs.Math.Bool.{or-true}
use Rattle.pe_frames.proofs.Lemmas.{some_same}

module _ {D : Type 0} where
  -- rows that stand as before show the documents that they showed
  pub docs-same : (a b : Slots (Row D)) (ks : List Handle) → ((k : Handle) → has_handle k ks ≡ true → live b k ≡ live a k) → docs_at b ks ≡ docs_at a ks
  docs-same a b [] same = refl
  docs-same a b (k ∷ ks) same =
      ap (λ o. doc_before o (docs_at b ks)) (same k (ap (λ t. t || has_handle k ks) ((same_handle-Decides k k).1 refl)))
      ∙ ap (doc_before (live a k)) (docs-same a b ks (λ j t. same j (ap (λ u. same_handle k j || u) t ∙ or-true (same_handle k j))))

  doc-shown : (o : Option (Row D)) (x : Entry D) (xs : List D) → option_map (λ r. r.node) o ≡ Some (node_in x) → doc_before o xs ≡ x.doc ∷ xs
  doc-shown None x xs e = absurd (true≢false (sym (ap is_some e)))
  doc-shown (Some r) x xs e = let same : r.node ≡ node_in x = some_same e in ap (λ (n : Node D). n.doc ∷ xs) same

  pub before-join : (o : Option (Row D)) (xs : List D) → doc_before o [] ++ xs ≡ doc_before o xs
  before-join None xs = refl
  before-join (Some r) xs = refl

  module _ (s : Slots (Row D)) (order : List Handle) (pages : ℕ) (is : IsForest s order pages) where
    docs-each : (fs : List (Entry D)) → Each (λ x. entry_of (entries_in (kept s order [])) x.handle ≡ Some x) fs → docs_at s (map (λ x. x.handle) fs) ≡ map (λ x. x.doc) fs
    docs-each [] each = refl
    docs-each (x ∷ fs) each =
        doc-shown (live s x.handle) x (docs_at s (map (λ y. y.handle) fs)) (found-live s order x.handle is.listed is.nodes ∙ ap (option_map node_in) each.0)
        ∙ ap (λ ds. x.doc ∷ ds) (docs-each fs each.1)

    -- the rows of the subtree show its documents in tree order
    pub docs-below : (h : Handle) → docs_at s (handles_under (entries_in (kept s order [])) h) ≡ docs_under (entries_in (kept s order [])) h
    docs-below h = docs-each (in_tree_order (entries_in (kept s order [])) h) (frames-live (entries_in (kept s order [])) (tree-forest s order pages is) h)
