-- What is so of every tree of frames.
use Rattle.std.proofs.Common.{◌≡◌, ◌⊎◌, inl, inr, ℕ, ◌≤◌, Bool, true, false, cond, List, [], ◌∷◌, map, Option, None, Some, IsSome, is_some, refl, sym, ap, subst, ◌∙◌, arith, true≢false}
use Rattle.std.specs.Prelude.{◌↔◌, IsTrue, IsSomeAnd}
use Rattle.std.specs.Option.{option_map}
use Rattle.pe_base.specs.declared.limits.TheConstants.{DEPTH_LIMIT}
use Rattle.pe_arena.specs.declared.handle.Handle.{Handle}
use Rattle.pe_arena.specs.Slots.{Slots}
use Rattle.pe_frames.specs.declared.row.Row.{Row}
use Rattle.pe_frames.specs.Forest.{Entry, Forest, has_handle, same_handle, path, depth_of, entry_of, node_in, is_under, AreFrames, AreGiven}
use Rattle.pe_frames.specs.Order.{in_tree_order, handles_under, docs_under, AreOnce}
use Rattle.pe_frames.specs.Kept.{Kept, kept, above_in, entry_in, entries_in, AreNodes, AreApart, forest_in, IsForest}
use Rattle.pe_frames.proofs.Nodes.{found-live}
use Rattle.pe_frames.proofs.Handles.{same_or_other}
use Rattle.pe_frames.proofs.Pages.{Above, above-of, nothing, below, entry-absent}
use Rattle.pe_frames.proofs.Opened.{mark-seen}
use Rattle.pe_frames.proofs.Tree.{Each, IsTree, stays, newest}
use Rattle.pe_frames.proofs.Subtrees.{under-other}
use Rattle.pe_frames.proofs.Under.{tree-forest, handles-live, handles-all, handles-once, frames-live}
use Rattle.pe_frames.proofs.Lemmas.{some_same, node_some}

module _ {D : Type 0} where
  -- each kept frame was new before those behind it
  pub are-frames : (xs : List (Kept D)) → AreNodes xs → AreApart xs → ((e : Entry D) → entry_of (entries_in xs) e.handle ≡ Some e → depth_of e ≤ DEPTH_LIMIT) → AreFrames (entries_in xs)
  are-frames [] are apart shallow = tt
  are-frames (x ∷ xs) are apart shallow = (
    record {
      new = entry-absent xs x.handle are.1 apart.0;
      below = by_above (above-of (entries_in xs) x.node.parent);
      shallow = shallow (entry_in (entries_in xs) x) (newest x xs);
    },
    are-frames xs are.1 apart.1 (λ e f. shallow e (stays x xs are.1 apart.0 e.handle e f)),
  )
    where
      by_above : Above (entries_in xs) (above_in (entries_in xs) x.node.parent) → (above_in (entries_in xs) x.node.parent ≡ []) ⊎ ((p : Handle) × IsSomeAnd (entry_of (entries_in xs) p) (λ a. above_in (entries_in xs) x.node.parent ≡ path a))
      by_above (nothing n) = inl n
      by_above (below p a f n) = inr (p, subst (λ o. IsSomeAnd o (λ (y : Entry D). above_in (entries_in xs) x.node.parent ≡ path y)) (sym f) n)

  -- a frame that is live among these is so among more
  still : (e : Entry D) (b : Bool) (o : Option (Entry D)) → IsSome o → IsSome (cond b (Some e) o)
  still e true o p = refl
  still e false o p = p

  -- a frame is below live ones alone
  pub root-live : (es : List (Entry D)) → AreFrames es → (root k : Handle) (x : Entry D) → entry_of es k ≡ Some x → is_under root x ≡ true → IsSome (entry_of es root)
  root-live [] are root k x f under = absurd cc
  root-live (e ∷ es) are root k x f under = elim (same_or_other e.handle k) as (λ _. IsSome (entry_of (e ∷ es) root)) [
    | inl t ↦
        let same : e ≡ x = some_same (sym (ap (λ b. cond b (Some e) (entry_of es k)) t) ∙ f) in
        elim (same_or_other e.handle root) as (λ _. IsSome (entry_of (e ∷ es) root)) [
          | inl s ↦ ap (λ b. is_some (cond b (Some e) (entry_of es root))) s
          | inr s ↦ still e (same_handle e.handle root) (entry_of es root) (by_above (λ p a g u. root-live es are.1 root p a g u) are.0.below (sym (under-other root e s) ∙ ap (λ (y : Entry D). is_under root y) same ∙ under))
        ]
    | inr t ↦ still e (same_handle e.handle root) (entry_of es root) (root-live es are.1 root k x (sym (ap (λ b. cond b (Some e) (entry_of es k)) t) ∙ f) under)
  ]
    where
      by_above : ((p : Handle) (a : Entry D) → entry_of es p ≡ Some a → is_under root a ≡ true → IsSome (entry_of es root))
          → (e.above ≡ []) ⊎ ((p : Handle) × IsSomeAnd (entry_of es p) (λ a. e.above ≡ path a)) → has_handle root e.above ≡ true → IsSome (entry_of es root)
      by_above older (inl n) u = absurd (true≢false (sym u ∙ ap (has_handle root) n))
      by_above older (inr q) u = by_entry (entry_of es q.0) refl q.1
        where
          by_entry : (o : Option (Entry D)) → entry_of es q.0 ≡ o → IsSomeAnd o (λ a. e.above ≡ path a) → IsSome (entry_of es root)
          by_entry None g n = absurd n
          by_entry (Some a) g n = older q.0 a g (ap (has_handle root) (sym n) ∙ u)

  -- the handles below a frame are those of the live frames at or below it
  pub under-live : (es : List (Entry D)) → IsTree es DEPTH_LIMIT → AreFrames es → (root k : Handle) → IsTrue (has_handle k (handles_under es root)) ↔ IsSomeAnd (entry_of es k) (λ e. IsTrue (is_under root e))
  under-live es tree are root k = (
    λ t. let u = handles-live es tree root k t in subst (λ o. IsSomeAnd o (λ (e : Entry D). IsTrue (is_under root e))) (sym u.found) u.under,
    λ w. by_entry (entry_of es k) refl w,
  )
    where
      by_root : (x : Entry D) → entry_of es k ≡ Some x → is_under root x ≡ true → (o : Option (Entry D)) → entry_of es root ≡ o → IsSome o → has_handle k (handles_under es root) ≡ true
      by_root x f under None g some = absurd (true≢false (sym some))
      by_root x f under (Some e) g some = handles-all es tree root k e x g f under

      by_entry : (o : Option (Entry D)) → entry_of es k ≡ o → IsSomeAnd o (λ e. IsTrue (is_under root e)) → has_handle k (handles_under es root) ≡ true
      by_entry None f w = absurd w
      by_entry (Some x) f w = by_root x f w (entry_of es root) refl (root-live es are root k x f w)

  -- live frames have the documents that their handles name
  docs-live : (es xs : List (Entry D)) → Each (λ x. entry_of es x.handle ≡ Some x) xs → map (λ d. Some d) (map (λ (x : Entry D). x.doc) xs) ≡ map (λ k. option_map (λ (e : Entry D). e.doc) (entry_of es k)) (map (λ (x : Entry D). x.handle) xs)
  docs-live es [] live = refl
  docs-live es (x ∷ xs) live =
      ap (λ o. o ∷ map (λ d. Some d) (map (λ (y : Entry D). y.doc) xs)) (sym (ap (option_map (λ (e : Entry D). e.doc)) live.0))
      ∙ ap (λ os. option_map (λ (e : Entry D). e.doc) (entry_of es x.handle) ∷ os) (docs-live es xs live.1)

  -- what a caller sees
  pub record Laws (f : Forest D) : Type 0 where
    pub frames : AreFrames f.entries
    pub given : AreGiven f
    pub under : (root : Handle) (k : Handle) → IsTrue (has_handle k (handles_under f.entries root)) ↔ IsSomeAnd (entry_of f.entries k) (λ e. IsTrue (is_under root e))
    pub documents : (root : Handle) → map (λ d. Some d) (docs_under f.entries root) ≡ map (λ k. option_map (λ e. e.doc) (entry_of f.entries k)) (handles_under f.entries root)
    pub once : (root : Handle) → AreOnce (handles_under f.entries root)

  module _ (s : Slots (Row D)) (order : List Handle) (pages : ℕ) (is : IsForest s order pages) where
    frames-forest : AreFrames (entries_in (kept s order []))
    frames-forest = are-frames (kept s order []) is.nodes is.apart (λ e f. is.shallow e.handle (node_in e) (found-live s order e.handle is.listed is.nodes ∙ ap (option_map node_in) f))

    given-forest : AreGiven (forest_in s order)
    given-forest h live =
        let given = is.given h (is.listed h (ap is_some (found-live s order h is.listed is.nodes) ∙ node_some (entry_of (entries_in (kept s order [])) h) live)) in
        let seen = mark-seen order s h.slot is.first in
        omega (arith, given, seen)

    pub laws-forest : (f : Forest D) → forest_in s order ≡ f → Laws f
    laws-forest f q = subst Laws q (record {
      frames = frames-forest;
      given = given-forest;
      under = under-live (entries_in (kept s order [])) (tree-forest s order pages is) frames-forest;
      documents = λ root. docs-live (entries_in (kept s order [])) (in_tree_order (entries_in (kept s order [])) root) (frames-live (entries_in (kept s order [])) (tree-forest s order pages is) root);
      once = handles-once (entries_in (kept s order [])) (tree-forest s order pages is);
    })
