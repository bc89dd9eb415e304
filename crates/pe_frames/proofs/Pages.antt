-- Top frames, and how many frames their pages have.
use Rattle.std.proofs.Common.{◌≡◌, inl, inr, ◌+◌, Bool, true, false, cond, List, [], ◌∷◌, length, Option, None, Some, IsSome, is_some, refl, sym, ap, subst, ◌∙◌, arith, true≢false}
use Rattle.std.specs.Prelude.{filter, unwrap_or}
use Rattle.std.specs.Option.{option_map}
use Rattle.pe_arena.specs.declared.handle.Handle.{Handle}
use Rattle.pe_frames.specs.declared.node.Node.{Node}
use Rattle.pe_frames.specs.Forest.{Entry, path, same_handle, entry_of, node_in, top_of, first_of, page_size}
use Rattle.pe_frames.specs.Kept.{Kept, node_at, above_in, entry_in, entries_in, AreNodes, AreApart}
use Rattle.pe_frames.proofs.Nodes.{entries-nodes}
use Rattle.pe_frames.proofs.Handles.{same_handle-Decides, same_or_other, first-push}
use Rattle.std.proofs.lemmas.Bool.{false_from_ne_true}
use Rattle.pe_frames.proofs.Lemmas.{some_same}

module _ {D : Type 0} where
  -- the handle names a top frame
  pub record HasTop (es : List (Entry D)) (k : Handle) : Type 0 where
    pub top : Entry D
    pub found : entry_of es k ≡ Some top
    pub bare : top.above ≡ []

  -- a frame that another embeds, or a top frame
  pub data Above (es : List (Entry D)) (ks : List Handle) : Type 0 where
    nothing : ks ≡ [] → Above es ks
    below : (p : Handle) (a : Entry D) → entry_of es p ≡ Some a → ks ≡ path a → Above es ks

  pub above-of : (es : List (Entry D)) (p : Option Handle) → Above es (above_in es p)
  above-of es None = nothing refl
  above-of es (Some p) = (elim (entry_of es p) as (λ o. entry_of es p ≡ o → Above es (unwrap_or (option_map path o) [])) [
    | None ↦ λ e. nothing refl
    | Some a ↦ λ e. below p a e refl
  ]) refl

  no_entry : (o : Option (Entry D)) → option_map node_in o ≡ None → o ≡ None
  no_entry None e = refl
  no_entry (Some e) f = absurd (true≢false (ap is_some f))

  -- a handle that is not kept names no frame
  pub entry-absent : (xs : List (Kept D)) (h : Handle) → AreNodes xs → node_at xs h ≡ None → entry_of (entries_in xs) h ≡ None
  entry-absent xs h are e = no_entry (entry_of (entries_in xs) h) (entries-nodes xs h are ∙ e)

  found_or_not : (es : List (Entry D)) (k : Handle) (t : Entry D) → entry_of es k ≡ Some t → entry_of es k ≡ None → ⊥
  found_or_not es k t e f = true≢false (sym (ap is_some e) ∙ ap is_some f)

  -- a frame keeps its place behind a newer one
  lift : (x : Kept D) (xs : List (Kept D)) (k : Handle) → AreNodes xs → node_at xs x.handle ≡ None → HasTop (entries_in xs) k → HasTop (entries_in (x ∷ xs)) k
  lift x xs k are none has = record {
    top = has.top;
    found = elim (same_or_other x.handle k) as (λ _. cond (same_handle x.handle k) (Some (entry_in (entries_in xs) x)) (entry_of (entries_in xs) k) ≡ Some has.top) [
      | inl s ↦ absurd (found_or_not (entries_in xs) k has.top has.found (ap (entry_of (entries_in xs)) (sym ((same_handle-Decides x.handle k).0 s)) ∙ entry-absent xs x.handle are none))
      | inr s ↦ ap (λ b. cond b (Some (entry_in (entries_in xs) x)) (entry_of (entries_in xs) k)) s ∙ has.found
    ];
    bare = has.bare;
  }

  -- the top frame of a live frame is live
  pub top-found : (xs : List (Kept D)) → AreNodes xs → AreApart xs → (h : Handle) (e : Entry D) → entry_of (entries_in xs) h ≡ Some e → HasTop (entries_in xs) (top_of e)
  top-found [] are apart h e f = absurd cc
  top-found (x ∷ xs) are apart h e f = elim (same_or_other x.handle h) as (λ _. HasTop (entries_in (x ∷ xs)) (top_of e)) [
    | inl s ↦
        let same : entry_in (entries_in xs) x ≡ e = some_same (sym (ap (λ b. cond b (Some (entry_in (entries_in xs) x)) (entry_of (entries_in xs) h)) s) ∙ f) in
        subst (λ (y : Entry D). HasTop (entries_in (x ∷ xs)) (top_of y)) same (of_first (λ p a g. top-found xs are.1 apart.1 p a g) (above-of (entries_in xs) x.node.parent))
    | inr s ↦ lift x xs (top_of e) are.1 apart.0 (top-found xs are.1 apart.1 h e (sym (ap (λ b. cond b (Some (entry_in (entries_in xs) x)) (entry_of (entries_in xs) h)) s) ∙ f))
  ]
    where
      of_first : ((p : Handle) (a : Entry D) → entry_of (entries_in xs) p ≡ Some a → HasTop (entries_in xs) (top_of a)) → Above (entries_in xs) (above_in (entries_in xs) x.node.parent) → HasTop (entries_in (x ∷ xs)) (top_of (entry_in (entries_in xs) x))
      of_first older (nothing e) =
          subst (λ ks. HasTop (entries_in (x ∷ xs)) (first_of ks x.handle)) (sym e) (record {
            top = entry_in (entries_in xs) x;
            found = ap (λ b. cond b (Some (entry_in (entries_in xs) x)) (entry_of (entries_in xs) x.handle)) ((same_handle-Decides x.handle x.handle).1 refl);
            bare = e;
          })
      of_first older (below p a f e) =
          subst (λ ks. HasTop (entries_in (x ∷ xs)) (first_of ks x.handle)) (sym e)
          (subst (λ k. HasTop (entries_in (x ∷ xs)) k) (sym (first-push a.above a.handle x.handle))
          (lift x xs (top_of a) are.1 apart.0 (older p a f)))

  -- a new frame makes its page one larger
  pub page-more : (e : Entry D) (es : List (Entry D)) (k : Handle) → top_of e ≡ k → page_size (e ∷ es) k ≡ page_size es k + 1
  page-more e es k q =
      let t = (same_handle-Decides (top_of e) k).1 q in
      ap (λ b. length (cond b (e ∷ filter (λ y. same_handle (top_of y) k) es) (filter (λ y. same_handle (top_of y) k) es))) t ∙ omega arith

  -- and leaves the others
  pub page-same : (e : Entry D) (es : List (Entry D)) (k : Handle) → same_handle (top_of e) k ≡ false → page_size (e ∷ es) k ≡ page_size es k
  page-same e es k t = ap (λ b. length (cond b (e ∷ filter (λ y. same_handle (top_of y) k) es) (filter (λ y. same_handle (top_of y) k) es))) t

  pub node_absent : (b : Bool) (o rest : Option (Node D)) → IsSome o → cond b o rest ≡ None → (b ≡ false) × (rest ≡ None)
  node_absent true o rest p e = absurd (true≢false (sym p ∙ ap is_some e))
  node_absent false o rest p e = (refl, e)

  -- a handle that is not kept names no page
  pub page-empty : (xs : List (Kept D)) → AreNodes xs → AreApart xs → (h : Handle) → node_at xs h ≡ None → page_size (entries_in xs) h ≡ 0
  page-empty [] are apart h e = refl
  page-empty (x ∷ xs) are apart h e =
      let parts = node_absent (same_handle x.handle h) (Some x.node) (node_at xs h) refl e in
      page-same (entry_in (entries_in xs) x) (entries_in xs) h (other parts.0 parts.1 (above-of (entries_in xs) x.node.parent)) ∙ page-empty xs are.1 apart.1 h parts.1
    where
      other : same_handle x.handle h ≡ false → node_at xs h ≡ None → Above (entries_in xs) (above_in (entries_in xs) x.node.parent) → same_handle (top_of (entry_in (entries_in xs) x)) h ≡ false
      other n none (nothing q) = ap (λ ks. same_handle (first_of ks x.handle) h) q ∙ n
      other n none (below p a f q) =
          ap (λ ks. same_handle (first_of ks x.handle) h) q
          ∙ ap (λ k. same_handle k h) (first-push a.above a.handle x.handle)
          ∙ false_from_ne_true (same_handle (top_of a) h) (λ t.
          let has = top-found xs are.1 apart.1 p a f in
          found_or_not (entries_in xs) (top_of a) has.top has.found (ap (entry_of (entries_in xs)) ((same_handle-Decides (top_of a) h).0 t) ∙ entry-absent xs h are.1 none))
