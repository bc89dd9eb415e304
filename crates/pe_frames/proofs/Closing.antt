-- A frame that is closed, as the code has it.
use Rattle.std.proofs.Common.{◌≡◌, ℕ, ◌+◌, ◌≤◌, false, cond, List, [], ◌∷◌, ◌++◌, length, Option, None, Some, IsSome, is_none, sym, ap, subst, ◌∙◌, ◌||◌, arith, true≢false}
use Rattle.std.specs.Prelude.{IfSome}
use Rattle.std.specs.Option.{option_map}
use Rattle.pe_arena.specs.declared.handle.Handle.{Handle}
use Rattle.pe_arena.specs.Slots.{Slots, live}
use Rattle.pe_frames.specs.declared.row.Row.{Row}
use Rattle.pe_frames.specs.declared.row.FramePosition.{FramePosition}
use Rattle.pe_frames.specs.Forest.{Forest, Entry, same_handle, has_handle, entry_of, IsDead, StayDead}
use Rattle.pe_frames.specs.Order.{handles_under, docs_under, closed, AreOnce}
use Rattle.pe_frames.specs.Neighbours.{changed_at, unlinked, with_fewer_frames, docs_at, Rewrites, Removes}
use Rattle.pe_frames.specs.Kept.{kept, entries_in, standing_in, Sweeps, IsSwept, forest_in, IsForest}
use Rattle.pe_frames.proofs.Handles.{same_handle-Decides}
use Rattle.std.proofs.lemmas.Bool.{false_from_ne_true}
use Rattle.pe_frames.proofs.Standings.{stands-at}
use Rattle.pe_frames.proofs.Under.{tree-forest, handles-once}
use Rattle.pe_frames.proofs.Closed.{page_left, few-go, pages-gone, earlier-lives, later-lives, parent-lives, page-lives, page-large, IsForest-closed, entries-closed, StayDead-closed, IsDead-closed, length-closed}
use Rattle.pe_frames.proofs.Documents.{docs-same, docs-below, before-join}

module _ {D : Type 0} where
  -- the live frame stands here, and these are the handles of those below it
  pub record LeavesAt (s : Slots (Row D)) (order : List Handle) (h : Handle) (here : FramePosition) (below : List Handle) : Type 0 where
    pub entry : Entry D
    pub found : entry_of (entries_in (kept s order [])) h ≡ Some entry
    pub here_is : here ≡ standing_in (entries_in (kept s order [])) h entry
    pub all : h ∷ below ≡ handles_under (entries_in (kept s order [])) h

  pub leaves-at : (s : Slots (Row D)) (order : List Handle) (f : Forest D) → forest_in s order ≡ f → (h : Handle) (o : Option FramePosition) (here : FramePosition) → o ≡ Some here → o ≡ option_map (standing_in f.entries h) (entry_of f.entries h)
      → (below listed : List Handle) → h ∷ listed ≡ handles_under f.entries h → below ≡ listed → LeavesAt s order h here below
  leaves-at s order f view h o here some value below listed all same =
      let es = entries_in (kept s order []) in
      let at = stands-at es h o here some (subst (λ (g : Forest D). o ≡ option_map (standing_in g.entries h) (entry_of g.entries h)) (sym view) value) in
      record {
        entry = at.entry;
        found = at.found;
        here_is = at.is;
        all = ap (λ ks. h ∷ ks) same ∙ all ∙ ap (λ (g : Forest D). handles_under g.entries h) (sym view);
      }

  module _ (s : Slots (Row D)) (order : List Handle) (pages : ℕ) (is : IsForest s order pages) (h : Handle) (here : FramePosition) (below : List Handle) (leaves : LeavesAt s order h here below) where
    once-all : AreOnce (h ∷ below)
    once-all = subst AreOnce (sym leaves.all) (handles-once (entries_in (kept s order [])) (tree-forest s order pages is) h)

    pub once-left : AreOnce below
    once-left = once-all.1

    pub root-once : has_handle h below ≡ false
    root-once = once-all.0

    pub few-left : length below + 1 ≤ 256
    few-left =
        let few = few-go s order pages is h leaves.entry leaves.found in
        let n = ap length leaves.all in
        omega (arith, few, n)

    pub pages-left : cond (is_none here.parent) 1 0 ≤ pages
    pages-left =
        let gone = pages-gone s order pages is h leaves.entry leaves.found in
        let paged = is.paged in
        let same = ap {B = ℕ} (λ (x : FramePosition). cond (is_none x.parent) 1 0) leaves.here_is in
        omega (arith, gone, paged, same)

    module _ (one two : Slots (Row D)) (taken : Removes s one (h ∷ [])) (emptied : Removes one two below) where
      pub earlier-left : IfSome here.links.earlier (λ k. IsSome (live two k))
      earlier-left = subst (λ (x : FramePosition). IfSome x.links.earlier (λ k. IsSome (live two k))) (sym leaves.here_is) (earlier-lives s order pages is h leaves.entry leaves.found below leaves.all one two taken emptied)

      pub later-left : IfSome here.links.later (λ k. IsSome (live two k))
      later-left = subst (λ (x : FramePosition). IfSome x.links.later (λ k. IsSome (live two k))) (sym leaves.here_is) (later-lives s order pages is h leaves.entry leaves.found below leaves.all one two taken emptied)

      pub parent-left : IfSome here.parent (λ k. IsSome (live two k))
      parent-left = subst (λ (x : FramePosition). IfSome x.parent (λ k. IsSome (live two k))) (sym leaves.here_is) (parent-lives s order pages is h leaves.entry leaves.found below leaves.all one two taken emptied)

      -- the documents of all, in tree order
      pub docs-left : docs_at s (h ∷ []) ++ docs_at one below ≡ docs_under (entries_in (kept s order [])) h
      docs-left =
          ap (λ ds. docs_at s (h ∷ []) ++ ds) (docs-same s one below (λ k t. taken.rows k ∙ ap (λ b. cond (b || false) None (live s k)) (false_from_ne_true (same_handle h k) (λ q. true≢false (sym t ∙ ap (λ j. has_handle j below) (sym ((same_handle-Decides h k).0 q)) ∙ root-once)))))
          ∙ before-join (live s h) (docs_at s below)
          ∙ ap (docs_at s) leaves.all
          ∙ docs-below s order pages is h

      module _ (three : Slots (Row D)) (mended : Rewrites two three (unlinked here.links here.parent)) (page : Option Handle) (left : page ≡ cond (is_none here.parent) None (Some here.top)) (n : ℕ) (many : n ≡ length below + 1) where
        mended-so : Rewrites two three (unlinked (standing_in (entries_in (kept s order [])) h leaves.entry).links (standing_in (entries_in (kept s order [])) h leaves.entry).parent)
        mended-so = subst (λ (x : FramePosition). Rewrites two three (unlinked x.links x.parent)) leaves.here_is mended

        page-so : page ≡ cond (is_none (standing_in (entries_in (kept s order [])) h leaves.entry).parent) None (Some (standing_in (entries_in (kept s order [])) h leaves.entry).top)
        page-so = left ∙ ap (λ (x : FramePosition). cond (is_none x.parent) None (Some x.top)) leaves.here_is

        many-so : n ≡ length (handles_under (entries_in (kept s order [])) h)
        many-so = let m = ap length leaves.all in omega (arith, many, m)

        pub page-left_lives : IfSome page (λ k. IsSome (live three k))
        page-left_lives = subst (λ o. IfSome o (λ k. IsSome (live three k))) (sym page-so) (page-lives s order pages is h leaves.entry leaves.found below leaves.all one two taken emptied three mended-so)

        pub page-left_large : IfSome page (λ k. IfSome (live three k) (λ r. n ≤ r.size))
        page-left_large = subst (λ o. IfSome o (λ k. IfSome (live three k) (λ r. n ≤ r.size))) (sym page-so)
            (subst (λ m. IfSome (page_left leaves.entry) (λ k. IfSome (live three k) (λ r. m ≤ r.size))) (sym many-so)
            (page-large s order pages is h leaves.entry leaves.found below leaves.all one two taken emptied three mended-so))

        module _ (t : Slots (Row D)) (shrunk : Rewrites three t (changed_at page (with_fewer_frames n))) where
          shrunk-so : Rewrites three t (changed_at (page_left leaves.entry) (with_fewer_frames (length (handles_under (entries_in (kept s order [])) h))))
          shrunk-so = subst (λ m. Rewrites three t (changed_at (page_left leaves.entry) (with_fewer_frames m))) many-so (subst (λ o. Rewrites three t (changed_at o (with_fewer_frames n))) page-so shrunk)

          -- the dead handles, before the list is swept
          pub dead-left : (dead : ℕ) → IsSwept s order dead → length order ≡ length (kept t order []) + (dead + n)
          dead-left dead was =
              let counted = was.counted in
              let fewer = length-closed s order pages is h leaves.entry leaves.found below leaves.all one two taken emptied three mended-so t shrunk-so in
              let m = many-so in
              omega (arith, counted, fewer, m)

          module _ (swept : List Handle) (sweeps : Sweeps t order swept) where
            pub IsForest-left : (count : ℕ) → count + cond (is_none here.parent) 1 0 ≡ pages → IsForest t swept count
            IsForest-left count less = IsForest-closed s order pages is h leaves.entry leaves.found below leaves.all one two taken emptied three mended-so t shrunk-so swept sweeps count
                (ap (λ (x : FramePosition). count + cond (is_none x.parent) 1 0) (sym leaves.here_is) ∙ less)

            pub entries-left : (forest_in t swept).entries ≡ closed h (forest_in s order).entries
            entries-left = entries-closed s order pages is h leaves.entry leaves.found below leaves.all one two taken emptied three mended-so t shrunk-so swept sweeps

            pub StayDead-left : StayDead (forest_in s order) (forest_in t swept)
            StayDead-left = StayDead-closed s order pages is h leaves.entry leaves.found below leaves.all one two taken emptied three mended-so t shrunk-so swept sweeps

            pub IsDead-left : (k : Handle) → IsSome (entry_of (forest_in s order).entries k) → entry_of (forest_in t swept).entries k ≡ None → IsDead (forest_in t swept) k
            IsDead-left = IsDead-closed s order pages is h leaves.entry leaves.found below leaves.all one two taken emptied three mended-so t shrunk-so swept sweeps
