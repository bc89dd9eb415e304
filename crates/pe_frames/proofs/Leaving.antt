-- The rows and the pages, once the frames of some handles left.
use Rattle.std.proofs.Common.{◌≡◌, ℕ, ◌+◌, ◌-◌, ◌≤◌, Bool, true, false, cond, ◌||◌, ◌&&◌, List, [], ◌∷◌, length, Option, None, Some, IsSome, is_some, refl, sym, ap, subst, ◌∙◌, arith, true≢false}
use Rattle.std.specs.Prelude.{filter, not}
use Rattle.std.specs.Option.{option_map}
use Rattle.pe_arena.specs.declared.handle.Handle.{Handle}
use Rattle.pe_arena.specs.Slots.{Slots, live}
use Rattle.pe_frames.specs.declared.row.Row.{Row}
use Rattle.pe_frames.specs.declared.node.Node.{Node}
use Rattle.pe_frames.specs.Forest.{Entry, same_handle, has_handle, entry_of, parent_of, top_of, is_top, page_size, page_count}
use Rattle.pe_frames.specs.Order.{is_named, AreOnce}
use Rattle.pe_frames.specs.Neighbours.{SameMarks}
use Rattle.pe_frames.specs.Kept.{kept, shown, entries_in, IsSized, IsForest}
use Rattle.pe_frames.proofs.Handles.{same_handle-Decides}
use Rattle.pe_frames.proofs.Cuts.{IsCut, count-less, length-entries, length-cut, Sweeps-none}
use Rattle.pe_frames.proofs.Lemmas.{not_not, some_same, all-pass}
use Rattle.std.proofs.Math.Bool.{and-false}

module _ {D : Type 0} where
  -- the rows of some handles are gone, and each other row was changed, but for its node
  pub record Changes (s t : Slots (Row D)) (gone : Handle → Bool) (change : Handle → Row D → Row D) : Type 0 where
    pub rows : (k : Handle) → live t k ≡ option_map (change k) (cond (gone k) None (live s k))
    pub keeps : (k : Handle) (r : Row D) → (change k r).node ≡ r.node
    pub same : SameMarks s t

  -- the row that stood at the handle before, and stays
  pub record Stayed (s : Slots (Row D)) (gone : Handle → Bool) (change : Handle → Row D → Row D) (k : Handle) (x : Row D) : Type 0 where
    pub row : Row D
    pub found : live s k ≡ Some row
    pub here : gone k ≡ false
    pub is : change k row ≡ x

  pub stayed : (s t : Slots (Row D)) (gone : Handle → Bool) (change : Handle → Row D → Row D) → Changes s t gone change → (k : Handle) (x : Row D) → live t k ≡ Some x → Stayed s gone change k x
  stayed s t gone change changes k x f = by_row (gone k) (live s k) refl refl (sym (changes.rows k) ∙ f)
    where
      by_row : (b : Bool) (o : Option (Row D)) → gone k ≡ b → live s k ≡ o → option_map (change k) (cond b None o) ≡ Some x → Stayed s gone change k x
      by_row true o g q e = absurd (true≢false (sym (ap is_some e)))
      by_row false None g q e = absurd (true≢false (sym (ap is_some e)))
      by_row false (Some r) g q e = record { row = r; found = q; here = g; is = some_same e }

  pub nodes-changed : (s t : Slots (Row D)) (gone : Handle → Bool) (change : Handle → Row D → Row D) → Changes s t gone change → (k : Handle) → shown t k ≡ cond (gone k) None (shown s k)
  nodes-changed s t gone change changes k = ap (option_map (λ r. r.node)) (changes.rows k) ∙ by_row (gone k) (live s k)
    where
      by_row : (b : Bool) (o : Option (Row D)) → option_map (λ r. r.node) (option_map (change k) (cond b None o)) ≡ cond b None (option_map (λ r. r.node) o)
      by_row true o = refl
      by_row false None = refl
      by_row false (Some r) = ap Some (changes.keeps k r)

  -- these frames leave
  pub record Leaves (s : Slots (Row D)) (order : List Handle) (ks : List Handle) (stays : Entry D → Bool) (top : Handle) : Type 0 where
    pub once : AreOnce ks
    pub alive : (k : Handle) → has_handle k ks ≡ true → IsSome (entry_of (entries_in (kept s order [])) k)
    pub agree : (x : Entry D) → entry_of (entries_in (kept s order [])) x.handle ≡ Some x → stays x ≡ not (has_handle x.handle ks)
    pub rooted : (k : Handle) (x : Entry D) (p : Handle) → entry_of (entries_in (kept s order [])) k ≡ Some x → parent_of x ≡ Some p → has_handle k ks ≡ false → has_handle p ks ≡ false
    pub page : (x : Entry D) → entry_of (entries_in (kept s order [])) x.handle ≡ Some x → has_handle x.handle ks ≡ true → top_of x ≡ top

  module _ (s : Slots (Row D)) (order : List Handle) (pages : ℕ) (is : IsForest s order pages) (ks : List Handle) (stays : Entry D → Bool) (top : Handle) (leaves : Leaves s order ks stays top) where
    -- their page is so much smaller
    pub page-less : page_size (entries_in (kept s order [])) top ≡ page_size (filter stays (entries_in (kept s order []))) top + length ks
    page-less = count-less (kept s order []) is.nodes is.apart (λ (x : Entry D). same_handle (top_of x) top) stays ks leaves.once leaves.alive
        (λ x f. ap (λ b. same_handle (top_of x) top && not b) (leaves.agree x f) ∙ by_test x (has_handle x.handle ks) (λ t. leaves.page x f t))
      where
        by_test : (x : Entry D) (b : Bool) → (b ≡ true → top_of x ≡ top) → (same_handle (top_of x) top && not (not b)) ≡ b
        by_test x true q = ap (λ c. c && true) ((same_handle-Decides (top_of x) top).1 (q refl))
        by_test x false q = and-false (same_handle (top_of x) top)

    -- and each other page is as it was
    pub page-other : (k : Handle) → same_handle top k ≡ false → page_size (entries_in (kept s order [])) k ≡ page_size (filter stays (entries_in (kept s order []))) k
    page-other k other =
        let same = count-less (kept s order []) is.nodes is.apart (λ (x : Entry D). same_handle (top_of x) k) stays [] tt (λ j t. absurd (true≢false (sym t)))
        (λ x f. ap (λ b. same_handle (top_of x) k && not b) (leaves.agree x f) ∙ by_test x (has_handle x.handle ks) (λ t. leaves.page x f t)) in
        omega (arith, same)
      where
        by_test : (x : Entry D) (b : Bool) → (b ≡ true → top_of x ≡ top) → (same_handle (top_of x) k && not (not b)) ≡ false
        by_test x true q = ap (λ c. c && true) (ap (λ j. same_handle j k) (q refl) ∙ other)
        by_test x false q = and-false (same_handle (top_of x) k)

    -- the frames are so many fewer
    all-less : length (entries_in (kept s order [])) ≡ length (filter stays (entries_in (kept s order []))) + length ks
    all-less =
        let less = count-less (kept s order []) is.nodes is.apart (λ x. true) stays ks leaves.once leaves.alive (λ x f. ap not (leaves.agree x f) ∙ not_not (has_handle x.handle ks)) in
        let old = all-pass (entries_in (kept s order [])) in
        let new = all-pass (filter stays (entries_in (kept s order []))) in
        omega (arith, less, old, new)

    -- where no top frame leaves, the pages are as many as before
    pub pages-same : ((x : Entry D) → entry_of (entries_in (kept s order [])) x.handle ≡ Some x → has_handle x.handle ks ≡ true → is_top x ≡ false) → page_count (entries_in (kept s order [])) ≡ page_count (filter stays (entries_in (kept s order [])))
    pages-same low =
        let same = count-less (kept s order []) is.nodes is.apart is_top stays [] tt (λ j t. absurd (true≢false (sym t)))
        (λ x f. ap (λ b. is_top x && not b) (leaves.agree x f) ∙ by_test x (has_handle x.handle ks) (λ t. low x f t)) in
        omega (arith, same)
      where
        by_test : (x : Entry D) (b : Bool) → (b ≡ true → is_top x ≡ false) → (is_top x && not (not b)) ≡ false
        by_test x true q = ap (λ c. c && true) (q refl)
        by_test x false q = and-false (is_top x)

    -- where the one of this handle leaves, there is one page less
    pub pages-one : (h : Handle) → IsSome (entry_of (entries_in (kept s order [])) h) → ((x : Entry D) → entry_of (entries_in (kept s order [])) x.handle ≡ Some x → (is_top x && has_handle x.handle ks) ≡ same_handle h x.handle) → page_count (entries_in (kept s order [])) ≡ page_count (filter stays (entries_in (kept s order []))) + 1
    pages-one h some low = count-less (kept s order []) is.nodes is.apart is_top stays (h ∷ []) (refl, tt)
        (λ j t. subst (λ k. IsSome (entry_of (entries_in (kept s order [])) k)) ((same_handle-Decides h j).0 (or_none (same_handle h j) t)) some)
        (λ x f. ap (λ b. is_top x && not b) (leaves.agree x f) ∙ ap (λ b. is_top x && b) (not_not (has_handle x.handle ks)) ∙ low x f ∙ none_or (same_handle h x.handle))
      where
        or_none : (b : Bool) → (b || false) ≡ true → b ≡ true
        or_none true t = t
        or_none false t = t

        none_or : (b : Bool) → b ≡ (b || false)
        none_or true = refl
        none_or false = refl

    module _ (t : Slots (Row D)) (change : Handle → Row D → Row D) (changes : Changes s t (λ k. has_handle k ks) change) where
      pub IsCut-left : IsCut s t order (λ k. has_handle k ks) stays
      IsCut-left = record {
        nodes = nodes-changed s t (λ k. has_handle k ks) change changes;
        agree = leaves.agree;
        rooted = leaves.rooted;
        same = changes.same;
      }

      -- the rows that are kept are so many fewer
      pub length-left : length (kept s order []) ≡ length (kept t order []) + length ks
      length-left =
          let old = length-entries (kept s order []) in
          let new = length-cut s t order pages is (λ k. has_handle k ks) stays IsCut-left order (Sweeps-none t order) in
          omega (arith, old, new, all-less)

      -- the sizes of pages
      pub sized-left : (page : Option Handle) → ((k : Handle) (r : Row D) → (change k r).size ≡ cond (is_named page k) (r.size - length ks) r.size) → ((k : Handle) → has_handle k ks ≡ false → is_named page k ≡ same_handle top k)
          → (k : Handle) (x : Row D) → live t k ≡ Some x → x.node.parent ≡ None → IsSized (filter stays (entries_in (kept s order []))) k x
      sized-left page sizes named k x f bare =
          let was = stayed s t (λ j. has_handle j ks) change changes k x f in
          let before = is.sized k was.row was.found (ap (λ (n : Node D). n.parent) (sym (changes.keeps k was.row) ∙ ap (λ (r : Row D). r.node) was.is) ∙ bare) in
          let size = sym (ap (λ (r : Row D). r.size) was.is) ∙ sizes k was.row ∙ ap (λ b. cond b (was.row.size - length ks) was.row.size) (named k was.here) in
          by_page was.row.size before.size before.within (same_handle top k) refl size
        where
          by_page : (n : ℕ) → n ≡ page_size (entries_in (kept s order [])) k → n ≤ 256 → (b : Bool) → same_handle top k ≡ b → x.size ≡ cond b (n - length ks) n → IsSized (filter stays (entries_in (kept s order []))) k x
          by_page n is within true u size =
              let top_is = (same_handle-Decides top k).0 u in
              let less = subst (λ j. page_size (entries_in (kept s order [])) j ≡ page_size (filter stays (entries_in (kept s order []))) j + length ks) top_is page-less in
              record { size = omega (arith, is, size, less); within = omega (arith, within, size) }
          by_page n is within false u size =
              let same = page-other k u in
              record { size = size ∙ is ∙ same; within = omega (arith, within, size) }
