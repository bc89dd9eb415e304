-- The way up from a frame to the root, and what stands behind the frame meanwhile.
use Rattle.std.proofs.Common.{◌≡◌, ◌<◌, Bool, true, false, not, ◌||◌, List, [], ◌∷◌, ◌++◌, length, length-append, append_assoc, Option, None, Some, IsSome, is_some, refl, sym, ap, subst, ◌∙◌, arith, true≢false}
use Rattle.std.specs.Prelude.{unwrap_or, IsSomeAnd, IsTrue}
use Rattle.std.specs.Option.{option_and_then, option_map}
use Rattle.pe_base.specs.declared.limits.TheConstants.{DEPTH_LIMIT}
use Rattle.pe_arena.specs.declared.handle.Handle.{Handle}
use Rattle.pe_frames.specs.declared.row.FramePosition.{FramePosition}
use Rattle.pe_frames.specs.Forest.{Entry, same_handle, has_handle, last_of, path, path_of, parent_of, entry_of, is_under}
use Rattle.pe_frames.specs.Order.{head_of, after, children, child_handles, handles_under, AreOnce}
use Rattle.pe_frames.specs.Neighbours.{before, siblings}
use Rattle.pe_frames.specs.Kept.{standing_in}
use Rattle.pe_frames.proofs.Handles.{has-append, same_handle-Decides, no_head, no_last}
use Rattle.std.proofs.lemmas.Bool.{false_from_ne_true}
use Rattle.pe_frames.proofs.Below.{entry-handle}
use Rattle.pe_frames.proofs.Children.{after-absent, first-child, later-child}
use Rattle.pe_frames.proofs.Standings.{StandsAt}
use Rattle.pe_frames.proofs.Tree.{IsParent, IsTree}
use Rattle.pe_frames.proofs.TreeOrder.{walk, walks, walk-is}
use Rattle.pe_frames.proofs.Subtrees.{IsUp, up-of, root-live, under-same, under-other}
use Rattle.pe_frames.proofs.Under.{IsUnder, handles-are, handles-live, handles-once, its-own}
use Rattle.pe_frames.proofs.Walking.{after-split, beyond, beyond-root, beyond-later, beyond-none, next-first, next-none}
use Rattle.std.proofs.Math.Bool.{or-true}
use Rattle.pe_frames.proofs.Lemmas.{some_same, no_value}

-- what a test of two handles says
pub differ : (r b : Bool) → r ≡ not b → r ≡ true → b ≡ false
differ r true q t = absurd (true≢false (sym t ∙ q))
differ r false q t = refl

pub agree : (r b : Bool) → r ≡ not b → r ≡ false → b ≡ true
agree r true q t = refl
agree r false q t = absurd (true≢false (sym q ∙ t))

module _ {D : Type 0} where
  -- the frame is live and is the root or below it
  abbrev pub IsWithin : List (Entry D) → Handle → Handle → Type 0
  IsWithin es root k = IsSomeAnd (entry_of es k) (λ e. IsTrue (is_under root e))

  -- what stands behind the frame and all below it, among the root and those below it
  abbrev pub past_of : List (Entry D) → Handle → Handle → Option Handle
  past_of es root k = after (unwrap_or (last_of (handles_under es k)) k) (handles_under es root)

  pub within-entry : (es : List (Entry D)) (root k : Handle) → IsWithin es root k → IsUnder es root k
  within-entry es root k w = by_entry (entry_of es k) refl w
    where
      by_entry : (o : Option (Entry D)) → entry_of es k ≡ o → IsSomeAnd o (λ e. IsTrue (is_under root e)) → IsUnder es root k
      by_entry None f v = absurd v
      by_entry (Some e) f v = record { entry = e; found = f; under = v }

  pub within-of : (es : List (Entry D)) (root k : Handle) → IsUnder es root k → IsWithin es root k
  within-of es root k u = subst (λ (o : Option (Entry D)). IsSomeAnd o (λ e. IsTrue (is_under root e))) (sym u.found) u.under

  -- the live root is within itself
  pub within-root : (es : List (Entry D)) (root k : Handle) → IsSome (entry_of es k) → k ≡ root → IsWithin es root k
  within-root es root k lives q = by_entry (entry_of es k) refl lives
    where
      by_entry : (o : Option (Entry D)) → entry_of es k ≡ o → IsSome o → IsSomeAnd o (λ e. IsTrue (is_under root e))
      by_entry None f l = absurd (true≢false (sym l))
      by_entry (Some e) f l = under-same root e ((same_handle-Decides e.handle root).1 (entry-handle es k e f ∙ q))

  -- a top frame that is not the root is not within it
  pub within-top : (es : List (Entry D)) (root k : Handle) → same_handle k root ≡ false → option_and_then parent_of (entry_of es k) ≡ None → IsWithin es root k → ⊥
  within-top es root k other q w =
      let u = within-entry es root k w in
      let none : last_of u.entry.above ≡ None = ap (option_and_then parent_of) (sym u.found) ∙ q in
      let other_too : same_handle u.entry.handle root ≡ false = ap (λ j. same_handle j root) (entry-handle es k u.entry u.found) ∙ other in
      true≢false (sym u.under ∙ under-other root u.entry other_too ∙ ap (has_handle root) (no_last u.entry.above none))

  -- what is within the root is live
  pub within-dead : (es : List (Entry D)) (root k : Handle) → IsWithin es root k → entry_of es k ≡ None → ⊥
  within-dead es root k w q = let u = within-entry es root k w in true≢false (sym (ap is_some u.found) ∙ ap is_some q)

  -- the parent of where a frame stands
  pub parent-stands : (es : List (Entry D)) (k : Handle) (here : FramePosition) → StandsAt es k here → option_and_then parent_of (entry_of es k) ≡ here.parent
  parent-stands es k here at = ap (option_and_then parent_of) at.found ∙ sym (ap (λ x. x.parent) at.is)

  -- a live frame and its parent
  pub record Steps (es : List (Entry D)) (k p : Handle) : Type 0 where
    pub entry : Entry D
    pub found : entry_of es k ≡ Some entry
    pub parent : parent_of entry ≡ Some p
    pub up : IsParent es p entry

  module _ (es : List (Entry D)) (tree : IsTree es DEPTH_LIMIT) where
    pub steps-of : (k p : Handle) → option_and_then parent_of (entry_of es k) ≡ Some p → Steps es k p
    steps-of k p q = by_entry (entry_of es k) refl q
      where
        by_entry : (o : Option (Entry D)) → entry_of es k ≡ o → option_and_then parent_of o ≡ Some p → Steps es k p
        by_entry None f r = absurd cc
        by_entry (Some e) f r = record { entry = e; found = f; parent = r; up = tree.parent p e (record { found = its-own es k e f; parent = r }) }

    -- the parent of a live frame is live
    pub parent-lives : (k p : Handle) → option_and_then parent_of (entry_of es k) ≡ Some p → IsSome (entry_of es p)
    parent-lives k p q = let s = steps-of k p q in ap is_some s.up.found

    -- the way from the parent is shorter
    pub parent-shorter : (k p : Handle) → option_and_then parent_of (entry_of es k) ≡ Some p → length (path_of es p) < length (path_of es k)
    parent-shorter k p q =
        let s = steps-of k p q in
        let here = ap (λ o. length (unwrap_or (option_map path o) [])) s.found in
        let there = ap (λ o. length (unwrap_or (option_map path o) [])) s.up.found in
        let above = ap length s.up.above in
        let more = length-append s.entry.above (s.entry.handle ∷ []) in
        omega (arith, here, there, above, more)

    under-both : (root k p : Handle) → same_handle k root ≡ false → (s : Steps es k p) → is_under root s.entry ≡ is_under root s.up.entry
    under-both root k p other s = under-other root s.entry (ap (λ j. same_handle j root) (entry-handle es k s.entry s.found) ∙ other) ∙ ap (has_handle root) s.up.above

    -- a frame that is not the root is within it where its parent is
    pub within-up : (root k p : Handle) → same_handle k root ≡ false → option_and_then parent_of (entry_of es k) ≡ Some p → IsWithin es root k → IsWithin es root p
    within-up root k p other q w =
        let s = steps-of k p q in
        let u = within-entry es root k w in
        let same : u.entry ≡ s.entry = some_same (sym u.found ∙ s.found) in
        within-of es root p (record { entry = s.up.entry; found = s.up.found; under = sym (under-both root k p other s) ∙ ap (is_under root) (sym same) ∙ u.under })

    pub within-down : (root k p : Handle) → same_handle k root ≡ false → option_and_then parent_of (entry_of es k) ≡ Some p → IsWithin es root p → IsWithin es root k
    within-down root k p other q w =
        let s = steps-of k p q in
        let u = within-entry es root p w in
        let same : u.entry ≡ s.up.entry = some_same (sym u.found ∙ s.up.found) in
        within-of es root k (record { entry = s.entry; found = s.found; under = under-both root k p other s ∙ ap (is_under root) (sym same) ∙ u.under })

    -- nothing stands behind a frame that is not within the root
    pub after-outside : (root k : Handle) → (IsWithin es root k → ⊥) → after k (handles_under es root) ≡ None
    after-outside root k never = after-absent k (handles_under es root) (false_from_ne_true (has_handle k (handles_under es root)) (λ t. never (within-of es root k (handles-live es tree root k t))))

    -- the frames of a root and of what is within it
    record Within (root k : Handle) : Type 0 where
      top : Entry D
      own : entry_of es top.handle ≡ Some top
      named : top.handle ≡ root
      under : IsUnder es top.handle k
      whole : handles_under es root ≡ walk DEPTH_LIMIT es top

    within : (root k : Handle) → IsWithin es root k → Within root k
    within root k w =
        let u = within-entry es root k w in
        let at = root-live es DEPTH_LIMIT tree root u.entry (its-own es k u.entry u.found) u.under in
        let named = entry-handle es root at.entry at.found in
        record {
          top = at.entry;
          own = its-own es root at.entry at.found;
          named = named;
          under = subst (λ j. IsUnder es j k) (sym named) u;
          whole = handles-are es root at.entry at.found;
        }

    -- what is past a frame is beyond its entry
    past-is : (root k : Handle) (top e : Entry D) → handles_under es root ≡ walk DEPTH_LIMIT es top → entry_of es k ≡ Some e → past_of es root k ≡ beyond DEPTH_LIMIT es top e
    past-is root k top e whole f =
        ap (after (unwrap_or (last_of (handles_under es k)) k)) whole
        ∙ ap (λ ks. after (unwrap_or (last_of ks) k) (walk DEPTH_LIMIT es top)) (handles-are es k e f)
        ∙ ap (λ j. after (unwrap_or (last_of (walk DEPTH_LIMIT es e)) j) (walk DEPTH_LIMIT es top)) (sym (entry-handle es k e f))

    -- nothing is past the root
    pub past-root : (root k : Handle) → IsWithin es root k → k ≡ root → past_of es root k ≡ None
    past-root root k w q =
        let i = within root k w in
        let same : i.under.entry ≡ i.top = some_same (sym i.under.found ∙ ap (entry_of es) (q ∙ sym i.named) ∙ i.own) in
        past-is root k i.top i.under.entry i.whole i.under.found ∙ ap (beyond DEPTH_LIMIT es i.top) same ∙ beyond-root es DEPTH_LIMIT tree DEPTH_LIMIT (omega arith) i.top i.own

    -- the later sibling in the links of a child
    links-later : (k p : Handle) (e : Entry D) → parent_of e ≡ Some p → (standing_in es k e).links.later ≡ after k (child_handles es p)
    links-later k p e q = ap (λ o. before k (siblings es o)) q ∙ sym (later-child es p k (tree.single p))

    -- the way up from where a frame stands
    record Rises (root k : Handle) (here : FramePosition) : Type 0 where
      top : Entry D
      own : entry_of es top.handle ≡ Some top
      whole : handles_under es root ≡ walk DEPTH_LIMIT es top
      entry : Entry D
      found : entry_of es k ≡ Some entry
      up : IsUp es top.handle entry
      parent : here.parent ≡ Some up.entry.handle
      later : here.links.later ≡ after entry.handle (child_handles es up.entry.handle)

    rises : (root k : Handle) (here : FramePosition) → IsWithin es root k → same_handle k root ≡ false → StandsAt es k here → Rises root k here
    rises root k here w other at =
        let i = within root k w in
        let same : at.entry ≡ i.under.entry = some_same (sym at.found ∙ i.under.found) in
        let handle = entry-handle es k i.under.entry i.under.found in
        let up = up-of es DEPTH_LIMIT tree i.top.handle i.under.entry (its-own es k i.under.entry i.under.found) i.under.under (ap (λ j. same_handle j i.top.handle) handle ∙ ap (same_handle k) i.named ∙ other) in
        let is : here ≡ standing_in es k i.under.entry = at.is ∙ ap (standing_in es k) same in
        record {
          top = i.top;
          own = i.own;
          whole = i.whole;
          entry = i.under.entry;
          found = i.under.found;
          up = up;
          parent = ap (λ x. x.parent) is ∙ up.parent;
          later = ap (λ x. x.links.later) is ∙ links-later k up.entry.handle i.under.entry up.parent ∙ ap (λ j. after j (child_handles es up.entry.handle)) (sym handle);
        }

    -- the later sibling is past the frame
    pub past-later : (root k : Handle) (here : FramePosition) → IsWithin es root k → same_handle k root ≡ false → StandsAt es k here → is_some here.links.later ≡ true → here.links.later ≡ past_of es root k
    past-later root k here w other at some = by_later here.links.later refl some
      where
        by_later : (o : Option Handle) → here.links.later ≡ o → is_some o ≡ true → o ≡ past_of es root k
        by_later None q t = absurd (true≢false (sym t))
        by_later (Some c) q t =
            let r = rises root k here w other at in
            sym (past-is root k r.top r.entry r.whole r.found ∙ beyond-later es DEPTH_LIMIT tree DEPTH_LIMIT (omega arith) r.top r.own r.entry (its-own es k r.entry r.found) r.up c (sym r.later ∙ q))

    -- where there is none, what is past its parent
    pub past-none : (root k p : Handle) (here : FramePosition) → IsWithin es root k → same_handle k root ≡ false → StandsAt es k here → is_some here.links.later ≡ false → here.parent ≡ Some p → past_of es root p ≡ past_of es root k
    past-none root k p here w other at none q =
        let r = rises root k here w other at in
        let named : r.up.entry.handle ≡ p = some_same (sym r.parent ∙ q) in
        past-is root p r.top r.up.entry r.whole (ap (entry_of es) (sym named) ∙ r.up.found)
        ∙ sym (beyond-none es DEPTH_LIMIT tree DEPTH_LIMIT (omega arith) r.top r.own r.entry (its-own es k r.entry r.found) r.up (sym r.later ∙ no_value here.links.later none))
        ∙ sym (past-is root k r.top r.entry r.whole r.found)

    -- the first child stands behind the frame
    pub follows-first : (root k : Handle) (here : FramePosition) → IsWithin es root k → StandsAt es k here → is_some here.links.first ≡ true → here.links.first ≡ after k (handles_under es root)
    follows-first root k here w at some = by_first here.links.first refl some
      where
        by_first : (o : Option Handle) → here.links.first ≡ o → is_some o ≡ true → o ≡ after k (handles_under es root)
        by_first None q t = absurd (true≢false (sym t))
        by_first (Some c) q t =
            let i = within root k w in
            let handle = entry-handle es k i.under.entry i.under.found in
            let first : head_of (child_handles es i.under.entry.handle) ≡ Some c = ap (λ j. head_of (child_handles es j)) handle ∙ first-child es k ∙ sym (ap (λ x. x.links.first) at.is) ∙ q in
            sym (ap (after k) i.whole ∙ ap (λ j. after j (walk DEPTH_LIMIT es i.top)) (sym handle)
            ∙ next-first es DEPTH_LIMIT tree DEPTH_LIMIT (omega arith) i.top i.own i.under.entry (its-own es k i.under.entry i.under.found) i.under.under c first)

    -- where there is none, what is past the frame
    pub follows-past : (root k : Handle) (here : FramePosition) → IsWithin es root k → StandsAt es k here → is_some here.links.first ≡ false → (answer : Option Handle) → answer ≡ past_of es root k → answer ≡ after k (handles_under es root)
    follows-past root k here w at none answer p =
        let i = within root k w in
        let handle = entry-handle es k i.under.entry i.under.found in
        let first : head_of (child_handles es i.under.entry.handle) ≡ None = ap (λ j. head_of (child_handles es j)) handle ∙ first-child es k ∙ sym (ap (λ x. x.links.first) at.is) ∙ no_value here.links.first none in
        p
        ∙ past-is root k i.top i.under.entry i.whole i.under.found
        ∙ next-none es DEPTH_LIMIT tree DEPTH_LIMIT (omega arith) i.top i.own i.under.entry (its-own es k i.under.entry i.under.found) first
        ∙ ap (λ j. after j (walk DEPTH_LIMIT es i.top)) handle
        ∙ sym (ap (after k) i.whole)

  -- the handles that were listed so far begin those of the root and what is below it, and this one is their last
  pub record IsListed (es : List (Entry D)) (root at : Handle) (below : List Handle) : Type 0 where
    pub front : List Handle
    pub back : List Handle
    pub listed : root ∷ below ≡ front ++ at ∷ []
    pub is : handles_under es root ≡ front ++ at ∷ back

  module _ (es : List (Entry D)) (tree : IsTree es DEPTH_LIMIT) (root : Handle) where
    -- the root is the first
    pub listed-root : IsSome (entry_of es root) → IsListed es root root []
    listed-root lives = by_entry (entry_of es root) refl lives
      where
        by_entry : (o : Option (Entry D)) → entry_of es root ≡ o → IsSome o → IsListed es root root []
        by_entry None f l = absurd (true≢false (sym l))
        by_entry (Some e) f l = record {
          front = [];
          back = walks DEPTH_LIMIT es (children es e.handle);
          listed = refl;
          is = handles-are es root e f ∙ walk-is es DEPTH_LIMIT tree DEPTH_LIMIT (omega arith) e (its-own es root e f) ∙ ap (λ k. k ∷ walks DEPTH_LIMIT es (children es e.handle)) (entry-handle es root e f);
        }

    module _ (at : Handle) (below : List Handle) (so_far : IsListed es root at below) where
      -- the last of the listed is one of them
      pub listed-here : has_handle at (handles_under es root) ≡ true
      listed-here =
          ap (has_handle at) so_far.is
          ∙ has-append at so_far.front (at ∷ so_far.back)
          ∙ ap (λ b. has_handle at so_far.front || (b || has_handle at so_far.back)) ((same_handle-Decides at at).1 refl)
          ∙ or-true (has_handle at so_far.front)

      behind-listed : after at (handles_under es root) ≡ head_of so_far.back
      behind-listed = ap (after at) so_far.is ∙ after-split so_far.front at so_far.back (subst AreOnce so_far.is (handles-once es tree root))

      -- what stands behind it is listed next
      pub listed-next : (answer : Option Handle) (next : Handle) → answer ≡ after at (handles_under es root) → answer ≡ Some next → IsListed es root next (below ++ next ∷ [])
      listed-next answer next p q = by_back so_far.back refl (sym behind-listed ∙ sym p ∙ q)
        where
          by_back : (ks : List Handle) → so_far.back ≡ ks → head_of ks ≡ Some next → IsListed es root next (below ++ next ∷ [])
          by_back [] e t = absurd cc
          by_back (k ∷ ks) e t = record {
            front = so_far.front ++ at ∷ [];
            back = ks;
            listed = ap (λ js. js ++ next ∷ []) so_far.listed;
            is = so_far.is ∙ ap (λ js. so_far.front ++ at ∷ js) e ∙ ap (λ j. so_far.front ++ at ∷ (j ∷ ks)) (some_same t) ∙ sym (append_assoc so_far.front (at ∷ []) (next ∷ ks));
          }

      -- where nothing stands behind it, all are listed
      pub listed-all : (answer : Option Handle) → answer ≡ after at (handles_under es root) → answer ≡ None → root ∷ below ≡ handles_under es root
      listed-all answer p q = so_far.listed ∙ ap (λ ks. so_far.front ++ at ∷ ks) (sym (no_head so_far.back (sym behind-listed ∙ sym p ∙ q))) ∙ sym so_far.is
