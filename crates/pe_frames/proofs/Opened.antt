-- The list of frames, through the making of a frame.
use Rattle.std.proofs.Common.{◌≡◌, ◌≢◌, inl, inr, ℕ, ◌+◌, ◌<◌, ◌≤◌, true, false, cond, ◌||◌, List, [], ◌∷◌, ◌++◌, map, length, length-append, get_or, Option, None, Some, IsSome, is_some, refl, sym, ap, subst, ◌∙◌, arith, true≢false}
use Rattle.std.proofs.Math.ListN.{get_or-map}
use Rattle.pe_arena.specs.declared.handle.Handle.{Handle}
use Rattle.pe_arena.specs.Slots.{Slot, Slots, live, mark, holding, IsGiven, Updates}
use Rattle.std.specs.Option.{option_map}
use Rattle.pe_frames.specs.declared.row.Row.{Row}
use Rattle.pe_frames.specs.declared.node.Node.{Node}
use Rattle.pe_frames.specs.Forest.{Entry, top_of, same_handle, has_handle, entry_of, node_in, mark_of, page_count, Gives, StayDead}
use Rattle.pe_frames.specs.Kept.{Kept, joined, kept, entry_in, entries_in, shown, node_at, AreNodes, AreApart, IsSized, HasLinks, forest_in, IsForest, IsSwept}
use Rattle.pe_frames.specs.Neighbours.{Rewrites}
use Rattle.pe_frames.proofs.Writes.{different, mark-kept, slots-kept}
use Rattle.pe_frames.proofs.Pages.{entry-absent, page-empty, page-more, page-same}
use Rattle.pe_frames.proofs.Nodes.{kept-live}
use Rattle.pe_frames.proofs.Handles.{has-push, same_handle-Decides, same_or_other}
use Rattle.std.proofs.lemmas.Bool.{false_from_ne_true, or_cases, or_parts}
use Rattle.std.proofs.Math.Bool.{or-true}
use Rattle.pe_frames.proofs.Lemmas.{some_same}

module _ {D : Type 0} where
  -- handles that name what they did keep what they kept
  kept-same : (s t : Slots (Row D)) (h : Handle) → ((k : Handle) → k ≢ h → shown t k ≡ shown s k) → (hs : List Handle) (xs : List (Kept D)) → has_handle h hs ≡ false → kept t hs xs ≡ kept s hs xs
  unfolding kept
  kept-same s t h same [] xs e = refl
  kept-same s t h same (k ∷ hs) xs e =
      let parts = or_parts (same_handle k h) (has_handle h hs) e in
      ap (λ o. kept t hs (joined k o xs)) (same k (different k h parts.0)) ∙ kept-same s t h same hs (joined k (shown s k) xs) parts.1

  -- the handle that is listed last stands first
  kept-push : (s : Slots (Row D)) (h : Handle) (hs : List Handle) (xs : List (Kept D)) → kept s (hs ++ h ∷ []) xs ≡ joined h (shown s h) (kept s hs xs)
  unfolding kept
  kept-push s h [] xs = refl
  kept-push s h (k ∷ hs) xs = kept-push s h hs (joined k (shown s k) xs)

  -- contracts see the mark of each slot
  pub mark-seen : (order : List Handle) (x : Slots (Row D)) (j : ℕ) → x.first ≡ 0 → mark_of (forest_in x order) j ≡ mark x j
  mark-seen order x j e =
      ap (λ f. get_or (map (λ (y : Slot (Row D)). y.mark) x.slots) j f) (sym e)
      ∙ get_or-map (λ (y : Slot (Row D)). y.mark) x.slots j (record { mark = x.first; value = None })

  -- a frame was made: its handle is new and has this node, and all other nodes are as before
  pub record Makes (s t : Slots (Row D)) (h : Handle) (m : Node D) : Type 0 where
    pub fresh : h.generation ≡ mark s h.slot
    pub unseen : shown s h ≡ None
    pub here : shown t h ≡ Some m
    pub there : (k : Handle) → k ≢ h → shown t k ≡ shown s k
    pub marks : (j : ℕ) → mark s j ≤ mark t j
    pub given : mark t h.slot ≡ h.generation + 1
    pub others : (j : ℕ) → j ≢ h.slot → mark t j ≡ mark s j
    pub counted : length t.slots + s.made ≤ length s.slots + t.made
    pub made : t.made ≡ s.made + 1
    pub limit : t.limit ≡ s.limit
    pub first : t.first ≡ s.first

  module _ (s t : Slots (Row D)) (h : Handle) (m : Node D) (makes : Makes s t h m) (order : List Handle) (pages : ℕ) (is : IsForest s order pages) where
    unlisted : has_handle h order ≡ false
    unlisted = false_from_ne_true (has_handle h order) (λ e. let lt = is.given h e in let g = makes.fresh in absurd (omega arith))

    -- the kept frames, the new one the first
    kept-made : kept t (order ++ h ∷ []) [] ≡ record { handle = h; node = m } ∷ kept s order []
    kept-made = kept-push t h order [] ∙ ap (λ o. joined h o (kept t order [])) makes.here ∙ ap (λ (xs : List (Kept D)). record { handle = h; node = m } ∷ xs) (kept-same s t h makes.there order [] unlisted)

    pub entries-made : (forest_in t (order ++ h ∷ [])).entries ≡ entry_in (entries_in (kept s order [])) (record { handle = h; node = m }) ∷ entries_in (kept s order [])
    entries-made = ap entries_in kept-made

    listed-made : (k : Handle) → IsSome (shown t k) → has_handle k (order ++ h ∷ []) ≡ true
    listed-made k p = has-push k h order ∙ elim (same_or_other h k) as (λ _. (has_handle k order || same_handle h k) ≡ true) [
      | inl e ↦ ap (λ b. has_handle k order || b) e ∙ or-true (has_handle k order)
      | inr e ↦ ap (λ b. b || same_handle h k) (is.listed k (subst IsSome (makes.there k (λ q. different h k e (sym q))) p))
    ]

    given-made : (k : Handle) → has_handle k (order ++ h ∷ []) ≡ true → k.generation < mark t k.slot
    given-made k e = elim (or_cases (has_handle k order) (same_handle h k) (sym (has-push k h order) ∙ e)) as (λ _. k.generation < mark t k.slot) [
      | inl a ↦ let l = is.given k a in let m = makes.marks k.slot in omega arith
      | inr b ↦ subst (λ (x : Handle). x.generation < mark t x.slot) ((same_handle-Decides h k).0 b) (let g = makes.given in omega arith)
    ]

    unkept : node_at (kept s order []) h ≡ None
    unkept = kept-live s h order (is.listed h) ∙ makes.unseen

    shallow-made : m.depth ≤ 64 → (k : Handle) (n : Node D) → shown t k ≡ Some n → n.depth ≤ 64
    shallow-made deep k n e = elim (same_or_other h k) as (λ _. n.depth ≤ 64) [
      | inl q ↦ let same : m ≡ n = some_same (sym makes.here ∙ ap (shown t) ((same_handle-Decides h k).0 q) ∙ e) in subst (λ (x : Node D). x.depth ≤ 64) same deep
      | inr q ↦ is.shallow k n (sym (makes.there k (λ f. different h k q (sym f))) ∙ e)
    ]

    pub IsForest-made : (count : ℕ) → node_in (entry_in (entries_in (kept s order [])) (record { handle = h; node = m })) ≡ m → m.depth ≤ 64 → count ≤ 64
        → count ≡ page_count (entry_in (entries_in (kept s order [])) (record { handle = h; node = m }) ∷ entries_in (kept s order []))
        → ((k : Handle) (r : Row D) → live t k ≡ Some r → r.node.parent ≡ None → IsSized (entry_in (entries_in (kept s order [])) (record { handle = h; node = m }) ∷ entries_in (kept s order [])) k r)
        → ((k : Handle) (r : Row D) → live t k ≡ Some r → HasLinks (entry_in (entries_in (kept s order [])) (record { handle = h; node = m }) ∷ entries_in (kept s order [])) k r)
        → IsForest t (order ++ h ∷ []) count
    IsForest-made count node deep few paged sized linked = record {
      listed = listed-made;
      given = given-made;
      nodes = subst AreNodes (sym kept-made) (node, is.nodes);
      apart = subst AreApart (sym kept-made) (unkept, is.apart);
      sized = λ k r e p. subst (λ es. IsSized es k r) (sym entries-made) (sized k r e p);
      linked = λ k r e. subst (λ es. HasLinks es k r) (sym entries-made) (linked k r e);
      shallow = shallow-made deep;
      paged = paged ∙ ap page_count (sym entries-made);
      few = few;
      counted = (let a = is.counted in let b = makes.counted in omega arith);
      wide = makes.limit ∙ is.wide;
      first = makes.first ∙ is.first;
    }

    -- its handle is listed
    pub IsSwept-made : (dead : ℕ) → IsSwept s order dead → IsSwept t (order ++ h ∷ []) dead
    IsSwept-made dead swept =
        let long = length-append order (h ∷ []) in
        let more = ap length kept-made in
        let was = swept.counted in
        let half = swept.half in
        record { counted = omega (arith, long, more, was); half = omega (arith, long, half) }

    -- no live frame had the handle
    pub new-made : entry_of (forest_in s order).entries h ≡ None
    new-made = entry-absent (kept s order []) h is.nodes unkept

    -- the slot of the handle gave it last
    pub Gives-made : Gives (forest_in s order) (forest_in t (order ++ h ∷ [])) h
    Gives-made = record {
      given = mark-seen order t h.slot (makes.first ∙ is.first) ∙ makes.given;
      others = λ j ne. mark-seen order t j (makes.first ∙ is.first) ∙ makes.others j ne ∙ sym (mark-seen order s j is.first);
    }

    -- no dead handle lives again
    pub StayDead-made : StayDead (forest_in s order) (forest_in t (order ++ h ∷ []))
    StayDead-made k dead =
        let before = mark-seen order s k.slot is.first in
        let given : k.generation < mark s k.slot = (let g = dead.given in omega arith) in
        record {
          given = (let l = makes.marks k.slot in let e = mark-seen order t k.slot (makes.first ∙ is.first) in omega arith);
          gone =
              let other : same_handle h k ≡ false = false_from_ne_true (same_handle h k) (λ e.
              let below = subst (λ (x : Handle). x.generation < mark s x.slot) (sym ((same_handle-Decides h k).0 e)) given in
              let first = makes.fresh in
              absurd (omega arith)) in
              ap (λ es. entry_of es k) entries-made
              ∙ ap (λ b. cond b (Some (entry_in (entries_in (kept s order [])) (record { handle = h; node = m }))) (entry_of (entries_in (kept s order [])) k)) other
              ∙ dead.gone;
        }

  -- a row was taken in under this handle, and then rows were written, whose nodes stay
  pub record Steps (s mid t : Slots (Row D)) (h : Handle) (row : Row D) (change : Handle → Row D → Row D) : Type 0 where
    pub new : live s h ≡ None
    pub given : IsGiven s mid h
    pub fresh : h.generation ≡ mark s h.slot
    pub slots : mid ≡ holding s h.slot row
    pub taken : Updates s mid h (Some row)
    pub then : Rewrites mid t change
    pub keeps : (k : Handle) (r : Row D) → k ≢ h → (change k r).node ≡ r.node

  -- the row that stood at the handle before
  pub record Was (s : Slots (Row D)) (change : Handle → Row D → Row D) (j : Handle) (x : Row D) : Type 0 where
    pub row : Row D
    pub found : live s j ≡ Some row
    pub is : change j row ≡ x

  was-of : (s : Slots (Row D)) (change : Handle → Row D → Row D) (j : Handle) (x : Row D) → option_map (change j) (live s j) ≡ Some x → Was s change j x
  was-of s change j x e = by_row (live s j) refl e
    where
      by_row : (o : Option (Row D)) → live s j ≡ o → option_map (change j) o ≡ Some x → Was s change j x
      by_row None q f = absurd (true≢false (sym (ap is_some f)))
      by_row (Some r) q f = record { row = r; found = q; is = some_same f }

  module _ (s mid t : Slots (Row D)) (h : Handle) (row : Row D) (change : Handle → Row D → Row D) (steps : Steps s mid t h row change) where
    row-here : live t h ≡ Some (change h row)
    row-here = steps.then.rows h ∙ ap (option_map (change h)) steps.taken.changed

    row-there : (j : Handle) → j ≢ h → live t j ≡ option_map (change j) (live s j)
    row-there j ne = steps.then.rows j ∙ ap (option_map (change j)) (steps.taken.others j ne)

    mark-then : (j : ℕ) → mark t j ≡ mark mid j
    mark-then j = mark-kept mid t steps.then.same j

    mark-le : (j : ℕ) → mark s j ≤ mark t j
    mark-le j =
        let e = mark-then j in
        let l = steps.given.rising j in
        omega arith

    mark-here : mark t h.slot ≡ h.generation + 1
    mark-here =
        let e = mark-then h.slot in
        let l = steps.given.last in
        omega arith

    mark-others : (j : ℕ) → j ≢ h.slot → mark t j ≡ mark s j
    mark-others j ne = mark-then j ∙ steps.given.others j ne

    made-then : t.made ≡ s.made + 1
    made-then = steps.then.same.made ∙ ap (λ x. x.made) steps.slots

    counted-then : length t.slots + s.made ≤ length s.slots + t.made
    counted-then =
        let e = slots-kept mid t steps.then.same in
        let l = steps.given.most in
        let d = made-then in
        omega arith

    unseen-before : shown s h ≡ None
    unseen-before = ap (option_map (λ x. x.node)) steps.new

    shown-there : (j : Handle) → j ≢ h → shown t j ≡ shown s j
    shown-there j ne = ap (option_map (λ x. x.node)) (row-there j ne) ∙ same-nodes (live s j)
      where
        same-nodes : (o : Option (Row D)) → option_map (λ x. x.node) (option_map (change j) o) ≡ option_map (λ x. x.node) o
        same-nodes None = refl
        same-nodes (Some r) = ap Some (steps.keeps j r ne)

    -- so a frame was made
    pub Makes-steps : Makes s t h (change h row).node
    Makes-steps = record {
      fresh = steps.fresh;
      unseen = unseen-before;
      here = ap (option_map (λ x. x.node)) row-here;
      there = shown-there;
      marks = mark-le;
      given = mark-here;
      others = mark-others;
      counted = counted-then;
      made = made-then;
      limit = steps.then.same.limit ∙ ap (λ x. x.limit) steps.slots;
      first = steps.then.same.first ∙ ap (λ x. x.first) steps.slots;
    }

    -- what holds of the new row, and of each other row as it was changed, holds of all
    pub each-row : (P : Handle → Row D → Type 0) → P h (change h row) → ((j : Handle) (r : Row D) → j ≢ h → live s j ≡ Some r → P j (change j r)) → (j : Handle) (x : Row D) → live t j ≡ Some x → P j x
    each-row P new old j x found = elim (same_or_other h j) as (λ _. P j x) [
      | inl q ↦
          let hj = (same_handle-Decides h j).0 q in
          let rx : change h row ≡ x = some_same (sym row-here ∙ ap (live t) hj ∙ found) in
          subst (λ k. P k x) hj (subst (P h) rx new)
      | inr q ↦
          let ne : j ≢ h = (λ f. different h j q (sym f)) in
          let was = was-of s change j x (sym (row-there j ne) ∙ found) in
          subst (P j) was.is (old j was.row ne was.found)
    ]

    module _ (order : List Handle) (pages : ℕ) (is : IsForest s order pages) where
      -- the sizes of pages, once a top frame was made
      pub sized-top : (e : Entry D) → top_of e ≡ h → (change h row).size ≡ 1 → ((j : Handle) (r : Row D) → j ≢ h → (change j r).size ≡ r.size)
          → (j : Handle) (x : Row D) → live t j ≡ Some x → x.node.parent ≡ None → IsSized (e ∷ entries_in (kept s order [])) j x
      sized-top e itself one same = each-row (λ j x. x.node.parent ≡ None → IsSized (e ∷ entries_in (kept s order [])) j x)
          (λ bare.
          let none : node_at (kept s order []) h ≡ None = kept-live s h order (is.listed h) ∙ unseen-before in
          let empty = page-empty (kept s order []) is.nodes is.apart h none in
          let more = page-more e (entries_in (kept s order [])) h itself in
          record { size = omega (arith, empty, more, one); within = omega (arith, one) })
          (λ j r ne found top.
          let size = same j r ne in
          let was = is.sized j r found (sym (ap (λ n. n.parent) (steps.keeps j r ne)) ∙ top) in
          let other = page-same e (entries_in (kept s order [])) j (ap (λ y. same_handle y j) itself ∙ other_handle j ne) in
          let within = was.within in
          record { size = size ∙ was.size ∙ sym other; within = omega (arith, size, within) })
        where
          other_handle : (j : Handle) → j ≢ h → same_handle h j ≡ false
          other_handle j ne = false_from_ne_true (same_handle h j) (λ f. ne (sym ((same_handle-Decides h j).0 f)))

      -- and once a frame was made below another
      pub sized-below : (e : Entry D) (k : Handle) → top_of e ≡ k → IsSome (change h row).node.parent
          → ((j : Handle) (r : Row D) → j ≢ h → (change j r).size ≡ cond (same_handle k j) (r.size + 1) r.size)
          → ((r : Row D) → live s k ≡ Some r → r.size ≤ 255)
          → (j : Handle) (x : Row D) → live t j ≡ Some x → x.node.parent ≡ None → IsSized (e ∷ entries_in (kept s order [])) j x
      sized-below e k top below sizes room = each-row (λ j x. x.node.parent ≡ None → IsSized (e ∷ entries_in (kept s order [])) j x)
          (λ bare. absurd (true≢false (sym below ∙ ap is_some bare)))
          (λ j r ne found none.
          let was = is.sized j r found (sym (ap (λ n. n.parent) (steps.keeps j r ne)) ∙ none) in
          let size = sizes j r ne in
          let within = was.within in
          let before = was.size in
          elim (same_or_other k j) as (λ _. IsSized (e ∷ entries_in (kept s order [])) j (change j r)) [
            | inl y ↦
                let kj = (same_handle-Decides k j).0 y in
                let more = size ∙ ap (λ b. cond b (r.size + 1) r.size) y in
                let then = page-more e (entries_in (kept s order [])) j (top ∙ kj) in
                let small = room r (ap (live s) kj ∙ found) in
                record { size = omega (arith, more, then, before); within = omega (arith, more, small) }
            | inr y ↦
                let as_was = size ∙ ap (λ b. cond b (r.size + 1) r.size) y in
                let same = page-same e (entries_in (kept s order [])) j (ap (λ z. same_handle z j) top ∙ y) in
                record { size = as_was ∙ before ∙ sym same; within = omega (arith, as_was, within) }
          ])
