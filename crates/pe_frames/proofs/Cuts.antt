-- Frames that were cut off with all below them.
use Rattle.std.proofs.Common.{◌≡◌, inl, inr, ℕ, ◌+◌, ◌≤◌, Bool, true, false, cond, ◌||◌, ◌&&◌, List, [], ◌∷◌, length, map, get_or, Option, None, Some, IsSome, is_some, refl, sym, ap, subst, ◌∙◌, arith, true≢false}
use Rattle.std.specs.Prelude.{filter, not, unwrap_or}
use Rattle.std.specs.Option.{option_map}
use Rattle.std.proofs.Math.ListN.{get_or-map}
use Rattle.pe_arena.specs.declared.handle.Handle.{Handle}
use Rattle.pe_arena.specs.Slots.{Slot, Slots, live, mark}
use Rattle.pe_frames.specs.declared.row.Row.{Row}
use Rattle.pe_frames.specs.declared.node.Node.{Node}
use Rattle.pe_frames.specs.Forest.{Entry, path, same_handle, has_handle, entry_of, node_in, parent_of, page_count, mark_of, IsDead, StayDead}
use Rattle.pe_frames.specs.Neighbours.{SameMarks}
use Rattle.pe_frames.specs.Order.{AreOnce}
use Rattle.pe_frames.specs.Kept.{Kept, joined, kept, shown, node_at, above_in, entry_in, entries_in, AreNodes, AreApart, IsSized, HasLinks, Sweeps, forest_in, IsForest}
use Rattle.pe_frames.proofs.Nodes.{entries-nodes, found-live}
use Rattle.pe_frames.proofs.Handles.{other-turned, same_handle-Decides, same_or_other}
use Rattle.pe_frames.proofs.Pages.{entry-absent}
use Rattle.std.proofs.lemmas.Bool.{false_from_ne_true, cases_Bool}
use Rattle.pe_frames.proofs.Tree.{Each}
use Rattle.pe_frames.proofs.Writes.{mark-kept, slots-kept}
use Rattle.std.proofs.Math.Bool.{or-true}
use Rattle.pe_frames.proofs.Lemmas.{some_same, node_some}

-- two tests that agree on each of the list keep the same
pub filter-agree : {A : Type 0} (p q : A → Bool) (xs : List A) → Each (λ x. p x ≡ q x) xs → filter p xs ≡ filter q xs
filter-agree p q [] each = refl
filter-agree p q (x ∷ xs) each = ap (λ b. cond b (x ∷ filter p xs) (filter p xs)) each.0 ∙ ap (λ ys. cond (q x) (x ∷ ys) ys) (filter-agree p q xs each.1)

-- those that pass are those that stay and those that go
count-split : {A : Type 0} (p q : A → Bool) (xs : List A) → length (filter p xs) ≡ length (filter p (filter q xs)) + length (filter (λ x. p x && not (q x)) xs)
count-split p q [] = omega arith
count-split p q (x ∷ xs) = by_test (p x) (q x) (count-split p q xs) refl
  where
    by_test : (a b : Bool) → length (filter p xs) ≡ length (filter p (filter q xs)) + length (filter (λ x. p x && not (q x)) xs) → p x ≡ a
        → length (cond a (x ∷ filter p xs) (filter p xs)) ≡ length (filter p (cond b (x ∷ filter q xs) (filter q xs))) + length (cond (a && not b) (x ∷ filter (λ x. p x && not (q x)) xs) (filter (λ x. p x && not (q x)) xs))
    by_test true true rest e = let n = ap (λ c. length (cond c (x ∷ filter p (filter q xs)) (filter p (filter q xs)))) e in omega (arith, rest, n)
    by_test true false rest e = omega (arith, rest)
    by_test false true rest e = let n = ap (λ c. length (cond c (x ∷ filter p (filter q xs)) (filter p (filter q xs)))) e in omega (arith, rest, n)
    by_test false false rest e = omega (arith, rest)

-- those that pass one of two tests, which none passes both
count-either : {A : Type 0} (p q : A → Bool) (xs : List A) → Each (λ x. (p x && q x) ≡ false) xs → length (filter (λ x. p x || q x) xs) ≡ length (filter p xs) + length (filter q xs)
count-either p q [] each = omega arith
count-either p q (x ∷ xs) each = by_test (p x) (q x) each.0 (count-either p q xs each.1)
  where
    by_test : (a b : Bool) → (a && b) ≡ false → length (filter (λ x. p x || q x) xs) ≡ length (filter p xs) + length (filter q xs)
        → length (cond (a || b) (x ∷ filter (λ x. p x || q x) xs) (filter (λ x. p x || q x) xs)) ≡ length (cond a (x ∷ filter p xs) (filter p xs)) + length (cond b (x ∷ filter q xs) (filter q xs))
    by_test true true e rest = absurd (true≢false e)
    by_test true false e rest = omega (arith, rest)
    by_test false true e rest = omega (arith, rest)
    by_test false false e rest = omega (arith, rest)

count-none : {A : Type 0} (xs : List A) → length (filter (λ x. false) xs) ≡ 0
count-none [] = refl
count-none (x ∷ xs) = count-none xs

module _ {D : Type 0} where
  -- what holds of each live frame holds of each that is listed
  pub each-live : (P : Entry D → Type 0) (xs : List (Kept D)) → AreNodes xs → AreApart xs → ((e : Entry D) → entry_of (entries_in xs) e.handle ≡ Some e → P e) → Each P (entries_in xs)
  each-live P [] are apart all = tt
  each-live P (x ∷ xs) are apart all = (
    all (entry_in (entries_in xs) x) (ap (λ b. cond b (Some (entry_in (entries_in xs) x)) (entry_of (entries_in xs) x.handle)) ((same_handle-Decides x.handle x.handle).1 refl)),
    each-live P xs are.1 apart.1 (λ e f. all e (ap (λ b. cond b (Some (entry_in (entries_in xs) x)) (entry_of (entries_in xs) e.handle)) (other e f) ∙ f)),
  )
    where
      other : (e : Entry D) → entry_of (entries_in xs) e.handle ≡ Some e → same_handle x.handle e.handle ≡ false
      other e f = false_from_ne_true (same_handle x.handle e.handle) (λ t.
          true≢false (sym (ap is_some f) ∙ ap is_some (ap (entry_of (entries_in xs)) (sym ((same_handle-Decides x.handle e.handle).0 t)) ∙ entry-absent xs x.handle are.1 apart.0)))

  -- one handle is listed once
  count-one : (xs : List (Kept D)) → AreNodes xs → AreApart xs → (k : Handle) → IsSome (entry_of (entries_in xs) k) → length (filter (λ e. same_handle k e.handle) (entries_in xs)) ≡ 1
  count-one [] are apart k p = absurd (true≢false (sym p))
  count-one (x ∷ xs) are apart k p = elim (same_or_other x.handle k) as (λ _. length (cond (same_handle k x.handle) (entry_in (entries_in xs) x ∷ filter (λ e. same_handle k e.handle) (entries_in xs)) (filter (λ e. same_handle k e.handle) (entries_in xs))) ≡ 1) [
    | inl t ↦
        let xk = (same_handle-Decides x.handle k).0 t in
        let none = count-absent k (entries_in xs) (ap (entry_of (entries_in xs)) (sym xk) ∙ entry-absent xs x.handle are.1 apart.0) in
        let here = ap (λ b. length (cond b (entry_in (entries_in xs) x ∷ filter (λ e. same_handle k e.handle) (entries_in xs)) (filter (λ e. same_handle k e.handle) (entries_in xs)))) ((same_handle-Decides k x.handle).1 (sym xk)) in
        omega (arith, none, here)
    | inr f ↦
        let there = ap (λ b. length (cond b (entry_in (entries_in xs) x ∷ filter (λ e. same_handle k e.handle) (entries_in xs)) (filter (λ e. same_handle k e.handle) (entries_in xs)))) (other-turned x.handle k f) in
        there ∙ count-one xs are.1 apart.1 k (subst IsSome (ap (λ b. cond b (Some (entry_in (entries_in xs) x)) (entry_of (entries_in xs) k)) f) p)
  ]
    where
      count-absent : (k : Handle) (es : List (Entry D)) → entry_of es k ≡ None → length (filter (λ e. same_handle k e.handle) es) ≡ 0
      count-absent k [] e = refl
      count-absent k (y ∷ es) e = elim (same_or_other y.handle k) as (λ _. length (cond (same_handle k y.handle) (y ∷ filter (λ e. same_handle k e.handle) es) (filter (λ e. same_handle k e.handle) es)) ≡ 0) [
        | inl t ↦ absurd (true≢false (ap is_some (sym (ap (λ b. cond b (Some y) (entry_of es k)) t) ∙ e)))
        | inr f ↦
            ap (λ b. length (cond b (y ∷ filter (λ e. same_handle k e.handle) es) (filter (λ e. same_handle k e.handle) es))) (other-turned y.handle k f)
            ∙ count-absent k es (sym (ap (λ b. cond b (Some y) (entry_of es k)) f) ∙ e)
      ]

  -- live handles, none of them twice, are as many as the frames that they name
  pub count-named : (xs : List (Kept D)) → AreNodes xs → AreApart xs → (ks : List Handle) → AreOnce ks → ((k : Handle) → has_handle k ks ≡ true → IsSome (entry_of (entries_in xs) k)) → length (filter (λ e. has_handle e.handle ks) (entries_in xs)) ≡ length ks
  count-named xs are apart [] once alive = count-none (entries_in xs)
  count-named xs are apart (k ∷ ks) once alive =
      let one = count-one xs are apart k (alive k (ap (λ b. b || has_handle k ks) ((same_handle-Decides k k).1 refl))) in
      let rest = count-named xs are apart ks once.1 (λ j t. alive j (ap (λ b. same_handle k j || b) t ∙ or-true (same_handle k j))) in
      let both = count-either (λ (e : Entry D). same_handle k e.handle) (λ (e : Entry D). has_handle e.handle ks) (entries_in xs)
      (each-live (λ e. (same_handle k e.handle && has_handle e.handle ks) ≡ false) xs are apart (λ e f. not_both e.handle)) in
      omega (arith, one, rest, both)
    where
      not_both : (j : Handle) → (same_handle k j && has_handle j ks) ≡ false
      not_both j = elim (same_or_other k j) as (λ _. (same_handle k j && has_handle j ks) ≡ false) [
        | inl t ↦ ap (λ b. b && has_handle j ks) t ∙ ap (λ x. has_handle x ks) (sym ((same_handle-Decides k j).0 t)) ∙ once.0
        | inr f ↦ ap (λ b. b && has_handle j ks) f
      ]

  -- so many fewer pass a test, once those that these handles name are gone
  pub count-less : (xs : List (Kept D)) → AreNodes xs → AreApart xs → (p stays : Entry D → Bool) (ks : List Handle) → AreOnce ks → ((k : Handle) → has_handle k ks ≡ true → IsSome (entry_of (entries_in xs) k))
      → ((e : Entry D) → entry_of (entries_in xs) e.handle ≡ Some e → (p e && not (stays e)) ≡ has_handle e.handle ks)
      → length (filter p (entries_in xs)) ≡ length (filter p (filter stays (entries_in xs))) + length ks
  count-less xs are apart p stays ks once alive agree =
      let split = count-split p stays (entries_in xs) in
      let same = ap length (filter-agree (λ (e : Entry D). p e && not (stays e)) (λ (e : Entry D). has_handle e.handle ks) (entries_in xs) (each-live (λ e. (p e && not (stays e)) ≡ has_handle e.handle ks) xs are apart agree)) in
      let named = count-named xs are apart ks once alive in
      omega (arith, split, same, named)

  -- no frame of those that go embeds one that stays
  module _ (gone : Handle → Bool) (stays : Entry D → Bool) where
    abbrev keeps : Kept D → Bool
    keeps x = not (gone x.handle)

    entry-stays : (es : List (Entry D)) → Each (λ e. stays e ≡ not (gone e.handle)) es → (k : Handle) → gone k ≡ false → entry_of (filter stays es) k ≡ entry_of es k
    entry-stays [] each k g = refl
    entry-stays (e ∷ es) each k g = elim (same_or_other e.handle k) as (λ _. entry_of (cond (stays e) (e ∷ filter stays es) (filter stays es)) k ≡ cond (same_handle e.handle k) (Some e) (entry_of es k)) [
      | inl t ↦
          ap (λ b. entry_of (cond b (e ∷ filter stays es) (filter stays es)) k) (each.0 ∙ ap (λ j. not (gone j)) ((same_handle-Decides e.handle k).0 t) ∙ ap not g)
          ∙ ap (λ b. cond b (Some e) (entry_of (filter stays es) k)) t
          ∙ sym (ap (λ b. cond b (Some e) (entry_of es k)) t)
      | inr f ↦
          by_test (stays e) f
          ∙ entry-stays es each.1 k g
          ∙ sym (ap (λ b. cond b (Some e) (entry_of es k)) f)
    ]
      where
        by_test : (b : Bool) → same_handle e.handle k ≡ false → entry_of (cond b (e ∷ filter stays es) (filter stays es)) k ≡ entry_of (filter stays es) k
        by_test true f = ap (λ b. cond b (Some e) (entry_of (filter stays es) k)) f
        by_test false f = refl

    above-stays : (es : List (Entry D)) → Each (λ e. stays e ≡ not (gone e.handle)) es → (o : Option Handle) → ((p : Handle) → o ≡ Some p → gone p ≡ false) → above_in (filter stays es) o ≡ above_in es o
    above-stays es each None g = refl
    above-stays es each (Some p) g = ap (λ o. unwrap_or (option_map path o) []) (entry-stays es each p (g p refl))

    -- what stays is embedded by what stays
    abbrev Rooted : List (Kept D) → Type 0
    Rooted xs = (k : Handle) (n : Node D) (p : Handle) → node_at xs k ≡ Some n → n.parent ≡ Some p → gone k ≡ false → gone p ≡ false

    rooted-tail : (x : Kept D) (xs : List (Kept D)) → node_at xs x.handle ≡ None → Rooted (x ∷ xs) → Rooted xs
    rooted-tail x xs none rooted k n p found = rooted k n p (ap (λ b. cond b (Some x.node) (node_at xs k)) other ∙ found)
      where
        other : same_handle x.handle k ≡ false
        other = false_from_ne_true (same_handle x.handle k) (λ t. true≢false (sym (ap is_some found) ∙ ap is_some (ap (node_at xs) (sym ((same_handle-Decides x.handle k).0 t)) ∙ none)))

    rooted-head : (x : Kept D) (xs : List (Kept D)) → Rooted (x ∷ xs) → gone x.handle ≡ false → (p : Handle) → x.node.parent ≡ Some p → gone p ≡ false
    rooted-head x xs rooted g p e = rooted x.handle x.node p (ap (λ b. cond b (Some x.node) (node_at xs x.handle)) ((same_handle-Decides x.handle x.handle).1 refl)) e g

    -- the frames of what is kept still are those that stay
    pub entries-stay : (xs : List (Kept D)) → AreApart xs → Rooted xs → Each (λ e. stays e ≡ not (gone e.handle)) (entries_in xs) → entries_in (filter (λ x. not (gone x.handle)) xs) ≡ filter stays (entries_in xs)
    entries-stay [] apart rooted each = refl
    entries-stay (x ∷ xs) apart rooted each =
        let rest = entries-stay xs apart.1 (rooted-tail x xs apart.0 rooted) each.1 in
        elim (cases_Bool (gone x.handle)) as (λ _. entries_in (cond (not (gone x.handle)) (x ∷ filter (λ y. not (gone y.handle)) xs) (filter (λ y. not (gone y.handle)) xs)) ≡ cond (stays (entry_in (entries_in xs) x)) (entry_in (entries_in xs) x ∷ filter stays (entries_in xs)) (filter stays (entries_in xs))) [
          | inl g ↦
              ap (λ b. entries_in (cond (not b) (x ∷ filter (λ y. not (gone y.handle)) xs) (filter (λ y. not (gone y.handle)) xs))) g
              ∙ rest
              ∙ sym (ap (λ b. cond b (entry_in (entries_in xs) x ∷ filter stays (entries_in xs)) (filter stays (entries_in xs))) (each.0 ∙ ap not g))
          | inr g ↦
              ap (λ b. entries_in (cond (not b) (x ∷ filter (λ y. not (gone y.handle)) xs) (filter (λ y. not (gone y.handle)) xs))) g
              ∙ ap (λ es. entry_in es x ∷ es) rest
              ∙ ap (λ ks. record { handle = x.handle; above = ks; frame = x.node.frame; doc = x.node.doc } ∷ filter stays (entries_in xs)) (above-stays (entries_in xs) each.1 x.node.parent (rooted-head x xs rooted g))
              ∙ sym (ap (λ b. cond b (entry_in (entries_in xs) x ∷ filter stays (entries_in xs)) (filter stays (entries_in xs))) (each.0 ∙ ap not g))
        ]

    -- and their nodes say of them what the list says
    nodes-stay : (xs : List (Kept D)) → AreNodes xs → AreApart xs → Rooted xs → Each (λ e. stays e ≡ not (gone e.handle)) (entries_in xs) → AreNodes (filter (λ x. not (gone x.handle)) xs)
    nodes-stay [] are apart rooted each = tt
    nodes-stay (x ∷ xs) are apart rooted each = by_test (gone x.handle) refl (nodes-stay xs are.1 apart.1 (rooted-tail x xs apart.0 rooted) each.1)
      where
        by_test : (b : Bool) → gone x.handle ≡ b → AreNodes (filter (λ y. not (gone y.handle)) xs) → AreNodes (cond (not b) (x ∷ filter (λ y. not (gone y.handle)) xs) (filter (λ y. not (gone y.handle)) xs))
        by_test true g rest = rest
        by_test false g rest = (
          ap (λ es. node_in (entry_in es x)) (entries-stay xs apart.1 (rooted-tail x xs apart.0 rooted) each.1)
              ∙ ap (λ ks. node_in (record { handle = x.handle; above = ks; frame = x.node.frame; doc = x.node.doc })) (above-stays (entries_in xs) each.1 x.node.parent (rooted-head x xs rooted g))
              ∙ are.0,
          rest,
        )

    absent-stays : (xs : List (Kept D)) (k : Handle) → node_at xs k ≡ None → node_at (filter (λ x. not (gone x.handle)) xs) k ≡ None
    absent-stays [] k e = refl
    absent-stays (x ∷ xs) k e = by_head (λ q. absent-stays xs k q) (same_handle x.handle k) refl e
      where
        by_test : (b : Bool) → same_handle x.handle k ≡ false → node_at (filter (λ y. not (gone y.handle)) xs) k ≡ None → node_at (cond b (x ∷ filter (λ y. not (gone y.handle)) xs) (filter (λ y. not (gone y.handle)) xs)) k ≡ None
        by_test true f rest = ap (λ c. cond c (Some x.node) (node_at (filter (λ y. not (gone y.handle)) xs) k)) f ∙ rest
        by_test false f rest = rest

        by_head : (node_at xs k ≡ None → node_at (filter (λ y. not (gone y.handle)) xs) k ≡ None) → (b : Bool) → same_handle x.handle k ≡ b → cond b (Some x.node) (node_at xs k) ≡ None → node_at (cond (not (gone x.handle)) (x ∷ filter (λ y. not (gone y.handle)) xs) (filter (λ y. not (gone y.handle)) xs)) k ≡ None
        by_head rest true f q = absurd (true≢false (ap is_some q))
        by_head rest false f q = by_test (not (gone x.handle)) f (rest q)

    apart-stay : (xs : List (Kept D)) → AreApart xs → AreApart (filter (λ x. not (gone x.handle)) xs)
    apart-stay [] apart = tt
    apart-stay (x ∷ xs) apart = by_test (not (gone x.handle)) (apart-stay xs apart.1)
      where
        by_test : (b : Bool) → AreApart (filter (λ y. not (gone y.handle)) xs) → AreApart (cond b (x ∷ filter (λ y. not (gone y.handle)) xs) (filter (λ y. not (gone y.handle)) xs))
        by_test true rest = (absent-stays xs x.handle apart.0, rest)
        by_test false rest = rest

    joined-stays : (k : Handle) (o : Option (Node D)) (xs : List (Kept D)) → joined k (cond (gone k) None o) (filter (λ x. not (gone x.handle)) xs) ≡ filter (λ x. not (gone x.handle)) (joined k o xs)
    joined-stays k None xs = by_test (gone k)
      where
        by_test : (b : Bool) → joined k (cond b None None) (filter (λ x. not (gone x.handle)) xs) ≡ filter (λ x. not (gone x.handle)) xs
        by_test true = refl
        by_test false = refl
    joined-stays k (Some n) xs = by_test (gone k)
      where
        by_test : (b : Bool) → joined k (cond b None (Some n)) (filter (λ x. not (gone x.handle)) xs) ≡ cond (not b) (record { handle = k; node = n } ∷ filter (λ x. not (gone x.handle)) xs) (filter (λ x. not (gone x.handle)) xs)
        by_test true = refl
        by_test false = refl

    kept-stay : (s t : Slots (Row D)) → ((k : Handle) → shown t k ≡ cond (gone k) None (shown s k)) → (hs : List Handle) (xs : List (Kept D)) → kept t hs (filter (λ x. not (gone x.handle)) xs) ≡ filter (λ x. not (gone x.handle)) (kept s hs xs)
    unfolding kept
    kept-stay s t cut [] xs = refl
    kept-stay s t cut (k ∷ hs) xs =
        ap (λ o. kept t hs (joined k o (filter (λ x. not (gone x.handle)) xs))) (cut k)
        ∙ ap (kept t hs) (joined-stays k (shown s k) xs)
        ∙ kept-stay s t cut hs (joined k (shown s k) xs)

  -- the frames of some handles were cut off, and the nodes of the others are as before
  pub record IsCut (s t : Slots (Row D)) (order : List Handle) (gone : Handle → Bool) (stays : Entry D → Bool) : Type 0 where
    pub nodes : (k : Handle) → shown t k ≡ cond (gone k) None (shown s k)
    pub agree : (e : Entry D) → entry_of (entries_in (kept s order [])) e.handle ≡ Some e → stays e ≡ not (gone e.handle)
    pub rooted : (k : Handle) (e : Entry D) (p : Handle) → entry_of (entries_in (kept s order [])) k ≡ Some e → parent_of e ≡ Some p → gone k ≡ false → gone p ≡ false
    pub same : SameMarks s t

  -- a frame for each that is kept
  pub length-entries : (xs : List (Kept D)) → length (entries_in xs) ≡ length xs
  length-entries [] = refl
  length-entries (x ∷ xs) = let rest = length-entries xs in omega (arith, rest)

  -- a list that is not swept
  pub Sweeps-none : (s : Slots (Row D)) (order : List Handle) → Sweeps s order order
  Sweeps-none s order = record { same = refl; listed = λ h p q. q; known = λ h q. q }

  -- a live frame of a node
  pub record FrameOf (o : Option (Entry D)) (n : Node D) : Type 0 where
    pub entry : Entry D
    pub found : o ≡ Some entry
    pub node : node_in entry ≡ n

  pub frame-of : (o : Option (Entry D)) (n : Node D) → option_map node_in o ≡ Some n → FrameOf o n
  frame-of None n e = absurd (true≢false (sym (ap is_some e)))
  frame-of (Some x) n e = record { entry = x; found = refl; node = some_same e }

  shown_some : (b : Bool) (o : Option (Node D)) → IsSome (cond b None o) → IsSome o
  shown_some true o p = absurd (true≢false (sym p))
  shown_some false o p = p

  shown_is : (b : Bool) (o : Option (Node D)) (n : Node D) → cond b None o ≡ Some n → o ≡ Some n
  shown_is true o n p = absurd (true≢false (sym (ap is_some p)))
  shown_is false o n p = p

  absent-filter : (p : Entry D → Bool) (es : List (Entry D)) (k : Handle) → entry_of es k ≡ None → entry_of (filter p es) k ≡ None
  absent-filter p [] k e = refl
  absent-filter p (x ∷ es) k e = by_head (λ q. absent-filter p es k q) (same_handle x.handle k) refl e
    where
      by_test : (b : Bool) → same_handle x.handle k ≡ false → entry_of (filter p es) k ≡ None → entry_of (cond b (x ∷ filter p es) (filter p es)) k ≡ None
      by_test true f rest = ap (λ c. cond c (Some x) (entry_of (filter p es) k)) f ∙ rest
      by_test false f rest = rest

      by_head : (entry_of es k ≡ None → entry_of (filter p es) k ≡ None) → (b : Bool) → same_handle x.handle k ≡ b → cond b (Some x) (entry_of es k) ≡ None → entry_of (cond (p x) (x ∷ filter p es) (filter p es)) k ≡ None
      by_head rest true f q = absurd (true≢false (ap is_some q))
      by_head rest false f q = by_test (p x) f (rest q)

  module _ (s t : Slots (Row D)) (order : List Handle) (pages : ℕ) (is : IsForest s order pages) (gone : Handle → Bool) (stays : Entry D → Bool) (cut : IsCut s t order gone stays) (swept : List Handle) (sweeps : Sweeps t order swept) where
    each-agrees : Each (λ e. stays e ≡ not (gone e.handle)) (entries_in (kept s order []))
    each-agrees = each-live (λ e. stays e ≡ not (gone e.handle)) (kept s order []) is.nodes is.apart cut.agree

    all-rooted : (k : Handle) (n : Node D) (p : Handle) → node_at (kept s order []) k ≡ Some n → n.parent ≡ Some p → gone k ≡ false → gone p ≡ false
    all-rooted k n p found parent g =
        let f = frame-of (entry_of (entries_in (kept s order [])) k) n (entries-nodes (kept s order []) k is.nodes ∙ found) in
        cut.rooted k f.entry p f.found (ap (λ (x : Node D). x.parent) f.node ∙ parent) g

    kept-cut : kept t swept [] ≡ filter (λ x. not (gone x.handle)) (kept s order [])
    kept-cut = sweeps.same ∙ kept-stay gone stays s t cut.nodes order []

    entries-kept : entries_in (kept t swept []) ≡ filter stays (entries_in (kept s order []))
    entries-kept = ap entries_in kept-cut ∙ entries-stay gone stays (kept s order []) is.apart all-rooted each-agrees

    -- as many are kept
    pub length-cut : length (kept t swept []) ≡ length (filter stays (entries_in (kept s order [])))
    length-cut = sym (length-entries (kept t swept [])) ∙ ap length entries-kept

    -- the frames are those that stay
    pub entries-cut : (forest_in t swept).entries ≡ filter stays (forest_in s order).entries
    entries-cut = entries-kept

    pub IsForest-cut : (count : ℕ) → count ≡ page_count (filter stays (entries_in (kept s order []))) → count ≤ 64
        → ((k : Handle) (r : Row D) → live t k ≡ Some r → r.node.parent ≡ None → IsSized (filter stays (entries_in (kept s order []))) k r)
        → ((k : Handle) (r : Row D) → live t k ≡ Some r → HasLinks (filter stays (entries_in (kept s order []))) k r)
        → IsForest t swept count
    IsForest-cut count paged few sized linked = record {
      listed = λ k p. sweeps.listed k p (is.listed k (shown_some (gone k) (shown s k) (subst IsSome (cut.nodes k) p)));
      given = λ k e. (let a = is.given k (sweeps.known k e) in let b = mark-kept s t cut.same k.slot in omega arith);
      nodes = subst AreNodes (sym kept-cut) (nodes-stay gone stays (kept s order []) is.nodes is.apart all-rooted each-agrees);
      apart = subst AreApart (sym kept-cut) (apart-stay gone stays (kept s order []) is.apart);
      sized = λ k r e p. subst (λ es. IsSized es k r) (sym entries-kept) (sized k r e p);
      linked = λ k r e. subst (λ es. HasLinks es k r) (sym entries-kept) (linked k r e);
      shallow = λ k n e. is.shallow k n (shown_is (gone k) (shown s k) n (sym (cut.nodes k) ∙ e));
      paged = paged ∙ ap page_count (sym entries-kept);
      few = few;
      counted = (let a = is.counted in let b = slots-kept s t cut.same in let d = cut.same.made in omega arith);
      wide = cut.same.limit ∙ is.wide;
      first = cut.same.first ∙ is.first;
    }

    mark-seen : (x : Slots (Row D)) (hs : List Handle) (j : ℕ) → x.first ≡ 0 → mark_of (forest_in x hs) j ≡ mark x j
    mark-seen x hs j e =
        ap (λ f. get_or (map (λ (y : Slot (Row D)). y.mark) x.slots) j f) (sym e)
        ∙ get_or-map (λ (y : Slot (Row D)). y.mark) x.slots j (record { mark = x.first; value = None })

    -- each dead handle stays dead
    pub StayDead-cut : StayDead (forest_in s order) (forest_in t swept)
    StayDead-cut k dead = record {
      given = (let g = dead.given in let m = ap (λ ms. get_or ms k.slot 0) cut.same.marks in omega arith);
      gone = ap (λ es. entry_of es k) entries-kept ∙ absent-filter stays (entries_in (kept s order [])) k dead.gone;
    }

    -- and the handles of the frames that went are dead
    pub IsDead-cut : (k : Handle) → IsSome (entry_of (forest_in s order).entries k) → entry_of (forest_in t swept).entries k ≡ None → IsDead (forest_in t swept) k
    IsDead-cut k p none = record {
      given =
          (let a = is.given k (is.listed k (subst IsSome (sym (found-live s order k is.listed is.nodes)) (node_some (entry_of (entries_in (kept s order [])) k) p))) in
          let b = mark-kept s t cut.same k.slot in
          let c = mark-seen t swept k.slot (cut.same.first ∙ is.first) in
          omega arith);
      gone = none;
    }
