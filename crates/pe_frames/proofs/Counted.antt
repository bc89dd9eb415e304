-- How many frames stand below another, and which are of its page.
use Rattle.std.proofs.Common.{◌≡◌, inl, inr, ◌≤◌, suc, Bool, true, false, cond, ◌||◌, ◌&&◌, List, [], ◌∷◌, ◌++◌, map, length, length-append, Option, None, Some, IsSome, is_some, refl, sym, ap, subst, ◌∙◌, arith, true≢false}
use Rattle.std.specs.Prelude.{IsTrue, IsSomeAnd, IfSome, filter}
use Rattle.pe_base.specs.declared.limits.TheConstants.{DEPTH_LIMIT, FRAME_LIMIT}
use Rattle.pe_arena.specs.declared.handle.Handle.{Handle}
use Rattle.pe_frames.specs.Forest.{Entry, same_handle, has_handle, first_of, top_of, entry_of, is_under, page_size, AreFrames}
use Rattle.pe_frames.specs.Order.{children, in_tree_order, handles_under, AreOnce}
use Rattle.pe_frames.specs.Walk.{visited, is_of_page}
use Rattle.pe_frames.proofs.Lemmas.{some_same, agrees, all-pass}
use Rattle.std.proofs.lemmas.Bool.{and_from, and_parts, cases_Bool, false_from_ne_true, or_cases, or_right}
use Rattle.pe_frames.proofs.Handles.{has-append, same_handle-Decides}
use Rattle.pe_frames.proofs.Below.{entry-handle}
use Rattle.pe_frames.proofs.Tree.{Each, each-map, IsTree}
use Rattle.pe_frames.proofs.TreeOrder.{walks, walk-is}
use Rattle.pe_frames.proofs.Visited.{visited-first}
use Rattle.pe_frames.proofs.Subtrees.{root-live}
use Rattle.pe_frames.proofs.Under.{handles-are, handles-once, handles-none, handles-live, frames-live, its-own}
use Rattle.pe_frames.proofs.Within.{root-goes, page-goes}
use Rattle.pe_frames.proofs.Laws.{under-live}

-- where a handle stands
record Placed (hs : List Handle) (h : Handle) : Type 0 where
  front : List Handle
  back : List Handle
  is : hs ≡ front ++ h ∷ back

placed : (hs : List Handle) (h : Handle) → has_handle h hs ≡ true → Placed hs h
placed [] h t = absurd (true≢false (sym t))
placed (k ∷ hs) h t = elim (or_cases (same_handle k h) (has_handle h hs) t) as (λ _. Placed (k ∷ hs) h) [
  | inl e ↦ record { front = []; back = hs; is = ap (λ x. x ∷ hs) ((same_handle-Decides k h).0 e) }
  | inr e ↦ let s = placed hs h e in record { front = k ∷ s.front; back = s.back; is = ap (λ ks. k ∷ ks) s.is }
]

-- none of these stands twice, and each of them is among those
within-length : (ks hs : List Handle) → AreOnce ks → ((k : Handle) → has_handle k ks ≡ true → has_handle k hs ≡ true) → length ks ≤ length hs
within-length [] hs once among = omega arith
within-length (x ∷ ks) hs once among =
    let s = placed hs x (among x (ap (λ b. b || has_handle x ks) ((same_handle-Decides x x).1 refl))) in
    let rest = within-length ks (s.front ++ s.back) once.1 (λ k t. fewer s k t (among k (or_right (same_handle x k) (has_handle k ks) t))) in
    let whole = ap length s.is in
    let long = length-append s.front (x ∷ s.back) in
    let short = length-append s.front s.back in
    omega (arith, rest, whole, long, short)
  where
    fewer : (s : Placed hs x) (k : Handle) → has_handle k ks ≡ true → has_handle k hs ≡ true → has_handle k (s.front ++ s.back) ≡ true
    fewer s k t u =
        let other : same_handle x k ≡ false = false_from_ne_true (same_handle x k) (λ e. true≢false (sym (ap (λ j. has_handle j ks) ((same_handle-Decides x k).0 e) ∙ t) ∙ once.0)) in
        has-append k s.front s.back
        ∙ ap (λ b. has_handle k s.front || (b || has_handle k s.back)) (sym other)
        ∙ sym (has-append k s.front (x ∷ s.back))
        ∙ ap (has_handle k) (sym s.is)
        ∙ u

-- the first on a path is there
first-has : (ks : List Handle) (h : Handle) → has_handle (first_of ks h) (ks ++ h ∷ []) ≡ true
first-has [] h = ap (λ b. b || false) ((same_handle-Decides h h).1 refl)
first-has (k ∷ ks) h = ap (λ b. b || has_handle k (ks ++ h ∷ [])) ((same_handle-Decides k k).1 refl)

module _ {D : Type 0} where
  abbrev handles : List (Entry D) → List Handle
  handles es = map (λ (x : Entry D). x.handle) es

  handles-length : (xs : List (Entry D)) → length (handles xs) ≡ length xs
  handles-length [] = refl
  handles-length (x ∷ xs) = ap suc (handles-length xs)

  -- the frame is the live one of its handle
  abbrev pub IsOwn : List (Entry D) → Entry D → Type 0
  IsOwn es x = entry_of es x.handle ≡ Some x

  -- each frame is the live one of its handle
  pub own-each : (es : List (Entry D)) → AreFrames es → Each (IsOwn es) es
  own-each [] are = tt
  own-each (e ∷ es) are = (
    ap (λ b. cond b (Some e) (entry_of es e.handle)) ((same_handle-Decides e.handle e.handle).1 refl),
    each-map (IsOwn es) (IsOwn (e ∷ es)) (λ x f.
        ap (λ b. cond b (Some e) (entry_of es x.handle)) (false_from_ne_true (same_handle e.handle x.handle) (λ t. true≢false (sym (ap is_some f) ∙ ap (λ k. is_some (entry_of es k)) (sym ((same_handle-Decides e.handle x.handle).0 t)) ∙ ap is_some are.0.new))) ∙ f) es (own-each es are.1),
  )

  -- no handle stands twice
  pub own-once : (es : List (Entry D)) → AreFrames es → AreOnce (handles es)
  own-once [] are = tt
  own-once (e ∷ es) are = (false_from_ne_true (has_handle e.handle (handles es)) (λ t. true≢false (sym (known es are.1 e.handle t) ∙ ap is_some are.0.new)), own-once es are.1)
    where
      known : (xs : List (Entry D)) → AreFrames xs → (k : Handle) → has_handle k (handles xs) ≡ true → is_some (entry_of xs k) ≡ true
      known [] fs k t = absurd (true≢false (sym t))
      known (x ∷ xs) fs k t = elim (or_cases (same_handle x.handle k) (has_handle k (handles xs)) t) as (λ _. is_some (entry_of (x ∷ xs) k) ≡ true) [
        | inl s ↦ ap (λ b. is_some (cond b (Some x) (entry_of xs k))) s
        | inr s ↦ by_test (same_handle x.handle k) (known xs fs.1 k s)
      ]
        where
          by_test : (b : Bool) → is_some (entry_of xs k) ≡ true → is_some (cond b (Some x) (entry_of xs k)) ≡ true
          by_test true q = refl
          by_test false q = q

  -- a live frame is listed
  pub live-listed : (es : List (Entry D)) (k : Handle) (x : Entry D) → entry_of es k ≡ Some x → has_handle k (handles es) ≡ true
  live-listed [] k x f = absurd cc
  live-listed (e ∷ es) k x f = elim (cases_Bool (same_handle e.handle k)) as (λ _. (same_handle e.handle k || has_handle k (handles es)) ≡ true) [
    | inl t ↦ ap (λ b. b || has_handle k (handles es)) t
    | inr t ↦ or_right (same_handle e.handle k) (has_handle k (handles es)) (live-listed es k x (sym (ap (λ b. cond b (Some e) (entry_of es k)) t) ∙ f))
  ]

  module _ (es : List (Entry D)) (keep : Entry D → Bool) where
    -- a listed frame that passes
    record Passes (xs : List (Entry D)) (k : Handle) : Type 0 where
      entry : Entry D
      found : entry_of es k ≡ Some entry
      keeps : keep entry ≡ true
      listed : has_handle k (handles xs) ≡ true

    passing : (xs : List (Entry D)) → Each (IsOwn es) xs → (k : Handle) → has_handle k (handles (filter keep xs)) ≡ true → Passes xs k
    passing [] own k t = absurd (true≢false (sym t))
    passing (x ∷ xs) own k t = by_test (keep x) refl t (passing xs own.1 k)
      where
        later : Passes xs k → Passes (x ∷ xs) k
        later r = record { entry = r.entry; found = r.found; keeps = r.keeps; listed = or_right (same_handle x.handle k) (has_handle k (handles xs)) r.listed }

        by_test : (b : Bool) → keep x ≡ b → has_handle k (handles (cond b (x ∷ filter keep xs) (filter keep xs))) ≡ true → (has_handle k (handles (filter keep xs)) ≡ true → Passes xs k) → Passes (x ∷ xs) k
        by_test false q u rest = later (rest u)
        by_test true q u rest = elim (or_cases (same_handle x.handle k) (has_handle k (handles (filter keep xs))) u) as (λ _. Passes (x ∷ xs) k) [
          | inl s ↦ record { entry = x; found = ap (entry_of es) (sym ((same_handle-Decides x.handle k).0 s)) ∙ own.0; keeps = q; listed = ap (λ b. b || has_handle k (handles xs)) s }
          | inr s ↦ later (rest s)
        ]

    passed : (xs : List (Entry D)) → Each (IsOwn es) xs → (k : Handle) (e : Entry D) → entry_of es k ≡ Some e → keep e ≡ true → has_handle k (handles xs) ≡ true → has_handle k (handles (filter keep xs)) ≡ true
    passed [] own k e f q t = t
    passed (x ∷ xs) own k e f q t = elim (or_cases (same_handle x.handle k) (has_handle k (handles xs)) t) as (λ _. has_handle k (handles (filter keep (x ∷ xs))) ≡ true) [
      | inl s ↦
          let same : x ≡ e = some_same (sym own.0 ∙ ap (entry_of es) ((same_handle-Decides x.handle k).0 s) ∙ f) in
          ap (λ c. has_handle k (handles (cond c (x ∷ filter keep xs) (filter keep xs)))) (ap keep same ∙ q) ∙ ap (λ b. b || has_handle k (handles (filter keep xs))) s
      | inr s ↦ by_test (keep x) (passed xs own.1 k e f q s)
    ]
      where
        by_test : (c : Bool) → has_handle k (handles (filter keep xs)) ≡ true → has_handle k (handles (cond c (x ∷ filter keep xs) (filter keep xs))) ≡ true
        by_test true u = or_right (same_handle x.handle k) (has_handle k (handles (filter keep xs))) u
        by_test false u = u

    passing-once : (xs : List (Entry D)) → Each (IsOwn es) xs → AreOnce (handles xs) → AreOnce (handles (filter keep xs))
    passing-once [] own once = tt
    passing-once (x ∷ xs) own once = by_test (keep x) (passing-once xs own.1 once.1)
      where
        by_test : (b : Bool) → AreOnce (handles (filter keep xs)) → AreOnce (handles (cond b (x ∷ filter keep xs) (filter keep xs)))
        by_test false rest = rest
        by_test true rest = (false_from_ne_true (has_handle x.handle (handles (filter keep xs))) (λ t. true≢false (sym (passing xs own.1 x.handle t).listed ∙ once.0)), rest)

  -- of two lists of live frames, none of them twice, as many pass where the same handles do
  pub same-count : (es : List (Entry D)) (p q : Entry D → Bool) (xs ys : List (Entry D)) → Each (IsOwn es) xs → Each (IsOwn es) ys → AreOnce (handles xs) → AreOnce (handles ys)
      → ((k : Handle) (e : Entry D) → entry_of es k ≡ Some e → p e ≡ true → has_handle k (handles xs) ≡ true → (q e ≡ true) × (has_handle k (handles ys) ≡ true))
      → ((k : Handle) (e : Entry D) → entry_of es k ≡ Some e → q e ≡ true → has_handle k (handles ys) ≡ true → (p e ≡ true) × (has_handle k (handles xs) ≡ true))
      → length (filter p xs) ≡ length (filter q ys)
  same-count es p q xs ys own_xs own_ys once_xs once_ys to from =
      let few = within-length (handles (filter p xs)) (handles (filter q ys)) (passing-once es p xs own_xs once_xs) (λ k t.
      let r = passing es p xs own_xs k t in
      let s = to k r.entry r.found r.keeps r.listed in
      passed es q ys own_ys k r.entry r.found s.0 s.1) in
      let many = within-length (handles (filter q ys)) (handles (filter p xs)) (passing-once es q ys own_ys once_ys) (λ k t.
      let r = passing es q ys own_ys k t in
      let s = from k r.entry r.found r.keeps r.listed in
      passed es p xs own_xs k r.entry r.found s.0 s.1) in
      let left = handles-length (filter p xs) in
      let right = handles-length (filter q ys) in
      omega (arith, few, many, left, right)

  module _ (es : List (Entry D)) (are : AreFrames es) (tree : IsTree es DEPTH_LIMIT) where
    -- the root or below it, by what stands in tree order
    pub under-entry : (root k : Handle) (e : Entry D) → entry_of es k ≡ Some e → has_handle k (handles_under es root) ≡ is_under root e
    under-entry root k e f = agrees (has_handle k (handles_under es root)) (is_under root e)
        (λ t. subst (λ o. IsSomeAnd o (λ (x : Entry D). IsTrue (is_under root x))) f ((under-live es tree are root k).0 t))
        (λ t. (under-live es tree are root k).1 (subst (λ o. IsSomeAnd o (λ (x : Entry D). IsTrue (is_under root x))) (sym f) t))

    -- the root is visited first
    pub first-visited : (root : Handle) → IsSome (entry_of es root) → visited root (handles_under es root) ≡ root ∷ []
    first-visited root lives = by_entry (entry_of es root) refl lives
      where
        by_entry : (o : Option (Entry D)) → entry_of es root ≡ o → IsSome o → visited root (handles_under es root) ≡ root ∷ []
        by_entry None f l = absurd (true≢false (sym l))
        by_entry (Some e) f l =
            ap (visited root) (handles-are es root e f ∙ walk-is es DEPTH_LIMIT tree DEPTH_LIMIT (omega arith) e (its-own es root e f) ∙ ap (λ k. k ∷ walks DEPTH_LIMIT es (children es e.handle)) (entry-handle es root e f))
            ∙ visited-first root (walks DEPTH_LIMIT es (children es e.handle))

    -- the root is among those below it
    pub root-listed : (root : Handle) → IsSome (entry_of es root) → has_handle root (handles_under es root) ≡ true
    root-listed root lives = by_entry (entry_of es root) refl lives
      where
        by_entry : (o : Option (Entry D)) → entry_of es root ≡ o → IsSome o → has_handle root (handles_under es root) ≡ true
        by_entry None f l = absurd (true≢false (sym l))
        by_entry (Some e) f l = root-goes es tree root e f

    -- as many of those below the root pass as there are live frames below it that do
    pub counted : (root : Handle) (keep : Entry D → Bool) → length (filter keep (in_tree_order es root)) ≡ length (filter (λ e. is_under root e && keep e) es)
    counted root keep = same-count es keep (λ e. is_under root e && keep e) (in_tree_order es root) es (frames-live es tree root) (own-each es are) (handles-once es tree root) (own-once es are)
        (λ k e f t listed. (and_from (is_under root e) (keep e) (sym (under-entry root k e f) ∙ listed) t, live-listed es k e f))
        (λ k e f t listed. let parts = and_parts (is_under root e) (keep e) t in (parts.1, under-entry root k e f ∙ parts.0))

    -- the top frame of a live frame's page is live, and is its own top frame
    pub record HasTop (e : Entry D) : Type 0 where
      pub top : Entry D
      pub found : entry_of es (top_of e) ≡ Some top
      pub own : top_of top ≡ top_of e

    pub top-live : (h : Handle) (e : Entry D) → entry_of es h ≡ Some e → HasTop e
    top-live h e f =
        let lives = root-live es DEPTH_LIMIT tree (top_of e) e (its-own es h e f) (first-has e.above e.handle) in
        record { top = lives.entry; found = lives.found; own = sym (page-goes es tree (top_of e) lives.entry lives.found h e f (under-entry (top_of e) h e f ∙ first-has e.above e.handle)) }

    -- the frames of a page are those below its top frame
    pub page-under : (h k : Handle) (e x : Entry D) → entry_of es h ≡ Some e → entry_of es k ≡ Some x → is_under (top_of e) x ≡ is_of_page (top_of e) x
    page-under h k e x f g = agrees (is_under (top_of e) x) (same_handle (top_of x) (top_of e))
        (λ t.
        let top = top-live h e f in
        (same_handle-Decides (top_of x) (top_of e)).1 (page-goes es tree (top_of e) top.top top.found k x g (under-entry (top_of e) k x g ∙ t) ∙ top.own))
        (λ t. ap (λ j. is_under j x) (sym ((same_handle-Decides (top_of x) (top_of e)).0 t)) ∙ first-has x.above x.handle)

    -- as many of a page pass below its top frame as there are live frames of it that do
    pub counted-page : (h : Handle) (e : Entry D) → entry_of es h ≡ Some e → (keep : Entry D → Bool) → length (filter keep (in_tree_order es (top_of e))) ≡ length (filter (λ x. is_of_page (top_of e) x && keep x) es)
    counted-page h e f keep = counted (top_of e) keep ∙ same-count es (λ x. is_under (top_of e) x && keep x) (λ x. is_of_page (top_of e) x && keep x) es es (own-each es are) (own-each es are) (own-once es are) (own-once es are)
        (λ k x g t listed. (ap (λ b. b && keep x) (sym (page-under h k e x f g)) ∙ t, listed))
        (λ k x g t listed. (ap (λ b. b && keep x) (page-under h k e x f g) ∙ t, listed))

    -- how many stand below a root
    pub counted-all : (root : Handle) → length (handles_under es root) ≡ length (filter (is_under root) es)
    counted-all root =
        handles-length (in_tree_order es root)
        ∙ sym (all-pass (in_tree_order es root))
        ∙ same-count es (λ x. true) (is_under root) (in_tree_order es root) es (frames-live es tree root) (own-each es are) (handles-once es tree root) (own-once es are)
        (λ k e f t listed. (sym (under-entry root k e f) ∙ listed, live-listed es k e f))
        (λ k e f t listed. (refl, under-entry root k e f ∙ t))

    -- a page is as large as there are frames below its top frame
    pub counted-size : (h : Handle) (e : Entry D) → entry_of es h ≡ Some e → length (handles_under es (top_of e)) ≡ page_size es (top_of e)
    counted-size h e f = counted-all (top_of e) ∙ same-count es (is_under (top_of e)) (is_of_page (top_of e)) es es (own-each es are) (own-each es are) (own-once es are) (own-once es are)
        (λ k x g t listed. (sym (page-under h k e x f g) ∙ t, listed))
        (λ k x g t listed. (page-under h k e x f g ∙ t, listed))

    -- no more frames stand below a live frame than its page has
    pub under-few : ((h : Handle) → IfSome (entry_of es h) (λ e. page_size es (top_of e) ≤ FRAME_LIMIT)) → (root : Handle) → length (handles_under es root) ≤ FRAME_LIMIT
    under-few sizes root = by_entry (entry_of es root) refl (sizes root)
      where
        by_entry : (o : Option (Entry D)) → entry_of es root ≡ o → IfSome o (λ e. page_size es (top_of e) ≤ FRAME_LIMIT) → length (handles_under es root) ≤ FRAME_LIMIT
        by_entry None f few = let none = ap length (handles-none es root f) in omega (arith, none)
        by_entry (Some e) f few =
            let fewer = within-length (handles_under es root) (handles_under es (top_of e)) (handles-once es tree root) (λ k t.
            let u = handles-live es tree root k t in
            under-entry (top_of e) k u.entry u.found ∙ page-under root k e u.entry f u.found ∙ (same_handle-Decides (top_of u.entry) (top_of e)).1 (page-goes es tree root e f k u.entry u.found t)) in
            let size = counted-size root e f in
            omega (arith, few, fewer, size)
