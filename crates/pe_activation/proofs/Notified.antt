-- What notifying leaves of the frames, and how many documents it activates.
use Rattle.std.proofs.Common.{◌≡◌, ◌+◌, ◌*◌, ◌≤◌, ℕ, suc, Bool, true, false, cond, ◌||◌, ◌&&◌, List, [], ◌∷◌, ◌++◌, map, length, length-append, Option, None, Some, IsSome, is_some, refl, sym, ap, subst, ◌∙◌, arith, true≢false}
use Rattle.std.specs.Prelude.{◌==◌, IfSome, IsTrue, filter, not, unwrap_or}
use Rattle.std.proofs.lemmas.Bool.{or_right}
use Rattle.std.proofs.lemmas.Bool.Decides.{Decides-eqb, Decides-and}
use Rattle.std.specs.Option.{option_map, option_and_then}
use Rattle.pe_arena.specs.declared.handle.Handle.{Handle}
use Rattle.pe_base.specs.declared.input.Stamp.{Stamp}
use Rattle.pe_base.specs.declared.input.Stamp.TheVariants as stamp
use Rattle.pe_frames.specs.declared.node.Node.{Node}
use Rattle.pe_frames.specs.Forest.{Entry, Forest, same_handle, has_handle, first_of, last_of, path, path_of, parent_of, top_of, depth_of, node_in, entry_of, is_under, with_document, with_doc}
use Rattle.pe_frames.specs.Order.{handles_under}
use Rattle.pe_frames.specs.Walk.{visited, changed_where, changed_to}
use Rattle.pe_activation.specs.Stamps.{IsField}
use Rattle.pe_activation.specs.Notifying.{activated, activated_where, is_notified, is_related, is_same_as, notified}

-- what is so of each value of an option
pub of_each : {A : Type 0} (P : A → Type 0) (o : Option A) → ((x : A) → o ≡ Some x → P x) → IfSome o P
of_each P None f = tt
of_each P (Some x) f = f x refl

-- what is so of the value that is there
pub of_some : {A : Type 0} (P : A → Type 0) (o : Option A) (x : A) → o ≡ Some x → IfSome o P → P x
of_some P o x q w = subst (λ p. IfSome p P) q w

-- a handle is the last of these
has-last : (k : Handle) (ks : List Handle) → has_handle k (ks ++ k ∷ []) ≡ true
has-last k [] = ap (λ b. b || false) ((Decides-and (k.slot == k.slot) (k.generation == k.generation) (Decides-eqb k.slot k.slot) (Decides-eqb k.generation k.generation)).1 (refl, refl))
has-last k (j ∷ ks) = or_right (same_handle j k) (has_handle k (ks ++ k ∷ [])) (has-last k ks)

-- as many pass where two tests agree
pub count-same : {A : Type 0} (p q : A → Bool) → ((x : A) → p x ≡ q x) → (xs : List A) → length (filter p xs) ≡ length (filter q xs)
count-same p q same [] = refl
count-same p q same (x ∷ xs) = ap (λ b. length (cond b (x ∷ filter p xs) (filter p xs))) (same x) ∙ by_test (q x) (count-same p q same xs)
  where
    by_test : (b : Bool) → length (filter p xs) ≡ length (filter q xs) → length (cond b (x ∷ filter p xs) (filter p xs)) ≡ length (cond b (x ∷ filter q xs) (filter q xs))
    by_test true r = ap suc r
    by_test false r = r

-- as many of the images pass
pub count-map : {A B : Type 0} (f : A → B) (p : B → Bool) (xs : List A) → length (filter p (map f xs)) ≡ length (filter (λ x. p (f x)) xs)
count-map f p [] = refl
count-map f p (x ∷ xs) = by_test (p (f x)) (count-map f p xs)
  where
    by_test : (b : Bool) → length (filter p (map f xs)) ≡ length (filter (λ y. p (f y)) xs) → length (cond b (f x ∷ filter p (map f xs)) (filter p (map f xs))) ≡ length (cond b (x ∷ filter (λ y. p (f y)) xs) (filter (λ y. p (f y)) xs))
    by_test true r = ap suc r
    by_test false r = r

-- one more counts where it passes
pub count-push : {A : Type 0} (p : A → Bool) (xs : List A) (y : A) → length (filter p (xs ++ y ∷ [])) ≡ length (filter p xs) + cond (p y) 1 0
count-push p [] y = by_test (p y)
  where
    by_test : (b : Bool) → length (cond b (y ∷ []) []) ≡ 0 + cond b 1 0
    by_test true = refl
    by_test false = refl
count-push p (x ∷ xs) y = by_test (p x) (count-push p xs y)
  where
    by_test : (b : Bool) → length (filter p (xs ++ y ∷ [])) ≡ length (filter p xs) + cond (p y) 1 0 → length (cond b (x ∷ filter p (xs ++ y ∷ [])) (filter p (xs ++ y ∷ []))) ≡ length (cond b (x ∷ filter p xs) (filter p xs)) + cond (p y) 1 0
    by_test true r = omega (arith, r)
    by_test false r = r

-- whether there is a document, and it passes
abbrev pub passes_at : {D : Type 0} → (D → Bool) → Option D → Bool
passes_at passes None = false
passes_at passes (Some d) = passes d

-- as many pass by the handles of documents
count-named : {D : Type 0} (passes : D → Bool) (named : Handle → Option D) (ds : List D) (ks : List Handle) → map (λ d. Some d) ds ≡ map named ks → length (filter (λ k. passes_at passes (named k)) ks) ≡ length (filter passes ds)
count-named passes named [] [] q = refl
count-named passes named [] (k ∷ ks) q = absurd cc
count-named passes named (d ∷ ds) [] q = absurd cc
count-named passes named (d ∷ ds) (k ∷ ks) q =
    let here : Some d ≡ named k = cc in
    let rest : map (λ x. Some x) ds ≡ map named ks = cc in
    ap (λ o. length (cond (passes_at passes o) (k ∷ filter (λ j. passes_at passes (named j)) ks) (filter (λ j. passes_at passes (named j)) ks))) (sym here)
    ∙ by_test (passes d) (count-named passes named ds ks rest)
  where
    by_test : (b : Bool) → length (filter (λ j. passes_at passes (named j)) ks) ≡ length (filter passes ds) → length (cond b (k ∷ filter (λ j. passes_at passes (named j)) ks) (filter (λ j. passes_at passes (named j)) ks)) ≡ length (cond b (d ∷ filter passes ds) (filter passes ds))
    by_test true r = ap suc r
    by_test false r = r

module _ {D : Type 0} where
  -- the document of the frame, if that is live
  abbrev pub doc_at : List (Entry D) → Handle → Option D
  doc_at es k = option_map (λ e. e.doc) (entry_of es k)

  -- how many of the frames of these handles have a document that passes
  abbrev pub count_at : (D → Bool) → List (Entry D) → List Handle → ℕ
  count_at passes es ks = length (filter (λ k. passes_at passes (doc_at es k)) ks)

  -- the frames are counted by their handles
  pub count-under : (passes : D → Bool) (es : List (Entry D)) (ks : List Handle) (xs : List (Entry D)) → map (λ d. Some d) (map (λ (x : Entry D). x.doc) xs) ≡ map (λ k. option_map (λ (e : Entry D). e.doc) (entry_of es k)) ks → count_at passes es ks ≡ length (filter (λ x. passes x.doc) xs)
  count-under passes es ks xs q = count-named passes (doc_at es) (map (λ (x : Entry D). x.doc) xs) ks q ∙ count-map (λ (x : Entry D). x.doc) passes xs

  -- what two nodes show is so of the frames
  pub same-nodes : (same : D → D → Bool) (o p : Option (Entry D)) (one other : Node D) → Some one ≡ option_map node_in o → Some other ≡ option_map node_in p → IfSome p (λ x. same one.doc other.doc ≡ is_same_as same o x.doc)
  same-nodes same None p one other q r = absurd cc
  same-nodes same (Some e) None one other q r = tt
  same-nodes same (Some e) (Some x) one other q r =
      let a : one ≡ node_in e = cc in
      let b : other ≡ node_in x = cc in
      ap (λ (n : Node D). same n.doc other.doc) a ∙ ap (λ (n : Node D). same e.doc n.doc) b

  -- no document is same origin with that of no frame
  pub same-none : (same : D → D → Bool) (o p : Option (Entry D)) → None ≡ option_map node_in o → IfSome p (λ x. false ≡ is_same_as same o x.doc)
  same-none same None None q = tt
  same-none same None (Some x) q = refl
  same-none same (Some e) p q = absurd cc

  -- a frame that is changed to what it is
  unchanged : (passes : Entry D → Bool) (es : List (Entry D)) → map (changed_where passes (λ x. x.doc)) es ≡ es
  unchanged passes [] = refl
  unchanged passes (x ∷ xs) = ap (λ y. y ∷ map (changed_where passes (λ z. z.doc)) xs) (by_test (passes x)) ∙ ap (λ ys. x ∷ ys) (unchanged passes xs)
    where
      by_test : (b : Bool) → record x { doc = cond b x.doc x.doc } ≡ x
      by_test true = refl
      by_test false = refl

  none-changed : (change : Entry D → D) (es : List (Entry D)) → map (changed_where (λ x. false) change) es ≡ es
  none-changed change [] = refl
  none-changed change (x ∷ xs) = ap (λ ys. x ∷ ys) (none-changed change xs)

  -- what the tree says of a write of one more frame
  abbrev pub AddsOne : List (Entry D) → Type 0
  AddsOne es = (passes : Entry D → Bool) → (change : Entry D → D) → (k : Handle) → IfSome (entry_of es k) (λ e. map (with_document k (change e)) (map (changed_where passes change) es) ≡ map (changed_where (λ x. same_handle k x.handle || passes x) change) es)

  -- what the tree says of a frame among those that are changed
  abbrev pub IsFoundChanged : List (Entry D) → Type 0
  IsFoundChanged es = (passes : Entry D → Bool) → (change : Entry D → D) → (k : Handle) → entry_of (map (changed_where passes change) es) k ≡ option_map (changed_where passes change) (entry_of es k)

  -- a write of the first frame
  pub first-written : (es : List (Entry D)) → AddsOne es → (change : Entry D → D) (k : Handle) → IfSome (entry_of es k) (λ e. map (with_document k (change e)) es ≡ map (changed_where (λ x. has_handle x.handle (k ∷ [])) change) es)
  first-written es adds change k = subst (λ xs. IfSome (entry_of es k) (λ (e : Entry D). map (with_document k (change e)) xs ≡ map (changed_where (λ x. same_handle k x.handle || false) change) es)) (none-changed change es) (adds (λ x. false) change k)

  -- a write of what is there
  pub kept : (es : List (Entry D)) → AddsOne es → (k : Handle) → IfSome (entry_of es k) (λ e. map (with_document k e.doc) es ≡ es)
  kept es adds k = subst (λ ys. IfSome (entry_of es k) (λ (e : Entry D). map (with_document k e.doc) es ≡ ys)) (unchanged (λ x. has_handle x.handle (k ∷ [])) es) (first-written es adds (λ x. x.doc) k)

  -- a document is same origin with itself
  pub same-self : (same : D → D → Bool) → ((d : D) → IsTrue (same d d)) → (o : Option (Entry D)) → IsSome o → passes_at (is_same_as same o) (option_map (λ (e : Entry D). e.doc) o) ≡ true
  same-self same itself None live = absurd (true≢false (sym live))
  same-self same itself (Some e) live = itself e.doc

  -- the way up does not depend on documents
  pub parent-same : (passes : Entry D → Bool) (change : Entry D → D) (o : Option (Entry D)) → option_and_then parent_of (option_map (changed_where passes change) o) ≡ option_and_then parent_of o
  parent-same passes change None = refl
  parent-same passes change (Some e) = refl

  -- a frame is on its own path
  pub on-its-path : (es : List (Entry D)) (h : Handle) → IfSome (entry_of es h) (λ e. IsTrue (has_handle e.handle (path_of es h)))
  on-its-path es h = of_each (λ (e : Entry D). IsTrue (has_handle e.handle (path_of es h))) (entry_of es h) (λ e f. ap (λ o. has_handle e.handle (unwrap_or (option_map path o) [])) f ∙ has-last e.handle e.above)

  -- a frame that has a top frame is live
  pub has-top : (o : Option (Entry D)) (top : Option Handle) (none : Bool) → top ≡ option_map top_of o → is_some top ≡ not none → none ≡ false → IsSome o
  has-top None top none q t n = absurd (true≢false (sym (ap not n) ∙ sym t ∙ ap is_some q))
  has-top (Some e) top none q t n = refl

  -- and stays so, changed
  pub still-live : (change : Entry D → Entry D) (o : Option (Entry D)) → IsSome o → IsSome (option_map change o)
  still-live change None live = live
  still-live change (Some e) live = refl

  -- a frame without a parent is alone on its path
  pub path-top : (o : Option (Entry D)) (h : Handle) → IsSome o → option_and_then parent_of o ≡ None → IfSome o (λ e. parent_of e ≡ None → top_of e ≡ h) → unwrap_or (option_map path o) [] ≡ h ∷ []
  path-top None h live q top = absurd (true≢false (sym live))
  path-top (Some e) h live q top = by_above e.above refl q
    where
      by_above : (ks : List Handle) → e.above ≡ ks → last_of e.above ≡ None → path e ≡ h ∷ []
      by_above [] a n = ap (λ ks. ks ++ e.handle ∷ []) a ∙ ap (λ k. k ∷ []) (sym (ap (λ ks. first_of ks e.handle) a) ∙ top n)
      by_above (k ∷ ks) a n = absurd (true≢false (sym (ap (λ js. is_some (last_of js)) a) ∙ ap is_some n))

  -- a path is as long as the frame is deep
  pub path-long : (o : Option (Entry D)) (depth : ℕ) → IfSome o (λ e. depth_of e ≤ depth) → length (unwrap_or (option_map path o) []) ≤ depth
  path-long None depth w = omega arith
  path-long (Some e) depth w = let long = length-append e.above (e.handle ∷ []) in omega (arith, long, w)

  module _ (set : Stamp → D → D) (now : ℕ) where
    -- the frames of these handles and no others are activated
    abbrev pub activated_in : List Handle → List (Entry D) → List (Entry D)
    activated_in ks es = map (changed_where (λ x. has_handle x.handle ks) (activated set now)) es

    -- the way up came to this frame, and activated each document up to it
    pub record IsActivatedUpTo (old new : Forest D) (h at : Handle) (count m n : ℕ) : Type 0 where
      pub passed : List Handle
      pub live : IsSome (entry_of old.entries at)
      pub path : path_of old.entries h ≡ path_of old.entries at ++ passed
      pub entries : new.entries ≡ activated_in (at ∷ passed) old.entries
      pub marks : new.marks ≡ old.marks
      pub made : new.made ≡ old.made
      pub counted : count ≡ length passed + 1
      pub so_far : n ≡ m + (length passed + 1)

    -- the walk activated where they pass the documents of each frame below the root up to this one, and the root is left
    pub record IsActivatedTo (passes : D → Bool) (old new : Forest D) (root at : Handle) (count m n : ℕ) : Type 0 where
      pub listed : IsTrue (has_handle at (handles_under old.entries root))
      pub counted : count + 1 ≡ count_at passes old.entries (visited at (handles_under old.entries root))
      pub few : count + 1 ≤ length (visited at (handles_under old.entries root))
      pub so_far : n + 3 ≤ m + 3 * length (visited at (handles_under old.entries root))
      pub entries : new.entries ≡ changed_to (activated_where passes set now) old.entries root at
      pub marks : new.marks ≡ old.marks
      pub made : new.made ≡ old.made

    -- the change leaves a document that was activated before
    pub root-left : (passes : D → Bool) (e : Entry D) → activated set now e ≡ e.doc → activated_where passes set now e ≡ e.doc
    root-left passes e before = by_test (passes e.doc)
      where
        by_test : (b : Bool) → cond b (set (stamp.At now) e.doc) e.doc ≡ e.doc
        by_test true = before
        by_test false = refl

    pub left-first : (passes : D → Bool) (o : Option (Entry D)) → IsSome o → (es next : List (Entry D)) (root : Handle) → IfSome o (λ e. map (with_document root (activated_where passes set now e)) es ≡ next) → IfSome o (λ e. activated set now e ≡ e.doc) → IfSome o (λ e. map (with_document root e.doc) es ≡ es) → es ≡ next
    left-first passes None live es next root first before same = absurd (true≢false (sym live))
    left-first passes (Some e) live es next root first before same = sym same ∙ ap (λ d. map (with_document root d) es) (sym (root-left passes e before)) ∙ first

    -- so the same documents are same origin with it
    pub root-same : (same : D → D → Bool) (passes : Entry D → Bool) (test : D → Bool) (o : Option (Entry D)) → IfSome o (λ e. activated set now e ≡ e.doc) → (d : D) → is_same_as same (option_map (changed_where passes (activated_where test set now)) o) d ≡ is_same_as same o d
    root-same same passes test None before d = refl
    root-same same passes test (Some e) before d = ap (λ c. same c d) (by_test (passes e))
      where
        by_test : (b : Bool) → cond b (activated_where test set now e) e.doc ≡ e.doc
        by_test true = root-left test e before
        by_test false = refl

    -- what a step of the walk leaves, and how many it activates
    pub record Stepped (passes : D → Bool) (o : Option (Entry D)) (cur new : Forest D) (next : List (Entry D)) (result : ℕ) : Type 0 where
      pub entries : new.entries ≡ next
      pub marks : new.marks ≡ cur.marks
      pub made : new.made ≡ cur.made
      pub count : result ≡ cond (passes_at passes (option_map (λ (e : Entry D). e.doc) o)) 1 0

    pub stepped : (passes test : D → Bool) → ((d : D) → test d ≡ passes d) → (o : Option (Entry D)) → IsSome o → (cur new : Forest D) (k : Handle) (next : List (Entry D)) (result : ℕ)
        → IfSome o (λ x. new ≡ cond (test x.doc) (with_doc cur k (activated set now x)) cur) → IfSome o (λ x. result ≡ cond (test x.doc) 1 0)
        → IfSome o (λ x. map (with_document k (activated_where passes set now x)) cur.entries ≡ next) → IfSome o (λ x. activated_where passes set now x ≡ x.doc → cur.entries ≡ next) → Stepped passes o cur new next result
    stepped passes test agree None live cur new k next result w c to left = absurd (true≢false (sym live))
    stepped passes test agree (Some x) live cur new k next result w c to left = by_test (passes x.doc) refl
      where
        by_test : (b : Bool) → passes x.doc ≡ b → Stepped passes (Some x) cur new next result
        by_test true t =
            let is = w ∙ ap (λ b. cond b (with_doc cur k (activated set now x)) cur) (agree x.doc ∙ t) in
            record {
              entries = ap (λ f. f.entries) is ∙ ap (λ d. map (with_document k d) cur.entries) (sym (ap (λ b. cond b (set (stamp.At now) x.doc) x.doc) t)) ∙ to;
              marks = ap (λ f. f.marks) is;
              made = ap (λ f. f.made) is;
              count = c ∙ ap (λ b. cond b 1 0) (agree x.doc);
            }
        by_test false t =
            let is = w ∙ ap (λ b. cond b (with_doc cur k (activated set now x)) cur) (agree x.doc ∙ t) in
            record {
              entries = ap (λ f. f.entries) is ∙ left (ap (λ b. cond b (set (stamp.At now) x.doc) x.doc) t);
              marks = ap (λ f. f.marks) is;
              made = ap (λ f. f.made) is;
              count = c ∙ ap (λ b. cond b 1 0) (agree x.doc);
            }

  module _ (get : D → Stamp) (set : Stamp → D → D) (field : IsField get set) (now : ℕ) where
    -- a write of a frame that is changed already writes the same
    pub again : (passes : Entry D → Bool) (o : Option (Entry D)) (cur new : Forest D) (k : Handle) (next : List (Entry D)) → IsSome o
        → IfSome (option_map (changed_where passes (activated set now)) o) (λ e. new ≡ with_doc cur k (activated set now e)) → IfSome o (λ e. map (with_document k (activated set now e)) cur.entries ≡ next)
        → (new.entries ≡ next) × (new.marks ≡ cur.marks) × (new.made ≡ cur.made)
    again passes None cur new k next live w q = absurd (true≢false (sym live))
    again passes (Some e) cur new k next live w q = (
      ap (λ f. f.entries) w ∙ ap (λ d. map (with_document k d) cur.entries) (by_test (passes e)) ∙ q,
      ap (λ f. f.marks) w,
      ap (λ f. f.made) w,
    )
      where
        by_test : (b : Bool) → set (stamp.At now) (cond b (set (stamp.At now) e.doc) e.doc) ≡ set (stamp.At now) e.doc
        by_test true = field.last_counts (stamp.At now) (stamp.At now) e.doc
        by_test false = refl

    -- a frame that was activated stays so when it is activated again
    pub activated-again : (passes : Entry D → Bool) (o : Option (Entry D)) → IfSome o (λ e. IsTrue (passes e)) → IfSome (option_map (changed_where passes (activated set now)) o) (λ e. activated set now e ≡ e.doc)
    activated-again passes None w = tt
    activated-again passes (Some e) w = ap (λ b. set (stamp.At now) (cond b (set (stamp.At now) e.doc) e.doc)) w ∙ field.last_counts (stamp.At now) (stamp.At now) e.doc ∙ sym (ap (λ b. cond b (set (stamp.At now) e.doc) e.doc) w)

    module _ (same : D → D → Bool) (stays : (s : Stamp) (d e : D) → (same (set s d) e ≡ same d e) × (same e (set s d) ≡ same e d)) where
      -- a stamp does not tell whether two are same origin
      still-same : (b c : Bool) (d e : D) → same (cond b (set (stamp.At now) d) d) (cond c (set (stamp.At now) e) e) ≡ same d e
      still-same true true d e = (stays (stamp.At now) d (set (stamp.At now) e)).0 ∙ (stays (stamp.At now) e d).1
      still-same true false d e = (stays (stamp.At now) d e).0
      still-same false true d e = (stays (stamp.At now) e d).1
      still-same false false d e = refl

      twice : (a u t : Bool) (d : D) → cond u (cond t (set (stamp.At now) (cond a (set (stamp.At now) d) d)) (cond a (set (stamp.At now) d) d)) (cond a (set (stamp.At now) d) d) ≡ cond (a || (u && t)) (set (stamp.At now) d) d
      twice true true true d = field.last_counts (stamp.At now) (stamp.At now) d
      twice true true false d = refl
      twice true false t d = refl
      twice false true true d = refl
      twice false true false d = refl
      twice false false t d = refl

      module _ (up : Entry D → Bool) (h : Handle) (e : Entry D) where
        one-notified : (x : Entry D) → changed_where (is_under h) (activated_where (is_same_as same (Some (changed_where up (activated set now) e))) set now) (changed_where up (activated set now) x) ≡ changed_where (λ y. up y || (is_under h y && same e.doc y.doc)) (activated set now) x
        one-notified x = ap (λ d. record x { doc = d }) (
            ap (λ t. cond (is_under h x) (cond t (set (stamp.At now) (cond (up x) (set (stamp.At now) x.doc) x.doc)) (cond (up x) (set (stamp.At now) x.doc) x.doc)) (cond (up x) (set (stamp.At now) x.doc) x.doc)) (still-same (up e) (up x) e.doc x.doc)
            ∙ twice (up x) (is_under h x) (same e.doc x.doc) x.doc)

        -- the two walks together
        pub both-walks : (es : List (Entry D)) → map (changed_where (is_under h) (activated_where (is_same_as same (Some (changed_where up (activated set now) e))) set now)) (map (changed_where up (activated set now)) es) ≡ map (changed_where (λ y. up y || (is_under h y && same e.doc y.doc)) (activated set now)) es
        both-walks [] = refl
        both-walks (x ∷ xs) = ap (λ y. y ∷ map (changed_where (is_under h) (activated_where (is_same_as same (Some (changed_where up (activated set now) e))) set now)) (map (changed_where up (activated set now)) xs)) (one-notified x) ∙ ap (λ ys. changed_where (λ y. up y || (is_under h y && same e.doc y.doc)) (activated set now) x ∷ ys) (both-walks xs)

        -- the way up does not change how many are same origin
        pub same-below : (es : List (Entry D)) → length (filter (λ x. is_under h x && is_same_as same (Some (changed_where up (activated set now) e)) x.doc) (map (changed_where up (activated set now)) es)) ≡ length (filter (λ x. is_under h x && same e.doc x.doc) es)
        same-below es =
            count-map (changed_where up (activated set now)) (λ x. is_under h x && is_same_as same (Some (changed_where up (activated set now) e)) x.doc) es
            ∙ count-same _ (λ x. is_under h x && same e.doc x.doc) (λ x. ap (λ b. is_under h x && b) (still-same (up e) (up x) e.doc x.doc)) es

      -- what is so of the frame's handle is so of its entry
      module _ (h : Handle) (old cur new : Forest D) (found : IsFoundChanged old.entries) (upward : cur.entries ≡ activated_in set now (path_of old.entries h) old.entries) where
        abbrev on_path : Entry D → Bool
        on_path x = has_handle x.handle (path_of old.entries h)

        module _ (e : Entry D) (f : entry_of old.entries h ≡ Some e) where
          its-path : path_of old.entries h ≡ path e
          its-path = ap (λ o. unwrap_or (option_map path o) []) f

          now-there : entry_of cur.entries h ≡ Some (changed_where on_path (activated set now) e)
          now-there = ap (λ es. entry_of es h) upward ∙ found on_path (activated set now) h ∙ ap (option_map (changed_where on_path (activated set now))) f

          -- the frames, once both walks are done
          pub notified-entries : new.entries ≡ map (changed_where (is_under h) (activated_where (is_same_as same (entry_of cur.entries h)) set now)) cur.entries → new.entries ≡ notified same set now h e old.entries
          notified-entries below =
              below
              ∙ ap (λ o. map (changed_where (is_under h) (activated_where (is_same_as same o) set now)) cur.entries) now-there
              ∙ ap (map (changed_where (is_under h) (activated_where (is_same_as same (Some (changed_where on_path (activated set now) e))) set now))) upward
              ∙ both-walks on_path h e old.entries
              ∙ ap (λ ks. map (changed_where (λ y. has_handle y.handle ks || (is_under h y && same e.doc y.doc)) (activated set now)) old.entries) its-path

          -- how many that activates
          pub notified-count : (above below : ℕ) → above ≡ length (path_of old.entries h) → below + 1 ≡ length (filter (λ x. is_under h x && is_same_as same (entry_of cur.entries h) x.doc) cur.entries)
              → length (filter (is_notified same h e) old.entries) + 1 ≡ depth_of e + length (filter (λ x. is_under h x && same e.doc x.doc) old.entries) → above + below ≡ length (filter (is_notified same h e) old.entries)
          notified-count above below up down both =
              let long = ap length its-path in
              let depth = length-append e.above (e.handle ∷ []) in
              let same_count =
              ap (λ o. length (filter (λ x. is_under h x && is_same_as same o x.doc) cur.entries)) now-there
              ∙ ap (λ es. length (filter (λ x. is_under h x && is_same_as same (Some (changed_where on_path (activated set now) e)) x.doc) es)) upward
              ∙ same-below on_path h e old.entries
              in
              omega (arith, up, down, both, long, depth, same_count)

          -- and in how many steps
          pub notified-cost : (m mid n : ℕ) → mid ≡ m + length (path_of old.entries h) → n + 3 ≤ mid + 3 * length (handles_under cur.entries h) → handles_under (activated_in set now (path_of old.entries h) old.entries) h ≡ handles_under old.entries h
              → length (handles_under old.entries h) ≡ length (filter (is_under h) old.entries) → length (filter (λ x. is_under x.handle e || (is_under h x && true)) old.entries) + 1 ≡ depth_of e + length (filter (λ x. is_under h x && true) old.entries)
              → n ≤ m + 3 * length (filter (is_related h e) old.entries)
          notified-cost m mid n up down written all both =
              let long = ap length its-path in
              let depth = length-append e.above (e.handle ∷ []) in
              let under = ap (λ es. length (handles_under es h)) upward in
              let there = ap length written in
              let related = count-same (λ x. is_under x.handle e || (is_under h x && true)) (is_related h e) (λ x. ap (λ b. is_under x.handle e || b) (and-true (is_under h x))) old.entries in
              let below = count-same (λ x. is_under h x && true) (is_under h) (λ x. and-true (is_under h x)) old.entries in
              omega (arith, up, down, all, both, long, depth, under, there, related, below)
            where
              and-true : (b : Bool) → (b && true) ≡ b
              and-true true = refl
              and-true false = refl
