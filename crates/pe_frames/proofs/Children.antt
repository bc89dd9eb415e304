-- The handles of children, newest first.
use Rattle.std.proofs.Common.{◌≡◌, ◌⊎◌, inl, inr, Bool, true, false, cond, ◌||◌, List, [], ◌∷◌, ◌++◌, map, None, Some, is_some, refl, sym, ap, ◌∙◌, true≢false}
use Rattle.std.specs.Prelude.{unwrap_or}
use Rattle.std.proofs.lemmas.List.{map-append}
use Rattle.pe_arena.specs.declared.handle.Handle.{Handle}
use Rattle.pe_frames.specs.declared.node.Node.{Node}
use Rattle.pe_frames.specs.Forest.{Entry, same_handle, has_handle, last_of, parent_of}
use Rattle.pe_frames.specs.Order.{is_named, head_of, after, is_child, children, child_handles, AreOnce}
use Rattle.pe_frames.specs.Neighbours.{before, children_newest_first}
use Rattle.pe_frames.specs.Kept.{Kept, node_at, entry_in, entries_in, AreNodes, AreApart}
use Rattle.pe_frames.proofs.Handles.{has-push, other-turned, same_handle-Decides, same_or_other, last-push, named_is}
use Rattle.std.proofs.lemmas.Bool.{cases_Bool, or_from, or_parts}

-- a handle that is not among these
pub head-absent : (h : Handle) (ks : List Handle) → has_handle h ks ≡ false → is_named (head_of ks) h ≡ false
head-absent h [] e = refl
head-absent h (k ∷ ks) e = (or_parts (same_handle k h) (has_handle h ks) e).0

pub after-absent : (h : Handle) (ks : List Handle) → has_handle h ks ≡ false → after h ks ≡ None
after-absent h [] e = refl
after-absent h (k ∷ ks) e = by_test (same_handle k h) e (after-absent h ks)
  where
    by_test : (b : Bool) → (b || has_handle h ks) ≡ false → (has_handle h ks ≡ false → after h ks ≡ None) → cond b (head_of ks) (after h ks) ≡ None
    by_test true f rest = absurd (true≢false f)
    by_test false f rest = rest f

pub before-absent : (h : Handle) (ks : List Handle) → has_handle h ks ≡ false → before h ks ≡ None
before-absent h [] e = refl
before-absent h (k ∷ ks) e =
    let parts = or_parts (same_handle k h) (has_handle h ks) e in
    ap (λ b. cond b (Some k) (before h ks)) (head-absent h ks parts.1) ∙ before-absent h ks parts.1

-- the list, turned
abbrev pub turned : List Handle → List Handle
turned [] = []
turned (k ∷ ks) = turned ks ++ k ∷ []

has-turned : (k : Handle) (ks : List Handle) → has_handle k (turned ks) ≡ has_handle k ks
has-turned k [] = refl
has-turned k (x ∷ ks) = has-push k x (turned ks) ∙ ap (λ b. b || same_handle x k) (has-turned k ks) ∙ swap (has_handle k ks) (same_handle x k)
  where
    swap : (a b : Bool) → (a || b) ≡ (b || a)
    swap true true = refl
    swap true false = refl
    swap false true = refl
    swap false false = refl

once-push : (ks : List Handle) (k : Handle) → AreOnce ks → has_handle k ks ≡ false → AreOnce (ks ++ k ∷ [])
once-push [] k once e = (refl, tt)
once-push (x ∷ ks) k once e =
    let parts = or_parts (same_handle x k) (has_handle k ks) e in
    (has-push x k ks ∙ or_from (has_handle x ks) (same_handle k x) once.0 (other-turned x k parts.0), once-push ks k once.1 parts.1)

pub once-turned : (ks : List Handle) → AreOnce ks → AreOnce (turned ks)
once-turned [] once = tt
once-turned (k ∷ ks) once = once-push (turned ks) k (once-turned ks once.1) (has-turned k ks ∙ once.0)

last-absent : (h : Handle) (ks : List Handle) (k : Handle) → has_handle h (k ∷ ks) ≡ false → is_named (last_of (k ∷ ks)) h ≡ false
last-absent h [] k e = (or_parts (same_handle k h) false e).0
last-absent h (x ∷ ks) k e = last-absent h ks x (or_parts (same_handle k h) (has_handle h (x ∷ ks)) e).1

-- what stands behind a handle, once another is put last
after-push : (ks : List Handle) (k x : Handle) → AreOnce ks → after k (ks ++ x ∷ []) ≡ cond (is_named (last_of ks) k) (Some x) (after k ks)
after-push [] k x once = by_test (same_handle x k)
  where
    by_test : (b : Bool) → cond b (head_of []) (after k []) ≡ None
    by_test true = refl
    by_test false = refl
after-push (a ∷ []) k x once = by_test (same_handle a k) (same_handle x k)
  where
    by_test : (b c : Bool) → cond b (Some x) (cond c (head_of []) (after k [])) ≡ cond b (Some x) (cond b (head_of []) (after k []))
    by_test true c = refl
    by_test false true = refl
    by_test false false = refl
after-push (a ∷ b ∷ ks) k x once = elim (same_or_other a k) as (λ _. cond (same_handle a k) (Some b) (after k ((b ∷ ks) ++ x ∷ [])) ≡ cond (is_named (last_of (b ∷ ks)) k) (Some x) (cond (same_handle a k) (Some b) (after k (b ∷ ks)))) [
  | inl e ↦
      let none = last-absent k ks b (ap (λ y. has_handle y (b ∷ ks)) (sym ((same_handle-Decides a k).0 e)) ∙ once.0) in
      ap (λ c. cond c (Some b) (after k ((b ∷ ks) ++ x ∷ []))) e
      ∙ ap (λ c. cond c (Some b) (after k (b ∷ ks))) (sym e)
      ∙ ap (λ c. cond c (Some x) (cond (same_handle a k) (Some b) (after k (b ∷ ks)))) (sym none)
  | inr e ↦
      ap (λ c. cond c (Some b) (after k ((b ∷ ks) ++ x ∷ []))) e
      ∙ after-push (b ∷ ks) k x once.1
      ∙ ap (λ c. cond (is_named (last_of (b ∷ ks)) k) (Some x) (cond c (Some b) (after k (b ∷ ks)))) (sym e)
]

last-turned : (ks : List Handle) → last_of (turned ks) ≡ head_of ks
last-turned [] = refl
last-turned (k ∷ ks) = last-push (turned ks) k

head-push : (ks : List Handle) (k : Handle) → head_of (ks ++ k ∷ []) ≡ Some (unwrap_or (head_of ks) k)
head-push [] k = refl
head-push (x ∷ ks) k = refl

head-turned : (ks : List Handle) → head_of (turned ks) ≡ last_of ks
head-turned [] = refl
head-turned (k ∷ ks) = head-push (turned ks) k ∙ ap (λ o. Some (unwrap_or o k)) (head-turned ks)

-- what stands behind a handle in the turned list stands before it
after-turned : (ks : List Handle) (k : Handle) → AreOnce ks → after k (turned ks) ≡ before k ks
after-turned [] k once = refl
after-turned (x ∷ ks) k once =
    after-push (turned ks) k x (once-turned ks once.1)
    ∙ ap (λ o. cond (is_named o k) (Some x) (after k (turned ks))) (last-turned ks)
    ∙ ap (λ o. cond (is_named (head_of ks) k) (Some x) o) (after-turned ks k once.1)

module _ {D : Type 0} where
  -- the handles of the children are those, turned
  pub children-turned : (es : List (Entry D)) (h : Handle) → child_handles es h ≡ turned (children_newest_first es h)
  children-turned [] h = refl
  children-turned (e ∷ es) h = by_test (is_child h e) (children-turned es h)
    where
      append_none : (ks : List Handle) → ks ++ [] ≡ ks
      append_none [] = refl
      append_none (k ∷ ks) = ap (λ x. k ∷ x) (append_none ks)

      by_test : (b : Bool) → child_handles es h ≡ turned (children_newest_first es h) → map (λ (x : Entry D). x.handle) (children es h ++ cond b (e ∷ []) []) ≡ turned (cond b (e.handle ∷ children_newest_first es h) (children_newest_first es h))
      by_test true rest = map-append (λ (x : Entry D). x.handle) (children es h) (e ∷ []) ∙ ap (λ ks. ks ++ e.handle ∷ []) rest
      by_test false rest = map-append (λ (x : Entry D). x.handle) (children es h) [] ∙ append_none (child_handles es h) ∙ rest

  -- the first of them
  pub first-child : (es : List (Entry D)) (h : Handle) → head_of (child_handles es h) ≡ last_of (children_newest_first es h)
  first-child es h = ap head_of (children-turned es h) ∙ head-turned (children_newest_first es h)

  -- the one behind another
  pub later-child : (es : List (Entry D)) (h k : Handle) → AreOnce (children_newest_first es h) → after k (child_handles es h) ≡ before k (children_newest_first es h)
  later-child es h k once = ap (after k) (children-turned es h) ∙ after-turned (children_newest_first es h) k once

  -- and none behind what is no child
  pub later-none : (es : List (Entry D)) (h k : Handle) → has_handle k (children_newest_first es h) ≡ false → after k (child_handles es h) ≡ None
  later-none es h k e = ap (after k) (children-turned es h) ∙ after-absent k (turned (children_newest_first es h)) (has-turned k (children_newest_first es h) ∙ e)

  -- the kept node of a handle names this parent
  pub record IsBornOf (xs : List (Kept D)) (p l : Handle) : Type 0 where
    pub node : Node D
    pub found : node_at xs l ≡ Some node
    pub parent : node.parent ≡ Some p

  -- a kept handle is not the newer one's
  other-node : (xs : List (Kept D)) (x : Kept D) (l : Handle) (n : Node D) → node_at xs x.handle ≡ None → node_at xs l ≡ Some n → same_handle x.handle l ≡ false
  other-node xs x l n none found = elim (same_or_other x.handle l) as (λ _. same_handle x.handle l ≡ false) [
    | inl t ↦ absurd (true≢false (sym (ap is_some (ap (node_at xs) ((same_handle-Decides x.handle l).0 t) ∙ found)) ∙ ap is_some none))
    | inr f ↦ f
  ]

  -- each of the children names its parent
  pub born : (xs : List (Kept D)) (p l : Handle) → AreNodes xs → AreApart xs → has_handle l (children_newest_first (entries_in xs) p) ≡ true → IsBornOf xs p l
  born [] p l are apart e = absurd (true≢false (sym e))
  born (x ∷ xs) p l are apart e = elim (cases_Bool (is_child p (entry_in (entries_in xs) x))) as (λ _. IsBornOf (x ∷ xs) p l) [
    | inl t ↦ first t (λ q. born xs p l are.1 apart.1 q) (same_or_other x.handle l) (sym (ap (λ b. has_handle l (cond b (x.handle ∷ children_newest_first (entries_in xs) p) (children_newest_first (entries_in xs) p))) t) ∙ e)
    | inr f ↦ older (born xs p l are.1 apart.1 (sym (ap (λ b. has_handle l (cond b (x.handle ∷ children_newest_first (entries_in xs) p) (children_newest_first (entries_in xs) p))) f) ∙ e))
  ]
    where
      older : IsBornOf xs p l → IsBornOf (x ∷ xs) p l
      older b = record {
        node = b.node;
        found = ap (λ t. cond t (Some x.node) (node_at xs l)) (other-node xs x l b.node apart.0 b.found) ∙ b.found;
        parent = b.parent;
      }

      first : is_child p (entry_in (entries_in xs) x) ≡ true → (has_handle l (children_newest_first (entries_in xs) p) ≡ true → IsBornOf xs p l) → (same_handle x.handle l ≡ true) ⊎ (same_handle x.handle l ≡ false) → (same_handle x.handle l || has_handle l (children_newest_first (entries_in xs) p)) ≡ true → IsBornOf (x ∷ xs) p l
      first t rest (inl s) q = record {
        node = x.node;
        found = ap (λ b. cond b (Some x.node) (node_at xs l)) s;
        parent = ap (λ n. n.parent) (sym are.0) ∙ named_is (parent_of (entry_in (entries_in xs) x)) p t;
      }
      first t rest (inr s) q = older (rest (ap (λ b. b || has_handle l (children_newest_first (entries_in xs) p)) (sym s) ∙ q))
