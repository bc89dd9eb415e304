-- The links of rows, through the making of a frame.
use Rattle.std.proofs.Common.{◌≡◌, ◌≢◌, inl, inr, ◌+◌, Bool, true, false, cond, List, [], ◌∷◌, Option, None, Some, IsSome, is_some, is_none, refl, sym, ap, ◌∙◌, true≢false}
use Rattle.pe_arena.specs.declared.handle.Handle.{Handle}
use Rattle.pe_frames.specs.declared.row.Row.{Row}
use Rattle.pe_frames.specs.declared.row.Neighbours.{Neighbours}
use Rattle.pe_frames.specs.declared.node.Node.{Node}
use Rattle.pe_frames.specs.Forest.{Entry, same_handle, has_handle, last_of, parent_of}
use Rattle.pe_frames.specs.Order.{is_named, head_of, after}
use Rattle.pe_frames.specs.Neighbours.{before, links_by, children_newest_first, siblings, links_in, changed_at, with_first, with_last, with_later, linked}
use Rattle.pe_frames.specs.Kept.{Kept, node_at, entries_in, AreNodes, AreApart, HasLinks}
use Rattle.pe_frames.proofs.Handles.{same_handle-Decides, same_or_other, is_named-of, head-has, same-itself}
use Rattle.std.proofs.lemmas.Bool.{false_from_ne_true}
use Rattle.pe_frames.proofs.Children.{born, head-absent, before-absent}
use Rattle.pe_frames.proofs.Lemmas.{some_same}

-- the first child, once another is put last
first-grown : (p h j : Handle) (ks : List Handle) → same_handle p j ≡ true → cond (is_named (cond (is_none (head_of ks)) (Some p) None) j) (Some h) (last_of ks) ≡ last_of (h ∷ ks)
first-grown p h j [] e = ap (λ b. cond b (Some h) None) e
first-grown p h j (k ∷ ks) e = refl

first-other : (p j : Handle) (o : Option Handle) → same_handle p j ≡ false → is_named (cond (is_none o) (Some p) None) j ≡ false
first-other p j None e = e
first-other p j (Some k) e = refl

module _ {D : Type 0} where
  links-of : (a b c : Bool) (h : Handle) (r : Row D) → (cond c (with_last (Some h) (cond b (with_first (Some h) (cond a (with_later (Some h) r) r)) (cond a (with_later (Some h) r) r))) (cond b (with_first (Some h) (cond a (with_later (Some h) r) r)) (cond a (with_later (Some h) r) r))).links ≡ record { first = cond b (Some h) r.links.first; last = cond c (Some h) r.links.last; earlier = r.links.earlier; later = cond a (Some h) r.links.later }
  links-of true true true h r = refl
  links-of true true false h r = refl
  links-of true false true h r = refl
  links-of true false false h r = refl
  links-of false true true h r = refl
  links-of false true false h r = refl
  links-of false false true h r = refl
  links-of false false false h r = refl

  node-of : (a b c : Bool) (h : Handle) (r : Row D) → (cond c (with_last (Some h) (cond b (with_first (Some h) (cond a (with_later (Some h) r) r)) (cond a (with_later (Some h) r) r))) (cond b (with_first (Some h) (cond a (with_later (Some h) r) r)) (cond a (with_later (Some h) r) r))).node ≡ r.node
  node-of true true true h r = refl
  node-of true true false h r = refl
  node-of true false true h r = refl
  node-of true false false h r = refl
  node-of false true true h r = refl
  node-of false true false h r = refl
  node-of false false true h r = refl
  node-of false false false h r = refl

  size-of : (a b c : Bool) (h : Handle) (r : Row D) → (cond c (with_last (Some h) (cond b (with_first (Some h) (cond a (with_later (Some h) r) r)) (cond a (with_later (Some h) r) r))) (cond b (with_first (Some h) (cond a (with_later (Some h) r) r)) (cond a (with_later (Some h) r) r))).size ≡ r.size
  size-of true true true h r = refl
  size-of true true false h r = refl
  size-of true false true h r = refl
  size-of true false false h r = refl
  size-of false true true h r = refl
  size-of false true false h r = refl
  size-of false false true h r = refl
  size-of false false false h r = refl

  pub linked-node : (p : Handle) (last : Option Handle) (h k : Handle) (r : Row D) → (linked p last h k r).node ≡ r.node
  linked-node p last h k r = node-of (is_named last k) (is_named (cond (is_none last) (Some p) None) k) (same_handle p k) h r

  pub linked-size : (p : Handle) (last : Option Handle) (h k : Handle) (r : Row D) → (linked p last h k r).size ≡ r.size
  linked-size p last h k r = size-of (is_named last k) (is_named (cond (is_none last) (Some p) None) k) (same_handle p k) h r

  -- the row of a top frame, with its page one frame larger
  abbrev pub grown : Row D → Row D
  grown r = record r { size = r.size + 1 }

  pub grown-node : (top k : Handle) (r : Row D) → (changed_at (Some top) grown k r).node ≡ r.node
  grown-node top k r = by_test (same_handle top k)
    where
      by_test : (b : Bool) → (cond b (grown r) r).node ≡ r.node
      by_test true = refl
      by_test false = refl

  pub grown-size : (top k : Handle) (r : Row D) → (changed_at (Some top) grown k r).size ≡ cond (same_handle top k) (r.size + 1) r.size
  grown-size top k r = by_test (same_handle top k)
    where
      by_test : (b : Bool) → (cond b (grown r) r).size ≡ cond b (r.size + 1) r.size
      by_test true = refl
      by_test false = refl

  pub grown-links : (es : List (Entry D)) (top k : Handle) (r : Row D) → HasLinks es k r → HasLinks es k (changed_at (Some top) grown k r)
  grown-links es top k r has = by_test (same_handle top k)
    where
      by_test : (b : Bool) → HasLinks es k (cond b (grown r) r)
      by_test true = has
      by_test false = has

  -- a frame was put before the others
  module _ (e : Entry D) (es : List (Entry D)) where
    children_newest_first-top : parent_of e ≡ None → (q : Handle) → children_newest_first (e ∷ es) q ≡ children_newest_first es q
    children_newest_first-top none q = ap (λ o. cond (is_named o q) (e.handle ∷ children_newest_first es q) (children_newest_first es q)) none

    -- a top frame leaves all links
    pub links-top : parent_of e ≡ None → (j : Handle) (p : Option Handle) → links_in (e ∷ es) j p ≡ links_in es j p
    links-top none j None = ap (λ ks. links_by ks [] j) (children_newest_first-top none j)
    links-top none j (Some p) = ap (λ ks. links_by ks (children_newest_first (e ∷ es) p) j) (children_newest_first-top none j) ∙ ap (λ ks. links_by (children_newest_first es j) ks j) (children_newest_first-top none p)

    -- and has none of its own
    pub links-alone : parent_of e ≡ None → (h : Handle) → children_newest_first es h ≡ [] → links_in (e ∷ es) h None ≡ record { first = None; last = None; earlier = None; later = None }
    links-alone none h own = links-top none h None ∙ ap (λ ks. links_by ks [] h) own

    module _ (p : Handle) (below : parent_of e ≡ Some p) where
      children_newest_first-below : (q : Handle) → children_newest_first (e ∷ es) q ≡ cond (same_handle p q) (e.handle ∷ children_newest_first es q) (children_newest_first es q)
      children_newest_first-below q = ap (λ o. cond (is_named o q) (e.handle ∷ children_newest_first es q) (children_newest_first es q)) below

      -- the links of the new frame
      pub links-new : same_handle p e.handle ≡ false → children_newest_first es e.handle ≡ [] → has_handle e.handle (children_newest_first es p) ≡ false → (r : Row D) → r.links ≡ record { first = None; last = None; earlier = head_of (children_newest_first es p); later = None }
          → r.node.parent ≡ Some p → HasLinks (e ∷ es) e.handle (linked p (head_of (children_newest_first es p)) e.handle e.handle r)
      links-new apart own absent r links parent =
          links-of (is_named (head_of (children_newest_first es p)) h) (is_named (cond (is_none (head_of (children_newest_first es p))) (Some p) None) h) (same_handle p h) h r
          ∙ ap (λ b. record { first = cond b (Some h) r.links.first; last = cond (same_handle p h) (Some h) r.links.last; earlier = r.links.earlier; later = cond (is_named (head_of (children_newest_first es p)) h) (Some h) r.links.later }) (first-other p h (head_of (children_newest_first es p)) apart)
          ∙ ap (λ b. record { first = r.links.first; last = cond b (Some h) r.links.last; earlier = r.links.earlier; later = cond (is_named (head_of (children_newest_first es p)) h) (Some h) r.links.later }) apart
          ∙ ap (λ b. record { first = r.links.first; last = r.links.last; earlier = r.links.earlier; later = cond b (Some h) r.links.later }) unnamed
          ∙ links
          ∙ sym behind
          ∙ ap (links_in (e ∷ es) h) (sym (ap (λ (n : Node D). n.parent) (linked-node p (head_of (children_newest_first es p)) h h r) ∙ parent))
        where
          h : Handle
          h = e.handle

          unnamed : is_named (head_of (children_newest_first es p)) e.handle ≡ false
          unnamed = head-absent e.handle (children_newest_first es p) absent

          behind : links_in (e ∷ es) e.handle (Some p) ≡ record { first = None; last = None; earlier = head_of (children_newest_first es p); later = None }
          behind =
              ap (λ ks. links_by ks (children_newest_first (e ∷ es) p) e.handle) (children_newest_first-below e.handle ∙ ap (λ b. cond b (e.handle ∷ children_newest_first es e.handle) (children_newest_first es e.handle)) apart ∙ own)
              ∙ ap (λ ks. links_by [] ks e.handle) (children_newest_first-below p ∙ ap (λ b. cond b (e.handle ∷ children_newest_first es p) (children_newest_first es p)) (same-itself p))
              ∙ ap (λ b. record { first = None; last = None; earlier = cond b (head_of (children_newest_first es p)) (after e.handle (children_newest_first es p)); later = cond (is_named (head_of (children_newest_first es p)) e.handle) (Some e.handle) (before e.handle (children_newest_first es p)) }) (same-itself e.handle)
              ∙ ap (λ b. record { first = None; last = None; earlier = head_of (children_newest_first es p); later = cond b (Some e.handle) (before e.handle (children_newest_first es p)) }) unnamed
              ∙ ap (λ o. record { first = None; last = None; earlier = head_of (children_newest_first es p); later = o }) (before-absent e.handle (children_newest_first es p) absent)

      module _ (j : Handle) (apart : same_handle e.handle j ≡ false) where
        first-linked : (o : Option Handle) → o ≡ last_of (children_newest_first es j) → cond (is_named (cond (is_none (head_of (children_newest_first es p))) (Some p) None) j) (Some e.handle) o ≡ last_of (children_newest_first (e ∷ es) j)
        first-linked o q = elim (same_or_other p j) as (λ _. cond (is_named (cond (is_none (head_of (children_newest_first es p))) (Some p) None) j) (Some e.handle) o ≡ last_of (children_newest_first (e ∷ es) j)) [
          | inl t ↦
              let pj = (same_handle-Decides p j).0 t in
              ap (cond (is_named (cond (is_none (head_of (children_newest_first es p))) (Some p) None) j) (Some e.handle)) (q ∙ ap (λ k. last_of (children_newest_first es k)) (sym pj))
              ∙ first-grown p e.handle j (children_newest_first es p) t
              ∙ ap (λ k. last_of (e.handle ∷ children_newest_first es k)) pj
              ∙ sym (ap last_of (children_newest_first-below j ∙ ap (λ b. cond b (e.handle ∷ children_newest_first es j) (children_newest_first es j)) t))
          | inr f ↦
              ap (λ b. cond b (Some e.handle) o) (first-other p j (head_of (children_newest_first es p)) f)
              ∙ q
              ∙ sym (ap last_of (children_newest_first-below j ∙ ap (λ b. cond b (e.handle ∷ children_newest_first es j) (children_newest_first es j)) f))
        ]

        last-linked : (o : Option Handle) → o ≡ head_of (children_newest_first es j) → cond (same_handle p j) (Some e.handle) o ≡ head_of (children_newest_first (e ∷ es) j)
        last-linked o q = by_test (same_handle p j) ∙ sym (ap head_of (children_newest_first-below j))
          where
            by_test : (b : Bool) → cond b (Some e.handle) o ≡ head_of (cond b (e.handle ∷ children_newest_first es j) (children_newest_first es j))
            by_test true = refl
            by_test false = q

        earlier-linked : (q : Option Handle) → after j (siblings es q) ≡ after j (siblings (e ∷ es) q)
        earlier-linked None = refl
        earlier-linked (Some q) = by_test (same_handle p q) ∙ sym (ap (after j) (children_newest_first-below q))
          where
            by_test : (b : Bool) → after j (children_newest_first es q) ≡ after j (cond b (e.handle ∷ children_newest_first es q) (children_newest_first es q))
            by_test true = sym (ap (λ b. cond b (head_of (children_newest_first es q)) (after j (children_newest_first es q))) apart)
            by_test false = refl

        later-linked : (q : Option Handle) → (q ≢ Some p → is_named (head_of (children_newest_first es p)) j ≡ false) → cond (is_named (head_of (children_newest_first es p)) j) (Some e.handle) (before j (siblings es q)) ≡ before j (siblings (e ∷ es) q)
        later-linked None other = ap (λ b. cond b (Some e.handle) None) (other (λ f. true≢false (sym (ap is_some f))))
        later-linked (Some q) other = elim (same_or_other p q) as (λ _. cond (is_named (head_of (children_newest_first es p)) j) (Some e.handle) (before j (children_newest_first es q)) ≡ before j (children_newest_first (e ∷ es) q)) [
          | inl t ↦
              let pq = (same_handle-Decides p q).0 t in
              ap (λ k. cond (is_named (head_of (children_newest_first es k)) j) (Some e.handle) (before j (children_newest_first es q))) pq
              ∙ sym (ap (before j) (children_newest_first-below q ∙ ap (λ b. cond b (e.handle ∷ children_newest_first es q) (children_newest_first es q)) t))
          | inr f ↦
              ap (λ b. cond b (Some e.handle) (before j (children_newest_first es q))) (other (λ x. not_other q f x))
              ∙ sym (ap (before j) (children_newest_first-below q ∙ ap (λ b. cond b (e.handle ∷ children_newest_first es q) (children_newest_first es q)) f))
        ]
          where
            not_other : (q : Handle) → same_handle p q ≡ false → Some q ≡ Some p → ⊥
            not_other q f x = let same : q ≡ p = cc in true≢false (sym ((same_handle-Decides p q).1 (sym same)) ∙ f)

        -- the links of each other frame
        pub links-old : (r : Row D) → HasLinks es j r → (r.node.parent ≢ Some p → is_named (head_of (children_newest_first es p)) j ≡ false) → HasLinks (e ∷ es) j (linked p (head_of (children_newest_first es p)) e.handle j r)
        links-old r has other =
            links-of (is_named (head_of (children_newest_first es p)) j) (is_named (cond (is_none (head_of (children_newest_first es p))) (Some p) None) j) (same_handle p j) e.handle r
            ∙ (λ i. record {
              first = first-linked r.links.first (ap (λ (l : Neighbours). l.first) has) i;
              last = last-linked r.links.last (ap (λ (l : Neighbours). l.last) has) i;
              earlier = earlier i;
              later = later i;
            })
            ∙ ap (links_in (e ∷ es) j) (sym (ap (λ (n : Node D). n.parent) (linked-node p (head_of (children_newest_first es p)) e.handle j r)))
          where
            earlier : r.links.earlier ≡ after j (siblings (e ∷ es) r.node.parent)
            earlier = ap (λ (l : Neighbours). l.earlier) has ∙ earlier-linked r.node.parent

            later : cond (is_named (head_of (children_newest_first es p)) j) (Some e.handle) r.links.later ≡ before j (siblings (e ∷ es) r.node.parent)
            later = ap (λ (l : Neighbours). cond (is_named (head_of (children_newest_first es p)) j) (Some e.handle) l.later) has ∙ later-linked r.node.parent other

  -- the last child of a frame is no frame of another parent
  pub last-is-child : (xs : List (Kept D)) → AreNodes xs → AreApart xs → (p j : Handle) (n : Node D) → node_at xs j ≡ Some n → n.parent ≢ Some p → is_named (head_of (children_newest_first (entries_in xs) p)) j ≡ false
  last-is-child xs are apart p j n found ne = false_from_ne_true (is_named (head_of (children_newest_first (entries_in xs) p)) j) (λ t.
      let b = born xs p j are apart (head-has j (children_newest_first (entries_in xs) p) t) in
      let same : b.node ≡ n = some_same (sym b.found ∙ found) in
      ne (ap (λ (x : Node D). x.parent) (sym same) ∙ b.parent))

  -- and is kept
  pub last-kept : (xs : List (Kept D)) → AreNodes xs → AreApart xs → (p k : Handle) → head_of (children_newest_first (entries_in xs) p) ≡ Some k → IsSome (node_at xs k)
  last-kept xs are apart p k e =
      let b = born xs p k are apart (head-has k (children_newest_first (entries_in xs) p) (is_named-of (head_of (children_newest_first (entries_in xs) p)) k e)) in
      ap is_some b.found
