-- The links of rows, through the removal of a frame and those below it.
use Rattle.std.proofs.Common.{◌≡◌, inl, inr, Bool, true, false, cond, ◌||◌, List, [], ◌∷◌, Option, None, Some, is_none, refl, sym, ap, ◌∙◌, true≢false}
use Rattle.std.specs.Prelude.{filter, not}
use Rattle.std.specs.Option.{option_map}
use Rattle.pe_base.specs.declared.limits.TheConstants.{DEPTH_LIMIT}
use Rattle.pe_arena.specs.declared.handle.Handle.{Handle}
use Rattle.pe_frames.specs.declared.row.Row.{Row}
use Rattle.pe_frames.specs.declared.row.Neighbours.{Neighbours}
use Rattle.pe_frames.specs.declared.node.Node.{Node}
use Rattle.pe_frames.specs.Forest.{Entry, same_handle, has_handle, last_of, entry_of, node_in, parent_of, is_under}
use Rattle.pe_frames.specs.Order.{is_named, head_of, after, is_child, handles_under, AreOnce}
use Rattle.pe_frames.specs.Neighbours.{before, links_by, children_newest_first, siblings, links_in, changed_at, with_first, with_last, with_earlier, with_later, unlinked}
use Rattle.pe_frames.specs.Kept.{Kept, entries_in, AreNodes, AreApart, HasLinks}
use Rattle.pe_frames.proofs.Nodes.{entries-nodes}
use Rattle.pe_frames.proofs.Handles.{other-turned, same_handle-Decides, is_named-of, head-has, named_is}
use Rattle.std.proofs.lemmas.Bool.{false_from_ne_true, cases_Bool}
use Rattle.pe_frames.proofs.Children.{born, before-absent, after-absent}
use Rattle.pe_frames.proofs.Kin.{children-once}
use Rattle.pe_frames.proofs.Tree.{Each, IsTree}
use Rattle.pe_frames.proofs.Cuts.{each-live}
use Rattle.pe_frames.proofs.Without.{without, without-absent, head-without, last-without, after-without, before-without}
use Rattle.pe_frames.proofs.Within.{children_newest_first-stays, child-goes, children-less, goes-under}
use Rattle.std.proofs.Math.Bool.{or-true}
use Rattle.pe_frames.proofs.Lemmas.{some_same}

pub before-has : (h k : Handle) (ks : List Handle) → is_named (before h ks) k ≡ true → has_handle k ks ≡ true
before-has h k [] e = absurd (true≢false (sym e))
before-has h k (a ∷ ks) e = by_test (is_named (head_of ks) h) e (λ q. before-has h k ks q)
  where
    by_test : (b : Bool) → is_named (cond b (Some a) (before h ks)) k ≡ true → (is_named (before h ks) k ≡ true → has_handle k ks ≡ true) → has_handle k (a ∷ ks) ≡ true
    by_test true q rest = ap (λ b. b || has_handle k ks) q
    by_test false q rest = ap (λ b. same_handle a k || b) (rest q) ∙ or-true (same_handle a k)

pub after-has : (h k : Handle) (ks : List Handle) → is_named (after h ks) k ≡ true → has_handle k ks ≡ true
after-has h k [] e = absurd (true≢false (sym e))
after-has h k (a ∷ ks) e = by_test (same_handle a h) e (λ q. after-has h k ks q)
  where
    by_test : (b : Bool) → is_named (cond b (head_of ks) (after h ks)) k ≡ true → (is_named (after h ks) k ≡ true → has_handle k ks ≡ true) → has_handle k (a ∷ ks) ≡ true
    by_test true q rest = ap (λ b. same_handle a k || b) (head-has k ks q) ∙ or-true (same_handle a k)
    by_test false q rest = ap (λ b. same_handle a k || b) (rest q) ∙ or-true (same_handle a k)

module _ {D : Type 0} where
  first-step : (b : Bool) (o : Option Handle) (r : Row D) → (cond b (with_first o r) r).links ≡ record r.links { first = cond b o r.links.first }
  first-step true o r = refl
  first-step false o r = refl

  last-step : (b : Bool) (o : Option Handle) (r : Row D) → (cond b (with_last o r) r).links ≡ record r.links { last = cond b o r.links.last }
  last-step true o r = refl
  last-step false o r = refl

  earlier-step : (b : Bool) (o : Option Handle) (r : Row D) → (cond b (with_earlier o r) r).links ≡ record r.links { earlier = cond b o r.links.earlier }
  earlier-step true o r = refl
  earlier-step false o r = refl

  later-step : (b : Bool) (o : Option Handle) (r : Row D) → (cond b (with_later o r) r).links ≡ record r.links { later = cond b o r.links.later }
  later-step true o r = refl
  later-step false o r = refl

  -- what a change keeps, the change of one row keeps
  pub at-keeps : {A : Type 0} (g : Row D → A) (o : Option Handle) (f : Row D → Row D) → ((x : Row D) → g (f x) ≡ g x) → (k : Handle) (r : Row D) → g (changed_at o f k r) ≡ g r
  at-keeps {A} g o f same k r = by_test (is_named o k)
    where
      by_test : (b : Bool) → g (cond b (f r) r) ≡ g r
      by_test true = same r
      by_test false = refl

  module _ (l : Neighbours) (p : Option Handle) (k : Handle) (r : Row D) where
    pub unlinked-node : (unlinked l p k r).node ≡ r.node
    unlinked-node =
        at-keeps (λ (x : Row D). x.node) (cond (is_none l.later) p None) (with_last l.earlier) (λ x. refl) k (changed_at (cond (is_none l.earlier) p None) (with_first l.later) k (changed_at l.later (with_earlier l.earlier) k (changed_at l.earlier (with_later l.later) k r)))
        ∙ at-keeps (λ (x : Row D). x.node) (cond (is_none l.earlier) p None) (with_first l.later) (λ x. refl) k (changed_at l.later (with_earlier l.earlier) k (changed_at l.earlier (with_later l.later) k r))
        ∙ at-keeps (λ (x : Row D). x.node) l.later (with_earlier l.earlier) (λ x. refl) k (changed_at l.earlier (with_later l.later) k r)
        ∙ at-keeps (λ (x : Row D). x.node) l.earlier (with_later l.later) (λ x. refl) k r

    pub unlinked-size : (unlinked l p k r).size ≡ r.size
    unlinked-size =
        at-keeps (λ (x : Row D). x.size) (cond (is_none l.later) p None) (with_last l.earlier) (λ x. refl) k (changed_at (cond (is_none l.earlier) p None) (with_first l.later) k (changed_at l.later (with_earlier l.earlier) k (changed_at l.earlier (with_later l.later) k r)))
        ∙ at-keeps (λ (x : Row D). x.size) (cond (is_none l.earlier) p None) (with_first l.later) (λ x. refl) k (changed_at l.later (with_earlier l.earlier) k (changed_at l.earlier (with_later l.later) k r))
        ∙ at-keeps (λ (x : Row D). x.size) l.later (with_earlier l.earlier) (λ x. refl) k (changed_at l.earlier (with_later l.later) k r)
        ∙ at-keeps (λ (x : Row D). x.size) l.earlier (with_later l.later) (λ x. refl) k r

    unlinked-links : (unlinked l p k r).links ≡ record {
      first = cond (is_named (cond (is_none l.earlier) p None) k) l.later r.links.first;
      last = cond (is_named (cond (is_none l.later) p None) k) l.earlier r.links.last;
      earlier = cond (is_named l.later k) l.earlier r.links.earlier;
      later = cond (is_named l.earlier k) l.later r.links.later;
    }
    unlinked-links =
        last-step (is_named (cond (is_none l.later) p None) k) l.earlier (changed_at (cond (is_none l.earlier) p None) (with_first l.later) k (changed_at l.later (with_earlier l.earlier) k (changed_at l.earlier (with_later l.later) k r)))
        ∙ ap (λ (m : Neighbours). record m { last = cond (is_named (cond (is_none l.later) p None) k) l.earlier m.last })
        (first-step (is_named (cond (is_none l.earlier) p None) k) l.later (changed_at l.later (with_earlier l.earlier) k (changed_at l.earlier (with_later l.later) k r))
        ∙ ap (λ (m : Neighbours). record m { first = cond (is_named (cond (is_none l.earlier) p None) k) l.later m.first })
        (earlier-step (is_named l.later k) l.earlier (changed_at l.earlier (with_later l.later) k r)
        ∙ ap (λ (m : Neighbours). record m { earlier = cond (is_named l.later k) l.earlier m.earlier })
        (later-step (is_named l.earlier k) l.later r)))

  -- a live child is one of the children
  pub child-listed : (es : List (Entry D)) (h p : Handle) (e : Entry D) → entry_of es h ≡ Some e → parent_of e ≡ Some p → has_handle h (children_newest_first es p) ≡ true
  child-listed [] h p e f q = absurd cc
  child-listed (x ∷ es) h p e f q = by_head (same_handle x.handle h) refl f (λ g. child-listed es h p e g q)
    where
      by_child : (b : Bool) → has_handle h (children_newest_first es p) ≡ true → has_handle h (cond b (x.handle ∷ children_newest_first es p) (children_newest_first es p)) ≡ true
      by_child true r = ap (λ c. same_handle x.handle h || c) r ∙ or-true (same_handle x.handle h)
      by_child false r = r

      by_head : (b : Bool) → same_handle x.handle h ≡ b → cond b (Some x) (entry_of es h) ≡ Some e → (entry_of es h ≡ Some e → has_handle h (children_newest_first es p) ≡ true) → has_handle h (cond (is_child p x) (x.handle ∷ children_newest_first es p) (children_newest_first es p)) ≡ true
      by_head true t g rest =
          let same : x ≡ e = some_same g in
          ap (λ b. has_handle h (cond b (x.handle ∷ children_newest_first es p) (children_newest_first es p))) (is_named-of (parent_of x) p (ap (λ (y : Entry D). parent_of y) same ∙ q))
          ∙ ap (λ b. b || has_handle h (children_newest_first es p)) t
      by_head false t g rest = by_child (is_child p x) (rest g)

  module _ (xs : List (Kept D)) (are : AreNodes xs) (apart : AreApart xs) where
    -- a child has this parent
    pub sibling-parent : (k : Handle) (x : Entry D) → entry_of (entries_in xs) k ≡ Some x → (o : Option Handle) → has_handle k (siblings (entries_in xs) o) ≡ true → parent_of x ≡ o
    sibling-parent k x f None t = absurd (true≢false (sym t))
    sibling-parent k x f (Some q) t =
        let b = born xs q k are apart t in
        let same : node_in x ≡ b.node = some_same (sym (ap (option_map node_in) f) ∙ entries-nodes xs k are ∙ b.found) in
        ap (λ (n : Node D). n.parent) same ∙ b.parent

    pub siblings-once : (o : Option Handle) → AreOnce (siblings (entries_in xs) o)
    siblings-once None = tt
    siblings-once (Some q) = children-once xs are apart q

    module _ (h : Handle) (e : Entry D) (found : entry_of (entries_in xs) h ≡ Some e) where
      first-closed : (k : Handle) → cond (is_named (cond (is_none (after h (siblings (entries_in xs) (parent_of e)))) (parent_of e) None) k) (before h (siblings (entries_in xs) (parent_of e))) (last_of (children_newest_first (entries_in xs) k)) ≡ last_of (without h (children_newest_first (entries_in xs) k))
      first-closed k = elim (cases_Bool (has_handle h (children_newest_first (entries_in xs) k))) as (λ _. cond (is_named (cond (is_none (after h (siblings (entries_in xs) (parent_of e)))) (parent_of e) None) k) (before h (siblings (entries_in xs) (parent_of e))) (last_of (children_newest_first (entries_in xs) k)) ≡ last_of (without h (children_newest_first (entries_in xs) k))) [
        | inl t ↦
            ap (λ o. cond (is_named (cond (is_none (after h (siblings (entries_in xs) o))) o None) k) (before h (siblings (entries_in xs) o)) (last_of (children_newest_first (entries_in xs) k))) (sibling-parent h e found (Some k) t)
            ∙ by_test (is_none (after h (children_newest_first (entries_in xs) k))) (before h (children_newest_first (entries_in xs) k)) (last_of (children_newest_first (entries_in xs) k))
            ∙ sym (last-without h (children_newest_first (entries_in xs) k) (children-once xs are apart k) t)
        | inr u ↦
            ap (λ b. cond b (before h (siblings (entries_in xs) (parent_of e))) (last_of (children_newest_first (entries_in xs) k))) (other (is_none (after h (siblings (entries_in xs) (parent_of e)))) u)
            ∙ ap last_of (sym (without-absent h (children_newest_first (entries_in xs) k) u))
      ]
        where
          by_test : (b : Bool) (u v : Option Handle) → cond (is_named (cond b (Some k) None) k) u v ≡ cond b u v
          by_test true u v = ap (λ c. cond c u v) ((same_handle-Decides k k).1 refl)
          by_test false u v = refl

          other : (b : Bool) → has_handle h (children_newest_first (entries_in xs) k) ≡ false → is_named (cond b (parent_of e) None) k ≡ false
          other true u = false_from_ne_true (is_named (parent_of e) k) (λ t. true≢false (sym (child-listed (entries_in xs) h k e found (named_is (parent_of e) k t)) ∙ u))
          other false u = refl

      last-closed : (k : Handle) → cond (is_named (cond (is_none (before h (siblings (entries_in xs) (parent_of e)))) (parent_of e) None) k) (after h (siblings (entries_in xs) (parent_of e))) (head_of (children_newest_first (entries_in xs) k)) ≡ head_of (without h (children_newest_first (entries_in xs) k))
      last-closed k = elim (cases_Bool (has_handle h (children_newest_first (entries_in xs) k))) as (λ _. cond (is_named (cond (is_none (before h (siblings (entries_in xs) (parent_of e)))) (parent_of e) None) k) (after h (siblings (entries_in xs) (parent_of e))) (head_of (children_newest_first (entries_in xs) k)) ≡ head_of (without h (children_newest_first (entries_in xs) k))) [
        | inl t ↦
            ap (λ o. cond (is_named (cond (is_none (before h (siblings (entries_in xs) o))) o None) k) (after h (siblings (entries_in xs) o)) (head_of (children_newest_first (entries_in xs) k))) (sibling-parent h e found (Some k) t)
            ∙ by_test (is_none (before h (children_newest_first (entries_in xs) k))) (after h (children_newest_first (entries_in xs) k)) (head_of (children_newest_first (entries_in xs) k))
            ∙ sym (head-without h (children_newest_first (entries_in xs) k) (children-once xs are apart k) t)
        | inr u ↦
            ap (λ b. cond b (after h (siblings (entries_in xs) (parent_of e))) (head_of (children_newest_first (entries_in xs) k))) (other (is_none (before h (siblings (entries_in xs) (parent_of e)))) u)
            ∙ ap head_of (sym (without-absent h (children_newest_first (entries_in xs) k) u))
      ]
        where
          by_test : (b : Bool) (u v : Option Handle) → cond (is_named (cond b (Some k) None) k) u v ≡ cond b u v
          by_test true u v = ap (λ c. cond c u v) ((same_handle-Decides k k).1 refl)
          by_test false u v = refl

          other : (b : Bool) → has_handle h (children_newest_first (entries_in xs) k) ≡ false → is_named (cond b (parent_of e) None) k ≡ false
          other true u = false_from_ne_true (is_named (parent_of e) k) (λ t. true≢false (sym (child-listed (entries_in xs) h k e found (named_is (parent_of e) k t)) ∙ u))
          other false u = refl

      module _ (k : Handle) (x : Entry D) (f : entry_of (entries_in xs) k ≡ Some x) (ne : same_handle h k ≡ false) where
        earlier-closed : cond (is_named (before h (siblings (entries_in xs) (parent_of e))) k) (after h (siblings (entries_in xs) (parent_of e))) (after k (siblings (entries_in xs) (parent_of x))) ≡ after k (without h (siblings (entries_in xs) (parent_of x)))
        earlier-closed = elim (cases_Bool (has_handle h (siblings (entries_in xs) (parent_of x)))) as (λ _. cond (is_named (before h (siblings (entries_in xs) (parent_of e))) k) (after h (siblings (entries_in xs) (parent_of e))) (after k (siblings (entries_in xs) (parent_of x))) ≡ after k (without h (siblings (entries_in xs) (parent_of x)))) [
          | inl t ↦
              ap (λ o. cond (is_named (before h (siblings (entries_in xs) o)) k) (after h (siblings (entries_in xs) o)) (after k (siblings (entries_in xs) (parent_of x)))) (sibling-parent h e found (parent_of x) t)
              ∙ sym (after-without h (siblings (entries_in xs) (parent_of x)) (siblings-once (parent_of x)) t k ne)
          | inr u ↦
              ap (λ b. cond b (after h (siblings (entries_in xs) (parent_of e))) (after k (siblings (entries_in xs) (parent_of x)))) (false_from_ne_true (is_named (before h (siblings (entries_in xs) (parent_of e))) k) (λ t.
              let same = sibling-parent k x f (parent_of e) (before-has h k (siblings (entries_in xs) (parent_of e)) t) in
              true≢false (sym t ∙ ap (λ o. is_named o k) (ap (λ o. before h (siblings (entries_in xs) o)) (sym same) ∙ before-absent h (siblings (entries_in xs) (parent_of x)) u))))
              ∙ ap (after k) (sym (without-absent h (siblings (entries_in xs) (parent_of x)) u))
        ]

        later-closed : cond (is_named (after h (siblings (entries_in xs) (parent_of e))) k) (before h (siblings (entries_in xs) (parent_of e))) (before k (siblings (entries_in xs) (parent_of x))) ≡ before k (without h (siblings (entries_in xs) (parent_of x)))
        later-closed = elim (cases_Bool (has_handle h (siblings (entries_in xs) (parent_of x)))) as (λ _. cond (is_named (after h (siblings (entries_in xs) (parent_of e))) k) (before h (siblings (entries_in xs) (parent_of e))) (before k (siblings (entries_in xs) (parent_of x))) ≡ before k (without h (siblings (entries_in xs) (parent_of x)))) [
          | inl t ↦
              ap (λ o. cond (is_named (after h (siblings (entries_in xs) o)) k) (before h (siblings (entries_in xs) o)) (before k (siblings (entries_in xs) (parent_of x)))) (sibling-parent h e found (parent_of x) t)
              ∙ sym (before-without h (siblings (entries_in xs) (parent_of x)) (siblings-once (parent_of x)) t k ne)
          | inr u ↦
              ap (λ b. cond b (before h (siblings (entries_in xs) (parent_of e))) (before k (siblings (entries_in xs) (parent_of x)))) (false_from_ne_true (is_named (after h (siblings (entries_in xs) (parent_of e))) k) (λ t.
              let same = sibling-parent k x f (parent_of e) (after-has h k (siblings (entries_in xs) (parent_of e)) t) in
              true≢false (sym t ∙ ap (λ o. is_named o k) (ap (λ o. after h (siblings (entries_in xs) o)) (sym same) ∙ after-absent h (siblings (entries_in xs) (parent_of x)) u))))
              ∙ ap (before k) (sym (without-absent h (siblings (entries_in xs) (parent_of x)) u))
        ]

      module _ (tree : IsTree (entries_in xs) DEPTH_LIMIT) where
        each-goes : Each (λ x. not (is_under h x) ≡ not (has_handle x.handle (handles_under (entries_in xs) h))) (entries_in xs)
        each-goes = each-live (λ x. not (is_under h x) ≡ not (has_handle x.handle (handles_under (entries_in xs) h))) xs are apart (λ x f. ap not (sym (goes-under (entries_in xs) tree h e found x.handle x f)))

        children_newest_first-closed : (q : Handle) → has_handle q (handles_under (entries_in xs) h) ≡ false → children_newest_first (filter (λ x. not (is_under h x)) (entries_in xs)) q ≡ without h (children_newest_first (entries_in xs) q)
        children_newest_first-closed q g =
            children_newest_first-stays (λ k. has_handle k (handles_under (entries_in xs) h)) (λ x. not (is_under h x)) (entries_in xs) each-goes q
            ∙ children-less (entries_in xs) tree h e found xs are apart refl q g

        siblings-closed : (o : Option Handle) → ((q : Handle) → o ≡ Some q → has_handle q (handles_under (entries_in xs) h) ≡ false) → siblings (filter (λ x. not (is_under h x)) (entries_in xs)) o ≡ without h (siblings (entries_in xs) o)
        siblings-closed None g = refl
        siblings-closed (Some q) g = children_newest_first-closed q (g q refl)

        -- the links of each frame that stays
        pub links-closed : (k : Handle) (x : Entry D) → entry_of (entries_in xs) k ≡ Some x → same_handle h k ≡ false → has_handle k (handles_under (entries_in xs) h) ≡ false → (r : Row D) → r.node.parent ≡ parent_of x → HasLinks (entries_in xs) k r
            → HasLinks (filter (λ y. not (is_under h y)) (entries_in xs)) k (unlinked (links_in (entries_in xs) h (parent_of e)) (parent_of e) k r)
        links-closed k x f ne g r par has =
            unlinked-links (links_in (entries_in xs) h (parent_of e)) (parent_of e) k r
            ∙ ap (λ (m : Neighbours). record {
              first = cond (is_named (cond (is_none (after h (siblings (entries_in xs) (parent_of e)))) (parent_of e) None) k) (before h (siblings (entries_in xs) (parent_of e))) m.first;
              last = cond (is_named (cond (is_none (before h (siblings (entries_in xs) (parent_of e)))) (parent_of e) None) k) (after h (siblings (entries_in xs) (parent_of e))) m.last;
              earlier = cond (is_named (before h (siblings (entries_in xs) (parent_of e))) k) (after h (siblings (entries_in xs) (parent_of e))) m.earlier;
              later = cond (is_named (after h (siblings (entries_in xs) (parent_of e))) k) (before h (siblings (entries_in xs) (parent_of e))) m.later;
            }) (has ∙ ap (links_in (entries_in xs) k) par)
            ∙ (λ i. record { first = first-closed k i; last = last-closed k i; earlier = earlier-closed k x f ne i; later = later-closed k x f ne i })
            ∙ ap (λ ks. links_by ks (without h (siblings (entries_in xs) (parent_of x))) k) (sym (children_newest_first-closed k g))
            ∙ ap (λ ks. links_by (children_newest_first (filter (λ y. not (is_under h y)) (entries_in xs)) k) ks k) (sym (siblings-closed (parent_of x) (λ q e'. sym (child-goes (entries_in xs) tree h e found k x q f e' (other-turned h k ne)) ∙ g)))
            ∙ ap (links_in (filter (λ y. not (is_under h y)) (entries_in xs)) k) (sym (ap (λ (n : Node D). n.parent) (unlinked-node (links_in (entries_in xs) h (parent_of e)) (parent_of e) k r) ∙ par))
