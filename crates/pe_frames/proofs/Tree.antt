-- The list of frames as a tree: parents, children and depths, with nothing of how it is kept.
use Rattle.std.proofs.Common.{◌≡◌, inl, inr, ℕ, ◌≤◌, Bool, true, false, cond, List, [], ◌∷◌, ◌++◌, length, append_assoc, None, Some, is_some, refl, sym, ap, subst, ◌∙◌, true≢false}
use Rattle.std.specs.Prelude.{⊤}
use Rattle.pe_arena.specs.declared.handle.Handle.{Handle}
use Rattle.pe_frames.specs.Forest.{Entry, same_handle, last_of, path, parent_of, entry_of}
use Rattle.pe_frames.specs.Order.{is_child, children, child_handles, AreOnce}
use Rattle.pe_frames.specs.Neighbours.{children_newest_first}
use Rattle.pe_frames.specs.Kept.{Kept, node_at, above_in, entry_in, entries_in, AreNodes, AreApart}
use Rattle.pe_frames.proofs.Handles.{same_handle-Decides, same_or_other, last-push, is_named-of, named_is}
use Rattle.pe_frames.proofs.Pages.{Above, above-of, nothing, below, entry-absent}
use Rattle.std.proofs.lemmas.Bool.{false_from_ne_true}
use Rattle.pe_frames.proofs.Below.{entry-handle}
use Rattle.pe_frames.proofs.Children.{children-turned, once-turned}
use Rattle.pe_frames.proofs.Kin.{children-once}
use Rattle.pe_frames.proofs.Lemmas.{some_same}

-- each of the list is so
abbrev pub Each : {A : Type 0} → (A → Type 0) → List A → Type 0
Each P [] = ⊤
Each P (x ∷ xs) = P x × Each P xs

pub each-append : {A : Type 0} (P : A → Type 0) (xs ys : List A) → Each P xs → Each P ys → Each P (xs ++ ys)
each-append P [] ys p q = q
each-append P (x ∷ xs) ys p q = (p.0, each-append P xs ys p.1 q)

pub each-map : {A : Type 0} (P Q : A → Type 0) → ((x : A) → P x → Q x) → (xs : List A) → Each P xs → Each Q xs
each-map P Q f [] p = tt
each-map P Q f (x ∷ xs) p = (f x p.0, each-map P Q f xs p.1)

-- where one of the list stands
pub record Splits {A : Type 0} (xs : List A) (x : A) : Type 0 where
  pub front : List A
  pub back : List A
  pub is : xs ≡ front ++ x ∷ back

module _ {D : Type 0} where
  -- a live frame that the handle embeds
  pub record IsChild (es : List (Entry D)) (p : Handle) (c : Entry D) : Type 0 where
    pub found : entry_of es c.handle ≡ Some c
    pub parent : parent_of c ≡ Some p

  -- the live frame of the handle, on whose path the other stands
  pub record IsParent (es : List (Entry D)) (p : Handle) (c : Entry D) : Type 0 where
    pub entry : Entry D
    pub found : entry_of es p ≡ Some entry
    pub above : c.above ≡ path entry

  -- the frames are a tree, at most so many levels deep
  pub record IsTree (es : List (Entry D)) (levels : ℕ) : Type 0 where
    pub born : (p : Handle) → Each (IsChild es p) (children es p)
    pub listed : (p : Handle) (c : Entry D) → IsChild es p c → Splits (children es p) c
    pub parent : (p : Handle) (c : Entry D) → IsChild es p c → IsParent es p c
    pub once : (p : Handle) → AreOnce (child_handles es p)
    pub single : (p : Handle) → AreOnce (children_newest_first es p)
    pub shallow : (c : Entry D) → entry_of es c.handle ≡ Some c → length c.above ≤ levels

  -- a frame keeps its place behind a newer one
  pub stays : (x : Kept D) (xs : List (Kept D)) → AreNodes xs → node_at xs x.handle ≡ None → (k : Handle) (e : Entry D) → entry_of (entries_in xs) k ≡ Some e → entry_of (entries_in (x ∷ xs)) k ≡ Some e
  stays x xs are none k e f =
      let other : same_handle x.handle k ≡ false = false_from_ne_true (same_handle x.handle k) (λ t.
      true≢false (sym (ap is_some f) ∙ ap is_some (ap (entry_of (entries_in xs)) (sym ((same_handle-Decides x.handle k).0 t)) ∙ entry-absent xs x.handle are none))) in
      ap (λ b. cond b (Some (entry_in (entries_in xs) x)) (entry_of (entries_in xs) k)) other ∙ f

  -- the newest frame is live
  pub newest : (x : Kept D) (xs : List (Kept D)) → entry_of (entries_in (x ∷ xs)) x.handle ≡ Some (entry_in (entries_in xs) x)
  newest x xs = ap (λ b. cond b (Some (entry_in (entries_in xs) x)) (entry_of (entries_in xs) x.handle)) ((same_handle-Decides x.handle x.handle).1 refl)

  born-of : (xs : List (Kept D)) → AreNodes xs → AreApart xs → (p : Handle) → Each (IsChild (entries_in xs) p) (children (entries_in xs) p)
  born-of [] are apart p = tt
  born-of (x ∷ xs) are apart p =
      each-append (IsChild (entries_in (x ∷ xs)) p) (children (entries_in xs) p) (cond (is_child p (entry_in (entries_in xs) x)) (entry_in (entries_in xs) x ∷ []) [])
      (each-map (IsChild (entries_in xs) p) (IsChild (entries_in (x ∷ xs)) p) (λ c is. record { found = stays x xs are.1 apart.0 c.handle c is.found; parent = is.parent }) (children (entries_in xs) p) (born-of xs are.1 apart.1 p))
      (by_test (is_child p (entry_in (entries_in xs) x)) (λ t. record { found = newest x xs; parent = named_is (parent_of (entry_in (entries_in xs) x)) p t }))
    where
      by_test : (b : Bool) → (b ≡ true → IsChild (entries_in (x ∷ xs)) p (entry_in (entries_in xs) x)) → Each (IsChild (entries_in (x ∷ xs)) p) (cond b (entry_in (entries_in xs) x ∷ []) [])
      by_test true f = (f refl, tt)
      by_test false f = tt

  -- a live frame is the newest one, or an older one
  data Live (x : Kept D) (xs : List (Kept D)) (c : Entry D) : Type 0 where
    new : entry_in (entries_in xs) x ≡ c → Live x xs c
    old : entry_of (entries_in xs) c.handle ≡ Some c → Live x xs c

  live-of : (x : Kept D) (xs : List (Kept D)) (c : Entry D) → entry_of (entries_in (x ∷ xs)) c.handle ≡ Some c → Live x xs c
  live-of x xs c f = elim (same_or_other x.handle c.handle) as (λ _. Live x xs c) [
    | inl t ↦ new (some_same (sym (ap (λ b. cond b (Some (entry_in (entries_in xs) x)) (entry_of (entries_in xs) c.handle)) t) ∙ f))
    | inr t ↦ old (sym (ap (λ b. cond b (Some (entry_in (entries_in xs) x)) (entry_of (entries_in xs) c.handle)) t) ∙ f)
  ]

  listed-of : (xs : List (Kept D)) (p : Handle) (c : Entry D) → IsChild (entries_in xs) p c → Splits (children (entries_in xs) p) c
  listed-of [] p c is = let f = is.found in absurd cc
  listed-of (x ∷ xs) p c is = by_live (λ f. listed-of xs p c (record { found = f; parent = is.parent })) (live-of x xs c is.found)
    where
      by_live : (entry_of (entries_in xs) c.handle ≡ Some c → Splits (children (entries_in xs) p) c) → Live x xs c → Splits (children (entries_in (x ∷ xs)) p) c
      by_live older (new q) =
          let t : is_child p (entry_in (entries_in xs) x) ≡ true = is_named-of (parent_of (entry_in (entries_in xs) x)) p (ap (λ (y : Entry D). parent_of y) q ∙ is.parent) in
          record {
            front = children (entries_in xs) p;
            back = [];
            is = ap (λ b. children (entries_in xs) p ++ cond b (entry_in (entries_in xs) x ∷ []) []) t ∙ ap (λ (y : Entry D). children (entries_in xs) p ++ y ∷ []) q;
          }
      by_live older (old f) =
          let was = older f in
          record {
            front = was.front;
            back = was.back ++ cond (is_child p (entry_in (entries_in xs) x)) (entry_in (entries_in xs) x ∷ []) [];
            is =
                ap (λ cs. cs ++ cond (is_child p (entry_in (entries_in xs) x)) (entry_in (entries_in xs) x ∷ []) []) was.is
                ∙ append_assoc was.front (c ∷ was.back) (cond (is_child p (entry_in (entries_in xs) x)) (entry_in (entries_in xs) x ∷ []) []);
          }

  parent-of : (xs : List (Kept D)) → AreNodes xs → AreApart xs → (p : Handle) (c : Entry D) → IsChild (entries_in xs) p c → IsParent (entries_in xs) p c
  parent-of [] are apart p c is = let f = is.found in absurd cc
  parent-of (x ∷ xs) are apart p c is = by_live (λ f. parent-of xs are.1 apart.1 p c (record { found = f; parent = is.parent })) (live-of x xs c is.found)
    where
      older : IsParent (entries_in xs) p c → IsParent (entries_in (x ∷ xs)) p c
      older is = record { entry = is.entry; found = stays x xs are.1 apart.0 p is.entry is.found; above = is.above }

      of_newest : Above (entries_in xs) (above_in (entries_in xs) x.node.parent) → entry_in (entries_in xs) x ≡ c → IsParent (entries_in (x ∷ xs)) p c
      of_newest (nothing n) q = absurd (true≢false (sym (ap is_some (sym (ap last_of n) ∙ ap (λ (y : Entry D). parent_of y) q ∙ is.parent))))
      of_newest (below j a f n) q =
          let named : a.handle ≡ p = some_same (sym (last-push a.above a.handle) ∙ sym (ap last_of n) ∙ ap (λ (y : Entry D). parent_of y) q ∙ is.parent) in
          older (record {
            entry = a;
            found = ap (entry_of (entries_in xs)) (sym named ∙ entry-handle (entries_in xs) j a f) ∙ f;
            above = ap (λ (y : Entry D). y.above) (sym q) ∙ n;
          })

      by_live : (entry_of (entries_in xs) c.handle ≡ Some c → IsParent (entries_in xs) p c) → Live x xs c → IsParent (entries_in (x ∷ xs)) p c
      by_live was (new q) = of_newest (above-of (entries_in xs) x.node.parent) q
      by_live was (old f) = older (was f)

  -- the kept frames are a tree
  pub tree-of : (xs : List (Kept D)) (levels : ℕ) → AreNodes xs → AreApart xs → ((c : Entry D) → entry_of (entries_in xs) c.handle ≡ Some c → length c.above ≤ levels) → IsTree (entries_in xs) levels
  tree-of xs levels are apart shallow = record {
    born = born-of xs are apart;
    listed = listed-of xs;
    parent = parent-of xs are apart;
    once = λ p. subst AreOnce (sym (children-turned (entries_in xs) p)) (once-turned (children_newest_first (entries_in xs) p) (children-once xs are apart p));
    single = children-once xs are apart;
    shallow = shallow;
  }
