-- Rows that were written.
use Rattle.std.proofs.Common.{◌≡◌, ◌≢◌, inl, inr, ℕ, zero, suc, set, false, cond, List, [], ◌∷◌, map, length, get_or, Option, None, Some, IsSome, is_some, refl, sym, ap, subst, ◌∙◌, true≢false}
use Rattle.std.specs.Prelude.{IfSome}
use Rattle.std.specs.Option.{option_map}
use Rattle.std.proofs.Math.ListN.{get_or-map}
use Rattle.std.proofs.lemmas.List.{length-map}
use Rattle.pe_arena.specs.declared.handle.Handle.{Handle}
use Rattle.pe_arena.specs.Slots.{Slot, Slots, live, mark, with_value, Updates}
use Rattle.pe_frames.specs.declared.row.Row.{Row}
use Rattle.pe_frames.specs.Forest.{same_handle}
use Rattle.pe_frames.specs.Neighbours.{SameMarks, Rewrites, changed_at}
use Rattle.pe_frames.proofs.Handles.{same_handle-Decides, same_or_other}

pub map-set_same : {A B : Type 0} (f : A → B) (xs : List A) (i : ℕ) (y d : A) → f y ≡ f (get_or xs i d) → map f (set xs i y) ≡ map f xs
map-set_same f [] i y d e = refl
map-set_same f (x ∷ xs) zero y d e = ap (λ b. b ∷ map f xs) e
map-set_same f (x ∷ xs) (suc i) y d e = ap (λ bs. f x ∷ bs) (map-set_same f xs i y d e)

pub different : (a b : Handle) → same_handle a b ≡ false → a ≢ b
different a b e = λ q. true≢false (sym ((same_handle-Decides a b).1 q) ∙ e)

pub option_map-same : {A : Type 0} (f : A → A) → ((x : A) → f x ≡ x) → (o : Option A) → o ≡ option_map f o
option_map-same f e None = refl
option_map-same f e (Some x) = ap Some (sym (e x))

pub option_map-twice : {A : Type 0} (f g : A → A) (o : Option A) → option_map g (option_map f o) ≡ option_map (λ x. g (f x)) o
option_map-twice f g None = refl
option_map-twice f g (Some x) = refl

pub if_some : {A : Type 0} (P : A → Type 0) (o : Option A) (x : A) → o ≡ Some x → IfSome o P → P x
if_some P None x e p = absurd (true≢false (sym (ap is_some e)))
if_some P (Some y) x e p = let q : y ≡ x = cc in subst P q p

module _ {D : Type 0} where
  pub SameMarks-refl : (s : Slots (Row D)) → SameMarks s s
  SameMarks-refl s = record { marks = refl; made = refl; limit = refl; first = refl }

  pub SameMarks-then : (a b c : Slots (Row D)) → SameMarks a b → SameMarks b c → SameMarks a c
  SameMarks-then a b c x y = record { marks = y.marks ∙ x.marks; made = y.made ∙ x.made; limit = y.limit ∙ x.limit; first = y.first ∙ x.first }

  -- each slot has the mark that it had
  pub mark-kept : (a b : Slots (Row D)) → SameMarks a b → (j : ℕ) → mark b j ≡ mark a j
  mark-kept a b same j =
      sym (get_or-map (λ (x : Slot (Row D)). x.mark) b.slots j (record { mark = b.first; value = None }))
      ∙ ap (λ ms. get_or ms j b.first) same.marks
      ∙ ap (λ f. get_or (map (λ (x : Slot (Row D)). x.mark) a.slots) j f) same.first
      ∙ get_or-map (λ (x : Slot (Row D)). x.mark) a.slots j (record { mark = a.first; value = None })

  -- and there are as many slots
  pub slots-kept : (a b : Slots (Row D)) → SameMarks a b → length b.slots ≡ length a.slots
  slots-kept a b same = sym (length-map b.slots (λ (x : Slot (Row D)). x.mark)) ∙ ap length same.marks ∙ length-map a.slots (λ (x : Slot (Row D)). x.mark)

  pub SameMarks-write : (s : Slots (Row D)) (i : ℕ) (r : Row D) → SameMarks s (with_value s i r)
  SameMarks-write s i r = record {
    marks = map-set_same (λ (x : Slot (Row D)). x.mark) s.slots i (record { mark = mark s i; value = Some r }) (record { mark = s.first; value = None }) refl;
    made = refl;
    limit = refl;
    first = refl;
  }

  pub Rewrites-none : (s : Slots (Row D)) (f : Row D → Row D) → Rewrites s s (changed_at None f)
  Rewrites-none s f = record { rows = λ k. option_map-same (λ r. r) (λ r. refl) (live s k); same = SameMarks-refl s }

  pub Rewrites-then : (a b c : Slots (Row D)) (f g : Handle → Row D → Row D) → Rewrites a b f → Rewrites b c g → Rewrites a c (λ k r. g k (f k r))
  Rewrites-then a b c f g x y = record {
    rows = λ k. y.rows k ∙ ap (option_map (g k)) (x.rows k) ∙ option_map-twice (f k) (g k) (live a k);
    same = SameMarks-then a b c x.same y.same;
  }

  -- one row was written
  pub Rewrites-one : (s t : Slots (Row D)) (h : Handle) (f : Row D → Row D) → IsSome (live s h) → ((r : Row D) → Updates s (with_value s h.slot r) h (Some r)) → IfSome (live s h) (λ r. t ≡ with_value s h.slot (f r)) → Rewrites s t (changed_at (Some h) f)
  Rewrites-one s t h f some alone written = by_row (live s h) refl some written
    where
      by_row : (o : Option (Row D)) → live s h ≡ o → IsSome o → IfSome o (λ r. t ≡ with_value s h.slot (f r)) → Rewrites s t (changed_at (Some h) f)
      by_row None q p w = absurd (true≢false (sym p))
      by_row (Some r) q p w = subst (λ x. Rewrites s x (changed_at (Some h) f)) (sym w) (record { rows = rows; same = SameMarks-write s h.slot (f r) })
        where
          rows : (k : Handle) → live (with_value s h.slot (f r)) k ≡ option_map (changed_at (Some h) f k) (live s k)
          rows k =
              let up = alone (f r) in
              elim (same_or_other h k) as (λ _. live (with_value s h.slot (f r)) k ≡ option_map (changed_at (Some h) f k) (live s k)) [
                | inl e ↦
                    let hk = (same_handle-Decides h k).0 e in
                    ap (live (with_value s h.slot (f r))) (sym hk)
                    ∙ up.changed
                    ∙ ap (λ b. Some (cond b (f r) r)) (sym e)
                    ∙ ap (option_map (changed_at (Some h) f k)) (sym q ∙ ap (live s) hk)
                | inr e ↦
                    up.others k (λ x. different h k e (sym x))
                    ∙ option_map-same (changed_at (Some h) f k) (λ x. ap (λ b. cond b (f x) x) e) (live s k)
              ]

  -- a live handle stays live
  pub still-live : (a b : Slots (Row D)) (f : Handle → Row D → Row D) → Rewrites a b f → (k : Handle) → IsSome (live a k) → IsSome (live b k)
  still-live a b f x k p = some_map (live a k) (live b k) (f k) (x.rows k) p
    where
      some_map : (o q : Option (Row D)) (g : Row D → Row D) → q ≡ option_map g o → IsSome o → IsSome q
      some_map None q g e p = absurd (true≢false (sym p))
      some_map (Some r) q g e p = ap is_some e

  pub still-live_if : (a b : Slots (Row D)) (f : Handle → Row D → Row D) → Rewrites a b f → (o : Option Handle) → IfSome o (λ k. IsSome (live a k)) → IfSome o (λ k. IsSome (live b k))
  still-live_if a b f x None p = p
  still-live_if a b f x (Some k) p = still-live a b f x k p

  -- the row that is named was written
  pub Rewrites-some : (s t : Slots (Row D)) (o : Option Handle) (h : Handle) (f : Row D → Row D) → o ≡ Some h → IfSome o (λ k. IsSome (live s k)) → ((r : Row D) → Updates s (with_value s h.slot r) h (Some r)) → IfSome (live s h) (λ r. t ≡ with_value s h.slot (f r)) → Rewrites s t (changed_at o f)
  Rewrites-some s t o h f e some alone written = subst (λ x. Rewrites s t (changed_at x f)) (sym e) (Rewrites-one s t h f (if_some (λ k. IsSome (live s k)) o h e some) alone written)
