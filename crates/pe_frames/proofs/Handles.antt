-- Handles, and lists of them.
use Rattle.std.proofs.Common.{◌++◌, ◌≡◌, ◌⊎◌, inl, inr, Bool, true, false, ◌||◌, List, [], ◌∷◌, length, Option, None, Some, is_some, refl, sym, ap, ◌∙◌, arith, true≢false}
use Rattle.std.specs.Prelude.{◌==◌, unwrap_or}
use Rattle.std.specs.Bool.{Decides}
use Rattle.std.proofs.Math.Bool.{or-false}
use Rattle.std.proofs.lemmas.Bool.{false_from_ne_true}
use Rattle.std.proofs.lemmas.Bool.Decides.{Decides-eqb, Decides-and}
use Rattle.pe_arena.specs.declared.handle.Handle.{Handle}
use Rattle.pe_frames.specs.Forest.{same_handle, has_handle, first_of, last_of}
use Rattle.pe_frames.specs.Order.{is_named, head_of}

pub same_handle-Decides : (a b : Handle) → Decides (same_handle a b) (a ≡ b)
same_handle-Decides a b =
    let d = Decides-and (a.slot == b.slot) (a.generation == b.generation) (Decides-eqb a.slot b.slot) (Decides-eqb a.generation b.generation) in
    (λ e. let p = d.0 e in λ i. record { slot = p.0 i; generation = p.1 i }, λ e. d.1 (ap (λ h. h.slot) e, ap (λ h. h.generation) e))

pub same-itself : (h : Handle) → same_handle h h ≡ true
same-itself h = (same_handle-Decides h h).1 refl

-- the two are one handle, or they are not
pub same_or_other : (a b : Handle) → (same_handle a b ≡ true) ⊎ (same_handle a b ≡ false)
same_or_other a b = (elim (same_handle a b) as (λ t. same_handle a b ≡ t → (same_handle a b ≡ true) ⊎ (same_handle a b ≡ false)) [ true ↦ inl | false ↦ inr ]) refl

pub other-turned : (a b : Handle) → same_handle a b ≡ false → same_handle b a ≡ false
other-turned a b e = false_from_ne_true (same_handle b a) (λ t. true≢false (sym ((same_handle-Decides a b).1 (sym ((same_handle-Decides b a).0 t))) ∙ e))

-- the handle that is named
pub named_is : (o : Option Handle) (p : Handle) → is_named o p ≡ true → o ≡ Some p
named_is None p e = absurd (true≢false (sym e))
named_is (Some k) p e = ap Some ((same_handle-Decides k p).0 e)

pub is_named-of : (o : Option Handle) (p : Handle) → o ≡ Some p → is_named o p ≡ true
is_named-of o p e = ap (λ x. is_named x p) e ∙ (same_handle-Decides p p).1 refl

-- lists put together
pub has-append : (k : Handle) (a b : List Handle) → has_handle k (a ++ b) ≡ (has_handle k a || has_handle k b)
has-append k [] b = refl
has-append k (x ∷ a) b = ap (λ t. same_handle x k || t) (has-append k a b) ∙ regroup (same_handle x k) (has_handle k a) (has_handle k b)
  where
    regroup : (u v w : Bool) → (u || (v || w)) ≡ ((u || v) || w)
    regroup true v w = refl
    regroup false v w = refl

pub has-push : (k h : Handle) (hs : List Handle) → has_handle k (hs ++ h ∷ []) ≡ (has_handle k hs || same_handle h k)
has-push k h hs = has-append k hs (h ∷ []) ∙ ap (λ b. has_handle k hs || b) (or-false (same_handle h k))

pub first-push : (ks : List Handle) (k h : Handle) → first_of (ks ++ k ∷ []) h ≡ first_of ks k
first-push [] k h = refl
first-push (x ∷ ks) k h = refl

pub last-push : (ks : List Handle) (k : Handle) → last_of (ks ++ k ∷ []) ≡ Some k
last-push [] k = refl
last-push (x ∷ ks) k = ap (λ o. Some (unwrap_or o x)) (last-push ks k)

-- the first and the last of a list
pub head-has : (j : Handle) (ks : List Handle) → is_named (head_of ks) j ≡ true → has_handle j ks ≡ true
head-has j [] e = absurd (true≢false (sym e))
head-has j (k ∷ ks) e = ap (λ b. b || has_handle j ks) e

pub no_head : (ks : List Handle) → head_of ks ≡ None → ks ≡ []
no_head [] q = refl
no_head (k ∷ ks) q = absurd (true≢false (ap is_some q))

pub no_last : (ks : List Handle) → last_of ks ≡ None → ks ≡ []
no_last [] q = refl
no_last (k ∷ ks) q = absurd (true≢false (ap is_some q))

pub top-none : (ks : List Handle) → (length ks == 0) ≡ true → last_of ks ≡ None
top-none [] t = refl
top-none (k ∷ ks) t = let n = (Decides-eqb (length (k ∷ ks)) 0).0 t in absurd (omega (arith, n))
