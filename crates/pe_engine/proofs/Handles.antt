-- Handles of frames, by the numbers of the frames.
use Rattle.std.proofs.Common.{◌≡◌, ◌≢◌, ℕ, zero, suc, true, false, ◌==◌, List, [], ◌∷◌, ◌++◌, map, length, Option, Some, None, option_and_then, refl, sym, ◌∙◌, ap, arith}
use Rattle.std.specs.Prelude.{slice_get}
use Rattle.std.specs.List.{list_any}
use Rattle.std.specs.Bool.{Decides}
use Rattle.std.proofs.lemmas.Option.{slice_get_past}
use Rattle.std.proofs.lemmas.Bool.Decides.{Decides-eqb, Decides-and, nat_tests}
use Rattle.pe_arena.specs.declared.handle.Handle.{Handle}
use Rattle.pe_engine.specs.declared.engine.Made.{Made}
use Rattle.pe_frames.specs.Forest.{has_handle, same_handle}
use Rattle.pe_engine.specs.Objects.{handle_in, handle_at, Apart}

pub same_handle-Decides : (a b : Handle) → Decides (same_handle a b) (a ≡ b)
same_handle-Decides a b =
    let d = Decides-and (a.slot == b.slot) (a.generation == b.generation) (Decides-eqb a.slot b.slot) (Decides-eqb a.generation b.generation) in
    (λ e. let p = d.0 e in λ i. record { slot = p.0 i; generation = p.1 i }, λ e. d.1 (ap (λ h. h.slot) e, ap (λ h. h.generation) e))

-- what stands at a place of a list with one more
get-more : (ms : List Made) (m : Made) (n : ℕ) (x : Made) → slice_get ms n ≡ Some x → slice_get (ms ++ m ∷ []) n ≡ Some x
get-more [] m n x h = cc
get-more (y ∷ ms) m zero x h = h
get-more (y ∷ ms) m (suc n) x h = get-more ms m n x h

get-last : (ms : List Made) (m : Made) → slice_get (ms ++ m ∷ []) (length ms) ≡ Some m
get-last [] m = refl
get-last (y ∷ ms) m = get-last ms m

get-beside : (ms : List Made) (m : Made) (n : ℕ) → n ≢ length ms → slice_get (ms ++ m ∷ []) n ≡ slice_get ms n
get-beside [] m zero h = absurd (h refl)
get-beside [] m (suc n) h = refl
get-beside (y ∷ ms) m zero h = refl
get-beside (y ∷ ms) m (suc n) h = get-beside ms m n (λ e. h (ap suc e))

pub handle-last : (ms : List Made) (m : Made) → handle_at (ms ++ m ∷ []) (suc (length ms)) ≡ handle_in m
handle-last ms m = rw (get-last ms m) refl

pub handle-beside : (ms : List Made) (m : Made) (f : ℕ) → f ≢ suc (length ms) → handle_at (ms ++ m ∷ []) f ≡ handle_at ms f
handle-beside ms m zero h = refl
handle-beside ms m (suc n) h = rw (get-beside ms m n (λ e. h (ap suc e))) refl

-- the list grows: what had a handle has it still
abbrev pub Grows : List Made → List Made → Type 0
Grows ms ns = (f : ℕ) (h : Handle) → handle_at ms f ≡ Some h → handle_at ns f ≡ Some h

pub grows : (ms : List Made) (m : Made) → Grows ms (ms ++ m ∷ [])
grows ms m zero h e = e
grows ms m (suc n) h e = by_get (slice_get ms n) refl e
  where
    by_get : (o : Option Made) → slice_get ms n ≡ o → option_and_then handle_in o ≡ Some h → handle_at (ms ++ m ∷ []) (suc n) ≡ Some h
    by_get None is e = cc
    by_get (Some x) is e = rw (get-more ms m n x is) e

pub path-grows : (ms ns : List Made) → Grows ms ns → (fs : List ℕ) (hs : List Handle) → map (handle_at ms) fs ≡ map Some hs → map (handle_at ns) fs ≡ map Some hs
path-grows ms ns g [] [] e = refl
path-grows ms ns g [] (h ∷ hs) e = cc
path-grows ms ns g (f ∷ fs) [] e = cc
path-grows ms ns g (f ∷ fs) (h ∷ hs) e =
    let here : handle_at ms f ≡ Some h = cc in
    let rest : map (handle_at ms) fs ≡ map Some hs = cc in
    rw (g f h here, path-grows ms ns g fs hs rest) refl

pub same-frame : (ms : List Made) → Apart ms → (f F : ℕ) (k h : Handle) → handle_at ms f ≡ Some k → handle_at ms F ≡ Some h → same_handle k h ≡ (f == F)
same-frame ms apart f F k h a b = (elim (same_handle k h) as (λ t. same_handle k h ≡ t → t ≡ (f == F)) [
  | true ↦ λ e. let q : k ≡ h = (same_handle-Decides k h).0 e in let i : f ≡ F = apart f F h (a ∙ ap Some q) b in sym ((Decides-eqb f F).1 i)
  | false ↦ λ e. (elim (f == F) as (λ u. (f == F) ≡ u → false ≡ u) [
    | true ↦ λ i. let j : f ≡ F = (Decides-eqb f F).0 i in let q : k ≡ h = (let z : Some k ≡ Some h = sym a ∙ ap (handle_at ms) j ∙ b in cc) in sym e ∙ (same_handle-Decides k h).1 q
    | false ↦ λ i. refl
  ]) refl
]) refl

pub has-agrees : (ms : List Made) → Apart ms → (F : ℕ) (h : Handle) → handle_at ms F ≡ Some h → (fs : List ℕ) (hs : List Handle) → map (handle_at ms) fs ≡ map Some hs
    → has_handle h hs ≡ list_any (λ f. f == F) fs
has-agrees ms apart F h is [] [] e = refl
has-agrees ms apart F h is [] (k ∷ hs) e = cc
has-agrees ms apart F h is (f ∷ fs) [] e = cc
has-agrees ms apart F h is (f ∷ fs) (k ∷ hs) e =
    let here : handle_at ms f ≡ Some k = cc in
    let rest : map (handle_at ms) fs ≡ map Some hs = cc in
    rw (same-frame ms apart f F k h here is, has-agrees ms apart F h is fs hs rest) refl

pub same_length : (ms : List Made) (fs : List ℕ) (hs : List Handle) → map (handle_at ms) fs ≡ map Some hs → length fs ≡ length hs
same_length ms [] [] e = refl
same_length ms [] (h ∷ hs) e = cc
same_length ms (f ∷ fs) [] e = cc
same_length ms (f ∷ fs) (h ∷ hs) e = let rest : map (handle_at ms) fs ≡ map Some hs = cc in ap suc (same_length ms fs hs rest)

-- what makes no frame leaves the handles
pub handle-nothing : (ms : List Made) (m : Made) (f : ℕ) → handle_in m ≡ None → handle_at (ms ++ m ∷ []) f ≡ handle_at ms f
handle-nothing ms m f h = (elim (f == suc (length ms)) as (λ b. (f == suc (length ms)) ≡ b → handle_at (ms ++ m ∷ []) f ≡ handle_at ms f) [
  | true ↦ λ e. let is : f ≡ suc (length ms) = (Decides-eqb f (suc (length ms))).0 e in rw is (handle-last ms m ∙ h ∙ sym (ap (option_and_then handle_in) (slice_get_past ms (length ms) (omega arith))))
  | false ↦ λ e. handle-beside ms m f (grind (arith, nat_tests))
]) refl
