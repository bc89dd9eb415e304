-- The place of the first `://`, from a place on.
use Rattle.std.proofs.Common.{◌≡◌, ℕ, suc, ◌+◌, ◌<◌, ◌≤◌, true, false, nat_eq, List, [], ◌∷◌, length, drop, get_or, codes, Option, Some, None, refl, sym, ◌∙◌, ap, arith, drop-cons, add-one, take, length-drop, ◌-◌}
use Rattle.std.proofs.lemmas.List.{take_all}
use Rattle.std.proofs.Math.ListN.{drop_of_length-le}
use Rattle.std.specs.Option.{option_map}
use Rattle.std.specs.List.{starts_with}
use Rattle.pe_allowlist.specs.Expressions.{separator_at}

abbrev pub From : ℕ → List ℕ → Type 0
From i text = separator_at text ≡ option_map (λ k. i + k) (separator_at (drop i text))

starts-here : (text : List ℕ) → starts_with nat_eq text (codes "://") ≡ true → separator_at text ≡ Some 0
unfolding separator_at
starts-here [] h = cc
starts-here (b ∷ bytes) h = rw h refl

starts-later : (b : ℕ) (bytes : List ℕ) → starts_with nat_eq (b ∷ bytes) (codes "://") ≡ false → separator_at (b ∷ bytes) ≡ option_map (λ k. k + 1) (separator_at bytes)
unfolding separator_at
starts-later b bytes h = rw h refl

pub found-here : (text : List ℕ) (i : ℕ) → From i text → starts_with nat_eq (drop i text) (codes "://") ≡ true → Some i ≡ separator_at text
found-here text i h k =
    let zero : i + 0 ≡ i = omega arith in
    sym (h ∙ rw (starts-here (drop i text) k, zero) refl)

shifted : (i : ℕ) (o : Option ℕ) → option_map (λ k. i + k) (option_map (λ k. k + 1) o) ≡ option_map (λ k. suc i + k) o
shifted i None = refl
shifted i (Some k) = let e : i + (k + 1) ≡ suc i + k = omega arith in ap Some e

pub from-next : (text : List ℕ) (i : ℕ) → i < length text → From i text → starts_with nat_eq (drop i text) (codes "://") ≡ false → From (i + 1) text
from-next text i b h k =
    let cut : drop i text ≡ get_or text i 0 ∷ drop (suc i) text = drop-cons text i 0 b in
    let step : separator_at (drop i text) ≡ option_map (λ k. k + 1) (separator_at (drop (suc i) text)) = rw cut (starts-later (get_or text i 0) (drop (suc i) text) (rw cut at k)) in
    h ∙ ap (λ o. option_map (λ k. i + k) o) step ∙ rw add-one (shifted i (separator_at (drop (suc i) text)))

empty-none : (text : List ℕ) → text ≡ [] → separator_at text ≡ None
unfolding separator_at
empty-none text e = rw e refl

pub not-found : (text : List ℕ) (i : ℕ) → From i text → length text ≤ i → None ≡ separator_at text
not-found text i h b = sym (h ∙ rw (empty-none (drop i text) (drop_of_length-le text b)) refl)

pub tail-whole : (text : List ℕ) (i : ℕ) → take (length text - i) (drop i text) ≡ drop i text
tail-whole text i = take_all (length text - i) (drop i text) (omega (arith, length-drop i text))
