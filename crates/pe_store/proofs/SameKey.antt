-- What the derived comparison of keys answers is the test of two keys.
use Rattle.std.proofs.Common.{◌≡◌, ◌&&◌, Bool, List, [], ◌∷◌, Some, cond, refl, sym, ap, ◌∙◌, rules, true≢false}
use Rattle.std.specs.Bool.{Decides}
use Rattle.std.specs.Cmp.{both_ways}
use Rattle.std.specs.Map.{lookup}
use Rattle.std.proofs.lemmas.Bool.Decides.{Decides-and, Decides-like}
use Rattle.pe_features.specs.declared.feature.Feature.TheVariants.{Camera}
use Rattle.pe_origin.specs.declared.origin.Origin.{Origin}
use Rattle.pe_origin.specs.contracts.origin.OriginPartialEq.TheImpl as origin_impl
use Rattle.pe_store.specs.declared.key.Key.{Key}
use Rattle.pe_store.specs.declared.key.Key.TheVariants as key
use Rattle.pe_store.specs.contracts.key.KeyPartialEq.TheImpl as key_impl
use Rattle.pe_store.specs.Pairs.{Pair, is_same_key, is_same_pair}

abbrev pub key_eq : Key → Key → Bool
key_eq = (key_impl.ghosts).eq

abbrev origin_eq : Origin → Origin → Bool
origin_eq = (origin_impl.ghosts).eq

origin_eq-decides : (a b : Origin) → Decides (origin_eq a b) (a ≡ b)
origin_eq-decides a b = search rules

key_eq-decides : (a b : Key) → Decides (key_eq a b) (a ≡ b)
key_eq-decides (key.One a) (key.One b) = Decides-like (origin_eq a b) (λ e. ap key.One e) (λ e. cc) (origin_eq-decides a b)
key_eq-decides (key.Pair a c) (key.Pair b d) =
    Decides-like (origin_eq a b && origin_eq c d) (λ e. cc) (λ e. (cc, cc)) (Decides-and (origin_eq a b) (origin_eq c d) (origin_eq-decides a b) (origin_eq-decides c d))
key_eq-decides (key.One a) (key.Pair b d) = (λ e. absurd (true≢false (sym e)), λ e. absurd cc)
key_eq-decides (key.Pair a c) (key.One b) = (λ e. absurd (true≢false (sym e)), λ e. absurd cc)

module _ (pairs : (p q : Pair) → Decides (is_same_pair p q) (p ≡ q)) where
  same-key-tests : (a b : Key) → Decides (is_same_key a b) (a ≡ b)
  unfolding is_same_pair
  same-key-tests a b =
      Decides-like (is_same_key a b) (λ e. ap (λ (p : Pair). p.1) e) (λ e. ap (λ (k : Key). let p : Pair = (Camera, k) in p) e) (pairs (Camera, a) (Camera, b))

  pub eq-is-same : (a b : Key) → key_eq a b ≡ is_same_key a b
  eq-is-same a b =
      both_ways (key_eq a b) (is_same_key a b) (λ h. (same-key-tests a b).1 ((key_eq-decides a b).0 h)) (λ h. (key_eq-decides a b).1 ((same-key-tests a b).0 h))

  pub lookup-is : {X : Type 0} (q : Key) (es : List (Key × X)) → lookup (key_eq q) es ≡ lookup (is_same_key q) es
  lookup-is q [] = refl
  lookup-is q (e ∷ es) = ap (λ b. cond b (Some e.1) (lookup (key_eq q) es)) (eq-is-same q e.0) ∙ ap (λ o. cond (is_same_key q e.0) (Some e.1) o) (lookup-is q es)
