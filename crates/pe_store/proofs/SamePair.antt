-- The test of two pairs decides whether they are one, where those of features and of origins do.
use Rattle.std.proofs.Common.{◌≡◌, ◌&&◌, sym, ap, true≢false}
use Rattle.std.specs.Bool.{Decides}
use Rattle.std.proofs.lemmas.Bool.Decides.{Decides-and, Decides-like}
use Rattle.pe_features.specs.declared.feature.Feature.{Feature}
use Rattle.pe_features.specs.Features.{same_feature}
use Rattle.pe_origin.specs.declared.origin.Origin.{Origin}
use Rattle.pe_origin.specs.Origins.{is_same_origin}
use Rattle.pe_store.specs.declared.key.Key.{Key}
use Rattle.pe_store.specs.declared.key.Key.TheVariants as key
use Rattle.pe_store.specs.Pairs.{Pair, is_same_key, is_same_pair}

module _ (features : (f g : Feature) → Decides (same_feature f g) (f ≡ g)) (origins : (a b : Origin) → Decides (is_same_origin a b) (a ≡ b)) where
  same-key-decides : (a b : Key) → Decides (is_same_key a b) (a ≡ b)
  same-key-decides (key.One a) (key.One b) = Decides-like (is_same_origin a b) (λ e. ap key.One e) (λ e. cc) (origins a b)
  same-key-decides (key.Pair a b) (key.Pair c d) =
      Decides-like (is_same_origin a c && is_same_origin b d) (λ e. cc) (λ e. (cc, cc))
      (Decides-and (is_same_origin a c) (is_same_origin b d) (origins a c) (origins b d))
  same-key-decides (key.One a) (key.Pair c d) = (λ h. absurd (true≢false (sym h)), λ h. absurd cc)
  same-key-decides (key.Pair a b) (key.One c) = (λ h. absurd (true≢false (sym h)), λ h. absurd cc)

  from-parts : (f g : Feature) (a b : Key) → f ≡ g → a ≡ b → ◌≡◌ {A = Pair} (f, a) (g, b)
  from-parts f g a b hf ha = cc

  pub same-pair-decides : (p q : Pair) → Decides (is_same_pair p q) (p ≡ q)
  unfolding is_same_pair
  same-pair-decides p q =
      Decides-like (same_feature p.0 q.0 && is_same_key p.1 q.1) (λ e. from-parts p.0 q.0 p.1 q.1 e.0 e.1) (λ e. (ap (λ (x : Pair). x.0) e, ap (λ (x : Pair). x.1) e))
      (Decides-and (same_feature p.0 q.0) (is_same_key p.1 q.1) (features p.0 q.0) (same-key-decides p.1 q.1))
