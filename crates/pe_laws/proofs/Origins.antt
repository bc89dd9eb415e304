-- Origins, flags, secure contexts and policies, step by step.
use Rattle.std.proofs.Common.{◌≡◌, ◌≢◌, ℕ, suc, ◌≤◌, false, ◌||◌, ◌∷◌, length, Option, None, Some, unwrap_or, option_map, refl, ◌∙◌, arith}
use Rattle.pe_features.specs.declared.feature.Feature.{Feature}
use Rattle.pe_rules.specs.History.{Step, RepliedHistory}
use Rattle.pe_rules.specs.Making.{Making, making_by}
use Rattle.pe_rules.specs.Embedders.{top_document}
use Rattle.pe_rules.specs.Origins.{is_sandboxed, sandbox_flag, origin_rule, origin_of, is_secure}
use Rattle.pe_rules.specs.Denials.{is_allowed}
use Rattle.pe_laws.proofs.Older.{making-older, why-older}
use Rattle.pe_laws.proofs.Making.{along-other, along-newest}
use Rattle.pe_laws.proofs.Embedders.{top-other, top-within}

pub origin-other : (s : Step) (T : RepliedHistory) (d : ℕ) → d ≢ suc (length T) → origin_of (s ∷ T) d ≡ origin_of T d
unfolding origin_of
origin-other s T d ne = along-other _ _ s T d ne

pub flag-other : (s : Step) (T : RepliedHistory) (d : ℕ) → d ≢ suc (length T) → sandbox_flag (s ∷ T) d ≡ sandbox_flag T d
unfolding sandbox_flag
flag-other s T d ne = along-other _ _ s T d ne

pub secure-older : (s : Step) (T : RepliedHistory) (d : ℕ) → d ≤ length T → is_secure (s ∷ T) d ≡ is_secure T d
unfolding is_secure
secure-older s T d h =
    let ne : d ≢ suc (length T) = omega arith in
    rw (top-other s T d ne, making-older s T (top_document T d) (top-within T d h)) refl

pub origin-newest : (s : Step) (T : RepliedHistory) (m : Making) → making_by s.event T ≡ Some m → origin_of (s ∷ T) (suc (length T)) ≡ origin_rule (s ∷ T) m (option_map (origin_of T) m.embedder)
unfolding origin_of
origin-newest s T m h = along-newest _ _ s T m h

pub flag-newest : (s : Step) (T : RepliedHistory) (m : Making) → making_by s.event T ≡ Some m
    → sandbox_flag (s ∷ T) (suc (length T)) ≡ unwrap_or (option_map (λ p. sandbox_flag T p || is_sandboxed m.attributes) m.embedder) false
unfolding sandbox_flag
flag-newest s T m h = along-newest _ _ s T m h ∙ by_embedder m.embedder
  where
    by_embedder : (o : Option ℕ) → unwrap_or (option_map (λ flag. flag || is_sandboxed m.attributes) (option_map (sandbox_flag T) o)) false
        ≡ unwrap_or (option_map (λ p. sandbox_flag T p || is_sandboxed m.attributes) o) false
    by_embedder None = refl
    by_embedder (Some p) = refl

pub allowed-older : (s : Step) (T : RepliedHistory) (d : ℕ) (f : Feature) → d ≤ length T → is_allowed (s ∷ T) d f ≡ is_allowed T d f
unfolding is_allowed
allowed-older s T d f h = rw (why-older s T f d h) refl
