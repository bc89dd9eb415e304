-- Laws of origins, sandbox flags and secure contexts: they are settled when the document is made.
use Rattle.std.specs.Prelude.{◌≡◌, ◌≢◌, ℕ, ◌≤◌, false, ◌||◌, ◌∷◌, length, Some, unwrap_or, option_map}
use Rattle.pe_rules.specs.History.{Step, RepliedHistory}
use Rattle.pe_rules.specs.Making.{Making, making_by}
use Rattle.pe_rules.specs.Origins.{is_sandboxed, sandbox_flag, origin_rule, origin_of, is_secure}

-- what holds of the origins of documents
pub record OriginsLaws : Type 0 where
  pub origin_of_older : (s : Step) (T : RepliedHistory) (d : ℕ) → d ≢ length (s ∷ T) → origin_of (s ∷ T) d ≡ origin_of T d
  pub sandbox_flag_older : (s : Step) (T : RepliedHistory) (d : ℕ) → d ≢ length (s ∷ T) → sandbox_flag (s ∷ T) d ≡ sandbox_flag T d
  pub is_secure_older : (s : Step) (T : RepliedHistory) (d : ℕ) → d ≤ length T → is_secure (s ∷ T) d ≡ is_secure T d
  pub origin_of_newest : (s : Step) (T : RepliedHistory) (m : Making) → making_by s.event T ≡ Some m
      → origin_of (s ∷ T) (length (s ∷ T)) ≡ origin_rule (s ∷ T) m (option_map (origin_of T) m.embedder)
  pub sandbox_flag_newest : (s : Step) (T : RepliedHistory) (m : Making) → making_by s.event T ≡ Some m
      → sandbox_flag (s ∷ T) (length (s ∷ T)) ≡ unwrap_or (option_map (λ p. sandbox_flag T p || is_sandboxed m.attributes) m.embedder) false
