-- Laws of policies: what denies a feature in a document is settled when the document is made.
use Rattle.std.specs.Prelude.{◌≡◌, ◌↔◌, ℕ, ◌≤◌, true, IsTrue, ◌∷◌, length, None}
use Rattle.pe_features.specs.declared.feature.Feature.{Feature}
use Rattle.pe_allowlist.specs.Lists.{is_policy_controlled}
use Rattle.pe_rules.specs.History.{Step, RepliedHistory}
use Rattle.pe_rules.specs.Denials.{declared_policy_in, container_policy_in, chain_document, chain_documents, why_denied, is_allowed}
use Rattle.pe_rules.specs.InheritedPolicy.{is_enabled}

-- what holds of the policies of documents
pub record DenialsLaws : Type 0 where
  -- a document that was there before a step keeps its declared policy, its container policy, and so its denials
  pub declared_older : (s : Step) (T : RepliedHistory) (d : ℕ) → d ≤ length T → declared_policy_in (s ∷ T) d ≡ declared_policy_in T d
  pub container_older : (s : Step) (T : RepliedHistory) (d : ℕ) → d ≤ length T → container_policy_in (s ∷ T) d ≡ container_policy_in T d
  pub link_older : (s : Step) (T : RepliedHistory) (d : ℕ) → d ≤ length T → chain_document (s ∷ T) d ≡ chain_document T d
  pub links_older : (s : Step) (T : RepliedHistory) (d : ℕ) → d ≤ length T → chain_documents (s ∷ T) d ≡ chain_documents T d
  pub why_denied_older : (s : Step) (T : RepliedHistory) (f : Feature) (d : ℕ) → d ≤ length T → why_denied (s ∷ T) f d ≡ why_denied T f d
  pub is_allowed_older : (s : Step) (T : RepliedHistory) (d : ℕ) (f : Feature) → d ≤ length T → is_allowed (s ∷ T) d f ≡ is_allowed T d f
  -- nothing denies a policy-controlled feature in a document exactly where it is enabled there, by the inherited policy and the declared policy
  pub denied_is_not_enabled : (T : RepliedHistory) (f : Feature) (d : ℕ) → IsTrue (is_policy_controlled f) → (why_denied T f d ≡ None) ↔ (is_enabled T f d ≡ true)
