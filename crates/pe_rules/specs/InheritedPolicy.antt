-- The inherited policy of a document, and the value of a feature there for an origin.
-- Permissions Policy, "define an inherited policy for feature in container at origin", "get feature value for origin".
-- It is a second way to the decision on a feature.
use Rattle.std.specs.Prelude.{ℕ, Bool}
use Rattle.pe_features.specs.declared.feature.Feature.{Feature}
use Rattle.pe_origin.specs.declared.origin.Origin.{Origin}
use Rattle.pe_policy.specs.InheritedPolicy.{inherited_value, value_for}
use Rattle.pe_rules.specs.History.{RepliedHistory}
use Rattle.pe_rules.specs.Origins.{origin_of}
use Rattle.pe_rules.specs.Denials.{chain_documents}

-- the inherited policy of a document for a feature: enabled or not
unfoldable pub inherited : RepliedHistory → Feature → ℕ → Bool
inherited T feature d = inherited_value feature (chain_documents T d)

-- whether a feature is enabled in a document for an origin
unfoldable pub is_enabled_for : RepliedHistory → Feature → ℕ → Origin → Bool
is_enabled_for T feature d origin = value_for feature (chain_documents T d) origin

-- whether a feature is enabled in a document
unfoldable pub is_enabled : RepliedHistory → Feature → ℕ → Bool
is_enabled T feature d = is_enabled_for T feature d (origin_of T d)
