-- Maps from features to allowlists.
-- Permissions Policy, sections "policy-controlled feature", "declared policy" and "container policy":
-- each policy is a map, and a feature that a map lacks has no allowlist there.
use Rattle.std.specs.Prelude.{◌≡◌, Bool, ⊤, List, [], ◌∷◌, Option, None, is_some, option_map, find}
use Rattle.pe_features.specs.declared.feature.Feature.{Feature}
use Rattle.pe_features.specs.Features.{default_of, same_feature}
use Rattle.pe_allowlist.specs.declared.allowlist.Allowlist.{Allowlist}

-- the meaning of a map: the allowlist of each feature that it has
abbrev pub PolicyDirective : Type 0
PolicyDirective = Feature → Option Allowlist

-- the empty map
abbrev pub no_lists : PolicyDirective
no_lists feature = None

-- the pair is of this feature
abbrev pub is_of_feature : Feature → Feature × Allowlist → Bool
is_of_feature feature row = same_feature row.0 feature

-- the meaning of a list of pairs: of those of one feature the first counts
unfoldable pub lists_of : List (Feature × Allowlist) → PolicyDirective
lists_of rows feature = option_map (λ (row : Feature × Allowlist). row.1) (find (is_of_feature feature) rows)

-- no feature stands twice: of each pair's feature there is none further on
abbrev pub NoFeatureTwice : List (Feature × Allowlist) → Type 0
NoFeatureTwice [] = ⊤
NoFeatureTwice (row ∷ rows) = (find (is_of_feature row.0) rows ≡ None) × NoFeatureTwice rows

-- the feature is policy-controlled: it has a default allowlist
abbrev pub is_policy_controlled : Feature → Bool
is_policy_controlled feature = is_some (default_of feature)
