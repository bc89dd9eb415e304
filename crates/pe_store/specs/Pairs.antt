-- Pairs of a feature and a key: what a permission is kept under.
-- Permissions, "permission key", "permission store entry".
-- That two keys are compared by their origins is the standard's; the key of two origins is this project's own.
use Rattle.std.specs.Prelude.{Bool, false, ◌&&◌}
use Rattle.pe_features.specs.declared.feature.Feature.{Feature}
use Rattle.pe_features.specs.Features.{same_feature}
use Rattle.pe_origin.specs.Origins.{is_same_origin}
use Rattle.pe_store.specs.declared.key.Key.{Key}
use Rattle.pe_store.specs.declared.key.Key.TheVariants as key

-- a feature and a key
abbrev pub Pair : Type 0
Pair = Feature × Key

-- the two keys are one
abbrev pub is_same_key : Key → Key → Bool
is_same_key (key.One a) (key.One b) = is_same_origin a b
is_same_key (key.Pair a b) (key.Pair c d) = is_same_origin a c && is_same_origin b d
is_same_key _ _ = false

-- the two pairs are one
unfoldable pub is_same_pair : Pair → Pair → Bool
is_same_pair p q = same_feature p.0 q.0 && is_same_key p.1 q.1
