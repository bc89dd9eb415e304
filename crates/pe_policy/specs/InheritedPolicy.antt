-- The inherited policy of a document, and a feature's value in a document for an origin.
-- Permissions Policy, sections "define an inherited policy for feature in container at origin" and
-- "get feature value for origin". True stands for Enabled and false for Disabled.
use Rattle.std.specs.Prelude.{Bool, true, false, not, List, [], ◌∷◌, Option, Some, None, if◌then◌else◌}
use Rattle.pe_features.specs.declared.feature.Feature.{Feature}
use Rattle.pe_features.specs.declared.feature.DefaultList.{DefaultList}
use Rattle.pe_features.specs.declared.feature.DefaultList.TheVariants.{Any, OwnOrigin}
use Rattle.pe_features.specs.Features.{default_of}
use Rattle.pe_origin.specs.declared.origin.Origin.{Origin}
use Rattle.pe_origin.specs.Origins.{is_same_origin}
use Rattle.pe_allowlist.specs.declared.allowlist.Allowlist.{Allowlist}
use Rattle.pe_allowlist.specs.Allowlists.{matches}
use Rattle.pe_policy.specs.Links.{ChainDocument, end_of_chain}

-- where the declared policy has the feature, whether its allowlist matches; else Enabled
abbrev pub value_by_declared : Option Allowlist → Origin → Bool
value_by_declared (Some list) other = matches list other
value_by_declared None other = true

-- the value in a document for an origin, where the inherited value is this one
abbrev pub value_in : Feature → Bool → ChainDocument → Origin → Bool
value_in feature inherited link other =
    if not inherited then false else value_by_declared (link.declared feature) other

-- the value by the default allowlist, of a child that is same origin with its embedder or not
abbrev pub value_by_default : Option DefaultList → Bool → Bool
value_by_default (Some Any) same = true
value_by_default (Some OwnOrigin) same = same
value_by_default None same = false

-- where the container policy has the feature, whether its allowlist matches; else by the default
abbrev pub value_by_container : Option Allowlist → Origin → Bool → Bool
value_by_container (Some list) other default = matches list other
value_by_container None other default = default

-- the value that a child inherits from its embedder, whose own inherited value is this one
unfoldable pub child_value : Feature → Bool → ChainDocument → ChainDocument → Bool
child_value feature inherited embedder child =
    if not (value_in feature inherited embedder embedder.origin) then false
    else (if not (value_in feature inherited embedder child.origin) then false
    else value_by_container (child.container feature) child.origin
    (value_by_default (default_of feature) (is_same_origin child.origin embedder.origin)))

-- the inherited value of the last document below one whose inherited value is this one
unfoldable pub inherited_below : Feature → Bool → ChainDocument → List ChainDocument → Bool
inherited_below feature inherited link [] = inherited
inherited_below feature inherited link (child ∷ rest) =
    inherited_below feature (child_value feature inherited link child) child rest

-- the inherited value of the last document along the links from the top one on; that of a top document
-- is Enabled
unfoldable pub inherited_value : Feature → List ChainDocument → Bool
inherited_value feature [] = true
inherited_value feature (top ∷ rest) = inherited_below feature true top rest

-- the value in the last document for an origin
unfoldable pub value_for : Feature → List ChainDocument → Origin → Bool
value_for feature [] other = true
value_for feature (top ∷ rest) other = value_in feature (inherited_below feature true top rest) (end_of_chain top rest) other
