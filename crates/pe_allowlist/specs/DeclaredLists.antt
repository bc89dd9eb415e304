-- Allowlists as a header declares them, and the map of them for a document.
-- This project's own: how the lists are kept, so that a document's own origin is kept once.
use Rattle.std.specs.Prelude.{ℕ, Bool, true, false, List, [], ◌∷◌, Option, Some, None, option_map, slice_index_or, if◌then◌else◌}
use Rattle.std.specs.List.{flat_map}
use Rattle.pe_features.specs.declared.feature.Feature.{Feature}
use Rattle.pe_features.specs.Features.{all_features, feature_number}
use Rattle.pe_origin.specs.declared.origin.Origin.{Origin}
use Rattle.pe_allowlist.specs.declared.allowlist.Expression.{Expression}
use Rattle.pe_allowlist.specs.declared.allowlist.Allowlist.{Allowlist}
use Rattle.pe_allowlist.specs.declared.lists.Keywords.{Keywords}
use Rattle.pe_allowlist.specs.declared.lists.Keywords.TheVariants.{NoList, Neither, Any, Own, Both}
use Rattle.pe_allowlist.specs.declared.lists.DeclaredList.{DeclaredList}
use Rattle.pe_allowlist.specs.declared.lists.DeclaredLists.{DeclaredLists}
use Rattle.pe_allowlist.specs.declared.declared.OwnLists.{OwnLists}
use Rattle.pe_allowlist.specs.Lists.{PolicyDirective}

-- the allowlist that a declared list is in a document of the own origin
abbrev pub allowlist_of : Origin → DeclaredList → Allowlist
allowlist_of own list =
    record {
      any = list.any;
      selves = if list.own then Some own else None;
      src = None;
      src_opaque = false;
      expressions = list.expressions;
    }

-- the expressions of the feature of this number
abbrev pub expressions_at : List (List Expression) → ℕ → List Expression
expressions_at rows number = slice_index_or rows number []

-- whether `*` stands in the list, and whether `self` does, if there is one
abbrev pub keywords_of : Keywords → Option (Bool × Bool)
keywords_of NoList = None
keywords_of Neither = Some (false, false)
keywords_of Any = Some (true, false)
keywords_of Own = Some (false, true)
keywords_of Both = Some (true, true)

-- the list of a feature, if it has one
abbrev pub list_at : DeclaredLists → Feature → Option DeclaredList
list_at lists feature =
    option_map
    (λ (has : Bool × Bool). record { any = has.0; own = has.1; expressions = expressions_at lists.expressions.items (feature_number feature) })
    (keywords_of (slice_index_or lists.keywords (feature_number feature) NoList))

-- the meaning of the lists of a header, where there is one
abbrev pub directive_of : Option OwnLists → PolicyDirective
directive_of None feature = None
directive_of (Some own) feature = option_map (allowlist_of own.own) (list_at own.lists feature)

-- the pair of a feature with its allowlist, if it has one
abbrev pub pair_of : Feature → Option Allowlist → List (Feature × Allowlist)
pair_of feature None = []
pair_of feature (Some list) = (feature, list) ∷ []

-- the pairs of a map, in the order of the table
unfoldable pub pairs_of : PolicyDirective → List (Feature × Allowlist)
pairs_of directive = flat_map (λ feature. pair_of feature (directive feature)) all_features
