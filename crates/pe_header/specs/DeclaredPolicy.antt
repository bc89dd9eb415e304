-- The declared policy of a document: what its header gives each feature.
-- Permissions Policy, sections "Permissions-Policy HTTP header field" and "process response policy";
-- RFC 8941, section 3.2. This project's own: the forms of expressions; that a value that is none of `*`, `self`, a string and an inner list declares nothing, where the standard gives the empty list; that a lone string counts as a list of it.
use Rattle.std.specs.Prelude.{ℕ, List, codes, bytes_eq, Option, Some, None, unwrap_or, option_and_then, if◌then◌else◌}
use Rattle.std.specs.List.{fold}
use Rattle.pe_features.specs.declared.feature.Feature.{Feature}
use Rattle.pe_features.specs.Features.{feature_name}
use Rattle.pe_origin.specs.declared.origin.Origin.{Origin}
use Rattle.pe_allowlist.specs.declared.allowlist.Allowlist.{Allowlist}
use Rattle.pe_allowlist.specs.Expressions.{expression_at}
use Rattle.pe_allowlist.specs.Allowlists.{empty_list}
use Rattle.pe_allowlist.specs.ContainerPolicy.{with_any, with_self, with_expression}
use Rattle.pe_allowlist.specs.Lists.{PolicyDirective, is_policy_controlled}
use Rattle.pe_fields.specs.declared.value.Bare.{Bare}
use Rattle.pe_fields.specs.declared.value.Bare.TheVariants.{Token, Text}
use Rattle.pe_fields.specs.declared.value.Item.{Item}
use Rattle.pe_fields.specs.declared.value.Value.{Value}
use Rattle.pe_fields.specs.declared.value.Value.TheVariants as value
use Rattle.pe_fields.specs.declared.value.Member.{Member}
use Rattle.pe_fields.specs.Dictionary.{last_of}
use Rattle.pe_fields.specs.Reading.{dictionary}

-- the list with what a token stands for: `*` or `self`, and nothing for another token
abbrev pub with_token : Origin → Allowlist → List ℕ → Option Allowlist
with_token own list token =
    if bytes_eq token (codes "*") then Some (with_any list)
    else (if bytes_eq token (codes "self") then Some (with_self own list) else None)

-- the list with what a bare item stands for: a token, or a string with its expression, which may be
-- none; nothing for any other item
unfoldable pub with_bare : Origin → Allowlist → Bare → Option Allowlist
with_bare own list (Token token) = with_token own list token
with_bare own list (Text text) = Some (with_expression (expression_at text) list)
with_bare own list bare = None

-- the list with what an item of an inner list stands for; another item is skipped
abbrev pub with_item : Origin → Allowlist → Item → Allowlist
with_item own list item = unwrap_or (with_bare own list item.bare) list

-- the allowlist that a member declares, or nothing where it declares none
unfoldable pub list_of_value : Origin → Value → Option Allowlist
list_of_value own (value.Item bare) = with_bare own empty_list bare
list_of_value own (value.Inner items) = Some (fold (with_item own) empty_list items)

-- the allowlist that the members declare for the key: the last of the key counts
abbrev pub list_of_key : Origin → List ℕ → List (List ℕ × Member) → Option Allowlist
list_of_key own key members = option_and_then (λ (member : Member). list_of_value own member.value) (last_of members key)

-- the allowlist that the members declare for the feature, which has to be policy-controlled
abbrev pub list_of_members : Origin → Feature → List (List ℕ × Member) → Option Allowlist
list_of_members own feature members =
    if is_policy_controlled feature then list_of_key own (feature_name feature) members else None

-- the declared policy, of the header's field and the document's own origin; a field that is missing or
-- no dictionary declares nothing
unfoldable pub declared_policy : Option (List ℕ) → Origin → PolicyDirective
declared_policy field own feature = option_and_then (list_of_members own feature) (option_and_then dictionary field)
