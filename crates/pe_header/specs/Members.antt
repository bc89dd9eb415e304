-- What one member adds to the lists, where the members behind it were taken in first.
-- RFC 8941, section 3.2: where a key is repeated, the last member counts.
-- This project's own: that the members are taken from the last one on.
use Rattle.std.specs.Prelude.{ℕ, List, Bool, false, bytes_eq, Option, Some, None, slice_index_or, if◌then◌else◌}
use Rattle.std.specs.Option.{option_or}
use Rattle.pe_features.specs.declared.feature.Feature.{Feature}
use Rattle.pe_features.specs.Features.{feature_name, feature_number, same_feature}
use Rattle.pe_origin.specs.declared.origin.Origin.{Origin}
use Rattle.pe_allowlist.specs.declared.allowlist.Allowlist.{Allowlist}
use Rattle.pe_allowlist.specs.Lists.{is_policy_controlled}
use Rattle.pe_fields.specs.declared.value.Member.{Member}
use Rattle.pe_header.specs.DeclaredPolicy.{list_of_value}

-- the feature that was found is this one
abbrev pub is_that : Option Feature → Feature → Bool
is_that None f = false
is_that (Some found) f = same_feature found f

-- a member of the feature's key was taken in
abbrev pub seen_at : List Bool → Feature → Bool
seen_at seen f = slice_index_or seen (feature_number f) false

-- the allowlist that a member of the feature's key declares for it
abbrev pub list_of_member : Origin → Feature → Member → Option Allowlist
list_of_member own feature member = if is_policy_controlled feature then list_of_value own member.value else None

-- the list of the feature once this member is taken in too
abbrev pub with_member : Origin → Feature → Bool → List ℕ → Member → Option Allowlist → Option Allowlist
with_member own feature seen key member list =
    if seen then list else (if bytes_eq key (feature_name feature) then option_or (list_of_member own feature member) list else list)
