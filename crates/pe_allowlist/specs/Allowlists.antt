-- Which origins an allowlist matches.
-- Permissions Policy, section "allowlist" ("matches"). That `'src'` with an opaque declared origin
-- matches each opaque origin is this project's own.
use Rattle.std.specs.Prelude.{Bool, true, false, ◌||◌, ◌&&◌, [], Option, Some, None}
use Rattle.std.specs.List.{list_any}
use Rattle.pe_origin.specs.declared.origin.Origin.{Origin}
use Rattle.pe_origin.specs.declared.origin.Origin.TheVariants as origin
use Rattle.pe_origin.specs.Origins.{is_same_origin}
use Rattle.pe_allowlist.specs.declared.allowlist.Allowlist.{Allowlist}
use Rattle.pe_allowlist.specs.Expressions.{expression_matches}

-- the list that matches nothing
abbrev pub empty_list : Allowlist
empty_list = record { any = false; selves = None; src = None; src_opaque = false; expressions = [] }

-- the origin is opaque
abbrev pub is_opaque : Origin → Bool
is_opaque (origin.Tuple tuple) = false
is_opaque (origin.Opaque document) = true

-- there is an origin, and it is same origin with the other
abbrev pub is_one_same : Option Origin → Origin → Bool
is_one_same None other = false
is_one_same (Some one) other = is_same_origin one other

-- the list matches the origin
unfoldable pub matches : Allowlist → Origin → Bool
matches list other =
    list.any
    || is_one_same list.selves other
    || is_one_same list.src other
    || (list.src_opaque && is_opaque other)
    || list_any (λ expression. expression_matches expression other) list.expressions
