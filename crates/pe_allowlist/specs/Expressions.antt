-- Expressions of allowlists.
-- Permissions Policy, section "allowlist" ("permissions-source-expression"). The forms of expressions
-- and what they match are this project's own: a URL, whose path is ignored, or one with `*.` before
-- its host.
use Rattle.std.specs.Prelude.{ℕ, ◌+◌, nat_eq, nat_lt, Bool, true, false, ◌&&◌, ◌==◌, List, [], ◌∷◌, ◌++◌, length, take, drop, codes, Option, Some, None, option_map, option_and_then, if◌then◌else◌}
use Rattle.std.specs.List.{starts_with, ends_with}
use Rattle.pe_origin.specs.declared.scheme.HostForm.{HostForm}
use Rattle.pe_origin.specs.declared.scheme.HostForm.TheVariants.{Domain, V4, V6}
use Rattle.pe_origin.specs.declared.origin.Tuple.{Tuple}
use Rattle.pe_origin.specs.declared.origin.Origin.{Origin}
use Rattle.pe_origin.specs.declared.origin.Origin.TheVariants as origin
use Rattle.pe_origin.specs.declared.place.Place.{Place}
use Rattle.pe_origin.specs.Origins.{is_same_scheme, is_same_tuple}
use Rattle.pe_origin.specs.Places.{place_at}
use Rattle.pe_allowlist.specs.declared.allowlist.Expression.{Expression}

-- the host is a domain
abbrev pub is_domain : HostForm → Bool
is_domain Domain = true
is_domain V4 = false
is_domain V6 = false

-- the tuple origin of a text that is read as a URL
unfoldable pub tuple_at : List ℕ → Option Tuple
tuple_at text = option_and_then (λ (place : Place). place.tuple) (place_at text)

-- the place of the first `://`
unfoldable pub separator_at : List ℕ → Option ℕ
separator_at [] = None
separator_at (b ∷ bytes) =
    let later = separator_at bytes in
    if starts_with nat_eq (b ∷ bytes) (codes "://") then Some 0 else option_map (λ place. place + 1) later

-- the text without the two bytes `*.` behind a `://` that stands at this place
abbrev pub without_star_at : List ℕ → Option ℕ → Option (List ℕ)
without_star_at text (Some place) =
    if starts_with nat_eq (drop (place + 3) text) (codes "*.") then Some (take (place + 3) text ++ drop (place + 5) text)
    else None
without_star_at text None = None

-- the text without the two bytes `*.` directly after its first `://`, or nothing where they do not
-- stand there
unfoldable pub without_star : List ℕ → Option (List ℕ)
without_star text = without_star_at text (separator_at text)

-- the expression that matches this tuple alone
abbrev pub plain : Tuple → Expression
plain tuple = record { wild = false; tuple = tuple }

-- the expression that matches what stands below the host, or nothing where the host is no domain
abbrev pub wild : Tuple → Option Expression
wild tuple = if is_domain tuple.form then Some (record { wild = true; tuple = tuple }) else None

-- the expression of a text whose text without `*.` is this one, or that has no `*.`
abbrev pub expression_by : List ℕ → Option (List ℕ) → Option Expression
expression_by text (Some rest) = option_and_then wild (tuple_at rest)
expression_by text None = option_map plain (tuple_at text)

-- the expression of a text, or nothing where it is none
unfoldable pub expression_at : List ℕ → Option Expression
expression_at text = expression_by text (without_star text)

-- the host ends with a dot and the other host, with at least one byte before
abbrev pub is_host_below : List ℕ → List ℕ → Bool
is_host_below host above = nat_lt (length above + 1) (length host) && ends_with nat_eq host (codes "." ++ above)

-- the tuple is of the same scheme and port, and its host is a domain below the other's
abbrev pub is_below : Tuple → Tuple → Bool
is_below tuple above =
    is_same_scheme tuple.scheme above.scheme && tuple.port == above.port && is_domain tuple.form
    && is_host_below tuple.host above.host

-- the expression matches a tuple origin
abbrev pub expression_matches_tuple : Expression → Tuple → Bool
expression_matches_tuple expression tuple =
    if expression.wild then is_below tuple expression.tuple else is_same_tuple tuple expression.tuple

-- the expression matches an origin; it matches no opaque one
abbrev pub expression_matches : Expression → Origin → Bool
expression_matches expression (origin.Tuple tuple) = expression_matches_tuple expression tuple
expression_matches expression (origin.Opaque document) = false
