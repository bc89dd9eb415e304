-- The container policy: what an `allow` attribute gives each feature.
-- Permissions Policy, sections "allow attribute" and "parse policy directive", with the difference
-- that of several pieces for one feature the last counts.
use Rattle.std.specs.Prelude.{ℕ, Bool, true, ◌==◌, ◌&&◌, List, [], ◌∷◌, ◌++◌, codes, bytes_eq, Option, Some, None, if◌then◌else◌}
use Rattle.std.specs.Option.{option_or, unwrap_or}
use Rattle.std.specs.List.{fold}
use Rattle.pe_features.specs.declared.feature.Feature.{Feature}
use Rattle.pe_features.specs.declared.feature.Feature.TheVariants.{Fullscreen}
use Rattle.pe_features.specs.Features.{feature_name, same_feature}
use Rattle.pe_origin.specs.declared.origin.Origin.{Origin}
use Rattle.pe_allowlist.specs.declared.allowlist.Allowlist.{Allowlist}
use Rattle.pe_allowlist.specs.declared.allowlist.Expression.{Expression}
use Rattle.pe_allowlist.specs.declared.container.DeclaredOrigin.{DeclaredOrigin}
use Rattle.pe_allowlist.specs.declared.container.DeclaredOrigin.TheVariants.{Known, Opaque}
use Rattle.pe_allowlist.specs.AsciiWords.{pieces_at, ascii_words, lowercase}
use Rattle.pe_allowlist.specs.Expressions.{expression_at}
use Rattle.pe_allowlist.specs.Allowlists.{empty_list, is_opaque}
use Rattle.pe_allowlist.specs.Lists.{PolicyDirective, is_policy_controlled}

-- a semicolon
abbrev pub is_semicolon : ℕ → Bool
is_semicolon b = b == 59

-- the list with every origin
abbrev pub with_any : Allowlist → Allowlist
with_any list = record list { any = true }

-- the list with what `'self'` stands for
abbrev pub with_self : Origin → Allowlist → Allowlist
with_self own list = record list { selves = Some own }

-- the list with what `'src'` stands for
abbrev pub with_src : DeclaredOrigin → Allowlist → Allowlist
with_src (Known declared) list =
    if is_opaque declared then record list { src_opaque = true } else record list { src = Some declared }
with_src Opaque list = record list { src_opaque = true }

-- the list with an expression behind its others, where there is one
abbrev pub with_expression : Option Expression → Allowlist → Allowlist
with_expression (Some expression) list = record list { expressions = list.expressions ++ expression ∷ [] }
with_expression None list = list

-- the word is this keyword, without ASCII case
abbrev pub is_keyword : List ℕ → List ℕ → Bool
is_keyword word keyword = bytes_eq (lowercase word) keyword

-- the list with what a word of the attribute stands for: `*`, a keyword in quotes, or an expression
unfoldable pub with_word : Origin → DeclaredOrigin → Allowlist → List ℕ → Allowlist
with_word embedder declared list word =
    if bytes_eq word (codes "*") then with_any list
    else (if is_keyword word (codes "'self'") then with_self embedder list
    else (if is_keyword word (codes "'src'") then with_src declared list
    else (if is_keyword word (codes "'none'") then list
    else with_expression (expression_at word) list)))

-- the list of the words behind the feature's name; without words it is that of `'src'`
abbrev pub list_of_words : Origin → DeclaredOrigin → List (List ℕ) → Allowlist
list_of_words embedder declared [] = with_src declared empty_list
list_of_words embedder declared (word ∷ words) = fold (with_word embedder declared) empty_list (word ∷ words)

-- what the words of a piece give the feature: nothing where the first is not its name
abbrev pub list_by_words : Origin → DeclaredOrigin → Feature → List (List ℕ) → Option Allowlist
list_by_words embedder declared feature [] = None
list_by_words embedder declared feature (name ∷ words) =
    if bytes_eq name (feature_name feature) then Some (list_of_words embedder declared words) else None

-- what a piece gives the feature, which has to be policy-controlled
abbrev pub list_by_piece : Origin → DeclaredOrigin → Feature → List ℕ → Option Allowlist
list_by_piece embedder declared feature piece =
    if is_policy_controlled feature then list_by_words embedder declared feature (ascii_words piece) else None

-- what the last of the pieces that name the feature gives it
unfoldable pub list_by_pieces : Origin → DeclaredOrigin → Feature → List (List ℕ) → Option Allowlist
list_by_pieces embedder declared feature [] = None
list_by_pieces embedder declared feature (piece ∷ pieces) =
    let later = list_by_pieces embedder declared feature pieces in
    option_or later (list_by_piece embedder declared feature piece)

-- what the `fullscreen` attribute gives the feature
abbrev pub list_by_fullscreen : Bool → Feature → Option Allowlist
list_by_fullscreen fullscreen feature =
    if fullscreen && same_feature Fullscreen feature then Some (with_any empty_list) else None

-- the container policy, of the `allow` attribute's text, whether the `fullscreen` attribute stands,
-- the embedder's origin and the declared origin; without the attribute the text is empty
unfoldable pub container_policy : Option (List ℕ) → Bool → Origin → DeclaredOrigin → PolicyDirective
container_policy text fullscreen embedder declared feature =
    option_or
    (list_by_pieces embedder declared feature (pieces_at is_semicolon (unwrap_or text [])))
    (list_by_fullscreen fullscreen feature)
