-- The documents from a page's top document down to one of its documents, and the tests between them.
-- Permissions Policy, section "define an inherited policy for feature in container at origin". The
-- order of the tests, and the document that each names, are this project's own.
use Rattle.std.specs.Prelude.{ℕ, Bool, true, false, not, ◌&&◌, List, [], ◌∷◌, Option, Some, None, is_none, if◌then◌else◌}
use Rattle.std.specs.Option.{option_or}
use Rattle.pe_base.specs.declared.denial.LinkRule.{LinkRule}
use Rattle.pe_base.specs.declared.denial.LinkRule.TheVariants.{EmbedderSelf, EmbedderHeader, Allow, Default, OwnHeader}
use Rattle.pe_base.specs.declared.denial.Denial.{Denial}
use Rattle.pe_features.specs.declared.feature.Feature.{Feature}
use Rattle.pe_features.specs.declared.feature.DefaultList.{DefaultList}
use Rattle.pe_features.specs.declared.feature.DefaultList.TheVariants.{Any, OwnOrigin}
use Rattle.pe_features.specs.Features.{default_of}
use Rattle.pe_origin.specs.declared.origin.Origin.{Origin}
use Rattle.pe_origin.specs.Origins.{is_same_origin}
use Rattle.pe_allowlist.specs.declared.allowlist.Allowlist.{Allowlist}
use Rattle.pe_allowlist.specs.Allowlists.{matches}
use Rattle.pe_allowlist.specs.Lists.{PolicyDirective}

-- a document with its origin, its declared policy, and the container policy that it was made under
-- (of a top document the container policy is never read)
pub record ChainDocument : Type 0 where
  pub document : ℕ
  pub origin : Origin
  pub declared : PolicyDirective
  pub container : PolicyDirective

-- the last of the links from this one on
abbrev pub end_of_chain : ChainDocument → List ChainDocument → ChainDocument
end_of_chain top [] = top
end_of_chain top (next ∷ rest) = end_of_chain next rest

-- there is an allowlist, and it does not match the origin
abbrev pub refuses : Option Allowlist → Origin → Bool
refuses None other = false
refuses (Some list) other = not (matches list other)

-- the default allowlist is `'self'`
abbrev pub is_own_origin : Option DefaultList → Bool
is_own_origin (Some OwnOrigin) = true
is_own_origin (Some Any) = false
is_own_origin None = false

-- the embedder's declared policy refuses the embedder's own origin
abbrev pub fails_embedder_self : Feature → ChainDocument → Bool
fails_embedder_self feature embedder = refuses (embedder.declared feature) embedder.origin

-- the embedder's declared policy refuses the child's origin
abbrev pub fails_embedder_header : Feature → ChainDocument → ChainDocument → Bool
fails_embedder_header feature embedder child = refuses (embedder.declared feature) child.origin

-- the container policy refuses the child's origin
abbrev pub fails_allow : Feature → ChainDocument → Bool
fails_allow feature child = refuses (child.container feature) child.origin

-- the container policy lacks the feature, whose default allowlist is `'self'`, and the child is not
-- same origin with the embedder
abbrev pub fails_default : Feature → ChainDocument → ChainDocument → Bool
fails_default feature embedder child =
    is_none (child.container feature) && is_own_origin (default_of feature)
    && not (is_same_origin child.origin embedder.origin)

-- the document's declared policy refuses its own origin
abbrev pub fails_own_header : Feature → ChainDocument → Bool
fails_own_header feature link = refuses (link.declared feature) link.origin

-- the denial by a test, where it fails
abbrev pub denied_where : Bool → LinkRule → ℕ → Option Denial
denied_where fails rule document = if fails then Some (record { rule = rule; at = document }) else None

-- the first of the four tests that fails between an embedder and its child
unfoldable pub pair_test : Feature → ChainDocument → ChainDocument → Option Denial
pair_test feature embedder child =
    option_or (denied_where (fails_embedder_self feature embedder) EmbedderSelf embedder.document)
    (option_or (denied_where (fails_embedder_header feature embedder child) EmbedderHeader embedder.document)
    (option_or (denied_where (fails_allow feature child) Allow child.document)
    (denied_where (fails_default feature embedder child) Default child.document)))

-- the test of a document's own declared policy
unfoldable pub own_test : Feature → ChainDocument → Option Denial
own_test feature link = denied_where (fails_own_header feature link) OwnHeader link.document
