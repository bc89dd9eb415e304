-- The rows of new documents, by what an event gives and by the row of the embedder.
-- This project's own; the definitions over the history say the same of each (HTML Standard, "determine the origin"; Permissions Policy, "declared origin").
use Rattle.std.specs.Prelude.{◌≡◌, ℕ, ◌||◌, Bool, false, List, [], ◌∷◌, ◌++◌, Option, Some, None, unwrap_or, option_map, if◌then◌else◌}
use Rattle.pe_base.specs.declared.input.Stamp.TheVariants.{Never}
use Rattle.pe_features.specs.declared.feature.Feature.{Feature}
use Rattle.pe_origin.specs.declared.origin.Origin.{Origin}
use Rattle.pe_origin.specs.declared.origin.Origin.TheVariants as origin
use Rattle.pe_origin.specs.declared.place.Place.{Place}
use Rattle.pe_origin.specs.Trust.{is_trustworthy}
use Rattle.pe_allowlist.specs.declared.container.DeclaredOrigin.{DeclaredOrigin}
use Rattle.pe_allowlist.specs.declared.container.DeclaredOrigin.TheVariants as declared
use Rattle.pe_allowlist.specs.ContainerPolicy.{container_policy}
use Rattle.pe_header.specs.DeclaredPolicy.{declared_policy}
use Rattle.pe_policy.specs.Links.{ChainDocument, end_of_chain}
use Rattle.pe_policy.specs.PolicyValue.{IsPolicyOf}
use Rattle.pe_store.specs.declared.key.Key.{Key}
use Rattle.pe_store.specs.declared.key.Key.TheVariants as key
use Rattle.pe_rules.specs.Origins.{sandboxes_origin, origin_of_place, is_blank_kind, declared_by_place}
use Rattle.pe_engine.specs.declared.row.Attributes.{Attributes}
use Rattle.pe_engine.specs.declared.row.Row.{Row}
use Rattle.pe_engine.specs.Rows.{no_kept_attributes, no_deliveries}

-- the sandbox attribute stands without `allow-same-origin`
abbrev pub sandboxes : Attributes → Bool
sandboxes attributes = unwrap_or (option_map sandboxes_origin attributes.sandbox) false

-- the origin of an embedded document, by its sandbox flag
abbrev pub child_origin : Bool → Origin → ℕ → Place → Bool → Origin
child_origin flag embedder number place srcdoc =
    if flag then origin.Opaque number else (if srcdoc || is_blank_kind place.kind then embedder else origin_of_place number place)

-- the declared origin that the place in `src` gives, or none of it
abbrev pub declared_by_kept : Origin → Option Place → DeclaredOrigin
declared_by_kept embedder None = declared.Known embedder
declared_by_kept embedder (Some place) = declared_by_place embedder place

-- the declared origin of a container, by its attributes and by the flag and the origin of the embedder
abbrev pub kept_declared : Attributes → Bool → Origin → DeclaredOrigin
kept_declared attributes flag embedder =
    if flag || sandboxes attributes then declared.Opaque else (if attributes.srcdoc then declared.Known embedder else declared_by_kept embedder attributes.src)

-- the origin of the top document of the page that a key is for
abbrev pub top_of : Key → Origin
top_of (key.One top) = top
top_of (key.Pair top own) = top

-- the document of a chain is this one, with this origin and header
pub record IsLinkOf (link : ChainDocument) (document : ℕ) (origin : Origin) (header : Option (List ℕ)) : Type 0 where
  pub numbered : link.document ≡ document
  pub of_origin : link.origin ≡ origin
  pub declares : (feature : Feature) → link.declared feature ≡ declared_policy header origin feature

-- its container policy is that of these attributes, in this embedder
abbrev pub IsContainedBy : ChainDocument → Attributes → Row → Type 0
IsContainedBy link attributes embedder =
    (feature : Feature) → link.container feature ≡ container_policy attributes.allow attributes.fullscreen embedder.origin (kept_declared attributes embedder.sandboxed embedder.origin) feature

-- the row is new: of this number, never activated, with no capability delivered, and with no attributes yet
pub record IsNew (number : ℕ) (x : Row) : Type 0 where
  pub doc : x.doc ≡ number
  pub stamp : x.stamp ≡ Never
  pub second : x.second ≡ Never
  pub delivered : x.delivered ≡ no_deliveries
  pub attributes : x.attributes ≡ no_kept_attributes

-- the row of a top document
pub record IsTopRow (number : ℕ) (place : Place) (header : Option (List ℕ)) (x : Row) : Type 0 where
  pub new : IsNew number x
  pub sandboxed : x.sandboxed ≡ false
  pub origin : x.origin ≡ origin_of_place number place
  pub secure : x.secure ≡ is_trustworthy place
  pub single : x.single ≡ key.One x.origin
  pub pair : x.pair ≡ key.Pair x.origin x.origin
  pub policy : (top : ChainDocument) → IsLinkOf top number x.origin header → IsPolicyOf x.policy top []

-- the row of a document that is embedded with these attributes
pub record IsChildRow (embedder : Row) (number : ℕ) (place : Place) (srcdoc : Bool) (header : Option (List ℕ)) (attributes : Attributes) (x : Row) : Type 0 where
  pub new : IsNew number x
  pub sandboxed : x.sandboxed ≡ (embedder.sandboxed || sandboxes attributes)
  pub origin : x.origin ≡ child_origin x.sandboxed embedder.origin number place srcdoc
  pub secure : x.secure ≡ embedder.secure
  pub single : x.single ≡ embedder.single
  pub pair : x.pair ≡ key.Pair (top_of embedder.single) x.origin
  pub policy : (top : ChainDocument) (rest : List ChainDocument) (child : ChainDocument) → IsPolicyOf embedder.policy top rest → (end_of_chain top rest).origin ≡ embedder.origin
      → IsLinkOf child number x.origin header → IsContainedBy child attributes embedder → IsPolicyOf x.policy top (rest ++ child ∷ [])
