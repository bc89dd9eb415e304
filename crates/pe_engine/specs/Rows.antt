-- What the row of a document says of it.
-- This project's own: each field is the value that the definitions give.
use Rattle.std.specs.Prelude.{◌≡◌, ℕ, Bool, false, not, ◌||◌, List, ◌∷◌, Option, Some, None, is_some, option_map}
use Rattle.pe_features.specs.declared.feature.Feature.{Feature}
use Rattle.pe_features.specs.declared.capability.Capability.{Capability}
use Rattle.pe_features.specs.declared.capability.Capability.TheVariants.{Payment, Fullscreen, DisplayCapture}
use Rattle.pe_policy.specs.Links.{ChainDocument, end_of_chain}
use Rattle.pe_policy.specs.PolicyValue.{PolicyValue, IsPolicyOf, row_of}
use Rattle.pe_origin.specs.declared.origin.Origin.{Origin}
use Rattle.pe_store.specs.declared.key.Key.TheVariants as key
use Rattle.pe_rules.specs.History.{RepliedHistory}
use Rattle.pe_rules.specs.Attributes as rules
use Rattle.pe_rules.specs.Attributes.{attributes_of}
use Rattle.pe_rules.specs.Origins.{origin_of, sandbox_flag, place_or_none, is_secure}
use Rattle.pe_rules.specs.Embedders.{top_document}
use Rattle.pe_rules.specs.Numbering.{parent_frame}
use Rattle.pe_rules.specs.Current.{document_in}
use Rattle.pe_rules.specs.Denials.{chain_document, chain_documents}
use Rattle.pe_rules.specs.Activation.{stamp_of}
use Rattle.pe_rules.specs.HistoryActivation.{second_stamp_of}
use Rattle.pe_laws.specs.DelegationLaws.{delegated_at}
use Rattle.pe_engine.specs.declared.row.Attributes.{Attributes}
use Rattle.pe_engine.specs.declared.row.Delivered.{Delivered}
use Rattle.pe_engine.specs.declared.row.Row.{Row}

-- attributes as they are kept: of `src` what its URL names
abbrev pub kept_attributes : rules.Attributes → Attributes
kept_attributes a = record { src = option_map place_or_none a.src; srcdoc = a.srcdoc; allow = a.allow; sandbox = a.sandbox; fullscreen = a.fullscreen }

-- no attributes
abbrev pub no_kept_attributes : Attributes
no_kept_attributes = record { src = None; srcdoc = false; allow = None; sandbox = None; fullscreen = false }

-- no capability was delivered
abbrev pub no_deliveries : Delivered
no_deliveries = record { payment = None; fullscreen = None; display_capture = None }

-- the time that is kept of a capability
abbrev pub delivery_time : Delivered → Capability → Option ℕ
delivery_time delivered Payment = delivered.payment
delivery_time delivered Fullscreen = delivered.fullscreen
delivery_time delivered DisplayCapture = delivered.display_capture

-- the deliveries, once this time is kept of the capability, or none
abbrev pub with_delivery : Capability → Option ℕ → Delivered → Delivered
with_delivery Payment time delivered = record delivered { payment = time }
with_delivery Fullscreen time delivered = record delivered { fullscreen = time }
with_delivery DisplayCapture time delivered = record delivered { display_capture = time }

-- of each capability the time of the last delivery to document d that was not spent since is kept
abbrev pub AreDelivered : RepliedHistory → ℕ → Delivered → Type 0
AreDelivered T d delivered = (capability : Capability) → delivery_time delivered capability ≡ delegated_at T d capability

-- the policy is that of the document, which stands last on its chain
pub record HasPolicy (T : RepliedHistory) (d : ℕ) (policy : PolicyValue) : Type 0 where
  pub top : ChainDocument
  pub rest : List ChainDocument
  pub chained : chain_documents T d ≡ top ∷ rest
  pub last : end_of_chain top rest ≡ chain_document T d
  pub stands : IsPolicyOf policy top rest

-- the row knows that its document is denied the feature, whatever is stored
abbrev pub blocks : Row → Feature → Bool
blocks x feature = not x.secure || is_some (row_of x.policy feature).denial

-- the origin of the top document of a document's page
abbrev pub top_origin : RepliedHistory → ℕ → Origin
top_origin T d = origin_of T (top_document T d)

-- what is settled when the document is made
pub record IsSettled (T : RepliedHistory) (x : Row) : Type 0 where
  pub origin : x.origin ≡ origin_of T x.doc
  pub sandboxed : x.sandboxed ≡ sandbox_flag T x.doc
  pub secure : x.secure ≡ is_secure T x.doc
  pub single : x.single ≡ key.One (top_origin T x.doc)
  pub pair : x.pair ≡ key.Pair (top_origin T x.doc) (origin_of T x.doc)
  pub policy : HasPolicy T x.doc x.policy

-- the row of a document that frame f shows: what is settled, and what events change
pub record IsRow (T : RepliedHistory) (f : ℕ) (x : Row) : Type 0 where
  pub settled : IsSettled T x
  pub stamp : x.stamp ≡ stamp_of T x.doc
  pub second : x.second ≡ second_stamp_of T x.doc
  pub delivered : AreDelivered T x.doc x.delivered
  pub attributes : x.attributes ≡ kept_attributes (attributes_of T f)

-- frame f shows the document of this row
pub record IsShown (T : RepliedHistory) (f : ℕ) (x : Row) : Type 0 where
  pub document : document_in T f ≡ Some x.doc
  pub row : IsRow T f x

-- the row is that of the document that embeds the one of frame f; a top frame has none
abbrev pub IsEmbedder : RepliedHistory → ℕ → Option Row → Type 0
IsEmbedder T f None = parent_frame T f ≡ None
IsEmbedder T f (Some x) = (g : ℕ) × (parent_frame T f ≡ Some g) × IsShown T g x
