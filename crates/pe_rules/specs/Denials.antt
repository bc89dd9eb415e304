-- Why a document is denied a policy-controlled feature: the first failing test along its chain of embedders.
-- Permissions Policy, "define an inherited policy for feature in container at origin", "is feature enabled in document for origin"; HTML Standard, "allowed to use".
-- The tests are those of links, applied to the chain of the history; their order is this project's own.
use Rattle.std.specs.Prelude.{ℕ, Bool, ◌&&◌, List, map, Option, is_none, unwrap_or, option_map, option_and_then}
use Rattle.pe_base.specs.declared.denial.Denial.{Denial}
use Rattle.pe_features.specs.declared.feature.Feature.{Feature}
use Rattle.pe_allowlist.specs.Lists.{PolicyDirective, no_lists, is_policy_controlled}
use Rattle.pe_allowlist.specs.ContainerPolicy.{container_policy}
use Rattle.pe_header.specs.DeclaredPolicy.{declared_policy}
use Rattle.pe_policy.specs.Links.{ChainDocument}
use Rattle.pe_policy.specs.Denials.{denial}
use Rattle.pe_rules.specs.History.{RepliedHistory}
use Rattle.pe_rules.specs.Making.{Making, making}
use Rattle.pe_rules.specs.Embedders.{chain}
use Rattle.pe_rules.specs.Origins.{origin_of, sandbox_flag, declared_origin}

-- the declared policy of a document: what its header declares, by its own origin
unfoldable pub declared_policy_in : RepliedHistory → ℕ → PolicyDirective
declared_policy_in T d = unwrap_or (option_map (λ m. declared_policy m.header (origin_of T d)) (making T d)) no_lists

-- the container policy that a document was made with, in this embedder
unfoldable pub container_in : RepliedHistory → Making → ℕ → PolicyDirective
container_in T m p = container_policy m.attributes.allow m.attributes.fullscreen (origin_of T p) (declared_origin m.attributes (sandbox_flag T p) (origin_of T p))

-- the container policy of a document; a top document has none
unfoldable pub container_policy_in : RepliedHistory → ℕ → PolicyDirective
container_policy_in T d = unwrap_or (option_and_then (λ m. option_map (container_in T m) m.embedder) (making T d)) no_lists

-- a document of the chain, with all that the tests read
unfoldable pub chain_document : RepliedHistory → ℕ → ChainDocument
chain_document T d = record { document = d; origin = origin_of T d; declared = declared_policy_in T d; container = container_policy_in T d }

-- the links from the top document to this one
unfoldable pub chain_documents : RepliedHistory → ℕ → List ChainDocument
chain_documents T d = map (chain_document T) (chain T d)

-- the first test that fails, nearest the top, with its document; nothing where the feature is allowed or not policy-controlled
unfoldable pub why_denied : RepliedHistory → Feature → ℕ → Option Denial
why_denied T feature d = denial feature (chain_documents T d)

-- the feature is policy-controlled and allowed in the document
unfoldable pub is_allowed : RepliedHistory → ℕ → Feature → Bool
is_allowed T d feature = is_policy_controlled feature && is_none (why_denied T feature d)
