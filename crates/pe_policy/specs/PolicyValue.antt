-- Which tests fail at a document, and the row of a child from the row of its embedder.
-- This project's own: it says how the first failing test is known of each document as soon as it is
-- made.
use Rattle.std.specs.Prelude.{◌≡◌, ℕ, false, List, [], ◌∷◌, Option, Some, None, slice_index_or, if◌then◌else◌}
use Rattle.std.specs.Option.{option_or, option_map}
use Rattle.pe_base.specs.declared.denial.LinkRule.{LinkRule}
use Rattle.pe_base.specs.declared.denial.LinkRule.TheVariants.{EmbedderSelf, EmbedderHeader, Allow, Default, OwnHeader}
use Rattle.pe_base.specs.declared.denial.Denial.{Denial}
use Rattle.pe_features.specs.declared.feature.Feature.{Feature}
use Rattle.pe_features.specs.Features.{feature_number}
use Rattle.pe_origin.specs.declared.origin.Origin.{Origin}
use Rattle.pe_allowlist.specs.declared.allowlist.Allowlist.{Allowlist}
use Rattle.pe_allowlist.specs.Lists.{lists_of, is_policy_controlled}
use Rattle.pe_policy.specs.declared.row.Links.{Links}
use Rattle.pe_policy.specs.Links.{ChainDocument, end_of_chain, fails_embedder_header, fails_allow, fails_default, fails_own_header, denied_where, pair_test, own_test}
use Rattle.pe_policy.specs.Denials.{denial}

-- no test fails
abbrev pub no_links : Links
no_links = record { embedder_header = false; allow = false; by_default = false; own_header = false }

-- why a feature is denied in a document, if it is, and which tests fail at the document
pub record Row : Type 0 where
  pub denial : Option Denial
  pub links : Links

-- the row of a feature that no test denies
abbrev pub allowed_row : Row
allowed_row = record { denial = None; links = no_links }

-- which tests fail at a top document: its own header's alone
abbrev pub failing_at_top : Feature → ChainDocument → Links
failing_at_top feature link =
    if is_policy_controlled feature then record no_links { own_header = fails_own_header feature link } else no_links

-- which tests fail at a child: those between its embedder and it, and its own header's
abbrev pub failing_at_child : Feature → ChainDocument → ChainDocument → Links
failing_at_child feature embedder child =
    if is_policy_controlled feature
    then record {
      embedder_header = fails_embedder_header feature embedder child;
      allow = fails_allow feature child;
      by_default = fails_default feature embedder child;
      own_header = fails_own_header feature child;
    }
    else no_links

-- which tests fail at the last of the links from the top one on
unfoldable pub failing_at : Feature → List ChainDocument → Links
failing_at feature [] = no_links
failing_at feature (link ∷ []) = failing_at_top feature link
failing_at feature (embedder ∷ child ∷ []) = failing_at_child feature embedder child
failing_at feature (above ∷ embedder ∷ child ∷ rest) = failing_at feature (embedder ∷ child ∷ rest)

-- the denial by the first of the tests that fail at a document below this embedder
abbrev pub denial_by : Links → ℕ → ℕ → Option Denial
denial_by links embedder document =
    option_or (denied_where links.embedder_header EmbedderHeader embedder)
    (option_or (denied_where links.allow Allow document)
    (option_or (denied_where links.by_default Default document)
    (denied_where links.own_header OwnHeader document)))

-- the name of an embedder's failing test at the document below
abbrev pub rule_below : LinkRule → LinkRule
rule_below OwnHeader = EmbedderSelf
rule_below EmbedderSelf = EmbedderSelf
rule_below EmbedderHeader = EmbedderHeader
rule_below Allow = Allow
rule_below Default = Default

-- an embedder's denial as the document below has it
abbrev pub denial_below : Option Denial → Option Denial
denial_below None = None
denial_below (Some above) = Some (record { rule = rule_below above.rule; at = above.at })

-- a top document's row of a feature, where these tests fail
abbrev pub top_row : Links → ℕ → Row
top_row links document = record { denial = denied_where links.own_header OwnHeader document; links = links }

-- a child's row of a feature, where its embedder has this denial and these tests fail at the child
abbrev pub child_row : Option Denial → Links → ℕ → ℕ → Row
child_row above links embedder document =
    record { denial = option_or (denial_below above) (denial_by links embedder document); links = links }

-- what a policy is: its document's number, a row for each feature, in the table's order, and the pairs
-- of the declared policy
pub record PolicyValue : Type 0 where
  pub document : ℕ
  pub rows : List Row
  pub declared : List (Feature × Allowlist)

-- the row of a feature
unfoldable pub row_of : PolicyValue → Feature → Row
row_of policy feature = slice_index_or policy.rows (feature_number feature) allowed_row

-- a document with the pairs of its declared policy and of the container policy
abbrev pub link_of : ℕ → Origin → List (Feature × Allowlist) → List (Feature × Allowlist) → ChainDocument
link_of document origin declared container =
    record { document = document; origin = origin; declared = lists_of declared; container = lists_of container }

-- the link is of this document, origin and declared policy
pub record IsDocument (link : ChainDocument) (document : ℕ) (origin : Origin) (declared : List (Feature × Allowlist)) : Type 0 where
  pub numbered : link.document ≡ document
  pub of_origin : link.origin ≡ origin
  pub declares : (feature : Feature) → link.declared feature ≡ lists_of declared feature

-- the link's document is made under this container policy
abbrev pub IsContained : ChainDocument → List (Feature × Allowlist) → Type 0
IsContained link container = (feature : Feature) → link.container feature ≡ lists_of container feature

-- the policy is that of the last of the links from the top one on
pub record IsPolicyOf (policy : PolicyValue) (top : ChainDocument) (rest : List ChainDocument) : Type 0 where
  pub numbered : (end_of_chain top rest).document ≡ policy.document
  pub declares : (feature : Feature) → (end_of_chain top rest).declared feature ≡ lists_of policy.declared feature
  pub denies : (feature : Feature) → (row_of policy feature).denial ≡ denial feature (top ∷ rest)
  pub fails : (feature : Feature) → (row_of policy feature).links ≡ failing_at feature (top ∷ rest)

-- the rule of the first of the four tests of a pair that fails, for a policy-controlled feature
abbrev pub pair_rule : Feature → ChainDocument → ChainDocument → Option LinkRule
pair_rule feature embedder child =
    if is_policy_controlled feature then option_map (λ (found : Denial). found.rule) (pair_test feature embedder child) else None

-- the rule of the test of a document's own declared policy, where it fails for a policy-controlled
-- feature
abbrev pub own_rule : Feature → ChainDocument → Option LinkRule
own_rule feature link =
    if is_policy_controlled feature then option_map (λ (found : Denial). found.rule) (own_test feature link) else None
