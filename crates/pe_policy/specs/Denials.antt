-- Why a feature is denied in a document: the first test that fails, nearest the top.
-- Permissions Policy, section "is feature enabled in document for origin"; which failing test is named
-- is this project's own.
use Rattle.std.specs.Prelude.{List, [], ◌∷◌, Option, None, if◌then◌else◌}
use Rattle.std.specs.Option.{option_or}
use Rattle.pe_base.specs.declared.denial.Denial.{Denial}
use Rattle.pe_features.specs.declared.feature.Feature.{Feature}
use Rattle.pe_allowlist.specs.Lists.{is_policy_controlled}
use Rattle.pe_policy.specs.Links.{ChainDocument, pair_test, own_test}

-- the first test that fails along the links from the top one on: those of each pair, and then that of
-- the last link's own declared policy
unfoldable pub first_failing : Feature → List ChainDocument → Option Denial
first_failing feature [] = None
first_failing feature (link ∷ []) = own_test feature link
first_failing feature (embedder ∷ child ∷ rest) =
    option_or (pair_test feature embedder child) (first_failing feature (child ∷ rest))

-- why the feature is denied in the last document: nothing where no test fails, or where the feature is
-- not policy-controlled
unfoldable pub denial : Feature → List ChainDocument → Option Denial
denial feature links = if is_policy_controlled feature then first_failing feature links else None
