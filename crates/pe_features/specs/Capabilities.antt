-- The table of capabilities that a message may delegate: each one's name and feature.
-- After Capability Delegation, "delegated capability", whose values name policy-controlled features.
-- The table is this project's own choice, and says nothing of a standard or of a browser.
use Rattle.std.specs.Prelude.{ℕ, List, [], ◌∷◌, codes, bytes_eq, find, Option}
use Rattle.pe_features.specs.declared.capability.Capability.{Capability}
use Rattle.pe_features.specs.declared.capability.Capability.TheVariants.{Payment, Fullscreen, DisplayCapture}
use Rattle.pe_features.specs.declared.feature.Feature.{Feature}
use Rattle.pe_features.specs.declared.feature.Feature.TheVariants as feature

-- every capability, in the order of the table
abbrev pub all_capabilities : List Capability
all_capabilities = Payment ∷ Fullscreen ∷ DisplayCapture ∷ []

-- a capability's name
abbrev pub capability_name : Capability → List ℕ
capability_name Payment = codes "payment"
capability_name Fullscreen = codes "fullscreen"
capability_name DisplayCapture = codes "display-capture"

-- the feature that a capability is for
abbrev pub feature_of : Capability → Feature
feature_of Payment = feature.Payment
feature_of Fullscreen = feature.Fullscreen
feature_of DisplayCapture = feature.DisplayCapture

-- the capability of this name, or None where the table has no such name
unfoldable pub capability_named : List ℕ → Option Capability
capability_named text = find (λ c. bytes_eq (capability_name c) text) all_capabilities
