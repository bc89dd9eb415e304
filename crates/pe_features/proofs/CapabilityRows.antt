-- What the table of capabilities says, computed over the whole table.
use Rattle.std.proofs.Common.{◌≡◌, Some, refl}
use Rattle.pe_features.specs.Capabilities.{capability_name, capability_named}
use Rattle.pe_features.specs.declared.capability.Capability.{Capability}
use Rattle.pe_features.specs.declared.capability.Capability.TheVariants.{Payment, Fullscreen, DisplayCapture}

-- each capability is found by its own name, so no two capabilities have one name
pub capability_named-name : (c : Capability) → capability_named (capability_name c) ≡ Some c
unfolding capability_named
capability_named-name Payment = refl
capability_named-name Fullscreen = refl
capability_named-name DisplayCapture = refl
