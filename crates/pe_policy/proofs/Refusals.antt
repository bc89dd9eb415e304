-- Whether a list refuses an origin, by whether it matches it.
use Rattle.std.proofs.Common.{◌≡◌, Bool, false, not, Option, Some, None, option_map, refl}
use Rattle.pe_origin.specs.declared.origin.Origin.{Origin}
use Rattle.pe_allowlist.specs.declared.allowlist.Allowlist.{Allowlist}
use Rattle.pe_allowlist.specs.Allowlists.{matches}
use Rattle.pe_policy.specs.Links.{refuses}

pub refuses_some : (o : Option Allowlist) (other : Origin) (b : Bool) → Some b ≡ option_map (λ list. matches list other) o → refuses o other ≡ not b
refuses_some None other b h = cc
refuses_some (Some list) other b h = let e : b ≡ matches list other = cc in rw e refl

pub refuses_none : (o : Option Allowlist) (other : Origin) → None ≡ option_map (λ list. matches list other) o → refuses o other ≡ false
refuses_none None other h = refl
refuses_none (Some list) other h = cc
