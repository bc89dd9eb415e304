-- Rows that compute: what some headers declare.
use Rattle.std.proofs.Common.{◌≡◌, ℕ, true, false, List, [], ◌∷◌, codes, Option, Some, None, refl}
use Rattle.pe_features.specs.declared.feature.Feature.{Feature}
use Rattle.pe_features.specs.declared.feature.Feature.TheVariants.{Camera, Payment, Push}
use Rattle.pe_origin.specs.declared.scheme.Scheme.TheVariants.{Https}
use Rattle.pe_origin.specs.declared.scheme.HostForm.TheVariants.{Domain}
use Rattle.pe_origin.specs.declared.origin.Tuple.{Tuple}
use Rattle.pe_origin.specs.declared.origin.Origin.{Origin}
use Rattle.pe_origin.specs.declared.origin.Origin.TheVariants as origin
use Rattle.pe_allowlist.specs.declared.allowlist.Allowlist.{Allowlist}
use Rattle.pe_allowlist.specs.declared.allowlist.Expression.{Expression}
use Rattle.pe_allowlist.specs.Allowlists.{empty_list}
use Rattle.pe_header.specs.DeclaredPolicy.{declared_policy}
use Rattle.pe_header.proofs.OnLiterals.{declared_on_literals}

abbrev https : List ℕ → Tuple
https host = record { scheme = Https; host = host; form = Domain; port = 443 }

abbrev shop : Origin
shop = origin.Tuple (https (codes "shop.example"))

abbrev declares : List ℕ → Feature → Option Allowlist
declares field feature = declared_policy (Some field) shop feature

abbrev only : List ℕ → Expression
only host = record { wild = false; tuple = https host }

-- an inner list of a token and a string
payment_list : declares (codes "payment=(self \"https://pay.example\"), camera=()") Payment ≡ Some (record empty_list { selves = Some shop; expressions = only (codes "pay.example") ∷ [] })
unfolding declared_on_literals
payment_list = refl

empty_inner : declares (codes "payment=(self \"https://pay.example\"), camera=()") Camera ≡ Some empty_list
unfolding declared_on_literals
empty_inner = refl

-- the last member of a key counts, also where it declares nothing
last_counts : declares (codes "camera=(), camera=*") Camera ≡ Some (record empty_list { any = true })
unfolding declared_on_literals
last_counts = refl

last_undeclared : declares (codes "camera=(), camera=1") Camera ≡ None
unfolding declared_on_literals
last_undeclared = refl

-- what is no dictionary declares nothing
trailing_comma : declares (codes "camera=(),") Camera ≡ None
unfolding declared_on_literals
trailing_comma = refl

-- a string that is no expression declares the empty list
no_expression : declares (codes "camera=\"nonsense\"") Camera ≡ Some empty_list
unfolding declared_on_literals
no_expression = refl

-- a string alone, with parameters
string_alone : declares (codes "camera=\"https://pay.example\";report-to=x") Camera ≡ Some (record empty_list { expressions = only (codes "pay.example") ∷ [] })
unfolding declared_on_literals
string_alone = refl

-- other items of an inner list are skipped
others_skipped : declares (codes "camera=(1 self none ?1 *)") Camera ≡ Some (record empty_list { any = true; selves = Some shop })
unfolding declared_on_literals
others_skipped = refl

-- a feature that is not policy-controlled is not in the map
not_controlled : declares (codes "push=*") Push ≡ None
unfolding declared_on_literals
not_controlled = refl
