-- Rows that compute: three documents, one below the other.
use Rattle.std.proofs.Common.{◌≡◌, ℕ, true, false, List, [], ◌∷◌, codes, Some, None, refl}
use Rattle.pe_base.specs.declared.denial.LinkRule.TheVariants.{Allow, Default}
use Rattle.pe_features.specs.declared.feature.Feature.TheVariants.{Camera, Payment, Push}
use Rattle.pe_origin.specs.declared.scheme.Scheme.TheVariants.{Https}
use Rattle.pe_origin.specs.declared.scheme.HostForm.TheVariants.{Domain}
use Rattle.pe_origin.specs.declared.origin.Origin.{Origin}
use Rattle.pe_origin.specs.declared.origin.Origin.TheVariants as origin
use Rattle.pe_allowlist.specs.declared.container.DeclaredOrigin.TheVariants.{Known}
use Rattle.pe_allowlist.specs.ContainerPolicy.{container_policy}
use Rattle.pe_allowlist.specs.Lists.{no_lists}
use Rattle.pe_policy.specs.Links.{ChainDocument}
use Rattle.pe_policy.specs.Denials.{denial}
use Rattle.pe_policy.specs.InheritedPolicy.{value_for}
use Rattle.pe_policy.proofs.OnLiterals.{denials_on_literals}

abbrev https : List ℕ → Origin
https host = origin.Tuple (record { scheme = Https; host = host; form = Domain; port = 443 })

abbrev shop : ChainDocument
shop = record { document = 1; origin = https (codes "shop.example"); declared = no_lists; container = no_lists }

abbrev pay : ChainDocument
pay = record { document = 2; origin = https (codes "pay.example"); declared = no_lists; container = container_policy (Some (codes "payment 'src'; camera 'none'")) false shop.origin (Known pay_origin) }
  where
    pay_origin : Origin
    pay_origin = https (codes "pay.example")

abbrev bank : ChainDocument
bank = record { document = 3; origin = https (codes "bank.example"); declared = no_lists; container = no_lists }

-- the container policy admits the child
payment_below : denial Payment (shop ∷ pay ∷ []) ≡ None
unfolding denials_on_literals
payment_below = refl

-- it does not admit the child of the child
payment_default : denial Payment (shop ∷ pay ∷ bank ∷ []) ≡ Some (record { rule = Default; at = 3 })
unfolding denials_on_literals
payment_default = refl

-- the failing test nearest the top is named
camera_allow : denial Camera (shop ∷ pay ∷ bank ∷ []) ≡ Some (record { rule = Allow; at = 2 })
unfolding denials_on_literals
camera_allow = refl

camera_value : value_for Camera (shop ∷ pay ∷ bank ∷ []) bank.origin ≡ false
unfolding denials_on_literals
camera_value = refl

payment_value : value_for Payment (shop ∷ pay ∷ []) pay.origin ≡ true
unfolding denials_on_literals
payment_value = refl

-- a feature that is not policy-controlled is never denied
push_never : denial Push (shop ∷ bank ∷ []) ≡ None
unfolding denials_on_literals
push_never = refl
