-- Rows that compute: what some texts mean.
use Rattle.std.proofs.Common.{◌≡◌, ℕ, Bool, true, false, List, [], ◌∷◌, codes, Option, Some, None, option_map, refl}
use Rattle.pe_features.specs.declared.feature.Feature.{Feature}
use Rattle.pe_features.specs.declared.feature.Feature.TheVariants.{Camera, Fullscreen, Payment, Push}
use Rattle.pe_origin.specs.declared.scheme.Scheme.TheVariants.{Https}
use Rattle.pe_origin.specs.declared.scheme.HostForm.TheVariants.{Domain}
use Rattle.pe_origin.specs.declared.origin.Tuple.{Tuple}
use Rattle.pe_origin.specs.declared.origin.Origin.{Origin}
use Rattle.pe_origin.specs.declared.origin.Origin.TheVariants as origin
use Rattle.pe_allowlist.specs.declared.allowlist.Allowlist.{Allowlist}
use Rattle.pe_allowlist.specs.declared.container.DeclaredOrigin.TheVariants.{Known, Opaque}
use Rattle.pe_allowlist.specs.Expressions.{expression_at}
use Rattle.pe_allowlist.specs.Allowlists.{empty_list, matches}
use Rattle.pe_allowlist.specs.ContainerPolicy.{container_policy}
use Rattle.pe_allowlist.proofs.OnLiterals.{allowlists_on_literals}

abbrev https : List ℕ → Tuple
https host = record { scheme = Https; host = host; form = Domain; port = 443 }

abbrev shop : Origin
shop = origin.Tuple (https (codes "shop.example"))

abbrev pay : Origin
pay = origin.Tuple (https (codes "pay.example"))

abbrev policy_of : List ℕ → Feature → Option Allowlist
policy_of text feature = container_policy (Some text) false shop (Known pay) feature

-- whether the policy of the text has a list that matches the origin
abbrev admits : List ℕ → Feature → Origin → Option Bool
admits text feature other = option_map (λ list. matches list other) (policy_of text feature)

-- two pieces: `'src'` in quotes, and a name alone
payment_src : policy_of (codes "payment 'src'; fullscreen") Payment ≡ Some (record empty_list { src = Some pay })
unfolding allowlists_on_literals
payment_src = refl

name_alone : policy_of (codes "payment 'src'; fullscreen") Fullscreen ≡ Some (record empty_list { src = Some pay })
unfolding allowlists_on_literals
name_alone = refl

not_named : policy_of (codes "payment 'src'; fullscreen") Camera ≡ None
unfolding allowlists_on_literals
not_named = refl

-- `'none'` beside other words says nothing, and case does not count in keywords
none_beside : policy_of (codes "camera 'none' 'SELF' 'None' https://b.example/path") Camera ≡ Some (record empty_list { selves = Some shop; expressions = record { wild = false; tuple = https (codes "b.example") } ∷ [] })
unfolding allowlists_on_literals
none_beside = refl

-- of several pieces for one feature the last counts, and unknown pieces are skipped
last_piece : policy_of (codes "camera *;nonsense 'self'; push *;; camera 'none' ;") Camera ≡ Some empty_list
unfolding allowlists_on_literals
last_piece = refl

-- a feature that is not policy-controlled is not in the map
not_controlled : policy_of (codes "push *") Push ≡ None
unfolding allowlists_on_literals
not_controlled = refl

-- the `fullscreen` attribute without a piece that names the feature
fullscreen_attribute : container_policy None true shop Opaque Fullscreen ≡ Some (record empty_list { any = true })
unfolding allowlists_on_literals
fullscreen_attribute = refl

-- an opaque declared origin
src_opaque : container_policy (Some (codes "camera")) true shop (Known (origin.Opaque 3)) Camera ≡ Some (record empty_list { src_opaque = true })
unfolding allowlists_on_literals
src_opaque = refl

-- a wild expression matches what stands below its host, and not the host
wild : expression_at (codes "https://*.pay.example:8443/path") ≡ Some (record { wild = true; tuple = record { scheme = Https; host = codes "pay.example"; form = Domain; port = 8443 } })
unfolding allowlists_on_literals
wild = refl

below_wild : admits (codes "payment https://*.pay.example") Payment (origin.Tuple (https (codes "x.pay.example"))) ≡ Some true
unfolding allowlists_on_literals
below_wild = refl

not_wild_itself : admits (codes "payment https://*.pay.example") Payment pay ≡ Some false
unfolding allowlists_on_literals
not_wild_itself = refl

-- no wild reading of an address, and none of a text without `://`
wild_address : expression_at (codes "http://*.127.0.0.1") ≡ None
unfolding allowlists_on_literals
wild_address = refl

star_without_slashes : expression_at (codes "https:*.pay.example") ≡ Some (record { wild = false; tuple = https (codes "*.pay.example") })
unfolding allowlists_on_literals
star_without_slashes = refl
