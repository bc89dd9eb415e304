-- Dictionaries of literal texts.
use Rattle.std.proofs.Common.{◌≡◌, [], ◌∷◌, Some, None, option_map, codes, refl, true, false, pos, length}
use Rattle.pe_fields.specs.declared.value.Bare.TheVariants.{Integer, Decimal, Truth}
use Rattle.pe_fields.specs.declared.value.Value.TheVariants as value
use Rattle.pe_fields.specs.Reading.{dictionary}
use Rattle.pe_fields.proofs.OnLiterals.{dictionary_on_literals}

repeats : dictionary (codes "a=1, b;x=2, a=?0") ≡ Some (
    (codes "a", record { value = value.Item (Integer (pos 1)); params = [] })
    ∷ (codes "b", record { value = value.Item (Truth true); params = record { key = codes "x"; value = Integer (pos 2) } ∷ [] })
    ∷ (codes "a", record { value = value.Item (Truth false); params = [] })
    ∷ [])
unfolding dictionary_on_literals
repeats = refl

decimal : dictionary (codes "a=1.5") ≡ Some ((codes "a", record { value = value.Item (Decimal (pos 1500)); params = [] }) ∷ [])
unfolding dictionary_on_literals
decimal = refl

empty : dictionary [] ≡ Some []
unfolding dictionary_on_literals
empty = refl

trailing_comma : dictionary (codes "camera=(),") ≡ None
unfolding dictionary_on_literals
trailing_comma = refl

long : option_map length (dictionary (codes "accelerometer=(), autoplay=(self \"https://player.example.com\" \"https://*.cdn.example.net\"), camera=(self \"https://meet.example.org:8443\"), display-capture=(self), fullscreen=*, geolocation=(self \"https://maps.example.com\");report-to=main, gyroscope=(), microphone=(self \"https://meet.example.org:8443\"), midi=(), payment=(self \"https://pay.example.com\" \"https://checkout.example.com\"), picture-in-picture=*, publickey-credentials-get=(self), storage-access=(self \"https://sso.example.com\")")) ≡ Some 13
unfolding dictionary_on_literals
long = refl
