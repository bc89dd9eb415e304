-- The table of features: each one's number, name, default allowlist and permission key.
-- After Permissions Policy, "policy-controlled feature" and "default allowlist", and Permissions, "powerful feature" and "permission key".
-- The table is this project's own choice, and says nothing of a standard or of a browser.
use Rattle.std.specs.Prelude.{ℕ, Bool, ◌==◌, nat_le, ◌&&◌, ◌||◌, List, [], ◌∷◌, codes, bytes_eq, find, Option, Some, None}
use Rattle.pe_features.specs.declared.feature.Feature.{Feature}
use Rattle.pe_features.specs.declared.feature.Feature.TheVariants.{Accelerometer, Autoplay, Camera, ClipboardRead, ClipboardWrite, DisplayCapture, Fullscreen, Geolocation, Gyroscope, Microphone, Midi, Notifications, Payment, PictureInPicture, Push, StorageAccess}
use Rattle.pe_features.specs.declared.feature.DefaultList.{DefaultList}
use Rattle.pe_features.specs.declared.feature.DefaultList.TheVariants.{Any, OwnOrigin}
use Rattle.pe_features.specs.declared.feature.KeyKind.{KeyKind}
use Rattle.pe_features.specs.declared.feature.KeyKind.TheVariants.{Single, Pair}

-- every feature, in the order of the table
abbrev pub all_features : List Feature
all_features = Accelerometer ∷ Autoplay ∷ Camera ∷ ClipboardRead ∷ ClipboardWrite ∷ DisplayCapture ∷ Fullscreen ∷ Geolocation ∷ Gyroscope ∷ Microphone ∷ Midi ∷ Notifications ∷ Payment ∷ PictureInPicture ∷ Push ∷ StorageAccess ∷ []

-- a feature's place in the table, from 0
abbrev pub feature_number : Feature → ℕ
feature_number Accelerometer = 0
feature_number Autoplay = 1
feature_number Camera = 2
feature_number ClipboardRead = 3
feature_number ClipboardWrite = 4
feature_number DisplayCapture = 5
feature_number Fullscreen = 6
feature_number Geolocation = 7
feature_number Gyroscope = 8
feature_number Microphone = 9
feature_number Midi = 10
feature_number Notifications = 11
feature_number Payment = 12
feature_number PictureInPicture = 13
feature_number Push = 14
feature_number StorageAccess = 15

-- a feature's name
abbrev pub feature_name : Feature → List ℕ
feature_name Accelerometer = codes "accelerometer"
feature_name Autoplay = codes "autoplay"
feature_name Camera = codes "camera"
feature_name ClipboardRead = codes "clipboard-read"
feature_name ClipboardWrite = codes "clipboard-write"
feature_name DisplayCapture = codes "display-capture"
feature_name Fullscreen = codes "fullscreen"
feature_name Geolocation = codes "geolocation"
feature_name Gyroscope = codes "gyroscope"
feature_name Microphone = codes "microphone"
feature_name Midi = codes "midi"
feature_name Notifications = codes "notifications"
feature_name Payment = codes "payment"
feature_name PictureInPicture = codes "picture-in-picture"
feature_name Push = codes "push"
feature_name StorageAccess = codes "storage-access"

-- a feature's default allowlist, or None for one that is not policy-controlled
abbrev pub default_of : Feature → Option DefaultList
default_of Accelerometer = Some OwnOrigin
default_of Autoplay = Some OwnOrigin
default_of Camera = Some OwnOrigin
default_of ClipboardRead = Some OwnOrigin
default_of ClipboardWrite = Some OwnOrigin
default_of DisplayCapture = Some OwnOrigin
default_of Fullscreen = Some OwnOrigin
default_of Geolocation = Some OwnOrigin
default_of Gyroscope = Some OwnOrigin
default_of Microphone = Some OwnOrigin
default_of Midi = Some OwnOrigin
default_of Notifications = None
default_of Payment = Some OwnOrigin
default_of PictureInPicture = Some Any
default_of Push = None
default_of StorageAccess = Some Any

-- what a feature's permission is stored under, or None for one without a permission
abbrev pub key_of : Feature → Option KeyKind
key_of Accelerometer = Some Single
key_of Autoplay = None
key_of Camera = Some Single
key_of ClipboardRead = Some Single
key_of ClipboardWrite = Some Single
key_of DisplayCapture = None
key_of Fullscreen = None
key_of Geolocation = Some Single
key_of Gyroscope = Some Single
key_of Microphone = Some Single
key_of Midi = Some Single
key_of Notifications = Some Single
key_of Payment = None
key_of PictureInPicture = None
key_of Push = Some Single
key_of StorageAccess = Some Pair

-- the feature of this name, or None where the table has no such name
unfoldable pub feature_named : List ℕ → Option Feature
feature_named text = find (λ f. bytes_eq (feature_name f) text) all_features

-- whether two features are one
abbrev pub same_feature : Feature → Feature → Bool
same_feature a b = feature_number a == feature_number b

-- a byte of a bare name: a lower-case letter or a dash
abbrev pub is_name_byte : ℕ → Bool
is_name_byte b = (nat_le 97 b && nat_le b 122) || b == 45
