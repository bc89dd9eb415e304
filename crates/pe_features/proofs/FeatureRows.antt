-- What the table of features says, computed over the whole table.
use Rattle.std.proofs.Common.{◌≡◌, Some, refl}
use Rattle.pe_features.specs.Features.{feature_name, feature_named}
use Rattle.pe_features.specs.declared.feature.Feature.{Feature}
use Rattle.pe_features.specs.declared.feature.Feature.TheVariants.{Accelerometer, Autoplay, Camera, ClipboardRead, ClipboardWrite, DisplayCapture, Fullscreen, Geolocation, Gyroscope, Microphone, Midi, Notifications, Payment, PictureInPicture, Push, StorageAccess}

-- each feature is found by its own name, so no two features have one name
pub feature_named-name : (f : Feature) → feature_named (feature_name f) ≡ Some f
unfolding feature_named
feature_named-name Accelerometer = refl
feature_named-name Autoplay = refl
feature_named-name Camera = refl
feature_named-name ClipboardRead = refl
feature_named-name ClipboardWrite = refl
feature_named-name DisplayCapture = refl
feature_named-name Fullscreen = refl
feature_named-name Geolocation = refl
feature_named-name Gyroscope = refl
feature_named-name Microphone = refl
feature_named-name Midi = refl
feature_named-name Notifications = refl
feature_named-name Payment = refl
feature_named-name PictureInPicture = refl
feature_named-name Push = refl
feature_named-name StorageAccess = refl
