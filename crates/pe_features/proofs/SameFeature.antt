-- The test of two features decides whether they are one.
use Rattle.std.proofs.Common.{◌≡◌, ◌==◌, get_or, refl, sym, ◌∙◌, ap}
use Rattle.std.specs.Bool.{Decides}
use Rattle.std.proofs.lemmas.Bool.Decides.{Decides-like, Decides-eqb}
use Rattle.pe_features.specs.declared.feature.Feature.{Feature}
use Rattle.pe_features.specs.declared.feature.Feature.TheVariants.{Accelerometer, Autoplay, Camera, ClipboardRead, ClipboardWrite, DisplayCapture, Fullscreen, Geolocation, Gyroscope, Microphone, Midi, Notifications, Payment, PictureInPicture, Push, StorageAccess}
use Rattle.pe_features.specs.Features.{all_features, feature_number, same_feature}

-- the feature at its number
feature-at : (f : Feature) → get_or all_features (feature_number f) Accelerometer ≡ f
feature-at Accelerometer = refl
feature-at Autoplay = refl
feature-at Camera = refl
feature-at ClipboardRead = refl
feature-at ClipboardWrite = refl
feature-at DisplayCapture = refl
feature-at Fullscreen = refl
feature-at Geolocation = refl
feature-at Gyroscope = refl
feature-at Microphone = refl
feature-at Midi = refl
feature-at Notifications = refl
feature-at Payment = refl
feature-at PictureInPicture = refl
feature-at Push = refl
feature-at StorageAccess = refl

pub same-feature-decides : (f g : Feature) → Decides (same_feature f g) (f ≡ g)
same-feature-decides f g =
    Decides-like (feature_number f == feature_number g)
    (λ e. sym (feature-at f) ∙ ap (λ n. get_or all_features n Accelerometer) e ∙ feature-at g)
    (λ e. ap feature_number e)
    (Decides-eqb (feature_number f) (feature_number g))
