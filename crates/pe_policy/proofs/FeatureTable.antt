-- The features by their numbers.
use Rattle.std.proofs.Common.{◌≡◌, ℕ, ◌+◌, ◌<◌, ◌≤◌, List, length, set, refl, ap, ◌∙◌, arith}
use Rattle.std.proofs.lemmas.Grind.{common_steps}
use Rattle.std.specs.List.{slice_index_or}
use Rattle.pe_features.specs.declared.feature.Feature.{Feature}
use Rattle.pe_features.specs.declared.feature.Feature.TheVariants.{Accelerometer, Autoplay, Camera, ClipboardRead, ClipboardWrite, DisplayCapture, Fullscreen, Geolocation, Gyroscope, Microphone, Midi, Notifications, Payment, PictureInPicture, Push, StorageAccess}
use Rattle.pe_features.specs.Features.{all_features, feature_number}

-- the feature with this number
abbrev pub feature_at : ℕ → Feature
feature_at k = slice_index_or all_features k Accelerometer

pub feature_at-number : (f : Feature) → feature_at (feature_number f) ≡ f
feature_at-number Accelerometer = refl
feature_at-number Autoplay = refl
feature_at-number Camera = refl
feature_at-number ClipboardRead = refl
feature_at-number ClipboardWrite = refl
feature_at-number DisplayCapture = refl
feature_at-number Fullscreen = refl
feature_at-number Geolocation = refl
feature_at-number Gyroscope = refl
feature_at-number Microphone = refl
feature_at-number Midi = refl
feature_at-number Notifications = refl
feature_at-number Payment = refl
feature_at-number PictureInPicture = refl
feature_at-number Push = refl
feature_at-number StorageAccess = refl

number-below : (f : Feature) → feature_number f < 16
number-below Accelerometer = omega arith
number-below Autoplay = omega arith
number-below Camera = omega arith
number-below ClipboardRead = omega arith
number-below ClipboardWrite = omega arith
number-below DisplayCapture = omega arith
number-below Fullscreen = omega arith
number-below Geolocation = omega arith
number-below Gyroscope = omega arith
number-below Microphone = omega arith
number-below Midi = omega arith
number-below Notifications = omega arith
number-below Payment = omega arith
number-below PictureInPicture = omega arith
number-below Push = omega arith
number-below StorageAccess = omega arith

-- a table of 16 values whose first ones, as many as this, are those of the features
abbrev pub IsTableUpTo : {A : Type 0} → (Feature → A) → A → List A → ℕ → Type 0
IsTableUpTo g d xs n = (length xs ≡ 16) × ((k : ℕ) → k < n → slice_index_or xs k d ≡ g (feature_at k))

pub table-more : {A : Type 0} (g : Feature → A) (d : A) (xs : List A) (i : ℕ) (x : A) → IsTableUpTo g d xs i → i < 16 → x ≡ g (feature_at i)
    → IsTableUpTo g d (set xs i x) (i + 1)
table-more g d xs i x h k e = (grind (arith, common_steps), λ j b. grind (arith, common_steps))

pub table-whole : {A : Type 0} (g : Feature → A) (d : A) (xs : List A) (n : ℕ) → IsTableUpTo g d xs n → 16 ≤ n → (f : Feature) → slice_index_or xs (feature_number f) d ≡ g f
table-whole g d xs n h k f =
    let b : feature_number f < 16 = number-below f in
    h.1 (feature_number f) (omega arith) ∙ ap g (feature_at-number f)
