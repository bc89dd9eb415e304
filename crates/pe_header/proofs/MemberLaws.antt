-- One member more in front of those that were taken in.
use Rattle.std.proofs.Common.{◌≡◌, ℕ, Bool, true, false, ◌||◌, List, [], ◌∷◌, length, drop, get_or, ◌+◌, ◌-◌, ◌<◌, arith, Option, Some, None, is_some, refl, ap, sym, ◌∙◌}
use Rattle.std.specs.Prelude.{bytes_eq, option_and_then, if◌then◌else◌}
use Rattle.std.specs.Option.{option_or}
use Rattle.std.proofs.lemmas.List.{drop_more}
use Rattle.pe_features.specs.declared.feature.Feature.{Feature}
use Rattle.pe_features.specs.declared.feature.Feature.TheVariants.{Accelerometer, Autoplay, Camera, ClipboardRead, ClipboardWrite, DisplayCapture, Fullscreen, Geolocation, Gyroscope, Microphone, Midi, Notifications, Payment, PictureInPicture, Push, StorageAccess}
use Rattle.pe_features.specs.Features.{feature_name}
use Rattle.pe_origin.specs.declared.origin.Origin.{Origin}
use Rattle.pe_allowlist.specs.declared.allowlist.Allowlist.{Allowlist}
use Rattle.pe_allowlist.specs.Lists.{is_policy_controlled}
use Rattle.pe_fields.specs.declared.value.Member.{Member}
use Rattle.pe_fields.specs.Dictionary.{last_of}
use Rattle.pe_header.specs.DeclaredPolicy.{list_of_value, list_of_members}
use Rattle.pe_header.specs.Members.{seen_at, with_member}

-- no feature was seen
abbrev pub none_yet : List Bool
none_yet = false ∷ false ∷ false ∷ false ∷ false ∷ false ∷ false ∷ false ∷ false ∷ false ∷ false ∷ false ∷ false ∷ false ∷ false ∷ false ∷ []

pub none-yet : (f : Feature) → seen_at none_yet f ≡ false
none-yet Accelerometer = refl
none-yet Autoplay = refl
none-yet Camera = refl
none-yet ClipboardRead = refl
none-yet ClipboardWrite = refl
none-yet DisplayCapture = refl
none-yet Fullscreen = refl
none-yet Geolocation = refl
none-yet Gyroscope = refl
none-yet Microphone = refl
none-yet Midi = refl
none-yet Notifications = refl
none-yet Payment = refl
none-yet PictureInPicture = refl
none-yet Push = refl
none-yet StorageAccess = refl

-- of no member nothing was seen, and nothing is declared
pub seen-none : (f : Feature) → is_some (last_of [] (feature_name f)) ≡ false
unfolding last_of
seen-none f = refl

none-declared : (own : Origin) (controlled : Bool) → (if controlled then option_and_then (λ (m : Member). list_of_value own m.value) None else None) ≡ None
none-declared own true = refl
none-declared own false = refl

pub list-none : (own : Origin) (f : Feature) → list_of_members own f [] ≡ None
unfolding last_of
list-none own f = none-declared own (is_policy_controlled f)

seen-by : (member : Member) (last : Option Member) (here : Bool) → (is_some last || here) ≡ is_some (option_or last (if here then Some member else None))
seen-by member (Some m) here = refl
seen-by member None true = refl
seen-by member None false = refl

pub seen-more : (rest : List (List ℕ × Member)) (entry : List ℕ × Member) (f : Feature) (old new : Bool) → old ≡ is_some (last_of rest (feature_name f)) → new ≡ (old || bytes_eq entry.0 (feature_name f))
    → new ≡ is_some (last_of (entry ∷ rest) (feature_name f))
unfolding last_of
seen-more rest entry f old new before step = step ∙ rw before (seen-by entry.1 (last_of rest (feature_name f)) (bytes_eq entry.0 (feature_name f)))

or-none : {A : Type 0} (o : Option A) → option_or o None ≡ o
or-none None = refl
or-none (Some x) = refl

-- what the last member declares, where the feature is policy-controlled
abbrev pub declared_by : Origin → Bool → Option Member → Option Allowlist
declared_by own controlled last = if controlled then option_and_then (λ (m : Member). list_of_value own m.value) last else None

list-by : (own : Origin) (member : Member) (controlled : Bool) (last : Option Member) (here : Bool)
    → (if is_some last then declared_by own controlled last else (if here then option_or (if controlled then list_of_value own member.value else None) (declared_by own controlled last) else declared_by own controlled last))
    ≡ declared_by own controlled (option_or last (if here then Some member else None))
list-by own member controlled (Some m) here = refl
list-by own member true None true = or-none (list_of_value own member.value)
list-by own member true None false = refl
list-by own member false None true = refl
list-by own member false None false = refl

pub list-more : (own : Origin) (rest : List (List ℕ × Member)) (entry : List ℕ × Member) (f : Feature) (seen : Bool) (old new : Option Allowlist) → seen ≡ is_some (last_of rest (feature_name f)) → old ≡ list_of_members own f rest
    → new ≡ with_member own f seen entry.0 entry.1 old → new ≡ list_of_members own f (entry ∷ rest)
unfolding last_of
list-more own rest entry f seen old new told before step =
    step ∙ rw (told, before) (list-by own entry.1 (is_policy_controlled f) (last_of rest (feature_name f)) (bytes_eq entry.0 (feature_name f)))

-- ---- the members from the last one on

all-dropped : {A : Type 0} (xs : List A) → drop (length xs) xs ≡ []
all-dropped [] = refl
all-dropped (x ∷ xs) = all-dropped xs

pub none-taken : {A : Type 0} (xs : List A) → drop (length xs - 0) xs ≡ []
none-taken xs = ap (λ k. drop k xs) (omega arith) ∙ all-dropped xs

pub one-taken : {A : Type 0} (xs : List A) (i : ℕ) (x : A) → i < length xs → x ≡ get_or xs (length xs - 1 - i) x → drop (length xs - (i + 1)) xs ≡ x ∷ drop (length xs - i) xs
one-taken xs i x within is =
    let at : length xs - (i + 1) ≡ length xs - 1 - i = omega arith in
    let next : length xs - 1 - i + 1 ≡ length xs - i = omega (arith, within) in
    ap (λ k. drop k xs) at ∙ drop_more xs (length xs - 1 - i) x (omega (arith, within)) ∙ ap (λ y. y ∷ drop (length xs - 1 - i + 1) xs) (sym is) ∙ ap (λ k. x ∷ drop k xs) next
