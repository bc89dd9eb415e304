-- What the words of an event give: places, attributes, and the pair of a setting.
-- HTML Standard, "the iframe element"; Permissions, "permission key".
-- A URL word that is no URL is refused, and so is an origin word without a tuple origin; of any other value nothing is.
-- That a setting names its key by one origin or by two is this project's own.
use Rattle.std.specs.Prelude.{◌≡◌, ℕ, Bool, true, false, ◌||◌, List, [], ◌∷◌, Option, Some, None, Result, Ok, Err, is_some, option_map, option_and_then}
use Rattle.pe_features.specs.declared.feature.Feature.{Feature}
use Rattle.pe_features.specs.Features.{feature_named, key_of}
use Rattle.pe_origin.specs.declared.origin.Origin.{Origin}
use Rattle.pe_origin.specs.declared.place.Place.{Place}
use Rattle.pe_origin.specs.Places.{place_at}
use Rattle.pe_store.specs.declared.key.Key.{Key}
use Rattle.pe_store.specs.Pairs.{Pair}
use Rattle.pe_events.specs.declared.cause.Cause.{Cause}
use Rattle.pe_events.specs.declared.cause.Cause.TheVariants as cause
use Rattle.pe_events.specs.declared.event.AttrName.{AttrName}
use Rattle.pe_events.specs.declared.event.AttrName.TheVariants as attr
use Rattle.pe_rules.specs.Causes.{is_no_url, is_no_origin, lacks_origins}
use Rattle.pe_rules.specs.Origins.{place_or_none}
use Rattle.pe_rules.specs.Settings.{word_origin, key_of_words}
use Rattle.pe_engine.specs.declared.attribute.Attribute.{Attribute}
use Rattle.pe_engine.specs.declared.attribute.Attribute.TheVariants.{Src, Srcdoc, Allow, Sandbox, Fullscreen}
use Rattle.pe_engine.specs.declared.refusal.Refusal.{Refusal}
use Rattle.pe_engine.specs.declared.refusal.Refusal.TheVariants as refusal
use Rattle.pe_engine.specs.Causes.{first_cause}

-- the place that a URL names
abbrev pub GivesPlace : List ℕ → Result Place Refusal → Type 0
GivesPlace url (Ok place) = place_at url ≡ Some place
GivesPlace url (Err (refusal.For why)) = (place_at url ≡ None) × (why ≡ cause.Url)
GivesPlace url (Err refusal.Memory) = Unit {0}

-- the place that a URL names, where there is one
abbrev pub GivesPlaceOrNone : Option (List ℕ) → Result (Option Place) Refusal → Type 0
GivesPlaceOrNone url (Ok place) = (is_no_url url ≡ false) × (place ≡ option_map place_or_none url)
GivesPlaceOrNone url (Err (refusal.For why)) = (is_no_url url ≡ true) × (why ≡ cause.Url)
GivesPlaceOrNone url (Err refusal.Memory) = Unit {0}

-- an attribute of this name and value, as it is kept
abbrev pub attribute_given : AttrName → Option (List ℕ) → Attribute
attribute_given attr.Src value = Src (option_map place_or_none value)
attribute_given attr.Srcdoc value = Srcdoc (is_some value)
attribute_given attr.Allow value = Allow value
attribute_given attr.Sandbox value = Sandbox value
attribute_given attr.Fullscreen value = Fullscreen (is_some value)

-- the value of an attribute is refused
abbrev pub is_bad_value : AttrName → Option (List ℕ) → Bool
is_bad_value attr.Src value = is_no_url value
is_bad_value other value = false

-- an attribute of this name and value
abbrev pub GivesAttribute : AttrName → Option (List ℕ) → Result Attribute Refusal → Type 0
GivesAttribute name value (Ok attribute) = (is_bad_value name value ≡ false) × (attribute ≡ attribute_given name value)
GivesAttribute name value (Err (refusal.For why)) = (is_bad_value name value ≡ true) × (why ≡ cause.Url)
GivesAttribute name value (Err refusal.Memory) = Unit {0}

-- ---- the words of a setting

-- the tuple origin of an origin word
abbrev pub GivesOrigin : List ℕ → Result Origin Refusal → Type 0
GivesOrigin word (Ok origin) = word_origin word ≡ Some origin
GivesOrigin word (Err (refusal.For why)) = (word_origin word ≡ None) × (why ≡ cause.Url)
GivesOrigin word (Err refusal.Memory) = Unit {0}

-- the tuple origin of an origin word, where there is one
abbrev pub GivesOriginOrNone : Option (List ℕ) → Result (Option Origin) Refusal → Type 0
GivesOriginOrNone word (Ok origin) = (is_no_origin word ≡ false) × (origin ≡ option_and_then word_origin word) × (is_some origin ≡ is_some word)
GivesOriginOrNone word (Err (refusal.For why)) = (is_no_origin word ≡ true) × (why ≡ cause.Url)
GivesOriginOrNone word (Err refusal.Memory) = Unit {0}

-- the key that origins name for a feature, where they are as many as its kind of key has
abbrev pub GivesKey : Feature → Origin → Option Origin → Option Key → Type 0
GivesKey feature first second (Some key) = (lacks_origins (key_of feature) (is_some second) ≡ false) × (key ≡ key_of_words first second)
GivesKey feature first second None = lacks_origins (key_of feature) (is_some second) ≡ true

-- the first cause that the words of a setting are: an origin word without a tuple origin, then a name that is no feature, or one with other origins than its key has
abbrev pub words_cause : List ℕ → List ℕ → Option (List ℕ) → Option Cause
words_cause feature first second = first_cause (
    (cause.Url, is_no_origin (Some first) || is_no_origin second)
    ∷ (cause.Feature, lacks_origins (option_and_then key_of (feature_named feature)) (is_some second))
    ∷ [])

-- the pair of the feature of this name and of the key that the origin words name
abbrev pub pair_of_words : List ℕ → List ℕ → Option (List ℕ) → Option Pair
pair_of_words feature first second = option_and_then (λ f. option_map (λ o. (f, key_of_words o (option_and_then word_origin second))) (word_origin first)) (feature_named feature)

-- the pair that the words of a setting name
abbrev pub GivesPair : List ℕ → List ℕ → Option (List ℕ) → Result Pair Refusal → Type 0
GivesPair feature first second (Ok pair) = (words_cause feature first second ≡ None) × (pair_of_words feature first second ≡ Some pair)
GivesPair feature first second (Err (refusal.For why)) = words_cause feature first second ≡ Some why
GivesPair feature first second (Err refusal.Memory) = Unit {0}
