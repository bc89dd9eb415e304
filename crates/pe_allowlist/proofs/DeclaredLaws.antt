-- The pairs of a map have its meaning, and no feature stands twice in them.
use Rattle.std.proofs.Common.{◌≡◌, ℕ, Bool, true, false, not, ◌||◌, ◌&&◌, cond, List, [], ◌∷◌, ◌++◌, Option, Some, None, option_map, find, refl, sym, ◌∙◌, ap, arith}
use Rattle.std.specs.List.{flat_map, list_any, slice_index_or}
use Rattle.std.specs.Option.{option_or}
use Rattle.std.proofs.lemmas.Bool.Decides.{nat_tests}
use Rattle.pe_features.specs.declared.feature.Feature.{Feature}
use Rattle.pe_features.specs.declared.feature.Feature.TheVariants.{Accelerometer, Autoplay, Camera, ClipboardRead, ClipboardWrite, DisplayCapture, Fullscreen, Geolocation, Gyroscope, Microphone, Midi, Notifications, Payment, PictureInPicture, Push, StorageAccess}
use Rattle.pe_features.specs.Features.{all_features, feature_number, same_feature}
use Rattle.pe_allowlist.specs.declared.allowlist.Allowlist.{Allowlist}
use Rattle.pe_allowlist.specs.Lists.{PolicyDirective, is_of_feature, lists_of, NoFeatureTwice}
use Rattle.pe_allowlist.specs.DeclaredLists.{pair_of, pairs_of}

abbrev feature_at : ℕ → Feature
feature_at k = slice_index_or all_features k Accelerometer

feature_at-number : (f : Feature) → feature_at (feature_number f) ≡ f
feature_at-number Accelerometer = refl
feature_at-number Autoplay = refl
feature_at-number Camera = refl
feature_at-number ClipboardRead = refl
feature_at-number ClipboardWrite = refl
feature_at-number DisplayCapture = refl
feature_at-number Fullscreen = refl
feature_at-number Geolocation = refl
feature_at-number Gyroscope = refl
feature_at-number Microphone = refl
feature_at-number Midi = refl
feature_at-number Notifications = refl
feature_at-number Payment = refl
feature_at-number PictureInPicture = refl
feature_at-number Push = refl
feature_at-number StorageAccess = refl

-- features of one number are one
same-is : (g f : Feature) → same_feature g f ≡ true → g ≡ f
same-is g f h =
    let n : feature_number g ≡ feature_number f = grind (arith, nat_tests) in
    sym (feature_at-number g) ∙ ap feature_at n ∙ feature_at-number f

abbrev second : Option (Feature × Allowlist) → Option Allowlist
second o = option_map (λ (row : Feature × Allowlist). row.1) o

-- what a pair and those behind it have of a feature
pair-first : (p : PolicyDirective) (g f : Feature) (o : Option Allowlist) (rest : List (Feature × Allowlist)) → o ≡ p g
    → second (find (is_of_feature f) (pair_of g o ++ rest)) ≡ cond (same_feature g f) (option_or (p f) (second (find (is_of_feature f) rest))) (second (find (is_of_feature f) rest))
pair-first p g f None rest e = by_test (same_feature g f) refl
  where
    by_test : (b : Bool) → same_feature g f ≡ b → second (find (is_of_feature f) rest) ≡ cond b (option_or (p f) (second (find (is_of_feature f) rest))) (second (find (is_of_feature f) rest))
    by_test true t = let none : p f ≡ None = sym (e ∙ ap p (same-is g f t)) in rw none refl
    by_test false t = refl
pair-first p g f (Some list) rest e = by_test (same_feature g f) refl
  where
    by_test : (b : Bool) → same_feature g f ≡ b → second (cond b (Some (g, list)) (find (is_of_feature f) rest)) ≡ cond b (option_or (p f) (second (find (is_of_feature f) rest))) (second (find (is_of_feature f) rest))
    by_test true t = let some : p f ≡ Some list = sym (e ∙ ap p (same-is g f t)) in rw some refl
    by_test false t = refl

-- what the pairs of some features have of one: its own list where it is among them
among : (p : PolicyDirective) (fs : List Feature) (f : Feature)
    → second (find (is_of_feature f) (flat_map (λ g. pair_of g (p g)) fs)) ≡ cond (list_any (λ g. same_feature g f) fs) (p f) None
among p [] f = refl
among p (g ∷ fs) f =
    pair-first p g f (p g) (flat_map (λ g. pair_of g (p g)) fs) refl ∙ rw (among p fs f) (table (same_feature g f) (list_any (λ g. same_feature g f) fs) (p f))
  where
    table : (b c : Bool) (o : Option Allowlist) → cond b (option_or o (cond c o None)) (cond c o None) ≡ cond (b || c) o None
    table true true None = refl
    table true true (Some x) = refl
    table true false None = refl
    table true false (Some x) = refl
    table false true o = refl
    table false false o = refl

each-among : (f : Feature) → list_any (λ g. same_feature g f) all_features ≡ true
each-among Accelerometer = refl
each-among Autoplay = refl
each-among Camera = refl
each-among ClipboardRead = refl
each-among ClipboardWrite = refl
each-among DisplayCapture = refl
each-among Fullscreen = refl
each-among Geolocation = refl
each-among Gyroscope = refl
each-among Microphone = refl
each-among Midi = refl
each-among Notifications = refl
each-among Payment = refl
each-among PictureInPicture = refl
each-among Push = refl
each-among StorageAccess = refl

-- the meaning of a map's pairs
pub lists_of_pairs : (p : PolicyDirective) (f : Feature) → lists_of (pairs_of p) f ≡ p f
unfolding lists_of pairs_of
lists_of_pairs p f = among p all_features f ∙ rw (each-among f) refl

-- ---- no feature stands twice

-- no feature is among those further on
abbrev distinct : List Feature → Bool
distinct [] = true
distinct (f ∷ fs) = not (list_any (λ g. same_feature g f) fs) && distinct fs

or-false : (a b : Bool) → (a || b) ≡ false → (a ≡ false) × (b ≡ false)
or-false true b h = cc
or-false false b h = (refl, h)

and-true : (a b : Bool) → (not a && b) ≡ true → (a ≡ false) × (b ≡ true)
and-true true b h = cc
and-true false b h = (refl, h)

absent-more : (g f : Feature) (o : Option Allowlist) (rest : List (Feature × Allowlist)) → same_feature g f ≡ false
    → find (is_of_feature f) rest ≡ None → find (is_of_feature f) (pair_of g o ++ rest) ≡ None
absent-more g f None rest h k = k
absent-more g f (Some list) rest h k = rw h k

-- the pairs of features that another is not among have none of it
absent : (p : PolicyDirective) (fs : List Feature) (f : Feature) → list_any (λ g. same_feature g f) fs ≡ false
    → find (is_of_feature f) (flat_map (λ g. pair_of g (p g)) fs) ≡ None
absent p [] f h = refl
absent p (g ∷ fs) f h =
    let parts = or-false (same_feature g f) (list_any (λ g. same_feature g f) fs) h in
    absent-more g f (p g) (flat_map (λ g. pair_of g (p g)) fs) parts.0 (absent p fs f parts.1)

once-more : (g : Feature) (o : Option Allowlist) (rest : List (Feature × Allowlist))
    → find (is_of_feature g) rest ≡ None → NoFeatureTwice rest → NoFeatureTwice (pair_of g o ++ rest)
once-more g None rest h k = k
once-more g (Some list) rest h k = (h, k)

once-among : (p : PolicyDirective) (fs : List Feature) → distinct fs ≡ true → NoFeatureTwice (flat_map (λ g. pair_of g (p g)) fs)
once-among p [] h = tt
once-among p (g ∷ fs) h =
    let parts = and-true (list_any (λ f. same_feature f g) fs) (distinct fs) h in
    once-more g (p g) (flat_map (λ g. pair_of g (p g)) fs) (absent p fs g parts.0) (once-among p fs parts.1)

-- no feature stands twice in a map's pairs
pub pairs_once : (p : PolicyDirective) → NoFeatureTwice (pairs_of p)
unfolding pairs_of
pairs_once p = once-among p all_features refl
