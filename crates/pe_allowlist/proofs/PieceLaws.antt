-- The pieces of an `allow` attribute, one behind the other.
use Rattle.std.proofs.Common.{◌≡◌, ◌↔◌, ℕ, ◌+◌, ◌<◌, Bool, true, false, IsTrue, cond, ◌==◌, List, [], ◌∷◌, ◌++◌, length, take, get_or, map, Bor, Option, Some, None, bytes_eq, Result, Ok, Err, OnOk, refl, sym, ◌∙◌, ap, arith}
use Rattle.std.specs.Option.{option_or, option_copied, unwrap_or}
use Rattle.std.specs.List.{slice_index_or, fold}
use Rattle.std.proofs.lemmas.List.{take_more, length-map}
use Rattle.std.proofs.lemmas.List.Sums.{fold_more}
use Rattle.std.proofs.Math.ListN.{get_or-map}
use Rattle.std.specs.Cmp.Lexicographic.{bytes_decides}
use Rattle.std.proofs.lemmas.Bool.Decides.{nat_tests}
use Rattle.pe_features.specs.declared.feature.Feature.{Feature}
use Rattle.pe_features.specs.declared.feature.Feature.TheVariants.{Accelerometer, Autoplay, Camera, ClipboardRead, ClipboardWrite, DisplayCapture, Fullscreen, Geolocation, Gyroscope, Microphone, Midi, Notifications, Payment, PictureInPicture, Push, StorageAccess}
use Rattle.pe_features.specs.Features.{all_features, feature_number, feature_name, same_feature}
use Rattle.pe_origin.specs.declared.origin.Origin.{Origin}
use Rattle.pe_allowlist.specs.declared.allowlist.Allowlist.{Allowlist}
use Rattle.pe_allowlist.specs.declared.container.DeclaredOrigin.{DeclaredOrigin}
use Rattle.pe_allowlist.specs.AsciiWords.{ascii_words, pieces_at}
use Rattle.pe_allowlist.specs.Lists.{is_policy_controlled, lists_of}
use Rattle.pe_allowlist.specs.ContainerPolicy.{is_semicolon, list_by_fullscreen, container_policy, list_of_words, list_by_piece, list_by_pieces}

-- ---- features are told apart by their numbers

abbrev feature_at : ℕ → Feature
feature_at k = slice_index_or all_features k Accelerometer

feature_at-number : (f : Feature) → feature_at (feature_number f) ≡ f
feature_at-number Accelerometer = refl
feature_at-number Autoplay = refl
feature_at-number Camera = refl
feature_at-number ClipboardRead = refl
feature_at-number ClipboardWrite = refl
feature_at-number DisplayCapture = refl
feature_at-number Fullscreen = refl
feature_at-number Geolocation = refl
feature_at-number Gyroscope = refl
feature_at-number Microphone = refl
feature_at-number Midi = refl
feature_at-number Notifications = refl
feature_at-number Payment = refl
feature_at-number PictureInPicture = refl
feature_at-number Push = refl
feature_at-number StorageAccess = refl

equal-numbers : (m n : ℕ) → (m == n) ≡ true → m ≡ n
equal-numbers m n h = grind (arith, nat_tests)

number-equal : (n : ℕ) → (n == n) ≡ true
number-equal n = grind (arith, nat_tests)

pub same-feature : (g f : Feature) → same_feature g f ≡ true → g ≡ f
same-feature g f h = sym (feature_at-number g) ∙ ap feature_at (equal-numbers (feature_number g) (feature_number f) h) ∙ feature_at-number f

-- ---- the piece that names a feature

-- this is the feature of the name, if it is policy-controlled
abbrev pub IsNamed : Feature → List ℕ → Type 0
IsNamed g name = (f : Feature) → (◌≡◌ {A = Option Feature} (Some g) (Some f)) ↔ (IsTrue (is_policy_controlled f) × (name ≡ feature_name f))

named-same : (g f : Feature) (name : List ℕ) (list : Allowlist) → IsNamed g name → g ≡ f
    → cond (is_policy_controlled f) (cond (bytes_eq name (feature_name f)) (Some list) None) None ≡ Some list
named-same g f name list h e =
    let k : IsTrue (is_policy_controlled f) × (name ≡ feature_name f) = (h f).0 (ap Some e) in
    rw (k.0, (bytes_decides name (feature_name f)).1 k.1) refl

named-other : (g f : Feature) (name : List ℕ) (list : Allowlist) → IsNamed g name → same_feature g f ≡ false
    → (b c : Bool) → is_policy_controlled f ≡ b → bytes_eq name (feature_name f) ≡ c → ◌≡◌ {A = Option Allowlist} (cond b (cond c (Some list) None) None) None
named-other g f name list h e false c hb hc = refl
named-other g f name list h e true false hb hc = refl
named-other g f name list h e true true hb hc =
    let k : ◌≡◌ {A = Option Feature} (Some g) (Some f) = (h f).1 (hb, (bytes_decides name (feature_name f)).0 hc) in
    let same : g ≡ f = cc in
    let t : same_feature g f ≡ true = rw same (number-equal (feature_number f)) in
    cc

pub named-piece : (g f : Feature) (name : List ℕ) (list : Allowlist) (old : Option Allowlist) → IsNamed g name
    → option_or (cond (is_policy_controlled f) (cond (bytes_eq name (feature_name f)) (Some list) None) None) old ≡ cond (same_feature g f) (Some list) old
named-piece g f name list old h = by_test (same_feature g f) refl
  where
    by_test : (b : Bool) → same_feature g f ≡ b → option_or (cond (is_policy_controlled f) (cond (bytes_eq name (feature_name f)) (Some list) None) None) old ≡ cond b (Some list) old
    by_test true e = rw (named-same g f name list h (same-feature g f e)) refl
    by_test false e = rw (named-other g f name list h e (is_policy_controlled f) (bytes_eq name (feature_name f)) refl refl) refl

-- ---- one more piece

or-none : {A : Type 0} (o : Option A) → option_or o None ≡ o
or-none None = refl
or-none (Some x) = refl

or-assoc : {A : Type 0} (a b c : Option A) → option_or (option_or a b) c ≡ option_or a (option_or b c)
or-assoc None b c = refl
or-assoc (Some x) b c = refl

pub pieces-more : (embedder : Origin) (declared : DeclaredOrigin) (f : Feature) (pieces : List (List ℕ)) (piece : List ℕ)
    → list_by_pieces embedder declared f (pieces ++ piece ∷ []) ≡ option_or (list_by_piece embedder declared f piece) (list_by_pieces embedder declared f pieces)
unfolding list_by_pieces
pieces-more embedder declared f [] piece = sym (or-none (list_by_piece embedder declared f piece))
pieces-more embedder declared f (first ∷ pieces) piece =
    rw (pieces-more embedder declared f pieces piece) (or-assoc (list_by_piece embedder declared f piece) (list_by_pieces embedder declared f pieces) (list_by_piece embedder declared f first))

-- ---- loops over borrowed texts

abbrev texts : List (Bor (List ℕ)) → List (List ℕ)
texts borrowed = map (λ x. x.now) borrowed

pub fold-next : {Y : Type 0} (f : Y → List ℕ → Y) (a : Y) (borrowed : List (Bor (List ℕ))) (i : ℕ) (d : Bor (List ℕ)) (y z : Y) → i < length borrowed
    → y ≡ fold f a (take i (texts borrowed)) → z ≡ f y (get_or borrowed i d).now → z ≡ fold f a (take (i + 1) (texts borrowed))
fold-next f a borrowed i d y z h before step =
    let within : i < length (texts borrowed) = rw (length-map borrowed (λ x. x.now)) h in
    step ∙ rw before (sym (fold_more f a (texts borrowed) i d.now within ∙ ap (λ w. f (fold f a (take i (texts borrowed))) w) (get_or-map (λ (x : Bor (List ℕ)). x.now) borrowed i d)))

pub pieces-next : (embedder : Origin) (declared : DeclaredOrigin) (f : Feature) (borrowed : List (Bor (List ℕ))) (i : ℕ) (d : Bor (List ℕ)) (old new : Option Allowlist) → i < length borrowed
    → old ≡ list_by_pieces embedder declared f (take i (texts borrowed)) → new ≡ option_or (list_by_piece embedder declared f (get_or borrowed i d).now) old
    → new ≡ list_by_pieces embedder declared f (take (i + 1) (texts borrowed))
pieces-next embedder declared f borrowed i d old new h before step =
    let within : i < length (texts borrowed) = rw (length-map borrowed (λ x. x.now)) h in
    step ∙ rw before
    (rw (take_more (texts borrowed) i d.now within, get_or-map (λ (x : Bor (List ℕ)). x.now) borrowed i d)
    (sym (pieces-more embedder declared f (take i (texts borrowed)) (get_or borrowed i d).now)))

-- ---- a piece that was put

pub on-ok : {A E : Type 0} {P Q : Type 0} (r : Result A E) → (P → Q) → OnOk r P → OnOk r Q
on-ok (Ok x) h p = h p
on-ok (Err e) h p = p

pub piece-put : (embedder : Origin) (declared : DeclaredOrigin) (piece : List ℕ) (items rest : List (Bor (List ℕ))) (name : Bor (List ℕ)) (g f : Feature) (list : Allowlist) (old new : Option Allowlist)
    → texts items ≡ ascii_words piece → items ≡ name ∷ rest → IsNamed g name.now → list ≡ list_of_words embedder declared (texts rest) → new ≡ cond (same_feature g f) (Some list) old
    → new ≡ option_or (list_by_piece embedder declared f piece) old
piece-put embedder declared piece items rest name g f list old new w e h l n =
    let words : ascii_words piece ≡ name.now ∷ texts rest = sym w ∙ ap (λ (xs : List (Bor (List ℕ))). texts xs) e in
    n ∙ rw (words, ← l) (sym (named-piece g f name.now list old h))

-- ---- a text without pieces to read

neither : {A : Type 0} (b : Bool) → ◌≡◌ {A = Option A} (cond b None None) None
neither true = refl
neither false = refl

pub no-pieces : (embedder : Origin) (declared : DeclaredOrigin) (f : Feature) (text : List ℕ) → (length text == 0) ≡ true → list_by_pieces embedder declared f (pieces_at is_semicolon text) ≡ None
unfolding list_by_pieces pieces_at ascii_words
no-pieces embedder declared f [] e = neither (is_policy_controlled f)
no-pieces embedder declared f (b ∷ text) e = absurd (grind (arith, nat_tests))

-- ---- a text that may be missing

pub text-or-empty : (text : Option (Bor (List ℕ))) (empty : Bor (List ℕ)) → empty.now ≡ [] → (unwrap_or text empty).now ≡ unwrap_or (option_copied text) []
text-or-empty None empty h = h
text-or-empty (Some x) empty h = refl

pub policy-whole : (text : Option (List ℕ)) (given : List ℕ) (fullscreen : Bool) (embedder : Origin) (declared : DeclaredOrigin) (rows new : List (Feature × Allowlist)) (f : Feature)
    → given ≡ unwrap_or text [] → lists_of rows f ≡ list_by_pieces embedder declared f (pieces_at is_semicolon given)
    → lists_of new f ≡ option_or (lists_of rows f) (list_by_fullscreen fullscreen f) → lists_of new f ≡ container_policy text fullscreen embedder declared f
unfolding container_policy
policy-whole text given fullscreen embedder declared rows new f h r n = n ∙ rw (r, h) refl
